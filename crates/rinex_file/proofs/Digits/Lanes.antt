-- Numbers of two digits, in lanes of two bytes.
use Rattle.rinex_file.proofs.Names.{number_l, digits_l, mask_l, top, zip2, arith, ◌≡◌, ap, refl, eqb, not, cond, ℕ, zero, suc, ◌+◌, ◌*◌, ◌/◌, ◌%◌, ◌^◌, ◌<◌, ◌≤◌, List, [], ◌∷◌, map, length, take, get_or, ⊤, count_trailing_zeros, under, ne_eqb, length-map, mask_l-mod, length-zip2, leading}

-- a lane with its tens in the upper byte and its ones in the lower
abbrev pub lane : ℕ → ℕ
lane z = (z + (z / 10 * 246 % 65536)) % 65536

abbrev pub lanes : List ℕ → List ℕ
lanes [] = []
lanes (z ∷ zs) = lane z ∷ lanes zs

abbrev pub pairs : List ℕ → List ℕ
pairs [] = []
pairs (z ∷ zs) = z % 10 ∷ z / 10 ∷ pairs zs

abbrev pub twice : List ℕ → ℕ
twice [] = 0
twice (z ∷ zs) = suc (suc (twice zs))

abbrev pub Below : List ℕ → Type 0
Below [] = ⊤
Below (z ∷ zs) = (z < 100) × Below zs

pub bytes_of : (zs : List ℕ) → Below zs → digits_l 256 (twice zs) (number_l 65536 (lanes zs)) ≡ pairs zs
bytes_of [] h = refl
bytes_of (z ∷ zs) h = grind (arith, (bytes_of zs h.1))

-- the digits of two numbers, two in each lane, the last ones of the first number first
abbrev pub four : ℕ → List ℕ → List ℕ
four n rest = n % 100 ∷ n / 100 % 100 ∷ n / 10_000 % 100 ∷ n / 1_000_000 ∷ rest

abbrev pub eight : ℕ → List ℕ → List ℕ
eight n rest = n % 10 ∷ n / 10 % 10 ∷ n / 100 % 10 ∷ n / 1000 % 10 ∷ n / 10_000 % 10 ∷ n / 100_000 % 10 ∷ n / 1_000_000 % 10 ∷ n / 10_000_000 ∷ rest

pub ones_and_tens : (n : ℕ) (rest : List ℕ) → pairs (four n rest) ≡ eight n (pairs rest)
ones_and_tens n rest = grind arith

-- ---- leading zeros

even : (k n : ℕ) → n % 2 ≡ 0 → count_trailing_zeros (suc k) n ≡ suc (count_trailing_zeros k (n / 2))
unfolding count_trailing_zeros
even k n e = ap (λ d. under d (count_trailing_zeros k (n / 2))) e

odd : (k n : ℕ) → n % 2 ≡ 1 → count_trailing_zeros (suc k) n ≡ 0
unfolding count_trailing_zeros
odd k n e = ap (λ d. under d (count_trailing_zeros k (n / 2))) e

-- n times 0, and then 255
abbrev pub ends : ℕ → List ℕ → List ℕ
ends zero rest = 255 ∷ rest
ends (suc n) rest = 0 ∷ ends n rest

-- where the lanes differ
abbrev pub flags : List ℕ → List ℕ → ℕ
flags xs ys = mask_l (map (top 7) (zip2 (λ a b. cond (not (eqb a b)) 255 0) xs ys))

-- a number of bits after n others
abbrev pub more_bits : ℕ → ℕ → ℕ
more_bits zero k = suc k
more_bits (suc n) k = suc (more_bits n k)

-- the first lane that differs is that of the first digit other than zero
pub first_flag : (n k : ℕ) (xs rest : List ℕ) → n < length xs → get_or xs n 0 < 255 → count_trailing_zeros (more_bits n k) (flags xs (ends n rest)) ≡ leading (take n xs)
first_flag n k [] rest h small = absurd (omega (arith, h))
first_flag (suc n) k (zero ∷ xs) rest h small = grind (arith, even, (first_flag n k xs rest (omega (arith, h)) small))
first_flag n k (x ∷ xs) rest h small = grind (arith, ne_eqb, odd)

-- a mask of at most 64 lanes
pub few_flags : (xs ys : List ℕ) → length xs ≡ length ys → length xs ≤ 64 → flags xs ys % 2 ^ 64 ≡ flags xs ys
few_flags xs ys same few =
    let differ = λ (a b : ℕ). cond (not (eqb a b)) 255 0 in
    let size = length-zip2 differ xs ys same in
    mask_l-mod (map (top 7) (zip2 differ xs ys)) 64 (omega (arith, length-map (zip2 differ xs ys) (top 7), size, few))
