-- The columns of a field as lanes: their digits, and the size of which they are.
use Rattle.rinex_file.proofs.Fields.Templates.{added}
use Rattle.rinex_file.proofs.Names.{number_l, digits_l, pick_l, zip2, Each1, chunk, arith, ◌≡◌, ◌∙◌, ap, refl, subst, ℕ, zero, suc, ◌+◌, ◌-◌, ◌*◌, ◌/◌, ◌%◌, ◌^◌, ◌<◌, ◌≤◌, List, [], ◌∷◌, ◌++◌, length, get_or, replicate, take, drop, Fits, w8, Bool, pow-suc, take-take, get_or-take, get_or-drop, length-drop, length-take-le, AreBelow, AreWithin, digit_columns, template, twos_of, LIMITS}

-- ---- numbers of two digits

-- lanes of two numbers, as they are computed
abbrev pub pairs_l : ℕ → ℕ → ℕ → ℕ → ℕ → List ℕ
pairs_l width factor part zero w = []
pairs_l width factor part (suc k) w = (w % width * factor % width / part) ∷ pairs_l width factor part k (w / width)

-- the numbers by which the digits of two neighbouring lanes become one number
record ArePaired (byte base width factor part : ℕ) : Type 0 where
  lane : (a b w : ℕ) → a < base → b < base → ((a + byte * (b + byte * w)) % width * factor % width / part ≡ a * base + b) × ((a + byte * (b + byte * w)) / width ≡ w)

pairs_by : {byte base width factor part : ℕ} → ArePaired byte base width factor part → (k : ℕ) (xs : List ℕ) → length xs ≡ 2 * k → AreBelow base xs
    → pairs_l width factor part k (number_l byte xs) ≡ twos_of base xs
pairs_by are zero [] l h = refl
pairs_by {byte} {base} {width} {factor} {part} are (suc k) (a ∷ b ∷ xs) l h = grind (arith, (pairs_by are k xs (omega (arith, l)) h.1.1))
pairs_by are k xs l h = absurd (omega (arith, l))

pub pairs_are : (k : ℕ) (xs : List ℕ) → length xs ≡ 2 * k → AreBelow 10 xs → pairs_l 65536 2561 256 k (number_l 256 xs) ≡ twos_of 10 xs
pairs_are k xs l h = pairs_by {byte = 256} {base = 10} {width = 65536} {factor = 2561} {part = 256} (record { lane = λ a b w p q. (omega (arith, p, q), omega (arith, p, q)) }) k xs l h

fours_are : (k : ℕ) (xs : List ℕ) → length xs ≡ 2 * k → AreBelow 100 xs → pairs_l 4294967296 6553601 65536 k (number_l 65536 xs) ≡ twos_of 100 xs
fours_are k xs l h = pairs_by {byte = 65536} {base = 100} {width = 4294967296} {factor = 6553601} {part = 65536} (record { lane = λ a b w p q. (omega (arith, p, q), omega (arith, p, q)) }) k xs l h

-- the bytes of a number
bytes_of : (k n : ℕ) → n < 256 ^ k → number_l 256 (digits_l 256 k n) ≡ n
bytes_of zero n h = omega (arith, h)
bytes_of (suc k) n h = omega (arith, bytes_of k (n / 256) (omega (arith, h, pow-suc 256 k)))

number_below : (xs : List ℕ) → AreBelow 100 xs → number_l 65536 xs < 65536 ^ length xs
number_below [] h = omega arith
number_below (a ∷ xs) h = grind (arith, pow-suc, (number_below xs h.1))

pub fours_of_bytes : (xs : List ℕ) → length xs ≡ 8 → AreBelow 100 xs → pairs_l 4294967296 6553601 65536 4 (number_l 256 (digits_l 256 16 (number_l 65536 xs))) ≡ twos_of 100 xs
fours_of_bytes xs l h =
    let below = subst (λ (n : ℕ). number_l 65536 xs < 65536 ^ n) l (number_below xs h) in
    ap (pairs_l 4294967296 6553601 65536 4) (bytes_of 16 (number_l 65536 xs) below) ∙ fours_are 4 xs l h

-- ---- the size with digits in lanes

-- the digits without the column of the point, after zeros
abbrev pub ordered : List ℕ → List ℕ
ordered ds = pick_l 0 (ds ++ replicate 16 0) (16 ∷ 16 ∷ 16 ∷ 0 ∷ 1 ∷ 2 ∷ 3 ∷ 4 ∷ 5 ∷ 6 ∷ 7 ∷ 8 ∷ 9 ∷ 11 ∷ 12 ∷ 13 ∷ [])

pub sixteen : (P : List ℕ → Type 0) → ((a b c d e f g h i j k l m n o p : ℕ) → P (a ∷ b ∷ c ∷ d ∷ e ∷ f ∷ g ∷ h ∷ i ∷ j ∷ k ∷ l ∷ m ∷ n ∷ o ∷ p ∷ [])) → (bs : List ℕ) → length bs ≡ 16 → P bs
sixteen P all (a ∷ b ∷ c ∷ d ∷ e ∷ f ∷ g ∷ h ∷ i ∷ j ∷ k ∷ l ∷ m ∷ n ∷ o ∷ p ∷ []) size = all a b c d e f g h i j k l m n o p
sixteen P all bs size = absurd (omega (arith, size))

pub ordered_below : (ds : List ℕ) → length ds ≡ 16 → AreWithin LIMITS ds → AreBelow 10 (ordered ds)
ordered_below ds size h =
    sixteen (λ xs. AreWithin LIMITS xs → AreBelow 10 (ordered xs)) (λ a b c d e f g h i j k l m n o p are. omega (arith, are)) ds size h

-- numbers of two digits to a base are below its square
pub twos_below : (base n : ℕ) → ((a b : ℕ) → a < base → b < base → a * base + b < n) → (xs : List ℕ) → AreBelow base xs → AreBelow n (twos_of base xs)
twos_below base n small (a ∷ b ∷ xs) h = (small a b h.0 h.1.0, twos_below base n small xs h.1.1)
twos_below base n small xs h = tt

-- the size of the digits in lanes
abbrev pub size_l : List ℕ → ℕ
size_l ds = let es = twos_of 10_000 (twos_of 100 (twos_of 10 (ordered ds))) in get_or es 0 0 * 100_000_000 + get_or es 1 0

abbrev pub IsSize : List ℕ → Type 0
IsSize ds = AreWithin LIMITS ds → (s : ℕ) → s ≡ size_l ds → (ds ≡ digit_columns s (get_or ds 14 0) (get_or ds 15 0)) × (s < 10 ^ 13)

pub size_is : (ds : List ℕ) → length ds ≡ 16 → IsSize ds
size_is ds size = sixteen IsSize (λ a b c d e f g h i j k l m n y z are s is. grind arith) ds size

-- ---- columns of which digits are taken

abbrev pub taken : ℕ → ℕ → ℕ
taken a b = (a + (2 ^ 8 - b)) % 2 ^ 8

pub added_back : (xs ts : List ℕ) → length xs ≡ length ts → AreBelow 256 xs → AreBelow 256 ts → zip2 added (zip2 taken xs ts) ts ≡ xs
added_back [] ts l h k = refl
added_back (x ∷ xs) [] l h k = absurd (omega (arith, l))
added_back (x ∷ xs) (t ∷ ts) l h k = grind (arith, (added_back xs ts (omega (arith, l)) h.1 k.1))

pub taken_back : (ds ts : List ℕ) → length ds ≡ length ts → AreBelow 256 ds → AreBelow 256 ts → zip2 taken (zip2 added ds ts) ts ≡ ds
taken_back [] ts l h k = refl
taken_back (d ∷ ds) [] l h k = absurd (omega (arith, l))
taken_back (d ∷ ds) (t ∷ ts) l h k = grind (arith, (taken_back ds ts (omega (arith, l)) h.1 k.1))

pub template_below : (b : Bool) (n z : ℕ) → AreBelow 256 (template b n z)
template_below b zero z = omega arith
template_below b (suc n) zero = (omega arith, template_below b n 0)
template_below b (suc n) (suc z) = grind (arith, (template_below b n z))

-- ---- the bytes of lanes

pub below_at : (n : ℕ) (bs : List ℕ) → 0 < n → AreBelow n bs → (i : ℕ) → get_or bs i 0 < n
below_at n [] some h i = some
below_at n (b ∷ bs) some h zero = h.0
below_at n (b ∷ bs) some h (suc i) = below_at n bs some h.1 i

pub bytes_below : (xs : List ℕ) → Each1 (Fits w8) xs → AreBelow 256 xs
bytes_below [] h = tt
bytes_below (x ∷ xs) h = (h.0.fits, bytes_below xs h.1)

-- the sixteen columns of a text as lanes
pub lanes_are : (text : List ℕ) (at : ℕ) → chunk 0 16 (take (at + 16 - at) (drop at text)) ≡ take 16 (drop at text)
lanes_are text at = grind (arith, take-take)

pub lane_is : (text : List ℕ) (at k : ℕ) → k < 16 → get_or (take 16 (drop at text)) k 0 ≡ get_or text (at + k) 0
lane_is text at k h = get_or-take 16 (drop at text) k 0 h ∙ get_or-drop at text k 0

pub sixteen_long : (text : List ℕ) (at : ℕ) → at + 16 ≤ length text → length (take 16 (drop at text)) ≡ 16
sixteen_long text at h = let rest = length-drop at text in length-take-le 16 (drop at text) (omega (arith, rest, h))
