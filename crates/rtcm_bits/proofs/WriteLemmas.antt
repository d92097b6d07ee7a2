-- A number that is put a part of a byte at a time.
use Rattle.rtcm_bits.proofs.Names.{◌≡◌, ℕ, ◌+◌, ◌-◌, ◌*◌, ◌/◌, ◌%◌, ◌^◌, ◌<◌, ◌≤◌, Bool, List, [], ◌∷◌, ◌++◌, length, sym, ap, ◌∙◌, arith, append_assoc, append-nil, length-append, pow-le-pow_right, mod-eq_of_lt, mod-lt, one_shl, pow-add, div-add-mod', pow_pos, uint, bits_of, length-uint, common_steps}
use Rattle.rtcm_bits.proofs.BitLemmas.{length-whole, bits_of-push}
use Rattle.rtcm_bits.proofs.RegisterBits.{uint-split, uint-mod}

-- a part after the k bits of the incomplete byte
pub record Part (k n p b : ℕ) : Type 0 where
  pub whole : p * 2 ^ n % 65536 + b ≡ p * 2 ^ n + b
  pub below : p * 2 ^ n % 65536 + b < 2 ^ (k + n)
  pub byte : p * 2 ^ n % 65536 + b < 256

pub part_is : (k n p b : ℕ) → k + n ≤ 8 → p < 2 ^ k → b < 2 ^ n → Part k n p b
part_is k n p b h f g =
    let m : 2 ^ (k + n) ≤ 2 ^ 8 = pow-le-pow_right (omega arith) h in
    let l : p * 2 ^ n + b < 2 ^ (k + n) = rw (pow-add 2 k n) (join p (2 ^ k) b (2 ^ n) f g) in
    let s : p * 2 ^ n % 65536 ≡ p * 2 ^ n = mod-eq_of_lt (omega arith) in
    record { whole = ap (λ t. t + b) s; below = rw s l; byte = rw s (omega arith) }
  where
    join : (p a b q : ℕ) → p < a → b < q → p * q + b < a * q
    join p a b q f g = grind arith

-- the bits with one more part, if the byte isn't full yet
pub part_put : {k n p b : ℕ} {now : List Bool} (xs : List ℕ) → bits_of xs ++ uint k p ≡ now → b < 2 ^ n → Part k n p b
    → bits_of xs ++ uint (k + n) (p * 2 ^ n % 65536 + b) ≡ now ++ uint n b
part_put {k} {n} {p} {b} xs v g t = grind (arith, uint-split, append_assoc)

-- the bits with one more part that fills the byte
pub byte_put : {k n p b : ℕ} {now : List Bool} (xs : List ℕ) → k + n ≡ 8 → bits_of xs ++ uint k p ≡ now → b < 2 ^ n → Part k n p b
    → bits_of (xs ++ (p * 2 ^ n % 65536 + b) ∷ []) ++ uint 0 0 ≡ now ++ uint n b
unfolding uint
byte_put {n} {p} {b} xs e v g t =
    append-nil (bits_of (xs ++ (p * 2 ^ n % 65536 + b) ∷ [])) ∙ bits_of-push xs (p * 2 ^ n % 65536 + b)
    ∙ ap (λ w. bits_of xs ++ uint w (p * 2 ^ n % 65536 + b)) (sym e) ∙ part_put xs v g t

-- the number of bits of the incomplete byte
pub begun_is : (xs : List ℕ) (k p : ℕ) (now : List Bool) → bits_of xs ++ uint k p ≡ now → 8 * length xs + k ≡ length now
begun_is xs k p now v = sym (length-whole xs k p) ∙ ap length v

-- the first n of the bits that are left to put
pub first_part : (left n value : ℕ) → n ≤ left → uint n (value / 2 ^ (left - n) % 2 ^ n) ++ uint (left - n) value ≡ uint left value
first_part left n value h =
    let e : n + (left - n) ≡ left = omega arith in
    let s = uint-split n (left - n) (value / 2 ^ (left - n)) (value % 2 ^ (left - n)) (mod-lt value (pow_pos (left - n))) in
    ap (λ r. r ++ uint (left - n) value) (uint-mod n n (value / 2 ^ (left - n)) (omega arith))
    ∙ ap (λ r. uint n (value / 2 ^ (left - n)) ++ r) (sym (uint-mod (left - n) (left - n) value (omega arith)))
    ∙ sym s ∙ ap (uint (n + (left - n))) (div-add-mod' value (2 ^ (left - n))) ∙ ap (λ w. uint w value) e

-- the same number of bits
pub lengths : (now old : List Bool) (left width value : ℕ) → now ++ uint left value ≡ old ++ uint width value → length now + left ≡ length old + width
lengths now old left width value e = omega (arith, length-append now (uint left value), length-append old (uint width value), length-uint left value, length-uint width value, ap length e)

-- one part put
pub next_put : {next all : List Bool} {left n : ℕ} (now : List Bool) (value : ℕ) → n ≤ left → n ≤ 8 → now ++ uint left value ≡ all → next ≡ now ++ uint n (value / 2 ^ (left - n) % (1 * 2 ^ n % 2 ^ 64)) → next ++ uint (left - n) value ≡ all
next_put {next} {left} {n} now value h few inv is = grind (arith, common_steps, one_shl, append_assoc, first_part)
