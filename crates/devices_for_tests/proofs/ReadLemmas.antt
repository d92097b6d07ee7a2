-- A read of known bytes.
use Rattle.std.proofs.Common.{◌≡◌, ℕ, ◌<◌, min, List, [], ◌∷◌, ◌++◌, length, take, drop, sym, ◌∙◌, arith, take-append-drop, length-append, Bool, false, eqb}
use Rattle.std.proofs.lemmas.Bool.{true≢false}
use Rattle.std.proofs.lemmas.List.{take-append-le, take_all, length-take-le, length-drop}

-- the bytes that a read returns and leaves: at least one if there is room and a byte is left
pub read_gives : {old now given after : List ℕ} {n : ℕ} (buf : List ℕ) (most : ℕ) → now ≡ old → given ≡ take n now → after ≡ drop n now → n ≡ min (min (length buf) most) (length now)
    → 0 < most → 0 < length now → (old ≡ take n (given ++ drop n buf) ++ after) × (n ≡ 0 → 0 < length (given ++ drop n buf) → after ≡ [])
read_gives {now = now} {given} {n = n} buf most o g b m some left =
    let l : length (take n now) ≡ n = length-take-le n now (omega arith) in
    let t : take n (take n now ++ drop n buf) ≡ take n (take n now) = take-append-le n (take n now) (drop n buf) (omega (arith, l)) in
    let a : take n (take n now) ≡ take n now = take_all n (take n now) (omega (arith, l)) in (
      rw (g, b, t, a) (sym o ∙ sym (take-append-drop n now)),
      λ z r. let room : length (given ++ drop n buf) ≡ length buf = rw (g) (length-append (take n now) (drop n buf) ∙ omega (arith, l, length-drop n buf)) in absurd (omega arith),
    )

-- a list that is not empty has an item
pub not_empty : (xs now : List ℕ) (is_empty : Bool) → is_empty ≡ eqb (length xs) 0 → is_empty ≡ false → now ≡ xs → 0 < length now
not_empty [] now t e f o = absurd (true≢false (sym e ∙ f))
not_empty (x ∷ xs) now t e f o = rw o (omega arith)
