-- Texts without a line feed, and their largest lengths.
use Rattle.rinex_file.proofs.Names.{has-not, lacks-append, lacks-decimal, lacks-padded, length-fixed-le, length-padded-le, arith, ◌≡◌, ◌∙◌, ap, refl, ℕ, suc, ◌+◌, ◌-◌, ◌*◌, ◌^◌, ◌<◌, ◌≤◌, ℤ, unsigned_abs, true, false, List, [], ◌∷◌, ◌++◌, length, replicate, decimal, length-append, ◌==◌, ◌||◌, flat_map, All, AllByRecursion, list_all, div-le_self, mod-le, length-decimal-le, and_parts, length-replicate, All-from_recursion, All-head, All-tail, joined, left, right, padded, fixed, has, is_printable, IsText}
pub use Rattle.std.proofs.lemmas.Bool.{and_parts as both}

-- ---- no line feed

abbrev pub Clean : List ℕ → Type 0
Clean text = has 10 text ≡ false

pub clean-fixed : (places : ℕ) (z : ℤ) → unsigned_abs z < 2 ^ 64 → Clean (fixed places z)
clean-fixed places z fits = grind (arith, div-le_self, mod-le, lacks-append, lacks-decimal, lacks-padded)

-- ---- at most this number of bytes as well

pub record IsPlain (n : ℕ) (text : List ℕ) : Type 0 where
  pub clean : Clean text
  pub short : length text ≤ n

pub plain-wider : (m n : ℕ) (text : List ℕ) → m ≤ n → IsPlain m text → IsPlain n text
plain-wider m n text h is = record { clean = is.clean; short = let short = is.short in omega (arith, h, short) }

pub plain-append : (m n : ℕ) (xs ys : List ℕ) → IsPlain m xs → IsPlain n ys → IsPlain (m + n) (xs ++ ys)
plain-append m n xs ys x y = grind (arith, lacks-append, length-append)

plain-blanks : (width n : ℕ) → IsPlain width (replicate (width - n) 32)
plain-blanks width n = record { clean = has-not 10 (width - n) 32 refl; short = simp length-replicate (omega arith) }

pub plain-left : (width n : ℕ) (text : List ℕ) → IsPlain n text → IsPlain (n + width) (left width text)
plain-left width n text is = plain-append n width text _ is (plain-blanks width (length text))

pub plain-right : (width n : ℕ) (text : List ℕ) → IsPlain n text → IsPlain (width + n) (right width text)
plain-right width n text is = plain-append width n _ text (plain-blanks width (length text)) is

pub plain-decimal : (n : ℕ) → n < 2 ^ 64 → IsPlain 20 (decimal n)
plain-decimal n h = record { clean = lacks-decimal 10 n (omega arith) h; short = length-decimal-le 20 n (omega arith) (omega (arith, h)) h }

pub plain-padded : (places n : ℕ) → n < 2 ^ 64 → IsPlain (places + 20) (padded places n)
plain-padded places n h = record { clean = lacks-padded 10 places n (omega arith) h; short = length-padded-le places n h }

pub plain-fixed : (places : ℕ) (z : ℤ) → unsigned_abs z < 2 ^ 64 → IsPlain (places + 42) (fixed places z)
plain-fixed places z h = record { clean = clean-fixed places z h; short = length-fixed-le places z h }

-- a text of its own
pub plain : (n : ℕ) (text : List ℕ) → Clean text → length text ≤ n → IsPlain n text
plain n text clean short = record { clean = clean; short = short }

-- ---- fields, one after the other

pub plain-flat_map : {X : Type 0} (n : ℕ) (f : X → List ℕ) (xs : List X) → All (λ x. IsPlain n (f x)) xs → IsPlain (length xs * n) (flat_map f xs)
plain-flat_map n f [] are = record { clean = refl; short = omega arith }
plain-flat_map n f (x ∷ xs) are =
    plain-wider (n + length xs * n) (suc (length xs) * n) (f x ++ flat_map f xs) (let e : n + length xs * n ≡ suc (length xs) * n = omega arith in omega (arith, e))
    (plain-append n (length xs * n) (f x) (flat_map f xs) (All-head (λ x. IsPlain n (f x)) x xs are) (plain-flat_map n f xs (All-tail (λ x. IsPlain n (f x)) x xs are)))

pub plain-joined : (n : ℕ) (ts : List (List ℕ)) → AllByRecursion (IsPlain n) ts → IsPlain (length ts * n) (joined ts)
plain-joined n ts are = plain-flat_map n (λ t. t) ts (All-from_recursion (IsPlain n) ts are)

-- one more field before others
pub also : {A B : Type 0} → A → B → A × B
also first rest = (first, rest)

-- ---- what is printable has no line feed

no_feed : (b : ℕ) → is_printable b ≡ true → (b == 10) ≡ false
no_feed b h = grind (arith, h)

pub clean-printable : (text : List ℕ) → list_all is_printable text ≡ true → Clean text
clean-printable [] h = refl
clean-printable (b ∷ bs) h =
    let parts = and_parts (is_printable b) (list_all is_printable bs) h in
    ap (λ c. c || has 10 bs) (no_feed b parts.0) ∙ clean-printable bs parts.1

pub plain-text : (width : ℕ) (text : List ℕ) → IsText width text → width ≤ 60 → IsPlain 60 text
plain-text width text is few = record { clean = clean-printable text is.printable; short = let short = is.short in omega (arith, few, short) }
