-- Small laws of lists and results, for the proofs of the crates above.
use Rattle.std.proofs.Common.{◌≡◌, ◌≤◌, ◌∙◌, Bool, List, [], ◌∷◌, ◌++◌, length, filter, filter_map, append_assoc, ap, sym, append-nil, arith, Option, Result, Ok, Err, IfOk, OnOk, OnErr, MatchResult, true, ℕ, get_or, replicate, inl, inr}
use Rattle.std.proofs.lemmas.List.Sums.{length-filter, count_by-le-length}
use Rattle.std.proofs.lemmas.Grind.{common_steps}
use Rattle.std.specs.Result.{IsErrAnd}
use Rattle.rtcm_bits.specs.Prefix.{IsPrefix}
use Rattle.std.specs.List.{AllByRecursion}
use Rattle.std.proofs.lemmas.List.Elements.{All-append, All-filter, All-from_recursion, All-weaker, filter_passes, recursion_from_All}
use Rattle.std.proofs.lemmas.Bool.{cases_lt}
use Rattle.std.proofs.lemmas.List.{get_or-replicate, get_or_past, length-replicate}

-- ---- prefixes

pub prefix_self : {A : Type 0} (xs : List A) → IsPrefix xs xs
prefix_self xs = ([], sym (append-nil xs))

pub prefix_trans : {A : Type 0} (xs ys zs : List A) → IsPrefix xs ys → IsPrefix ys zs → IsPrefix xs zs
prefix_trans xs ys zs p q = (p.0 ++ q.0, q.1 ∙ ap (λ l. l ++ q.0) p.1 ∙ append_assoc xs p.0 q.0)

-- ---- a filtered list is not longer

pub length-filter-le : {A : Type 0} (p : A → Bool) (xs : List A) → length (filter p xs) ≤ length xs
length-filter-le p xs = omega (arith, length-filter p xs, count_by-le-length p xs)

pub length-filter_map-le : {A B : Type 0} (f : A → Option B) (xs : List A) → length (filter_map f xs) ≤ length xs
length-filter_map-le f [] = omega arith
length-filter_map-le f (x ∷ xs) = grind (arith, common_steps, length-filter_map-le f xs)

-- ---- properties of each item

pub all_append : {X : Type 0} (P : X → Type 0) (xs ys : List X) → AllByRecursion P xs → AllByRecursion P ys → AllByRecursion P (xs ++ ys)
all_append P xs ys h k = recursion_from_All P (xs ++ ys) (All-append P xs ys (All-from_recursion P xs h) (All-from_recursion P ys k))

pub all_filter : {X : Type 0} (P : X → Type 0) (p : X → Bool) (xs : List X) → AllByRecursion P xs → AllByRecursion P (filter p xs)
all_filter P p xs h = recursion_from_All P (filter p xs) (All-filter p P xs (All-from_recursion P xs h))

-- of the items that pass a test
pub all_passed : {X : Type 0} (P : X → Type 0) (p : X → Bool) → ((x : X) → p x ≡ true → P x) → (xs : List X) → AllByRecursion P (filter p xs)
all_passed P p h xs = recursion_from_All P (filter p xs) (All-weaker (λ x. p x ≡ true) P h (filter p xs) (filter_passes p xs))

-- ---- a list of one item, at that default

pub get_or-same : {A : Type 0} (x : A) (n i : ℕ) → get_or (replicate n x) i x ≡ x
get_or-same x n i = elim (cases_lt i n) [ inl h ↦ get_or-replicate n i x x h | inr h ↦ get_or_past (replicate n x) i x (omega (arith, length-replicate n x)) ]

-- ---- what a call promises

-- if its fault is known
pub passed : {A E : Type 0} (r : Result A E) (e : E) (P : Result A E → Type 0) → IsErrAnd r (λ y. y ≡ e) → P (Err e) → P r
passed r e P is h = grind arith

-- if it returned a value
pub of_ok : {A E P : Type 0} {r : Result A E} {u : A} → r ≡ Ok u → OnOk r P → P
of_ok e h = rw e at h

-- if it failed
pub on_failure : {A E : Type 0} (r : Result A E) (P : Type 0) → P → OnErr r P
on_failure r P p = grind arith

-- if it returned a value, and `map_err` wraps its fault
pub wrapped : {T D E : Type 0} (Q : D → E → Type 0) (P : T → Type 0) (r : Result T D) (s : Result T E) (t : T)
    → IfOk r P → MatchResult r (λ x. s ≡ Ok x) (λ e. IsErrAnd s (Q e)) → s ≡ Ok t → P t
wrapped Q P r s t given is ok = grind arith
