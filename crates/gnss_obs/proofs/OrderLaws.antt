-- Sort keys, and items in their order.
use Rattle.gnss_obs.proofs.Names.{◌≡◌, Bool, true, false, List, [], ◌∷◌, ◌++◌, map, refl, sym, subst, arith, append-nil, fold, if◌then◌else◌, IsPermutation, AllByRecursion, IsPermutation-refl, IsPermutation-sym, IsPermutation-trans, IsPermutation-cons, IsPermutation-middle, IsPermutation-append_right, SortKey, SortKeysRise, is_before, insert_by, common_steps}

-- ---- sort keys

pub before_trans : (a b c : SortKey) → is_before a b ≡ true → is_before b c ≡ true → is_before a c ≡ true
before_trans a b c h k = grind (arith, h, k)

abbrev pub Before : SortKey → List SortKey → Type 0
Before s ts = AllByRecursion (λ t. is_before s t ≡ true) ts

pub before_all : (a b : SortKey) (ts : List SortKey) → is_before a b ≡ true → Before b ts → Before a ts
before_all a b [] h k = tt
before_all a b (t ∷ ts) h k = (before_trans a b t h k.0, before_all a b ts h k.1)

-- ---- one more item

map-insert_by : {X : Type 0} (at : X → SortKey) (x : X) (ys : List X) → map at (insert_by at x ys) ≡ insert_by (λ (s : SortKey). s) (at x) (map at ys)
map-insert_by at x [] = refl
map-insert_by at x (y ∷ ys) = grind (arith, common_steps, map-insert_by at x ys)

pub all-insert_by : {X : Type 0} (P : X → Type 0) (at : X → SortKey) (x : X) (ys : List X) → P x → AllByRecursion P ys → AllByRecursion P (insert_by at x ys)
all-insert_by P at x [] h k = (h, tt)
all-insert_by P at x (y ∷ ys) h k = grind (arith, common_steps, all-insert_by P at x ys h k.1)

-- An item with a sort key of its own is inserted in order.
pub rise-insert_by : {X : Type 0} (at : X → SortKey) (x : X) (ys : List X) → SortKeysRise (map at ys) → AllByRecursion (λ y. at x ≡ at y → ⊥) ys → SortKeysRise (map at (insert_by at x ys))
rise-insert_by at x [] r other = (tt, tt)
rise-insert_by at x (y ∷ ys) r other = grind (arith, before_all, all-insert_by, map-insert_by, rise-insert_by at x ys r.1 other.1)

-- No two items have the same sort key.
abbrev pub Differ : {X : Type 0} → (X → SortKey) → List X → Type 0
Differ at [] = Unit {0}
Differ at (x ∷ xs) = AllByRecursion (λ y. at x ≡ at y → ⊥) xs × Differ at xs

abbrev DifferFrom : {X : Type 0} → (X → SortKey) → List X → X → Type 0
DifferFrom at ys x = AllByRecursion (λ y. at x ≡ at y → ⊥) ys

differ_more : {X : Type 0} (at : X → SortKey) (x : X) (ys xs : List X) → AllByRecursion (λ z. at x ≡ at z → ⊥) xs → AllByRecursion (DifferFrom at ys) xs → AllByRecursion (DifferFrom at (insert_by at x ys)) xs
differ_more at x ys [] h all = tt
differ_more at x ys (z ∷ xs) h all = (all-insert_by (λ y. at z ≡ at y → ⊥) at x ys (λ e. h.0 (sym e)) all.0, differ_more at x ys xs h.1 all.1)

rise_onto : {X : Type 0} (at : X → SortKey) (ys xs : List X) → SortKeysRise (map at ys) → AllByRecursion (DifferFrom at ys) xs → Differ at xs → SortKeysRise (map at (fold (λ zs z. insert_by at z zs) ys xs))
rise_onto at ys [] r all d = r
rise_onto at ys (x ∷ xs) r all d = rise_onto at (insert_by at x ys) xs (rise-insert_by at x ys r all.0) (differ_more at x ys xs d.0 all.1) d.1

-- Nothing is asked of the items.
pub none_each : {X : Type 0} (xs : List X) → AllByRecursion (λ x. Unit {0}) xs
none_each [] = tt
none_each (x ∷ xs) = (tt, none_each xs)

-- The sort keys of sorted items rise if no two are the same.
pub sorted_rise : {X : Type 0} (at : X → SortKey) (xs : List X) → Differ at xs → SortKeysRise (map at (fold (λ zs z. insert_by at z zs) [] xs))
sorted_rise at xs d = rise_onto at [] xs tt (none_each xs) d

-- Sorting only moves items.
insert_moves : {X : Type 0} (at : X → SortKey) (x : X) (ys : List X) → IsPermutation (x ∷ ys) (insert_by at x ys)
insert_moves at x [] = IsPermutation-refl (x ∷ [])
insert_moves at x (y ∷ ys) = by (is_before (at x) (at y)) (insert_moves at x ys) where
  by : (b : Bool) → IsPermutation (x ∷ ys) (insert_by at x ys) → IsPermutation (x ∷ y ∷ ys) (if b then x ∷ y ∷ ys else y ∷ insert_by at x ys)
  by true more = IsPermutation-refl (x ∷ y ∷ ys)
  by false more = IsPermutation-trans (x ∷ y ∷ ys) (y ∷ x ∷ ys) _ (IsPermutation-middle (x ∷ []) y ys) (IsPermutation-cons y (x ∷ ys) (insert_by at x ys) more)

moves_onto : {X : Type 0} (at : X → SortKey) (ys xs : List X) → IsPermutation (xs ++ ys) (fold (λ zs z. insert_by at z zs) ys xs)
moves_onto at ys [] = IsPermutation-refl ys
moves_onto at ys (x ∷ xs) = grind (arith, common_steps, IsPermutation-trans, IsPermutation-sym, IsPermutation-middle, insert_moves, IsPermutation-append_right xs (x ∷ ys) (insert_by at x ys) (insert_moves at x ys), insert_moves at x ys, moves_onto at (insert_by at x ys) xs)

pub sort_moves : {X : Type 0} (at : X → SortKey) (xs : List X) → IsPermutation xs (fold (λ zs z. insert_by at z zs) [] xs)
sort_moves at xs = subst (λ l. IsPermutation l (fold (λ zs z. insert_by at z zs) [] xs)) (append-nil xs) (moves_onto at [] xs)
