-- The epochs of a satellite after one epoch more.
use Rattle.rinex_inspect.proofs.Names.{common_steps, or_parts, append-nil, ◌≡◌, ◌∙◌, ◌+◌, ◌<◌, ◌≤◌, ◌||◌, ◌++◌, ◌∷◌, [], ℕ, Bool, true, false, List, cond, length, refl, ap, ap₂, arith, map, filter, list_any, length-append, length-map, length-filter-le, filter-append, time_stamped, Stamped, first_of, from_first, last_of, up_to_last}

pub last_is : (ts : List ℕ) (t : ℕ) → last_of (ts ++ t ∷ []) ≡ t
last_is [] t = refl
last_is (u ∷ []) t = refl
last_is (u ∷ (v ∷ ts)) t = last_is (v ∷ ts) t

pub first_kept : (ts : List ℕ) (t : ℕ) → 0 < length ts → first_of (ts ++ t ∷ []) ≡ first_of ts
first_kept ts t some = grind (arith, common_steps)

module _ {A : Type 0} (p : A → Bool) where
  pub filter_yes : (xs : List A) (x : A) → p x ≡ true → filter p (xs ++ x ∷ []) ≡ filter p xs ++ x ∷ []
  filter_yes xs x e = filter-append p xs (x ∷ []) ∙ ap (λ (l : List A). filter p xs ++ l) (rw e refl)

  pub filter_no : (xs : List A) (x : A) → p x ≡ false → filter p (xs ++ x ∷ []) ≡ filter p xs
  filter_no xs x e = filter-append p xs (x ∷ []) ∙ ap (λ (l : List A). filter p xs ++ l) (rw e refl) ∙ append-nil (filter p xs)

  pub none_filtered : (xs : List A) → list_any p xs ≡ false → filter p xs ≡ []
  none_filtered [] h = refl
  none_filtered (x ∷ xs) h = let n = or_parts (p x) (list_any p xs) h in rw n.0 (none_filtered xs n.1)

  pub some_filtered : (xs : List A) → list_any p xs ≡ true → 0 < length (filter p xs)
  some_filtered [] h = cc
  some_filtered (x ∷ xs) h = grind (arith, common_steps, some_filtered xs)

  -- ---- the items from the first one on

  pub none_first : (xs : List A) → list_any p xs ≡ false → from_first p xs ≡ []
  none_first [] h = refl
  none_first (x ∷ xs) h = let n = or_parts (p x) (list_any p xs) h in rw n.0 (none_first xs n.1)

  pub first_some : (xs ys : List A) → list_any p xs ≡ true → from_first p (xs ++ ys) ≡ from_first p xs ++ ys
  first_some [] ys h = cc
  first_some (x ∷ xs) ys h = grind (arith, common_steps, first_some xs ys)

  pub first_later : (xs ys : List A) → list_any p xs ≡ false → from_first p (xs ++ ys) ≡ from_first p ys
  first_later [] ys h = refl
  first_later (x ∷ xs) ys h = let n = or_parts (p x) (list_any p xs) h in rw n.0 (first_later xs ys n.1)

  pub any_last : (ys : List A) (x : A) → p x ≡ true → list_any p (ys ++ x ∷ []) ≡ true
  any_last [] x e = rw e refl
  any_last (y ∷ ys) x e = grind (arith, common_steps, any_last ys x e)

  pub any_before : (ys : List A) (x : A) → p x ≡ false → list_any p (ys ++ x ∷ []) ≡ list_any p ys
  any_before [] x e = rw e refl
  any_before (y ∷ ys) x e = ap (λ (b : Bool). p y || b) (any_before ys x e)

  -- ---- those up to the last one

  pub last_all : (ys : List A) (x : A) → p x ≡ true → up_to_last p (ys ++ x ∷ []) ≡ ys ++ x ∷ []
  last_all [] x e = rw e refl
  last_all (y ∷ ys) x e = ap (λ (b : Bool). cond b (y ∷ up_to_last p (ys ++ x ∷ [])) []) (any_last (y ∷ ys) x e) ∙ ap (λ (l : List A). y ∷ l) (last_all ys x e)

  pub last_before : (ys : List A) (x : A) → p x ≡ false → up_to_last p (ys ++ x ∷ []) ≡ up_to_last p ys
  last_before [] x e = rw e refl
  last_before (y ∷ ys) x e = ap₂ (λ (b : Bool) (l : List A). cond b (y ∷ l) []) (any_before (y ∷ ys) x e) (last_before ys x e)

  -- the number from the first to the last, with one item more that passes, or that doesn't
  pub span_yes : (xs : List A) (x : A) → p x ≡ true → length (up_to_last p (from_first p (xs ++ x ∷ []))) ≡ length (from_first p xs) + 1
  span_yes xs x e = grind (arith, common_steps, first_some, last_all, length-append, first_later, none_first)

  pub span_no : (xs : List A) (x : A) → p x ≡ false → up_to_last p (from_first p (xs ++ x ∷ [])) ≡ up_to_last p (from_first p xs)
  span_no xs x e = grind (arith, common_steps, first_some, last_before, first_later, none_first)

  -- the number of all from the first one on
  pub length_first : (xs : List A) (x : A) → list_any p xs ≡ true → length (from_first p (xs ++ x ∷ [])) ≡ length (from_first p xs) + 1
  length_first xs x h = ap length (first_some xs (x ∷ []) h) ∙ length-append (from_first p xs) (x ∷ [])

  -- one item in place of another
  pub first_length : (xs : List A) (x y : A) → p x ≡ p y → length (from_first p (xs ++ x ∷ [])) ≡ length (from_first p (xs ++ y ∷ []))
  first_length [] x y e = grind (arith, common_steps, length-append)
  first_length (z ∷ xs) x y e = grind (arith, common_steps, length-append, first_length xs x y e)

  pub one_first : (xs : List A) (x : A) → list_any p xs ≡ false → p x ≡ true → length (from_first p (xs ++ x ∷ [])) ≡ 1
  one_first xs x none e = ap length (first_later xs (x ∷ []) none) ∙ rw e refl

-- the times of items, as many as there are
pub length_some : (p : Stamped → Bool) (xs : List Stamped) → list_any p xs ≡ true → 0 < length (map time_stamped (filter p xs))
length_some p xs h = let some = some_filtered p xs h in let same : length (map time_stamped (filter p xs)) ≡ length (filter p xs) = length-map (filter p xs) time_stamped in omega (arith, some, same)

pub length-filtered : (p : Stamped → Bool) (xs : List Stamped) → length (map time_stamped (filter p xs)) ≤ length xs
length-filtered p xs = let few = length-filter-le p xs in let same : length (map time_stamped (filter p xs)) ≡ length (filter p xs) = length-map (filter p xs) time_stamped in omega (arith, few, same)
