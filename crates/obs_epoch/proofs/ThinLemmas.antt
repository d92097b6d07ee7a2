-- The epochs that are returned, of all closed ones.
use Rattle.obs_epoch.proofs.Names.{◌≡◌, ℕ, ◌+◌, Bool, true, false, ◌&&◌, ◌||◌, List, ◌∷◌, ◌++◌, map, filter, length, refl, sym, ap, ap₂, ◌∙◌, arith, append_assoc, append-nil, length-append, is_some, if◌then◌else◌, AllByRecursion, list_any, filter-append, common_steps, IsPrefix, equal_values, tabulated_same, value_tabulated, Choice, in_window, on_grid, counted_epoch, capped_counts, Cell, Closed, EpochValue, System, cells_of, has_listed_key, heard_cell, with_mark, after_latest, counts_left_out, ends_carrying, has_cell, has_phase, is_left_out, is_marked, lost_before, mark_if, marked_epoch, thin, thin_after, length-map, []}
use Rattle.obs_epoch.proofs.TimesLemmas.{list_any-push}

-- ---- more epochs

pub thin_append : (c : Choice) (earlier a b : List Closed) → thin_after c earlier (a ++ b) ≡ thin_after c earlier a ++ thin_after c (earlier ++ a) b
thin_append c earlier [] b = ap (λ l. thin_after c l b) (sym (append-nil earlier))
thin_append c earlier (e ∷ a) b = grind (arith, append_assoc, thin_append c (earlier ++ e ∷ []) a b)

pub thin_prefix : (c : Choice) (a b : List Closed) → IsPrefix a b → IsPrefix (thin c a) (thin c b)
thin_prefix c a b h = (thin_after c a h.0, ap (thin c) h.1 ∙ thin_append c [] a h.0)

-- ---- lock that was lost before

pub after-push : {A : Type 0} (p : A → Bool) (xs : List A) (x : A) → after_latest p (xs ++ x ∷ []) ≡ (if p x then [] else after_latest p xs ++ x ∷ [])
after-push p [] x = refl
after-push {A} p (y ∷ xs) x = grind (arith, list_any-push, after-push p xs x)

-- A marked cell has a phase.
pub any_less : {A : Type 0} (p q : A → Bool) → ((x : A) → q x ≡ true → p x ≡ true) → (xs : List A) → list_any p xs ≡ false → list_any q xs ≡ false
any_less p q less [] none = refl
any_less p q less (x ∷ xs) none = grind (arith, any_less p q less xs)

pub no_phase : (x : Cell) (e : Closed) → has_cell has_phase x e ≡ false → has_cell is_marked x e ≡ false
no_phase x e none = grind (arith, any_less)

-- Without an interval, no epoch is off the grid.
pub none_lost : (c : Choice) (es : List Closed) (x : Cell) → is_some c.interval ≡ false → lost_before c es x ≡ false
none_lost c es x whole = by es where
  every : (t : ℕ) → on_grid c t ≡ true
  every t = grind (arith, common_steps, whole)

  ends : (e : Closed) → ends_carrying c x e ≡ has_cell has_phase x e
  ends e = ap (λ b. b && has_cell has_phase x e) (every e.epoch.time)

  none_here : (es : List Closed) → list_any (ends_carrying c x) es ≡ false → list_any (has_cell is_marked x) es ≡ false
  none_here [] n = refl
  none_here (e ∷ es) n =
      let one : ends_carrying c x e ≡ false = grind (arith, common_steps, n) in
      let more : list_any (ends_carrying c x) es ≡ false = grind (arith, common_steps, n) in
      ap₂ (λ (a b : Bool). a || b) (no_phase x e (sym (ends e) ∙ one)) (none_here es more)

  step : (e : Closed) (es : List Closed) (a b : Bool) → list_any (ends_carrying c x) es ≡ a → ends_carrying c x e ≡ b → list_any (has_cell is_marked x) (after_latest (ends_carrying c x) es) ≡ false
      → list_any (has_cell is_marked x) (if a then after_latest (ends_carrying c x) es else (if b then es else e ∷ es)) ≡ false
  step e es a b any one less = grind (arith, no_phase, ends, none_here)

  by : (es : List Closed) → lost_before c es x ≡ false
  by [] = refl
  by (e ∷ es) = step e es (list_any (ends_carrying c x) es) (ends_carrying c x e) refl refl (by es)

-- ---- marked cells

-- The cells of each system are of listed satellites and signals.
abbrev pub AllListedCells : List Cell → Type 0
AllListedCells xs = AllByRecursion (λ x. has_listed_key (heard_cell x) ≡ true) xs

abbrev pub HasListedCells : EpochValue → Type 0
HasListedCells e = (system : System) → AllListedCells (cells_of system e)

map_marks : (f g : Cell → Bool) → ((x : Cell) → has_listed_key (heard_cell x) ≡ true → f x ≡ g x) → (xs : List Cell) → AllListedCells xs → map (mark_if f) xs ≡ map (mark_if g) xs
map_marks f g same [] h = refl
map_marks f g same (x ∷ xs) h = ap₂ (λ b l. (if has_phase x && b then with_mark x else x) ∷ l) (same x h.0) (map_marks f g same xs h.1)

pub marks_same : (f g : Cell → Bool) → ((x : Cell) → has_listed_key (heard_cell x) ≡ true → f x ≡ g x) → (e : EpochValue) → HasListedCells e → marked_epoch f e ≡ marked_epoch g e
marks_same f g same e listed = ap (λ cells. record e { cells = cells }) (tabulated_same _ _ (λ s. map_marks f g same (cells_of s e) (listed s)))

map_none : (f : Cell → Bool) → ((x : Cell) → f x ≡ false) → (xs : List Cell) → map (mark_if f) xs ≡ xs
map_none f none [] = refl
map_none f none (x ∷ xs) = grind (arith, map_none f none xs)

pub marks_none : (f : Cell → Bool) → ((x : Cell) → f x ≡ false) → (e : EpochValue) → marked_epoch f e ≡ e
marks_none f none e = ap (λ cells. record e { cells = cells }) (equal_values _ _ (λ s. value_tabulated s (λ t. map (mark_if f) (cells_of t e)) ∙ map_none f none (cells_of s e)))

pub marked_length : (f : Cell → Bool) (e : EpochValue) (s : System) → length (cells_of s (marked_epoch f e)) ≡ length (cells_of s e)
marked_length f e s = ap (λ (l : List Cell). length l) (value_tabulated s (λ t. map (mark_if f) (cells_of t e))) ∙ length-map (cells_of s e) (mark_if f)

-- ---- the counts

length_push : {A : Type 0} (p : A → Bool) (xs : List A) (x : A) → length (filter p (xs ++ x ∷ [])) ≡ length (filter p xs) + (if p x then 1 else 0)
length_push p xs x = grind (arith, filter-append, length-append)

pub counts_push : (c : Choice) (es : List Closed) (e : Closed)
    → capped_counts (counts_left_out c (es ++ e ∷ [])) ≡ (if is_left_out c e then counted_epoch (in_window c e.epoch.time) (on_grid c e.epoch.time) (capped_counts (counts_left_out c es)) else capped_counts (counts_left_out c es))
counts_push c es e = grind (arith, filter-append, length-append, length_push, append-nil)
