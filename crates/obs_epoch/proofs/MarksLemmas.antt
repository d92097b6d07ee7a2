-- The entries of lost lock after one more epoch.
use Rattle.obs_epoch.proofs.Names.{◌≡◌, ℕ, zero, suc, ◌+◌, ◌==◌, ◌%◌, ◌<◌, Bool, true, false, not, ◌&&◌, ◌||◌, List, ◌∷◌, ◌++◌, map, flat_map, length, get_or, set, refl, sym, ap, ◌∙◌, subst, arith, is_some, if◌then◌else◌, length-set, list_any, length-replicate, common_steps, value_after, value_tabulated, systems, Choice, on_grid, any_loss, carried_from, has_loss, mark_at, no_marks, note_losses, note_lost, note_systems_lost, with_mark_in, AreMarks, is_lost_in, Cell, Closed, EpochValue, System, cells_of, has_listed_key, has_same_key, heard_cell, lock_place, most_locks, all_cells, has_cell, has_phase, is_marked, lost_before, mark_if, marked_epoch, marked_at, marked_in, with_mark, with_value_of, or-false, all_append, list_any-append, get_or-same, []}
use Rattle.obs_epoch.proofs.ThinLemmas.{AllListedCells, HasListedCells, no_phase, none_lost, after-push}
use Rattle.obs_epoch.proofs.TimesLemmas.{list_any-push}

abbrev same_cell : Cell → Cell → Bool
same_cell x y = has_same_key (heard_cell x) (heard_cell y)

-- The entry of a cell's key after that of another cell is set.
lost_set : (marks : List Bool) (x y : Cell) (b : Bool) → has_listed_key (heard_cell x) ≡ true → has_listed_key (heard_cell y) ≡ true → length marks ≡ most_locks
    → is_lost_in (set marks (lock_place (heard_cell y)) b) x ≡ (if same_cell x y then b else is_lost_in marks x)
lost_set marks x y b k l size = grind (arith, common_steps)

-- A cell that changes the entry of its key.
abbrev changes : Bool → Cell → Bool
changes at y = has_phase y && (at || (y.lli % 2 == 1))

abbrev any_changes : Bool → Cell → List Cell → Bool
any_changes at x ys = list_any (λ y. same_cell x y && changes at y) ys

note_size : (at : Bool) (marks : List Bool) (y : Cell) → length (note_lost at marks y) ≡ length marks
note_size at marks y = grind (arith, length-set)

losses_size : (at : Bool) (marks : List Bool) (ys : List Cell) → length (note_losses at marks ys) ≡ length marks
losses_size at marks [] = refl
losses_size at marks (y ∷ ys) = losses_size at (note_lost at marks y) ys ∙ note_size at marks y

lost_losses : (at : Bool) (marks : List Bool) (x : Cell) (ys : List Cell) → has_listed_key (heard_cell x) ≡ true → AllListedCells ys → length marks ≡ most_locks
    → is_lost_in (note_losses at marks ys) x ≡ (if any_changes at x ys then not at else is_lost_in marks x)
lost_losses at marks x [] k l size = refl
lost_losses at marks x (y ∷ ys) k l size = grind (arith, lost_set, lost_losses at (note_lost at marks y) x ys k l.1 (note_size at marks y ∙ size))

-- ---- all cells of an epoch

losses_append : (at : Bool) (marks : List Bool) (xs ys : List Cell) → note_losses at (note_losses at marks xs) ys ≡ note_losses at marks (xs ++ ys)
losses_append at marks [] ys = refl
losses_append at marks (x ∷ xs) ys = losses_append at (note_lost at marks x) xs ys

systems_are : (at : Bool) (e : EpochValue) (marks : List Bool) (ss : List System) → note_systems_lost at e marks ss ≡ note_losses at marks (flat_map (λ s. cells_of s e) ss)
systems_are at e marks [] = refl
systems_are at e marks (s ∷ ss) = systems_are at e (note_losses at marks (cells_of s e)) ss ∙ losses_append at marks (cells_of s e) (flat_map (λ s. cells_of s e) ss)

all_listed : (e : EpochValue) (ss : List System) → HasListedCells e → AllListedCells (flat_map (λ s. cells_of s e) ss)
all_listed e [] h = tt
all_listed e (s ∷ ss) h = all_append (λ x. has_listed_key (heard_cell x) ≡ true) (cells_of s e) (flat_map (λ s. cells_of s e) ss) (h s) (all_listed e ss h)

lost_systems : (at : Bool) (e : EpochValue) (marks : List Bool) (x : Cell) → has_listed_key (heard_cell x) ≡ true → HasListedCells e → length marks ≡ most_locks
    → is_lost_in (note_systems_lost at e marks systems) x ≡ (if any_changes at x (all_cells e) then not at else is_lost_in marks x)
lost_systems at e marks x k listed size = grind (arith, systems_are at e marks systems, lost_losses at marks x (all_cells e) k (all_listed e systems listed) size)

systems_size : (at : Bool) (e : EpochValue) (marks : List Bool) → length (note_systems_lost at e marks systems) ≡ length marks
systems_size at e marks = ap (λ (l : List Bool). length l) (systems_are at e marks systems) ∙ losses_size at marks (all_cells e)

-- ---- a marked epoch has the same phases

marked_changes : (f : Cell → Bool) (x : Cell) (ys : List Cell) → any_changes true x (map (mark_if f) ys) ≡ any_changes true x ys
marked_changes f x [] = refl
marked_changes f x (y ∷ ys) = grind (arith, marked_changes f x ys)

marked_all : (f : Cell → Bool) (x : Cell) (e : EpochValue) (ss : List System) → any_changes true x (flat_map (λ s. cells_of s (marked_epoch f e)) ss) ≡ any_changes true x (flat_map (λ s. cells_of s e) ss)
marked_all f x e [] = refl
marked_all f x e (s ∷ ss) = grind (arith, list_any-append, value_tabulated, marked_changes, marked_all f x e ss)

marked_listed : (f : Cell → Bool) (e : EpochValue) → HasListedCells e → HasListedCells (marked_epoch f e)
marked_listed f e h = λ s. subst AllListedCells (sym (value_tabulated s (λ t. map (mark_if f) (cells_of t e)))) (by (cells_of s e) (h s)) where
  one : (x : Cell) (b : Bool) → has_listed_key (heard_cell x) ≡ true → has_listed_key (heard_cell (if b then with_mark x else x)) ≡ true
  one x b k = grind arith

  by : (xs : List Cell) → AllListedCells xs → AllListedCells (map (mark_if f) xs)
  by [] k = tt
  by (x ∷ xs) k = (one x (has_phase x && f x) k.0, by xs k.1)

phase_changes : (x : Cell) (ys : List Cell) → any_changes true x ys ≡ list_any (λ y. same_cell x y && has_phase y) ys
phase_changes x [] = refl
phase_changes x (y ∷ ys) = grind (arith, phase_changes x ys)

-- ---- one more epoch

-- The entries of the epochs with one more.
pub marks_push : (c : Choice) (marks : List Bool) (es : List Closed) (e : Closed) → HasListedCells e.epoch → AreMarks c marks es
    → AreMarks c (if is_some c.interval then carried_from (on_grid c e.epoch.time) marks e.epoch else marks) (es ++ e ∷ [])
marks_push c marks es e listed h = by (is_some c.interval) refl where
  whole : is_some c.interval ≡ false → AreMarks c marks (es ++ e ∷ [])
  whole none = record { size = h.size; each = λ x k. h.each x k ∙ none_lost c es x none ∙ sym (none_lost c (es ++ e ∷ []) x none) }

  on : (x : Cell) → has_listed_key (heard_cell x) ≡ true → on_grid c e.epoch.time ≡ true → is_lost_in (carried_from true marks e.epoch) x ≡ lost_before c (es ++ e ∷ []) x
  on x k at =
      lost_systems true (marked_epoch (is_lost_in marks) e.epoch) marks x k (marked_listed (is_lost_in marks) e.epoch listed) h.size
      ∙ ap (λ b. if b then false else is_lost_in marks x) (marked_all (is_lost_in marks) x e.epoch systems ∙ phase_changes x (all_cells e.epoch))
      ∙ ap (λ b. if has_cell has_phase x e then false else b) (h.each x k)
      ∙ some (has_cell has_phase x e) refl
      ∙ ap (λ a. if a && has_cell has_phase x e then false else lost_before c es x || has_cell is_marked x e) (sym at) ∙ sym (grind (arith, after-push, list_any-push)) where
        some : (p : Bool) → has_cell has_phase x e ≡ p → (if p then false else lost_before c es x) ≡ (if p then false else lost_before c es x || has_cell is_marked x e)
        some p q = grind (arith, or-false, no_phase)

  off : (x : Cell) → has_listed_key (heard_cell x) ≡ true → on_grid c e.epoch.time ≡ false → is_lost_in (carried_from false marks e.epoch) x ≡ lost_before c (es ++ e ∷ []) x
  off x k at =
      lost_systems false e.epoch marks x k listed h.size
      ∙ ap (λ b. if has_cell is_marked x e then true else b) (h.each x k)
      ∙ some (has_cell is_marked x e) (lost_before c es x)
      ∙ ap (λ a. if a && has_cell has_phase x e then false else lost_before c es x || has_cell is_marked x e) (sym at) ∙ sym (grind (arith, after-push, list_any-push)) where
        some : (a b : Bool) → (if a then true else b) ≡ (b || a)
        some a b = grind arith

  carried : (at : Bool) → on_grid c e.epoch.time ≡ at → AreMarks c (carried_from at marks e.epoch) (es ++ e ∷ [])
  carried true at = record { size = systems_size true (marked_epoch (is_lost_in marks) e.epoch) marks ∙ h.size; each = λ x k. on x k at }
  carried false at = record { size = systems_size false e.epoch marks ∙ h.size; each = λ x k. off x k at }

  by : (b : Bool) → is_some c.interval ≡ b → AreMarks c (if b then carried_from (on_grid c e.epoch.time) marks e.epoch else marks) (es ++ e ∷ [])
  by true some = subst (λ at. AreMarks c (carried_from at marks e.epoch) (es ++ e ∷ [])) refl (carried (on_grid c e.epoch.time) refl)
  by false none = whole none

-- ---- no epochs

pub none_marked : (c : Choice) {marks : List Bool} → marks ≡ no_marks → AreMarks c marks []
none_marked c e = record { size = ap (λ (l : List Bool). length l) e ∙ length-replicate most_locks false; each = λ x k. ap (λ l. is_lost_in l x) e ∙ get_or-same false most_locks (lock_place (heard_cell x)) }

-- ---- the cells of a system, one by one

-- The first of the cells are marked.
abbrev pub mark_first : (Cell → Bool) → ℕ → List Cell → List Cell
mark_first lost zero xs = xs
mark_first lost (suc i) [] = []
mark_first lost (suc i) (x ∷ xs) = mark_if lost x ∷ mark_first lost i xs

pub first_length : (lost : Cell → Bool) (i : ℕ) (xs : List Cell) → length (mark_first lost i xs) ≡ length xs
first_length lost zero xs = refl
first_length lost (suc i) [] = refl
first_length lost (suc i) (x ∷ xs) = ap suc (first_length lost i xs)

pub first_step : (lost : Cell → Bool) (i : ℕ) (xs : List Cell) → mark_at lost i (mark_first lost i xs) ≡ mark_first lost (suc i) xs
first_step lost zero [] = refl
first_step lost zero (x ∷ xs) = refl
first_step lost (suc i) [] = refl
first_step lost (suc i) (x ∷ xs) = ap (λ l. mark_if lost x ∷ l) (first_step lost i xs)

pub first_all : (lost : Cell → Bool) (i : ℕ) (xs : List Cell) → length xs ≡ i → mark_first lost i xs ≡ map (mark_if lost) xs
first_all lost zero [] h = refl
first_all lost zero (x ∷ xs) h = absurd (grind (arith, h))
first_all lost (suc i) [] h = refl
first_all lost (suc i) (x ∷ xs) h = ap (λ l. mark_if lost x ∷ l) (first_all lost i xs (omega (arith, h)))

-- A cell is marked if it has a phase and lock was lost at it.
pub mark_is : (lost : Cell → Bool) (at : ℕ) (xs : List Cell) (x : Cell) → at < length xs → x ≡ get_or xs at x → (b : Bool) → (has_phase x && lost x) ≡ b
    → (if b then marked_at at xs else xs) ≡ mark_at lost at xs
mark_is lost at [] x less is b e = absurd (grind (arith, less))
mark_is lost zero (y ∷ xs) x less is b e = grind arith
mark_is lost (suc at) (y ∷ xs) x less is b e = grind (arith, mark_is lost at xs x (omega (arith, less)) is b e)

pub marked_in_is : (marks : List Bool) (system : System) (at : ℕ) (e : EpochValue) (x : Cell) → at < length (cells_of system e) → x ≡ get_or (cells_of system e) at x
    → (b : Bool) → (has_phase x && is_lost_in marks x) ≡ b → (if b then marked_in system at e else e) ≡ with_mark_in marks system at e
marked_in_is marks system at e x less is true h = ap (λ l. record e { cells = with_value_of system e.cells l }) (mark_is (is_lost_in marks) at (cells_of system e) x less is true h)
marked_in_is marks system at e x less is false h = grind (arith, mark_is (is_lost_in marks) at (cells_of system e) x less is false h)

abbrev pub first_in : List Bool → System → ℕ → EpochValue → EpochValue
first_in marks system i e = record e { cells = with_value_of system e.cells (mark_first (is_lost_in marks) i (cells_of system e)) }

pub first_in_length : (marks : List Bool) (system : System) (i : ℕ) (e : EpochValue) → length (cells_of system (first_in marks system i e)) ≡ length (cells_of system e)
first_in_length marks system i e = grind (arith, value_after, first_length)

pub first_in_step : (marks : List Bool) (system : System) (i : ℕ) (e : EpochValue) → with_mark_in marks system i (first_in marks system i e) ≡ first_in marks system (i + 1) e
first_in_step marks system i e = grind (arith, common_steps, value_after, first_step)

-- ---- an epoch without a loss of lock

none_noted : (marks : List Bool) (xs : List Cell) → list_any has_loss xs ≡ false → note_losses false marks xs ≡ marks
none_noted marks [] e = refl
none_noted marks (x ∷ xs) e = grind (arith, common_steps, none_noted marks xs)

-- Off the grid nothing of it is carried.
pub none_carried : (marks : List Bool) (e : EpochValue) (ss : List System) → any_loss e ss ≡ false → note_systems_lost false e marks ss ≡ marks
none_carried marks e [] h = refl
none_carried marks e (s ∷ ss) h = grind (arith, common_steps, none_noted marks (cells_of s e), none_carried marks e ss)
