-- A marked cell is of the same satellite and signal, and has a loss of lock indicator.
use Rattle.gnss_obs.proofs.Names.{◌≡◌, ℕ, zero, suc, ◌<◌, ◌≤◌, List, [], ◌∷◌, map, refl, ap, arith, length, get_or, set, All, nat_eq, sym, subst, All-head, All-cons, All-tail, IsDistinct, marked_at, with_mark, System, Cell, AreHeld, AreKept, AreSorted, IsHeld, SortKeysRise, cell_sort_key, slot}

pub mark_set : (xs : List Cell) (at : ℕ) (d : Cell) → at < length xs → set xs at (with_mark (get_or xs at d)) ≡ marked_at at xs
mark_set [] at d h = refl
mark_set (x ∷ xs) zero d h = refl
mark_set (x ∷ xs) (suc at) d h = ap (λ l. x ∷ l) (mark_set xs at d (omega (arith, h)))

pub mark_length : (at : ℕ) (xs : List Cell) → length (marked_at at xs) ≡ length xs
mark_length at [] = refl
mark_length zero (x ∷ xs) = refl
mark_length (suc at) (x ∷ xs) = ap suc (mark_length at xs)

-- What doesn't depend on the indicator.
pub mark_same : {A : Type 0} (f : Cell → A) → ((x : Cell) → f (with_mark x) ≡ f x) → (at : ℕ) (xs : List Cell) → map f (marked_at at xs) ≡ map f xs
mark_same f same at [] = refl
mark_same f same zero (x ∷ xs) = ap (λ a. a ∷ map f xs) (same x)
mark_same f same (suc at) (x ∷ xs) = ap (λ l. f x ∷ l) (mark_same f same at xs)

pub mark_slots : (at : ℕ) (xs : List Cell) → map slot (marked_at at xs) ≡ map slot xs
mark_slots at xs = mark_same slot (λ x. refl) at xs

pub mark_sorted : (at : ℕ) (xs : List Cell) → AreSorted xs → AreSorted (marked_at at xs)
mark_sorted at xs h = (h.0, subst SortKeysRise (sym (mark_same (cell_sort_key h.0) (λ x. refl) at xs)) h.1)

pub one_held : (system : System) (x : Cell) → IsHeld system x → IsHeld system (with_mark x)
one_held system x h = grind (arith)

all_held : (system : System) (at : ℕ) (xs : List Cell) → All (IsHeld system) xs → All (IsHeld system) (marked_at at xs)
all_held system at [] h = h
all_held system zero (x ∷ xs) h = All-cons (IsHeld system) (with_mark x) xs (one_held system x (All-head (IsHeld system) x xs h)) (All-tail (IsHeld system) x xs h)
all_held system (suc at) (x ∷ xs) h = All-cons (IsHeld system) x (marked_at at xs) (All-head (IsHeld system) x xs h) (all_held system at xs (All-tail (IsHeld system) x xs h))

pub mark_held : (system : System) (at : ℕ) (xs : List Cell) → AreHeld system xs → AreHeld system (marked_at at xs)
mark_held system at xs h = record { each = all_held system at xs h.each; few = subst (λ n. n ≤ 256) (sym (mark_length at xs)) h.few }

pub mark_kept : (system : System) (at : ℕ) (xs : List Cell) → AreKept system xs → AreKept system (marked_at at xs)
mark_kept system at xs h = record { held = mark_held system at xs h.held; apart = subst (IsDistinct nat_eq) (sym (mark_slots at xs)) h.apart }
