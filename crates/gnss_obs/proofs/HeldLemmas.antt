-- Kept cells of a system as they arrive.
use Rattle.gnss_obs.proofs.Names.{Box, Global, ◌≡◌, ℕ, ◌+◌, ◌*◌, ◌<◌, ◌==◌, ◌&&◌, false, nat_eq, List, [], ◌∷◌, map, refl, sym, ap, ◌∙◌, subst, arith, rules, length, All, All-head, All-nil, All-push, All-tail, All-permutation, IsPermutation-map, length_permutation, map-append, IsDistinct-IsPermutation, IsDistinct-push, nat_eq_equiv, IsDistinct, AreSorted, each_system, equal_values, value_mapped, value_tabulated, value_of, with_value_of, map_by, BySystem, Cells, System, Cell, Added, Satellite, SignalAt, IsSignal, AreHeld, AreKept, CellLists, IsHeld, list_any, no_cells, IsObserved, heard_cell, same_key, cell_sort_key, is_held, AddsCell, IsAdded, slot, has_slot, sorted_cells, outcome_by, common_steps}
use Rattle.gnss_obs.proofs.OrderLaws.{sort_moves}
use Rattle.gnss_obs.specs.declared.epoch_cells.Added.TheVariants.{Kept}

-- ---- sorted cells

pub kept_sorted : (system : System) (planned : List ℕ) (cells : List Cell) → AreKept system cells → AreKept system (sorted_cells planned cells)
kept_sorted system planned cells h =
    let moved = sort_moves (cell_sort_key planned) cells in
    let n = length_permutation cells (sorted_cells planned cells) moved in
    record {
      held = record { each = All-permutation (IsHeld system) cells (sorted_cells planned cells) moved h.held.each; few = omega (arith, n, h.held.few) };
      apart = IsDistinct-IsPermutation nat_eq nat_eq_equiv.symm (map slot cells) (map slot (sorted_cells planned cells)) (IsPermutation-map slot cells (sorted_cells planned cells) moved) h.apart;
    }

pub none_mapped : (lists : BySystem (Box Cells Global)) → ((s : System) → (value_of s lists).value ≡ []) → map_by (λ c. c.value) lists ≡ no_cells
none_mapped lists none = equal_values _ _ (λ s. value_mapped s (λ c. c.value) lists ∙ none s ∙ sym (value_tabulated s (λ s. [])))

-- Empty lists are in any order.
pub none_sorted : {cells : CellLists} → cells ≡ no_cells → (s : System) → AreSorted (value_of s cells)
none_sorted none = λ s. subst AreSorted (sym (ap (value_of s) none ∙ value_tabulated s (λ s. []))) ([], tt)

pub all_empty : (lists : BySystem (Box Cells Global)) → ((s : System) → (value_of s lists).value ≡ []) → (s : System) → AreKept s (value_of s lists).value
unfolding IsDistinct
all_empty lists none s = subst (AreKept s) (sym (none s)) (record { held = record { each = All-nil (IsHeld s); few = omega arith }; apart = tt })

-- ---- one more cell

pub low_index : (s : SignalAt) → IsSignal s → s.index < 32
low_index s h = grind (arith, each_system)

slots_same : (i j p q : ℕ) → p < 32 → q < 32 → ((i == j) && (p == q)) ≡ (32 * j + q == 32 * i + p)
slots_same i j p q h k = grind (arith, common_steps, h, k)

same_is : (system : System) (s t : Satellite) (a b : SignalAt) → s.system ≡ system → t.system ≡ system → same_key s a t b ≡ ((s.id == t.id) && (a.index == b.index))
same_is system s t a b e f = grind (arith, common_steps, e, f)

pub held_slot : (system : System) (x : Cell) → x.satellite.system ≡ system → IsSignal x.signal → (cells : List Cell) → All (IsHeld system) cells
    → has_slot (slot x) (map slot cells) ≡ is_held cells (heard_cell x)
held_slot system x is listed [] all = refl
held_slot system x is listed (c ∷ cells) all = grind (arith, All-head, same_is, slots_same, low_index, All-tail, All-head (IsHeld system) c cells all, low_index x.signal listed, All-tail (IsHeld system) c cells all, held_slot system x is listed cells (All-tail (IsHeld system) c cells all))

-- A kept cell is of a new key.
new_slot : (slots : List ℕ) (s : ℕ) (count : ℕ) → Kept ≡ outcome_by (has_slot s slots) count → list_any (nat_eq s) slots ≡ false
new_slot slots s count kept = grind arith

pub kept_added : {system : System} {old cells new : List Cell} {x : Cell} (k : Added) → x.satellite.system ≡ system → AreKept system old → IsObserved (heard_cell x) → x.lli < 4
    → cells ≡ old → AddsCell cells x k new → AreKept system new
kept_added {system} {cells = cells} {x} Kept is kept observed low same a =
    let h = subst (AreKept system) (sym same) kept in
    let held = h.held in
    subst (AreKept system) (sym a.cells) (record {
      held = record { each = All-push (IsHeld system) cells x held.each (search rules); few = grind (arith, common_steps, a.outcome) };
      apart = subst (IsDistinct nat_eq) (sym (map-append slot cells (x ∷ []))) (IsDistinct-push nat_eq_equiv (map slot cells) (slot x) h.apart (new_slot (map slot cells) (slot x) (length cells) a.outcome));
    })
kept_added {system} {cells} _ is kept observed low same a = subst (AreKept system) (sym (a.cells ∙ same)) kept

pub is_added : {system : System} {old e : CellLists} {cells new : List Cell} {x : Cell} {k : Added} → x.satellite.system ≡ system → AreHeld system (value_of system e)
    → IsObserved (heard_cell x) → e ≡ old → cells ≡ value_of system e → AddsCell cells x k new → IsAdded old x k (with_value_of system e new)
is_added {system} {e} {cells} {new} {x} {k} is held observed same at a = grind (arith, held_slot)
