-- The epochs that are returned of all closed epochs.
use Rattle.std.specs.Prelude.{ℕ, ◌%◌, ◌==◌, ◌&&◌, ◌^◌, ◌-◌, Bool, nat_lt, min, List, [], ◌∷◌, ◌++◌, map, filter, flat_map}
use Rattle.std.specs.Prelude.{length, is_some, not, if◌then◌else◌}
use Rattle.std.specs.List.{list_any}
use Rattle.gnss_system.specs.Systems.{systems}
use Rattle.gnss_system.specs.SystemValues.{tabulate}
use Rattle.gnss_obs.specs.declared.cell.Cell.{Cell}
use Rattle.gnss_obs.specs.HeardCells.{has_same_key, heard_cell}
use Rattle.gnss_obs.specs.Marked.{with_mark}
use Rattle.gnss_obs.specs.Values.{Closed, EpochValue, cells_of, satellites_written}
use Rattle.obs_epoch.specs.declared.choice.Choice.{Choice}
use Rattle.obs_epoch.specs.declared.choice.EpochCounts.{EpochCounts}
use Rattle.obs_epoch.specs.Choices.{in_window, is_chosen, on_grid}

-- ---- loss of lock between the epochs that are returned

abbrev pub has_phase : Cell → Bool
has_phase x = is_some x.l

-- The cell has a phase, and lock was lost at it: bit 0 of its loss of lock indicator.
abbrev pub is_marked : Cell → Bool
is_marked x = has_phase x && (x.lli % 2 == 1)

abbrev pub all_cells : EpochValue → List Cell
all_cells e = flat_map (λ s. cells_of s e) systems

-- A cell of the epoch of the satellite and signal of cell x passes.
abbrev pub has_cell : (Cell → Bool) → Cell → Closed → Bool
has_cell p x e = list_any (λ y. has_same_key (heard_cell x) (heard_cell y) && p y) (all_cells e.epoch)

-- The epoch is on the grid, and the satellite and signal of the cell has a phase in it.
abbrev pub ends_carrying : Choice → Cell → Closed → Bool
ends_carrying c x e = on_grid c e.epoch.time && has_cell has_phase x e

-- The elements after the latest one that passes; all, if none does.
abbrev pub after_latest : {A : Type 0} → (A → Bool) → List A → List A
after_latest p [] = []
after_latest p (x ∷ xs) = if list_any p xs then after_latest p xs else (if p x then xs else x ∷ xs)

-- Lock was lost at the satellite and signal of the cell in one of these epochs after the latest one on the grid in which
-- it has a phase.
abbrev pub lost_before : Choice → List Closed → Cell → Bool
lost_before c es x = list_any (has_cell is_marked x) (after_latest (ends_carrying c x) es)

-- A cell with a phase is also marked if lock was lost before.
abbrev pub mark_if : (Cell → Bool) → Cell → Cell
mark_if lost x = if has_phase x && lost x then with_mark x else x

abbrev pub marked_epoch : (Cell → Bool) → EpochValue → EpochValue
marked_epoch lost e = record e { cells = tabulate (λ s. map (mark_if lost) (cells_of s e)) }

-- An epoch after these.
abbrev pub marked_after : Choice → List Closed → Closed → Closed
marked_after c earlier e = record e { epoch = marked_epoch (lost_before c earlier) e.epoch }

-- ---- the epochs that are returned

abbrev pub thin_after : Choice → List Closed → List Closed → List Closed
thin_after c earlier [] = []
thin_after c earlier (e ∷ es) =
    (if is_chosen c e.epoch.time then marked_after c earlier e ∷ [] else []) ++ thin_after c (earlier ++ e ∷ []) es

-- The chosen ones of these epochs, marked by the loss of lock in those before that are not on the grid.
abbrev pub thin : Choice → List Closed → List Closed
thin c es = thin_after c [] es

-- ---- their numbers

-- A satellite has a value.
abbrev pub has_satellite : Closed → Bool
has_satellite e = nat_lt 0 (satellites_written e.epoch)

-- A count, up to the greatest number that is counted.
abbrev pub up_to_most : ℕ → ℕ
up_to_most n = min n (2 ^ 64 - 1)

-- The numbers of these epochs: of all of them, of those in the window, and of those on the grid.
abbrev pub counts_among : Choice → List Closed → EpochCounts
counts_among c es = record {
  epochs = length es;
  window = length (filter (λ e. in_window c e.epoch.time) es);
  grid = length (filter (λ e. on_grid c e.epoch.time) es);
}

-- The numbers of the epochs in which a satellite has a value.
abbrev pub counts_of_epochs : Choice → List Closed → EpochCounts
counts_of_epochs c es = counts_among c (filter has_satellite es)

-- A satellite has a value in an epoch that is not chosen.
abbrev pub is_left_out : Choice → Closed → Bool
is_left_out c e = not (is_chosen c e.epoch.time) && has_satellite e

-- The numbers of these.
abbrev pub counts_left_out : Choice → List Closed → EpochCounts
counts_left_out c es = counts_among c (filter (is_left_out c) es)
