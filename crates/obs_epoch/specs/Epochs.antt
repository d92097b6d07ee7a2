-- The epochs of a list of messages.
use Rattle.std.specs.Prelude.{ℕ, ◌||◌, Bool, false, nat_lt, List, [], ◌∷◌, ◌++◌, filter, fold, map, if◌then◌else◌}
use Rattle.std.specs.Prelude.{option_to_list}
use Rattle.std.specs.Option.{option_map_or}
use Rattle.gnss_system.specs.SystemValues.{tabulate}
use Rattle.rtcm_msg.specs.declared.station.StationParts.{StationParts}
use Rattle.gnss_obs.specs.declared.cell.StationValues.{StationValues}
use Rattle.obs_epoch.specs.Heard.{GatherSetup, Heard, is_own}
use Rattle.gnss_obs.specs.HeardCells.{HeardCell, kept_cell}
use Rattle.obs_epoch.specs.Times.{Timed, greatest_time, is_closed}
use Rattle.obs_epoch.specs.Cells.{cells_at}
use Rattle.obs_epoch.specs.Loss.{times, lli_of}
use Rattle.gnss_obs.specs.declared.cell.Cell.{Cell}
use Rattle.gnss_obs.specs.Values.{EpochValue}

abbrev pub cells_with_lli : GatherSetup → List Timed → ℕ → List HeardCell → List Cell
cells_with_lli s xs t [] = []
cells_with_lli s xs t (c ∷ cs) = kept_cell c (lli_of s xs t c) ∷ cells_with_lli s xs t cs

-- The epoch of time t.
abbrev pub epoch_at : GatherSetup → List Timed → ℕ → EpochValue
epoch_at s xs t = record {
  time = t;
  cells = tabulate (λ system. cells_with_lli s xs t (cells_at s t xs system));
}

-- All epochs, closed or not.
abbrev pub epochs : GatherSetup → List Timed → List EpochValue
epochs s xs = map (epoch_at s xs) (times xs)

-- Closed within the list: by a message that ends the epoch, or by an accepted message of a greater time.
abbrev pub is_shut : GatherSetup → List Timed → ℕ → Bool
is_shut s xs t = is_closed s t xs || option_map_or (λ u. nat_lt t u) (greatest_time xs) false

-- The point of a station message; the height is kept if the message has none.
abbrev pub values_from : StationParts → ℕ → StationValues
values_from p height = record { x = p.x; y = p.y; z = p.z; height = option_map_or (λ h. h) p.height height }

abbrev pub values_after_message : GatherSetup → StationValues → Heard → StationValues
values_after_message s v m = if is_own s m then option_map_or (λ p. values_from p v.height) m.point v else v

-- The point of the last own message that has one, and the last height; the initial values before.
abbrev pub values_of : GatherSetup → List Heard → StationValues
values_of s ms = fold (values_after_message s) s.initial ms

-- The times of the epochs that are closed within the list.
abbrev pub closed_times : GatherSetup → List Timed → List ℕ
closed_times s xs = filter (is_shut s xs) (times xs)

-- The times of the closed epochs; if `shut`, also the time of the pending epoch, which was closed after the list.
abbrev pub closed_so_far : GatherSetup → List Timed → Bool → List ℕ
closed_so_far s xs shut = closed_times s xs ++ (if shut then option_to_list (greatest_time xs) else [])
