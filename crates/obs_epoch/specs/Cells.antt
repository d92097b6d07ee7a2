-- The cells of an epoch: the first of each key, and of these the first ones of each system, up to the largest number.
use Rattle.std.specs.Prelude.{ℕ, ◌+◌, ◌-◌, ◌&&◌, ◌||◌, Bool, not, nat_le, nat_lt, List, [], ◌∷◌}
use Rattle.std.specs.Prelude.{◌++◌, filter, flat_map, take, length, count_by, is_some, if◌then◌else◌}
use Rattle.std.specs.Option.{option_map_or}
use Rattle.std.specs.List.{list_any}
use Rattle.gnss_system.specs.declared.system.System.{System}
use Rattle.gnss_system.specs.declared.system.System.TheVariants.{Glonass}
use Rattle.gnss_obs.specs.Channels.{hertz_in}
use Rattle.gnss_system.specs.Systems.{systems, is_system}
use Rattle.gnss_system.specs.Satellites.{satellites}
use Rattle.gnss_system.specs.Signals.{table}
use Rattle.gnss_obs.specs.Values.{planned_of, most_cells}
use Rattle.gnss_obs.specs.Plans.{place_in}
use Rattle.gnss_obs.specs.Order.{sorted}
use Rattle.obs_epoch.specs.Heard.{GatherSetup, Heard}
use Rattle.gnss_obs.specs.HeardCells.{HeardCell, has_same_key}
use Rattle.obs_epoch.specs.Times.{Timed, is_at, taken_at}
use Rattle.obs_epoch.specs.declared.taken.CellCounts.{CellCounts}

abbrev pub is_of_system : System → HeardCell → Bool
is_of_system system x = is_system system x.satellite.system

-- The satellite is one of its system, and the signal is in that system's table.
abbrev pub has_listed_key : HeardCell → Bool
has_listed_key x =
    nat_lt 0 x.satellite.id && nat_le x.satellite.id (satellites x.satellite.system)
    && nat_lt x.signal.index (length (table x.satellite.system))

-- The satellite and the signal are listed, and the signal is planned.
abbrev pub is_planned : GatherSetup → HeardCell → Bool
is_planned s x = has_listed_key x && is_some (place_in x.signal (planned_of x.satellite.system s.plan))

-- The planned cells of the accepted messages of time t, in order.
abbrev pub offered : GatherSetup → ℕ → List Timed → List HeardCell
offered s t xs = flat_map (λ x. filter (is_planned s) x.message.cells) (filter (is_at t) xs)

abbrev pub is_among : List HeardCell → HeardCell → Bool
is_among xs x = list_any (has_same_key x) xs

-- The cells whose key no earlier cell has.
abbrev pub firsts_after : List HeardCell → List HeardCell → List HeardCell
firsts_after earlier [] = []
firsts_after earlier (x ∷ xs) =
    (if is_among earlier x then [] else x ∷ []) ++ firsts_after (earlier ++ x ∷ []) xs

-- The first cell of each key.
abbrev pub firsts : List HeardCell → List HeardCell
firsts xs = firsts_after [] xs

-- The kept cells of a system.
abbrev pub kept : System → List HeardCell → List HeardCell
kept system xs = take most_cells (filter (is_of_system system) (firsts xs))

-- One more cell: it is kept if it is of the system, if no cell of its key is kept, and if there is room.
abbrev pub add : System → List HeardCell → HeardCell → List HeardCell
add system ks y =
    if is_of_system system y && not (is_among ks y || nat_le most_cells (length ks)) then ks ++ y ∷ [] else ks

-- The kept cells of a system in the epoch of time t, by satellite, then by the order of the plan.
abbrev pub cells_at : GatherSetup → ℕ → List Timed → System → List HeardCell
cells_at s t xs system = sorted (planned_of system s.plan) (kept system (offered s t xs))

abbrev pub kept_of_all : List HeardCell → List HeardCell
kept_of_all xs = flat_map (λ s. kept s xs) systems

abbrev pub no_counts : CellCounts
no_counts = record { kept = 0; without_channel = 0; skipped = 0; repeated = 0; crowded = 0 }

-- The carrier of a cell isn't known: its satellite is one of GLONASS without a channel, so it has no phase and no shift.
abbrev pub lacks_channel : GatherSetup → HeardCell → Bool
lacks_channel s x = not (is_some (hertz_in s.plan.channels x.satellite x.signal))

-- The number of kept cells of GLONASS without a channel.
abbrev pub kept_without : GatherSetup → List HeardCell → ℕ
kept_without s xs = count_by (lacks_channel s) (kept Glonass xs)

-- The number of cells of all outcomes.
abbrev pub cells_counted : CellCounts → ℕ
cells_counted n = n.kept + n.skipped + n.repeated + n.crowded

-- The outcomes of a message's cells after the earlier cells: the kept ones, of these those without a channel, and the
-- unplanned, repeated and surplus ones.
abbrev pub counts_of : GatherSetup → List HeardCell → List HeardCell → CellCounts
counts_of s before cells =
    let planned = filter (is_planned s) cells in
    let all = kept_of_all (before ++ planned) in
    let newly = length all - length (kept_of_all before) in
    record {
      kept = newly;
      without_channel = kept_without s (before ++ planned) - kept_without s before;
      skipped = count_by (λ x. not (is_planned s x)) cells;
      repeated = count_by (is_among all) planned - newly;
      crowded = count_by (λ x. not (is_among all x)) planned;
    }

-- The same with n more cells of an unlisted satellite or signal.
abbrev pub with_skipped : ℕ → CellCounts → CellCounts
with_skipped n c = record c { skipped = c.skipped + n }

-- The outcomes of the cells of a message after these messages.
abbrev pub counts_of_message : GatherSetup → List Timed → Heard → CellCounts
counts_of_message s xs m =
    option_map_or (λ u. with_skipped m.unlisted (counts_of s (offered s u xs) m.cells)) (taken_at s xs m) no_counts
