-- The number of cells with a value in messages, by signal.
use Rattle.std.specs.Prelude.{ℕ, ◌==◌, ◌&&◌, ◌||◌, Bool, true, false, List, [], length, filter, Option, is_some}
use Rattle.std.specs.Prelude.{if◌then◌else◌, Some, replicate}
use Rattle.std.specs.Option.{option_map_or}
use Rattle.gnss_system.specs.declared.system.System.{System}
use Rattle.gnss_system.specs.Signals.{SignalAt}
use Rattle.obs_epoch.specs.Heard.{Heard}
use Rattle.gnss_obs.specs.Channels.{ChannelsValue, slot_count}
use Rattle.gnss_obs.specs.HeardCells.{HeardCell}
use Rattle.gnss_system.specs.Systems.{is_system}

-- ---- the cells that are counted

-- A channel for each slot: a cell with a phase range or a rate is counted, regardless of its carrier.
abbrev pub every_channel : ChannelsValue
every_channel = replicate slot_count (Some 7)

-- The cell has a pseudorange, a phase, a Doppler shift or a strength.
abbrev pub brings_value : HeardCell → Bool
brings_value x = is_some x.c || is_some x.l || is_some x.d || is_some x.s

-- A message of the given station, or of any station if none is given.
abbrev pub is_of_station : Option ℕ → Heard → Bool
is_of_station wanted m = option_map_or (λ n. option_map_or (λ from. from == n) m.station false) wanted true

-- The cells of a message that are of listed satellites and signals and have a value.
abbrev pub valued : Option ℕ → Heard → List HeardCell
valued wanted m = if is_of_station wanted m then filter brings_value m.cells else []

-- ---- the signals of the cells

abbrev pub is_of_signal : SignalAt → HeardCell → Bool
is_of_signal g x = is_system g.system x.signal.system && (x.signal.index == g.index)

-- The number of these cells that are of a signal.
abbrev pub count_of : SignalAt → List HeardCell → ℕ
count_of g cells = length (filter (is_of_signal g) cells)

abbrev pub signal_in : System → ℕ → SignalAt
signal_in system i = record { system = system; index = i }
