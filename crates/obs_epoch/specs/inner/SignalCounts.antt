-- The number of cells with a value in messages, by signal.
use Rattle.std.specs.Prelude.{◌≡◌, ℕ, ◌+◌, ◌-◌, ◌<◌, ◌≤◌, ◌^◌, Bool, min, nat_lt, List}
use Rattle.std.specs.Prelude.{◌++◌, length, get_or, set, Option}
use Rattle.std.specs.List.{list_any}
use Rattle.gnss_system.specs.declared.system.System.{System}
use Rattle.gnss_system.specs.Systems.{systems}
use Rattle.gnss_system.specs.SystemValues.{value_of, with_value_of}
use Rattle.gnss_system.specs.declared.by_system.BySystem.{BySystem}
use Rattle.gnss_system.specs.Signals.{SignalAt, table, most_signals}
use Rattle.rtcm_msg.specs.Msm.{most_pairs}
use Rattle.obs_epoch.specs.Heard.{Heard}
use Rattle.gnss_obs.specs.HeardCells.{HeardCell}
use Rattle.obs_epoch.specs.SignalCounts.{valued, count_of, signal_in}

-- ---- the counts by signal: the number of counted cells of each signal, by its index in its system's table

abbrev pub SignalCountsValue : Type 0
SignalCountsValue = BySystem (List ℕ)

abbrev pub signal_counts : System → SignalCountsValue → List ℕ
signal_counts s c = value_of s c

abbrev pub counted : SignalCountsValue → System → ℕ → ℕ
counted c system i = get_or (signal_counts system c) i 0

-- A cell of any signal was counted.
abbrev pub has_any : SignalCountsValue → Bool
has_any c = list_any (λ s. list_any (λ n. nat_lt 0 n) (signal_counts s c)) systems

-- ---- more cells of a signal

-- A count saturates at the largest 64-bit number, which no stream comes near.
abbrev pub up_by : ℕ → List ℕ → ℕ → List ℕ
up_by n counts i = set counts i (min (get_or counts i 0 + n) (2 ^ 64 - 1))

abbrev pub counted_more_in : System → ℕ → ℕ → SignalCountsValue → SignalCountsValue
counted_more_in s i n c = with_value_of s c (up_by n (signal_counts s c) i)

abbrev pub counted_more : SignalAt → ℕ → SignalCountsValue → SignalCountsValue
counted_more g n c = counted_more_in g.system g.index n c

-- ---- all cells so far

-- The counts are those of these cells.
pub record AreSignalCounts (c : SignalCountsValue) (cells : List HeardCell) : Type 0 where
  pub size : (system : System) → length (signal_counts system c) ≡ most_signals
  pub each : (system : System) (i : ℕ) → i < length (table system)
      → counted c system i ≡ count_of (signal_in system i) cells
  pub past : (system : System) (i : ℕ) → length (table system) ≤ i → counted c system i ≡ 0

-- From c to c' the cells of a message that have a value were counted.
pub record CountsMessage (c c' : SignalCountsValue) (wanted : Option ℕ) (m : Heard) : Type 0 where
  pub counts : (cells : List HeardCell) → length cells < 2 ^ 62 → AreSignalCounts c cells
      → AreSignalCounts c' (cells ++ valued wanted m)
  pub few : length (valued wanted m) ≤ most_pairs
