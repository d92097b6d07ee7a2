-- The lines that are printed of a table, by an index in each system.
use Rattle.std.specs.Prelude.{◌≡◌, ℕ, ◌+◌, ◌*◌, ◌/◌, ◌%◌, ◌^◌, ◌<◌, ◌≤◌, List, length, flat_map, get_or}
use Rattle.gnss_obs.specs.Values.{PlanValue}
use Rattle.gnss_system.specs.declared.system.System.{System}
use Rattle.gnss_system.specs.Satellites.{satellites}
use Rattle.gnss_system.specs.Signals.{most_signals}
use Rattle.gnss_system.specs.Systems.{systems}
use Rattle.rinex_file.specs.FileValues.{planned_in}
use Rattle.rinex_inspect.specs.QualityOutput.{Contents, period_line, satellite_line, signal_line, texts_below}
use Rattle.rinex_inspect.specs.Tallies.{no_tally, total}
use Rattle.rinex_inspect.specs.declared.quality_lines.Lines.{Lines}
use Rattle.rinex_inspect.specs.declared.quality_lines.Lines.TheVariants.{Signals, Satellites, Period}
use Rattle.rinex_inspect.specs.declared.table.Table.{Table}
use Rattle.rinex_inspect.specs.declared.tally.Tally.{Tally}
use Rattle.rinex_inspect.specs.inner.Tables.{HasPlaces, record_at, records_in, tally_at}

-- the number of lines of a system at most
abbrev pub line_count : Lines → PlanValue → System → ℕ
line_count Signals plan s = planned_in plan s
line_count Satellites plan s = satellites s
line_count (Period start) plan s = satellites s * planned_in plan s

-- the line at an index, or an empty text
abbrev pub line_at : Lines → PlanValue → Contents → System → ℕ → List ℕ
line_at Signals plan has s i = signal_line plan has s i
line_at Satellites plan has s i = satellite_line plan has s i
line_at (Period start) plan has s i = period_line plan start has s (i / planned_in plan s) (i % planned_in plan s)

abbrev pub system_lines : Lines → PlanValue → Contents → System → List ℕ
system_lines lines plan has s = texts_below (line_at lines plan has s) (line_count lines plan s)

abbrev pub all_lines : Lines → PlanValue → Contents → List ℕ
all_lines lines plan has = flat_map (system_lines lines plan has) systems

-- ---- numbers that fit 32 bits, and strengths of which twice the sum fits 64 bits

pub record IsSmallTally (t : Tally) : Type 0 where
  pub c : t.c < 2 ^ 32
  pub l : t.l < 2 ^ 32
  pub d : t.d < 2 ^ 32
  pub s : t.s < 2 ^ 32
  pub lost : t.lost < 2 ^ 32
  pub half : t.half < 2 ^ 32
  pub strength : t.strength < 2 ^ 56

-- a record with tallies of such numbers
pub record AreSmallTallies (ts : List Tally) : Type 0 where
  pub size : length ts ≡ most_signals
  pub each : (k : ℕ) → k < most_signals → IsSmallTally (get_or ts k no_tally)

-- a table of a file with this plan
pub record IsPrintable (t : Table) (plan : PlanValue) : Type 0 where
  pub places : HasPlaces t
  pub each : (s : System) (i : ℕ) → i < satellites s → AreSmallTallies (record_at t s i).signals
  pub totals : (s : System) (k : ℕ) → k < most_signals → IsSmallTally (total (tally_at (records_in t s) k) (satellites s))
  pub few : (s : System) → planned_in plan s ≤ most_signals

-- the most bytes of the words of a tally, each after a blank
abbrev pub longest_tally : ℕ
longest_tally = 4 * 23 + 2 * 26 + 5 + 25
