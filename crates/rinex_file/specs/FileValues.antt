-- The values that a file can have: those that its lines have room for, in the order of the file.
use Rattle.std.specs.Prelude.{◌≡◌, ◌≢◌, ⊤, ℕ, ℤ, pos, neg_ℤ, ◌+◌, ◌*◌, ◌<◌, ◌≤◌, ◌≤ℤ◌, ◌||◌, Bool, true, List, []}
use Rattle.std.specs.Prelude.{◌∷◌, length, All, Any, map, Option, Some, None, is_some, nat_eq, nat_lt, if◌then◌else◌}
use Rattle.std.specs.Prelude.{IfSome, IsTrue}
use Rattle.std.specs.List.{IsDistinct, list_all, sum_by}
use Rattle.std.specs.List.Sorted.{IsStrictlyIncreasing}
use Rattle.gnss_system.specs.declared.system.System.{System}
use Rattle.gnss_system.specs.declared.system.System.TheVariants.{Glonass}
use Rattle.gnss_system.specs.Systems.{systems, index_of}
use Rattle.gnss_system.specs.Satellites.{satellites}
use Rattle.gnss_system.specs.Signals.{table}
use Rattle.gnss_obs.specs.declared.cell.StationValues.{StationValues}
use Rattle.gnss_obs.specs.GatheredEpochs.{AreStationValues}
use Rattle.gnss_obs.specs.Channels.{AreChannels, no_channels}
use Rattle.gnss_obs.specs.Intervals.{IsInterval}
use Rattle.gnss_obs.specs.Values.{PlanValue, planned_of}
use Rattle.gnss_obs.specs.Weeks.{week, weeks}
use Rattle.rinex_file.specs.declared.header.fields.HeaderField.{HeaderField}
use Rattle.rinex_file.specs.Blanks.{trimmed}
use Rattle.rinex_file.specs.Texts.{HeaderLists, text_count, width_of, text_of, is_printable}
use Rattle.rinex_file.specs.Value.{SignalValues, Row, SatelliteRow, Stamped, FileValue}

-- ---- the header

-- printable, within its columns, and no trailing blank
pub record IsText (width : ℕ) (text : List ℕ) : Type 0 where
  pub short : length text ≤ width
  pub printable : list_all is_printable text ≡ true
  pub cut : trimmed text ≡ text

-- a valid text for each field
pub record AreTexts (x : HeaderLists) : Type 0 where
  pub count : length x ≡ text_count
  pub each : (field : HeaderField) → IsText (width_of field) (text_of x field)

-- listed signals, none of them twice, and at least one in all; channels only if a signal of GLONASS is planned
pub record IsPlan (p : PlanValue) : Type 0 where
  pub listed : (system : System) → All (λ i. i < length (table system)) (planned_of system p)
  pub apart : (system : System) → IsDistinct nat_eq (planned_of system p)
  pub some : (system : System) × (0 < length (planned_of system p))
  pub channels : AreChannels p.channels
  pub unplanned : planned_of Glonass p ≡ [] → p.channels ≡ no_channels

-- z is at least `low` and at most `high`
abbrev pub IsFrom : ℤ → ℤ → ℤ → Type 0
IsFrom low high z = (low ≤ℤ z) × (z ≤ℤ high)

abbrev pub IsTime : ℕ → Type 0
IsTime t = t < weeks * week

-- ---- epochs

-- a signal has at least one value
abbrev pub has_some_value : SignalValues → Bool
has_some_value e = is_some e.c || is_some e.l || is_some e.d || is_some e.s

-- a value that fits 14 columns
abbrev pub FitsColumns : ℤ → Type 0
FitsColumns v = IsFrom (neg_ℤ (pos 999_999_999_999)) (pos 9_999_999_999_999) v

-- values that fit their columns
pub record HaveRoom (e : SignalValues) : Type 0 where
  pub c : IfSome e.c FitsColumns
  pub l : IfSome e.l FitsColumns
  pub d : IfSome e.d FitsColumns
  pub s : IfSome e.s FitsColumns
  pub lli : e.lli < 4

-- values that a file can have: a strength of 0.001 to 99.999 dB-Hz, and no loss-of-lock indicator without a phase
pub record AreSignalValues (e : SignalValues) : Type 0 where
  pub c : IfSome e.c FitsColumns
  pub l : IfSome e.l FitsColumns
  pub d : IfSome e.d FitsColumns
  pub s : IfSome e.s (IsFrom (pos 1) (pos 99_999))
  pub lli : e.lli < 4
  pub without_phase : e.l ≡ None → e.lli ≡ 0

-- a satellite of a system with `most` satellites and `signals` planned signals
pub record IsRow (most signals : ℕ) (r : Row) : Type 0 where
  pub satellite : (1 ≤ r.satellite) × (r.satellite ≤ most)
  pub signal_values : All AreSignalValues r.signal_values
  pub whole : length r.signal_values ≡ signals
  pub some : Any (λ e. IsTrue (has_some_value e)) r.signal_values

-- the number of planned signals of each system
abbrev pub planned_in : PlanValue → System → ℕ
planned_in p s = length (planned_of s p)

-- a satellite's rank among all: by system, and then by its number, which has two digits
abbrev pub rank_of : SatelliteRow → ℕ
rank_of s = 100 * index_of s.system + s.row.satellite

-- a row of a system of which some signal is planned, if these numbers of signals are planned
pub record IsSatelliteRow (signals : System → ℕ) (s : SatelliteRow) : Type 0 where
  pub planned : 0 < signals s.system
  pub row : IsRow (satellites s.system) (signals s.system) s.row

-- satellites in ascending order
pub record AreSatelliteRows (signals : System → ℕ) (rows : List SatelliteRow) : Type 0 where
  pub each : All (IsSatelliteRow signals) rows
  pub rise : IsStrictlyIncreasing (map rank_of rows)

-- the number of satellites of the systems of which some signal is planned
abbrev pub most_rows : (System → ℕ) → ℕ
most_rows signals = sum_by (λ s. if nat_lt 0 (signals s) then satellites s else 0) systems

-- an epoch of at least one satellite
pub record IsStamped (signals : System → ℕ) (e : Stamped) : Type 0 where
  pub time : IsTime e.time
  pub rows : AreSatelliteRows signals e.rows
  pub some : 0 < length e.rows

abbrev pub time_stamped : Stamped → ℕ
time_stamped e = e.time

-- ---- station values that change

-- the station values that hold from an epoch on, if these hold before it
abbrev pub changed_by : StationValues → Option StationValues → StationValues
changed_by v None = v
changed_by v (Some w) = w

-- no change of these station values, or one to others
abbrev pub IsChange : StationValues → Option StationValues → Type 0
IsChange v None = ⊤
IsChange v (Some w) = AreStationValues w × (w ≢ v)

-- epochs each of which leaves the station values before it as they are, or changes them
abbrev pub AreChanges : StationValues → List Stamped → Type 0
AreChanges v [] = ⊤
AreChanges v (e ∷ es) = IsChange v e.change × AreChanges (changed_by v e.change) es

-- the station values after these epochs
abbrev pub values_following : StationValues → List Stamped → StationValues
values_following v [] = v
values_following v (e ∷ es) = values_following (changed_by v e.change) es

-- the first epoch has the station values of the header
abbrev pub IsFirstSame : List Stamped → Type 0
IsFirstSame [] = ⊤
IsFirstSame (e ∷ es) = e.change ≡ None

-- ---- the whole

pub record IsFileValue (v : FileValue) : Type 0 where
  pub texts : AreTexts v.texts
  pub interval : IfSome v.interval IsInterval
  pub plan : IsPlan v.plan
  pub values : AreStationValues v.values
  pub some : 0 < length v.epochs
  pub epochs : All (IsStamped (planned_in v.plan)) v.epochs
  pub rising : IsStrictlyIncreasing (map time_stamped v.epochs)
  pub first : IsFirstSame v.epochs
  pub changes : AreChanges v.values v.epochs
