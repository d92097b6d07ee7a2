-- Lines that a file may begin with: a part of a header; or a header, whole epochs, and a part of an event or of an
-- epoch.
use Rattle.std.specs.Prelude.{◌≡◌, ◌≢◌, ◌⊎◌, ℕ, ◌<◌, ◌≤◌, List, [], ◌∷◌, ◌++◌, length, take, map, flat_map, All, Some}
use Rattle.std.specs.Prelude.{None, IfSome, ⊤}
use Rattle.std.specs.List.Sorted.{IsStrictlyIncreasing}
use Rattle.gnss_obs.specs.declared.cell.StationValues.{StationValues}
use Rattle.gnss_obs.specs.Dates.{civil_of}
use Rattle.rinex_file.specs.Value.{Stamped}
use Rattle.rinex_file.specs.FileValues.{IsTime, IsStamped, AreSatelliteRows, IsChange, AreChanges, IsFirstSame}
use Rattle.rinex_file.specs.FileValues.{values_following, time_stamped, most_rows, planned_in, AreTexts, IsPlan}
use Rattle.gnss_obs.specs.GatheredEpochs.{AreStationValues}
use Rattle.rinex_file.specs.Header.{header_lines, Shown}
use Rattle.rinex_file.specs.Lines.{epoch_line, satellite_line}
use Rattle.rinex_file.specs.File.{stamped_lines, change_lines, event_lines}
use Rattle.gnss_obs.specs.Intervals.{IsInterval}

pub record IsShown (h : Shown) : Type 0 where
  pub texts : AreTexts h.texts
  pub interval : IfSome h.interval IsInterval
  pub plan : IsPlan h.plan
  pub values : AreStationValues h.values
  pub first : IsTime h.first

-- the first epoch, if there is one, is at this time
abbrev pub StartsAt : ℕ → List Stamped → Type 0
StartsAt first [] = ⊤
StartsAt first (e ∷ es) = first ≡ e.time

-- a header, and whole epochs that may follow it
pub record AreWhole (h : Shown) (es : List Stamped) : Type 0 where
  pub shown : IsShown h
  pub epochs : All (IsStamped (planned_in h.plan)) es
  pub rising : IsStrictlyIncreasing (map time_stamped es)
  pub starts : StartsAt h.first es
  pub first : IsFirstSame es
  pub changes : AreChanges h.values es

-- an epoch that may follow these, with some of its satellites
pub record IsPartOfNext (h : Shown) (es : List Stamped) (e : Stamped) : Type 0 where
  pub time : IsTime e.time
  pub later : IsStrictlyIncreasing (map time_stamped es ++ e.time ∷ [])
  pub rows : AreSatelliteRows (planned_in h.plan) e.rows
  pub first : es ≡ [] → h.first ≡ e.time
  pub change : IsChange (values_following h.values es) e.change
  pub same : es ≡ [] → e.change ≡ None

abbrev pub whole_lines : Shown → List Stamped → List (List ℕ)
whole_lines h es = header_lines h ++ flat_map stamped_lines es

-- the lines of an epoch of n satellites, up to those that it has
abbrev pub part_lines : Stamped → ℕ → List (List ℕ)
part_lines e n = change_lines e.change ++ (epoch_line (civil_of e.time) n ∷ map satellite_line e.rows)

-- a header's first lines, but not all
pub record IsHeaderBegun (lines : List (List ℕ)) : Type 0 where
  pub h : Shown
  pub left : List (List ℕ)
  pub is : IsShown h
  pub some : 0 < length left
  pub are : header_lines h ≡ lines ++ left

-- a header and whole epochs
pub record IsBetweenEpochs (lines : List (List ℕ)) : Type 0 where
  pub h : Shown
  pub es : List Stamped
  pub whole : AreWhole h es
  pub are : lines ≡ whole_lines h es

-- a header, whole epochs, and the first k lines of an event
pub record IsEventBegun (k : ℕ) (lines : List (List ℕ)) : Type 0 where
  pub h : Shown
  pub es : List Stamped
  pub values : StationValues
  pub whole : AreWhole h es
  pub some : es ≢ []
  pub change : IsChange (values_following h.values es) (Some values)
  pub are : lines ≡ whole_lines h es ++ take k (event_lines values)

-- a header, whole epochs, and the lines of an epoch of n satellites, with fewer than n of them
pub record IsEpochBegun (lines : List (List ℕ)) : Type 0 where
  pub h : Shown
  pub es : List Stamped
  pub e : Stamped
  pub n : ℕ
  pub whole : AreWhole h es
  pub next : IsPartOfNext h es e
  pub fewer : length e.rows < n
  pub room : n ≤ most_rows (planned_in h.plan)
  pub are : lines ≡ whole_lines h es ++ part_lines e n

abbrev pub AreBegun : List (List ℕ) → Type 0
AreBegun lines = IsHeaderBegun lines ⊎ IsBetweenEpochs lines ⊎ IsEventBegun 1 lines ⊎ IsEventBegun 2 lines
    ⊎ IsEventBegun 3 lines ⊎ IsEpochBegun lines
