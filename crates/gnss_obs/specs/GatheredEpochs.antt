-- Bounds of the values in the epochs of decoded messages.
use Rattle.std.specs.Prelude.{◌≡◌, ℕ, ℤ, pos, neg_ℤ, ◌-◌, ◌*◌, ◌^◌, ◌<◌, ◌≤◌, ◌≤ℤ◌, ◌==◌, ◌&&◌, Bool, true, List, []}
use Rattle.std.specs.Prelude.{◌∷◌, IfSome, None, is_some, ⊤}
use Rattle.std.specs.List.{AllByRecursion, IsDistinct}
use Rattle.gnss_system.specs.declared.system.System.{System}
use Rattle.gnss_system.specs.Satellites.{satellites}
use Rattle.gnss_obs.specs.declared.cell.Cell.{Cell}
use Rattle.gnss_obs.specs.declared.cell.StationValues.{StationValues}
use Rattle.gnss_obs.specs.Weeks.{week, weeks}
use Rattle.gnss_obs.specs.Values.{PlanValue, Closed, HasTwelveDigits, cells_of, planned_of}
use Rattle.gnss_obs.specs.Plans.{place_in}

-- A coordinate is at least the negative of this number, and less than it.
abbrev pub coordinate_bound : ℕ
coordinate_bound = 2 ^ 37

-- A coordinate of 38 bits (DF025 to DF027), in 0.0001 m.
abbrev pub IsCoordinate : ℤ → Type 0
IsCoordinate z = (neg_ℤ (pos coordinate_bound) ≤ℤ z) × (z ≤ℤ pos (coordinate_bound - 1))

-- A strength in thousandths of a dB-Hz.
abbrev pub IsStrength : ℤ → Type 0
IsStrength s = (pos 1 ≤ℤ s) × (s ≤ℤ pos 99_999)

-- A kept cell of a system with these planned signals, with bounded values.
pub record IsGathered (system : System) (signals : List ℕ) (x : Cell) : Type 0 where
  pub number : (1 ≤ x.satellite.id) × (x.satellite.id ≤ satellites system)
  pub planned : is_some (place_in x.signal signals) ≡ true
  pub c : IfSome x.c HasTwelveDigits
  pub l : IfSome x.l HasTwelveDigits
  pub d : IfSome x.d HasTwelveDigits
  pub s : IfSome x.s IsStrength
  pub lli : x.lli < 4
  pub without_phase : x.l ≡ None → x.lli ≡ 0

-- Of the same satellite and signal.
abbrev pub same_place : Cell → Cell → Bool
same_place a b = (a.satellite.id == b.satellite.id) && (a.signal.index == b.signal.index)

-- Kept cells of a system, no two of the same satellite and signal.
pub record AreGathered (system : System) (signals : List ℕ) (cells : List Cell) : Type 0 where
  pub each : AllByRecursion (IsGathered system signals) cells
  pub apart : IsDistinct same_place cells

-- Station values that messages 1005 and 1006 can contain.
pub record AreStationValues (v : StationValues) : Type 0 where
  pub x : IsCoordinate v.x
  pub y : IsCoordinate v.y
  pub z : IsCoordinate v.z
  pub height : v.height < 2 ^ 16

-- A closed epoch of a plan.
pub record IsGatheredEpoch (plan : PlanValue) (e : Closed) : Type 0 where
  pub time : e.epoch.time < weeks * week
  pub cells : (system : System) → AreGathered system (planned_of system plan) (cells_of system e.epoch)
  pub values : AreStationValues e.values

-- Each time is less than all after it.
abbrev pub TimesRise : List Closed → Type 0
TimesRise [] = ⊤
TimesRise (e ∷ es) = AllByRecursion (λ f. e.epoch.time < f.epoch.time) es × TimesRise es

pub record AreGatheredEpochs (plan : PlanValue) (es : List Closed) : Type 0 where
  pub each : AllByRecursion (IsGatheredEpoch plan) es
  pub rise : TimesRise es
