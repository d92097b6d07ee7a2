-- Bounds of the values of a message.
use Rattle.std.specs.Prelude.{ℤ, pos, neg_ℤ, ◌-◌, ◌^◌, ◌<◌, ◌≤◌, ◌≤ℤ◌, IfSome, unsigned_abs}
use Rattle.std.specs.List.{AllByRecursion}
use Rattle.rtcm_msg.specs.declared.message.Message.{Message}
use Rattle.rtcm_msg.specs.declared.entry.Entry.{Entry}
use Rattle.rtcm_msg.specs.declared.station.StationParts.{StationParts}
use Rattle.rtcm_msg.specs.Station.{InRange}
use Rattle.rtcm_msg.specs.Entries.{entries}

-- Bounds of the values of a cell. A carrier to noise ratio of 0 is not computed, so it is absent.
pub record IsMeasured (e : Entry) : Type 0 where
  pub range : IfSome e.range (λ r. unsigned_abs r ≤ 2 ^ 39)
  pub phase : IfSome e.phase (λ r. unsigned_abs r ≤ 2 ^ 39)
  pub rate : IfSome e.rate (λ v. unsigned_abs v ≤ 10 ^ 8)
  pub strength : IfSome e.strength (λ s. (0 < s) × (s < 2 ^ 10))

-- These bounds hold for each cell of every message, regardless of its bits.
abbrev pub EntriesAreMeasured : Type 0
EntriesAreMeasured = (m : Message) → AllByRecursion IsMeasured (entries m)

-- A coordinate of 38 bits, in 0.0001 m.
abbrev pub IsCoordinate : ℤ → Type 0
IsCoordinate z = (neg_ℤ (pos (2 ^ 37)) ≤ℤ z) × (z ≤ℤ pos (2 ^ 37 - 1))

-- The point of a station message, and the height of the antenna.
pub record IsPoint (p : StationParts) : Type 0 where
  pub x : IsCoordinate p.x
  pub y : IsCoordinate p.y
  pub z : IsCoordinate p.z
  pub height : IfSome p.height (λ h. h < 2 ^ 16)

abbrev pub PointsAreInRange : Type 0
PointsAreInRange = (p : StationParts) → InRange p → IsPoint p
