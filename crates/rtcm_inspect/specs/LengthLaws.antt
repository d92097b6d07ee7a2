-- The lengths that `options` prints are read back.
use Rattle.std.specs.Prelude.{◌≡◌, ◌<◌, ◌^◌, ℕ, List, Option, Some, IfSome}
use Rattle.std.specs.Option.{option_map_or}
use Rattle.rtcm_msg.specs.Station.{InRange}
use Rattle.rtcm_msg.specs.declared.station.StationParts.{StationParts}
use Rattle.rtcm_scan.specs.Frames.{Framed}
use Rattle.rtcm_inspect.specs.FirstMessages.{first_station}
use Rattle.rtcm_inspect.specs.Fitting.{height_text, position_text}
use Rattle.line_texts.specs.Lengths.{length_below, position_of}

-- of every station message in range
abbrev pub ArePositionsRead : Type 0
ArePositionsRead = (s : StationParts) → InRange s → position_of (position_text s) ≡ Some (s.x, s.y, s.z)

-- an antenna height of 16 bits (DF028), or 0 without one
abbrev pub AreHeightsRead : Type 0
AreHeightsRead = (h : Option ℕ) → IfSome h (λ n. n < 2 ^ 16)
    → length_below (2 ^ 16) (height_text h) ≡ Some (option_map_or (λ n. n) h 0)

-- the first station message of a stream is in range
abbrev pub IsFirstInRange : Type 0
IsFirstInRange = (wanted : Option ℕ) (fs : List Framed) → IfSome (first_station wanted fs) InRange
