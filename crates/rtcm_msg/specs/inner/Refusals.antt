-- The parts that make a value, and the first fault of others.
use Rattle.std.specs.Prelude.{ℕ, Bool, List, [], ◌∷◌, length, ◌^◌, ◌==◌, ◌&&◌, nat_lt, nat_le, if◌then◌else◌, not, Option, Some, None}
use Rattle.std.specs.Prelude.{Result, Ok, Err, count_ones, option_map}
use Rattle.std.specs.Option.{option_or}
use Rattle.gnss_system.specs.declared.system.System.{System}
use Rattle.rtcm_msg.specs.declared.fault.Field.{Field}
use Rattle.rtcm_msg.specs.declared.header.MsmHeader.{MsmHeader}
use Rattle.rtcm_msg.specs.declared.station.StationParts.{StationParts}
use Rattle.rtcm_msg.specs.declared.fault.ValueFault.{ValueFault}
use Rattle.rtcm_msg.specs.inner.Ranges.{fits_int}
use Rattle.rtcm_msg.specs.Msm.{MasksValue, pair_count, is_time, most_pairs}
use Rattle.rtcm_msg.specs.declared.fault.ValueFault.TheVariants as faults
use Rattle.rtcm_msg.specs.declared.fault.Field.TheVariants as fields

abbrev pub masks_of : ℕ → ℕ → ℕ → Result MasksValue ValueFault
masks_of satellites signals cells =
    if nat_lt most_pairs (pair_count satellites signals) then Err faults.TooManyCells
    else (if nat_le (2 ^ pair_count satellites signals) cells then Err (faults.OutOfRange fields.Cells)
    else Ok (record { satellites = satellites; signals = signals; cells = cells }))

-- The first field that is given with true.
abbrev pub first_of : List (Bool × Field) → Option Field
first_of [] = None
first_of (x ∷ xs) = if x.0 then Some x.1 else first_of xs

-- The first field of a station message, in the order of the layout, that is out of range.
abbrev pub station_fault : StationParts → Option Field
station_fault s =
    first_of
    ((nat_le (2 ^ 12) s.station, fields.Station) ∷ (nat_le (2 ^ 6) s.realization, fields.Realization)
    ∷ (not (fits_int 38 s.x), fields.X) ∷ (not (fits_int 38 s.y), fields.Y)
    ∷ (nat_le (2 ^ 2) s.quarter, fields.Quarter) ∷ (not (fits_int 38 s.z), fields.Z) ∷ [])

abbrev pub station_made : Option Field → StationParts → Result StationParts ValueFault
station_made None s = Ok s
station_made (Some f) s = Err (faults.OutOfRange f)

-- The first field of a header other than the epoch time, in the order of the layout, that is out of range.
abbrev pub header_fault : MsmHeader → Option Field
header_fault h =
    first_of
    ((nat_le (2 ^ 12) h.station, fields.Station) ∷ (nat_le (2 ^ 3) h.iods, fields.Iods)
    ∷ (nat_le (2 ^ 2) h.steering, fields.Steering) ∷ (nat_le (2 ^ 2) h.clock, fields.Clock)
    ∷ (nat_le (2 ^ 3) h.interval, fields.Interval) ∷ [])

-- The fault for which parts are refused; the last two arguments are the first bad field of satellites and of cells.
abbrev pub msm_refusal : System → MsmHeader → MasksValue → ℕ → ℕ → Option Field → Option Field → Option ValueFault
msm_refusal system h s satellites cells satellite_fault cell_fault =
    if not (is_time system h.time) then Some faults.BadTime
    else (if (satellites == count_ones s.satellites) && (cells == count_ones s.cells)
    then option_map faults.OutOfRange (option_or (option_or (header_fault h) satellite_fault) cell_fault)
    else Some faults.CellCount)

-- The fault for which data of satellites and cells are refused; the functions give the first bad field of each.
abbrev pub data_refusal : {S C : Type 0} → System → MsmHeader → MasksValue → (List S → Option Field) → List S
    → (List C → Option Field) → List C → Option ValueFault
data_refusal system h s satellite_fault satellites cell_fault cells =
    msm_refusal system h s (length satellites) (length cells) (satellite_fault satellites) (cell_fault cells)
