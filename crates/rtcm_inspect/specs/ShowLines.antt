-- The lines of `show`.
use Rattle.std.specs.Prelude.{ℕ, Bool, true, false, pos, List, [], ◌∷◌, Option, Some, None, Result, Ok, Err, is_some, count_ones, codes}
use Rattle.std.specs.Prelude.{decimal, if◌then◌else◌}
use Rattle.std.specs.List.{flat_map}
use Rattle.rtcm_bits.specs.Bits.{bit}
use Rattle.rtcm_scan.specs.Frames.{Framed}
use Rattle.rtcm_msg.specs.declared.fault.MsgFault.{MsgFault}
use Rattle.rtcm_msg.specs.declared.fault.MsgFault.TheVariants.{Short, TooManyCells, BadTime}
use Rattle.rtcm_msg.specs.declared.message.Message.{Message}
use Rattle.rtcm_msg.specs.Messages.{by_message}
use Rattle.rtcm_msg.specs.declared.station.StationParts.{StationParts}
use Rattle.rtcm_msg.specs.Msm.{MsmValue, time_of_week}
use Rattle.rtcm_msg.specs.Decoding.{message_at, message_with}
use Rattle.rtcm_msg.specs.Numbers.{default_set, message_number}
use Rattle.rtcm_msg.specs.Equipment.{EquipmentValue, equipment_in}
use Rattle.rtcm_msg.specs.declared.fault.EquipmentFault.{EquipmentFault}
use Rattle.rtcm_inspect.specs.EquipmentLines.{equipment_line}
use Rattle.rtcm_inspect.specs.FrameLines.{number_word}
use Rattle.line_texts.specs.Lines.{line}
use Rattle.line_texts.specs.Metres.{metres}

-- the antenna height (DF028), which message 1006 has
abbrev pub height_words : Option ℕ → List (List ℕ)
height_words None = []
height_words (Some h) = metres (pos h) ∷ []

-- a station message: offset, number, station (DF003), X, Y and Z (DF025 to DF027), and the height (DF028) if it has one
unfoldable pub station_line : ℕ → StationParts → List ℕ
station_line offset s =
    line
    (decimal offset ∷ decimal (if is_some s.height then 1006 else 1005) ∷ decimal s.station ∷ metres s.x
    ∷ metres s.y ∷ metres s.z ∷ height_words s.height)

-- an MSM: offset, number, station (DF003), time (ms of the week), DF393, and the numbers of satellites, signals and
-- cells
unfoldable pub msm_line : ℕ → ℕ → MsmValue → List ℕ
msm_line offset number m =
    line
    (decimal offset ∷ decimal number ∷ decimal m.header.station
    ∷ decimal (time_of_week m.system m.header.time)
    ∷ decimal (bit m.header.more)
    ∷ decimal (count_ones m.sets.satellites) ∷ decimal (count_ones m.sets.signals) ∷ decimal (count_ones m.sets.cells)
    ∷ [])

abbrev pub fault_words : MsgFault → List (List ℕ)
fault_words (Short bits) = codes "Short" ∷ decimal bits ∷ []
fault_words TooManyCells = codes "TooManyCells" ∷ []
fault_words BadTime = codes "BadTime" ∷ []

-- a refused message: offset, number, and the fault
unfoldable pub fault_line : ℕ → List ℕ → MsgFault → List ℕ
fault_line offset message fault = line (decimal offset ∷ number_word message ∷ fault_words fault)

-- a message that isn't read has no line
abbrev pub read_line : Framed → Result Message MsgFault → List ℕ
read_line f (Ok v) =
    by_message (station_line f.offset) (λ form m. msm_line f.offset (message_number form m.system) m) (λ n set. []) v
read_line f (Err fault) = fault_line f.offset f.message fault

-- a message as it is read: of all messages, or of those that `convert` reads by default
abbrev pub read_for : (all : Bool) → List ℕ → Result Message MsgFault
read_for true bytes = message_at bytes
read_for false bytes = message_with default_set bytes

-- the line of a message as it is read
unfoldable pub message_line : (all : Bool) → Framed → List ℕ
message_line all f = read_line f (read_for all f.message)

-- of all messages, an antenna and a receiver have a line too
abbrev pub line_with : Framed → Option (Result EquipmentValue EquipmentFault) → List ℕ
line_with f None = message_line true f
line_with f (Some read) = equipment_line f read

-- the line of a frame
abbrev pub show_line : (all : Bool) → Framed → List ℕ
show_line false f = message_line false f
show_line true f = line_with f (equipment_in f.message)

-- the lines of frames, one after the other
abbrev pub show_lines : (all : Bool) → List Framed → List ℕ
show_lines all fs = flat_map (show_line all) fs
