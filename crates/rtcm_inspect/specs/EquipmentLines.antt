-- The lines of `show --all` for messages 1007, 1008 and 1033.
use Rattle.std.specs.Prelude.{ℕ, ◌+◌, ◌/◌, ◌%◌, ◌==◌, ◌||◌, nat_le, nat_lt, if◌then◌else◌, Bool, List, [], ◌∷◌, ◌++◌, Result}
use Rattle.std.specs.Prelude.{Ok, Err, codes, decimal, map}
use Rattle.std.specs.List.{flat_map}
use Rattle.rtcm_scan.specs.Frames.{Framed}
use Rattle.rtcm_msg.specs.Equipment.{EquipmentValue}
use Rattle.rtcm_msg.specs.declared.fault.EquipmentFault.{EquipmentFault}
use Rattle.rtcm_msg.specs.declared.fault.EquipmentFault.TheVariants.{Short, BadCounter}
use Rattle.rtcm_inspect.specs.FrameLines.{number_word}
use Rattle.line_texts.specs.Lines.{line}

-- a digit of the base 16, with capitals
abbrev pub hex_digit : ℕ → ℕ
hex_digit n = if nat_lt n 10 then 0x30 + n else 0x37 + n

-- a quotation mark, a backslash, or no printable ASCII
abbrev pub is_special : ℕ → Bool
is_special b = nat_lt b 0x20 || nat_le 0x7F b || (b == 0x22) || (b == 0x5C)

-- a byte of a text, or `\x` and its two digits
abbrev pub escaped : ℕ → List ℕ
escaped b = if is_special b then 0x5C ∷ 0x78 ∷ hex_digit (b / 16) ∷ hex_digit (b % 16) ∷ [] else b ∷ []

-- a text in quotation marks
unfoldable pub quoted : List ℕ → List ℕ
quoted text = 0x22 ∷ (flat_map escaped text ++ 0x22 ∷ [])

-- number, station (DF003), setup (DF031), and the texts
abbrev pub equipment_words : EquipmentValue → List (List ℕ)
equipment_words e = decimal e.number ∷ decimal e.station ∷ decimal e.setup ∷ map quoted e.texts

-- a field that doesn't end within the message, or a counter above 31, by its first bit
abbrev pub equipment_fault_words : EquipmentFault → List (List ℕ)
equipment_fault_words (Short bit) = codes "Short" ∷ decimal bit ∷ []
equipment_fault_words (BadCounter bit) = codes "BadCounter" ∷ decimal bit ∷ []

-- the line of such a message: its offset, and its content or its number and fault
unfoldable pub equipment_line : Framed → Result EquipmentValue EquipmentFault → List ℕ
equipment_line f (Ok e) = line (decimal f.offset ∷ equipment_words e)
equipment_line f (Err e) = line (decimal f.offset ∷ number_word f.message ∷ equipment_fault_words e)
