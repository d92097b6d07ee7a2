-- The antenna and the receiver of a station: messages 1007, 1008 and 1033.
use Rattle.std.specs.Prelude.{ℕ, ◌≤◌, ◌+◌, ◌*◌, ◌==◌, nat_lt, zero, suc, if◌then◌else◌, List, [], ◌∷◌, drop, length, map, slice_get, take, Option, Some}
use Rattle.std.specs.Prelude.{None, Result, Ok, Err, option_map}
use Rattle.std.specs.Borrow.{Bor}
use Rattle.std.specs.List.{All}
use Rattle.std.specs.Result.{result_map_both}
use Rattle.rtcm_bits.specs.Bits.{bits_of}
use Rattle.rtcm_msg.specs.Fields.{field_at, ◌>>=◌}
use Rattle.rtcm_msg.specs.declared.equipment.Equipment.{Equipment}
use Rattle.rtcm_msg.specs.declared.fault.EquipmentFault.{EquipmentFault}
use Rattle.rtcm_msg.specs.declared.fault.EquipmentFault.TheVariants.{Short, BadCounter}

-- What such a message contains: its number, DF002, the station, DF003, the antenna setup, DF031, and its texts.
pub record EquipmentValue : Type 0 where
  pub number : ℕ
  pub station : ℕ
  pub setup : ℕ
  pub texts : List (List ℕ)

-- The texts after the first one, the antenna descriptor, DF030. Of 1008 it is the antenna's serial number, DF033; of
-- 1033 these are it and the receiver's type, DF228, firmware version, DF230, and serial number, DF232.
abbrev pub further_texts : ℕ → Option ℕ
further_texts number =
    if number == 1007 then Some 0 else (if number == 1008 then Some 1 else (if number == 1033 then Some 4 else None))

abbrev pub longest_text : ℕ
longest_text = 31

-- A counter, DF029, DF032, DF227, DF229 or DF231, and as many bytes, from byte `at` of the message on.
abbrev pub counted_text : (at : ℕ) → List ℕ → Result (List ℕ) EquipmentFault
counted_text at [] = Err (Short (8 * at))
counted_text at (n ∷ rest) =
    if nat_lt longest_text n then Err (BadCounter (8 * at))
    else (if nat_lt (length rest) n then Err (Short (8 * (at + 1))) else Ok (take n rest))

abbrev pub text_at : List ℕ → (at : ℕ) → Result (List ℕ) EquipmentFault
text_at bytes at = counted_text at (drop at bytes)

-- a number of texts, one after the other
abbrev pub texts_at : List ℕ → (at count : ℕ) → Result (List (List ℕ)) EquipmentFault
texts_at bytes at zero = Ok []
texts_at bytes at (suc n) =
    text_at bytes at >>= λ t. texts_at bytes (at + (1 + length t)) n >>= λ ts. Ok (t ∷ ts)

-- one byte
abbrev pub byte_or : (at : ℕ) → Option ℕ → Result ℕ EquipmentFault
byte_or at None = Err (Short (8 * at))
byte_or at (Some n) = Ok n

-- the setup, and the further texts
abbrev pub after_antenna : List ℕ → (number station : ℕ) → (antenna : List ℕ) → (further : ℕ)
    → Result EquipmentValue EquipmentFault
after_antenna bytes number station antenna further =
    byte_or (4 + length antenna) (slice_get bytes (4 + length antenna)) >>= λ setup.
    texts_at bytes (5 + length antenna) further >>= λ others.
    Ok (record { number = number; station = station; setup = setup; texts = antenna ∷ others })

-- The content of a message of this number, or the first field that it doesn't contain, or a counter above 31.
abbrev pub equipment_at : List ℕ → (number further : ℕ) → Result EquipmentValue EquipmentFault
equipment_at bytes number further =
    if nat_lt (length bytes) 3 then Err (Short 12)
    else text_at bytes 3 >>= λ antenna. after_antenna bytes number (field_at (bits_of bytes) 12 12) antenna further

-- the same for a message of any number, which has none if it is another one
abbrev pub by_number : List ℕ → (number : ℕ) → Option (Result EquipmentValue EquipmentFault)
by_number bytes number = option_map (equipment_at bytes number) (further_texts number)

-- the same for any message
unfoldable pub equipment_in : List ℕ → Option (Result EquipmentValue EquipmentFault)
equipment_in bytes = if nat_lt (length bytes) 2 then None else by_number bytes (field_at (bits_of bytes) 0 12)

-- the value of what was read
abbrev pub equipment_value : Equipment → EquipmentValue
equipment_value e = record { number = e.number; station = e.station; setup = e.setup; texts = map (λ t. t.now) e.texts.items }

-- these texts have at most this many bytes
abbrev pub AreShort : List (Bor (List ℕ)) → Type 0
AreShort texts = All (λ t. length t.now ≤ longest_text) texts

abbrev pub values_of : Result Equipment EquipmentFault → Result EquipmentValue EquipmentFault
values_of read = result_map_both equipment_value (λ e. e) read
