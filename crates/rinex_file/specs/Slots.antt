-- The slots of GLONASS in a header, with the numbers of their channels: RINEX 3.05, table A2, "GLONASS SLOT / FRQ #".
use Rattle.std.specs.Prelude.{ℕ, zero, suc, ◌+◌, ◌-◌, ◌*◌, ◌/◌, ◌<◌, ◌≤◌, List, [], ◌∷◌, ◌++◌, take, drop, flat_map}
use Rattle.std.specs.Prelude.{replicate, decimal, nat_lt, if◌then◌else◌, Some, None}
use Rattle.gnss_obs.specs.Channels.{ChannelsValue, slot_count, most_number}
use Rattle.rinex_columns.specs.Numbers.{padded, right}

-- a slot, and the number of its channel: the channel plus 7
pub record SlotNumber : Type 0 where
  pub slot : ℕ
  pub number : ℕ

-- the slots with a number, if the first number is that of this slot
abbrev pub slots_from : ℕ → ChannelsValue → List SlotNumber
slots_from slot [] = []
slots_from slot (None ∷ numbers) = slots_from (suc slot) numbers
slots_from slot (Some n ∷ numbers) = record { slot = slot; number = n } ∷ slots_from (suc slot) numbers

abbrev pub slots_of : ChannelsValue → List SlotNumber
slots_of channels = slots_from 1 channels

-- slots after one, in ascending order, each with the number of a channel
abbrev pub AreSlots : ℕ → List SlotNumber → Type 0
AreSlots last [] = last ≤ slot_count
AreSlots last (s ∷ ss) = (last < s.slot) × (s.number ≤ most_number) × AreSlots s.slot ss

-- the last of these slots after one
abbrev pub last_slot : ℕ → List SlotNumber → ℕ
last_slot last [] = last
last_slot last (s ∷ ss) = last_slot s.slot ss

-- ---- a line

-- the largest number of slots in a line
abbrev pub slots_in_line : ℕ
slots_in_line = 8

-- the number of lines that a number of slots needs, of which the last may not be full; it is 0 without a slot, and
-- then one line is written too
abbrev pub slot_rows : ℕ → ℕ
slot_rows count = (count + 7) / slots_in_line

-- the channel of a number, -7 to 6, in two columns
abbrev pub channel_text : ℕ → List ℕ
channel_text number = if nat_lt number 7 then 45 ∷ (48 + (7 - number)) ∷ [] else 32 ∷ (48 + (number - 7)) ∷ []

abbrev pub slot_text : SlotNumber → List ℕ
slot_text s = 82 ∷ (padded 2 s.slot ++ 32 ∷ (channel_text s.number ++ 32 ∷ []))

-- the columns before the slots of a line: on the first, the number of slots
abbrev pub slots_front : ℕ → ℕ → List ℕ
slots_front count zero = right 3 (decimal count) ++ 32 ∷ []
slots_front count (suc row) = replicate 4 32

-- the columns of a line; `count` slots have a channel, and these are the first of them
abbrev pub slots_columns : ℕ → List SlotNumber → ℕ → List ℕ
slots_columns count slots row =
    slots_front count row ++ flat_map slot_text (take slots_in_line (drop (slots_in_line * row) slots))
