-- The encodings of messages, the messages of bits, and the faults of bits.
use Rattle.std.specs.Prelude.{◌≡◌, ℕ, ◌^◌, ◌<◌, ◌≤◌, ◌==◌, ◌&&◌, nat_lt, nat_le, not, if◌then◌else◌, Bool, true, false}
use Rattle.std.specs.Prelude.{List, [], ◌∷◌, ◌++◌, length, Option, Some, None, replicate, count_ones, IsTrue, ◌⊎◌}
use Rattle.rtcm_bits.specs.Bits.{bits_of, filled}
use Rattle.rtcm_msg.specs.declared.fault.MsgFault.{MsgFault}
use Rattle.rtcm_msg.specs.declared.fault.MsgFault.TheVariants.{Short, TooManyCells, BadTime}
use Rattle.rtcm_msg.specs.declared.message.Message.{Message}
use Rattle.rtcm_msg.specs.declared.message.Message.TheVariants.{Station, Msm, Other}
use Rattle.rtcm_msg.specs.Messages.{by_message}
use Rattle.rtcm_msg.specs.Fields.{field_bits, first_past, field_at}
use Rattle.rtcm_msg.specs.Station.{station_fields, InRange, station_table, height_table}
use Rattle.rtcm_msg.specs.Msm.{MsmValue, msm_bits, is_time, time_table, header_table, mask_table}
use Rattle.rtcm_msg.specs.Msm.{cell_mask_table, satellite_mask_bits, signal_mask_bits, pair_count, most_pairs}
use Rattle.rtcm_msg.specs.Layout.{widths, number_table}
use Rattle.rtcm_msg.specs.Decoding.{is_any_msm}
use Rattle.rtcm_msg.specs.declared.view.Form.{Form}
use Rattle.rtcm_msg.specs.Forms.{satellite_widths, cell_widths, IsMsm}
use Rattle.rtcm_msg.specs.declared.number.Kind.{Kind}
use Rattle.rtcm_msg.specs.declared.number.Kind.TheVariants as kinds
use Rattle.rtcm_msg.specs.Numbers.{kind_of, message_number}

abbrev pub is_other : Message → Bool
is_other v = by_message (λ s. false) (λ f m. false) (λ n set. true) v

-- The bits of a multiple signal message of this form.
abbrev pub form_bits : Form → MsmValue → ℕ → List Bool
form_bits f m reserved = msm_bits (satellite_widths f) (cell_widths f) (message_number f m.system) m reserved

-- A value.
abbrev pub IsMessage : Message → Type 0
IsMessage (Station s) = InRange s
IsMessage (Msm m) = IsMsm m
IsMessage (Other n set) = Unit {0}

-- The number of reserved bits.
abbrev pub reserved_width : Message → ℕ
reserved_width v = by_message (λ s. 1) (λ f m. 7) (λ n set. 0) v

-- The bits of a message with the given reserved bits.
abbrev pub message_bits : Message → ℕ → List Bool
message_bits v reserved =
    by_message (λ s. field_bits (station_fields s reserved)) (λ f m. form_bits f m reserved) (λ n set. []) v

-- The bytes encode the message with reserved bits of 0, padded with zero bits to a byte.
abbrev pub IsEncoding : List ℕ → Message → Type 0
IsEncoding bytes v = bits_of bytes ≡ filled (message_bits v 0)

-- The bits encode the message, with any reserved bits.
pub record IsEncodedBy (v : Message) (bits : List Bool) : Type 0 where
  pub reserved : ℕ
  pub fits : reserved < 2 ^ reserved_width v
  pub bits_are : bits ≡ message_bits v reserved

abbrev pub number_of : List Bool → ℕ
number_of bits = field_at bits 0 12

abbrev pub is_msm_kind : Kind → Bool
is_msm_kind (kinds.Station has_height) = false
is_msm_kind (kinds.Msm form system) = true
is_msm_kind kinds.Other = false

abbrev pub is_read_msm : ℕ → Bool
is_read_msm n = is_msm_kind (kind_of n)

-- The station and DF393 of a message that isn't decoded.
abbrev pub set_of : List Bool → Option (ℕ × Bool)
set_of bits = if is_any_msm (number_of bits)
    then (if nat_le 55 (length bits) then Some (field_at bits 12 12, field_at bits 54 1 == 1) else None) else None

-- A message that isn't decoded.
abbrev pub other_of : List Bool → Message
other_of bits = Other (number_of bits) (set_of bits)

pub record IsOther (bits : List Bool) (v : Message) : Type 0 where
  pub number_there : 12 ≤ length bits
  pub unread : kind_of (number_of bits) ≡ kinds.Other
  pub value : v ≡ other_of bits

-- The bits begin with an encoding of the value.
pub record BeginsWith (bits : List Bool) (v : Message) : Type 0 where
  pub is_value : IsMessage v
  pub known : is_other v ≡ false
  pub prefix : List Bool
  pub rest : List Bool
  pub joined : bits ≡ prefix ++ rest
  pub encodes : IsEncodedBy v prefix

abbrev pub ReadsMessage : List Bool → Message → Type 0
ReadsMessage bits v = BeginsWith bits v ⊎ IsOther bits v

-- ---- faults

-- The widths of the fields of these bits in order, as far as the bits contain them.
abbrev pub repeated : ℕ → List ℕ → List ℕ
repeated count [] = []
repeated count (w ∷ ws) = replicate count w ++ repeated count ws

abbrev pub msm_layout : List ℕ → List ℕ → List Bool → List ℕ
msm_layout satellite_widths cell_widths bits =
    let satellites = field_at bits 73 satellite_mask_bits in
    let signals = field_at bits 137 signal_mask_bits in
    let width = pair_count satellites signals in
    widths (number_table ++ (time_table ++ (header_table ++ (mask_table ++ cell_mask_table width))))
    ++ (repeated (count_ones satellites) satellite_widths
    ++ repeated (count_ones (field_at bits 169 width)) cell_widths)

-- The widths for a message of this kind.
abbrev pub layout_by : Kind → List Bool → List ℕ
layout_by (kinds.Station has_height) bits =
    widths (number_table ++ (station_table ++ (if has_height then height_table else [])))
layout_by (kinds.Msm form system) bits = msm_layout (satellite_widths form) (cell_widths form) bits
layout_by kinds.Other bits = []

abbrev pub layout : List Bool → List ℕ
layout bits = layout_by (kind_of (number_of bits)) bits

-- A message of this kind has an epoch time, which isn't one of its system.
abbrev pub is_bad_time : Kind → ℕ → Bool
is_bad_time (kinds.Station has_height) time = false
is_bad_time (kinds.Msm form system) time = not (is_time system time)
is_bad_time kinds.Other time = false

abbrev pub has_bad_time : List Bool → Bool
has_bad_time bits = nat_le 54 (length bits) && is_bad_time (kind_of (number_of bits)) (field_at bits 24 30)

abbrev pub has_too_many : List Bool → Bool
has_too_many bits =
    is_read_msm (number_of bits) && nat_le 169 (length bits)
    && nat_lt most_pairs (pair_count (field_at bits 73 satellite_mask_bits) (field_at bits 137 signal_mask_bits))

-- The fault of bits that are refused.
abbrev pub IsFault : List Bool → MsgFault → Type 0
IsFault bits BadTime = IsTrue (has_bad_time bits)
IsFault bits TooManyCells = (has_bad_time bits ≡ false) × IsTrue (has_too_many bits)
IsFault bits (Short k) =
    (has_bad_time bits ≡ false) × (has_too_many bits ≡ false)
    × (((length bits < 12) × (k ≡ 0)) ⊎ ((12 ≤ length bits) × (first_past (length bits) 0 (layout bits) ≡ Some k)))
