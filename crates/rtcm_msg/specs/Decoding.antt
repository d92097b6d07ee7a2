-- The message that bits are decoded to.
use Rattle.std.specs.Prelude.{ℕ, ◌/◌, ◌%◌, ◌==◌, ◌&&◌, nat_lt, nat_le, if◌then◌else◌, Bool, List, length}
use Rattle.std.specs.Prelude.{Option, Some, None, is_some, Result, Ok}
use Rattle.gnss_system.specs.Satellites.{system_of_tens}
use Rattle.rtcm_bits.specs.Bits.{bits_of}
use Rattle.rtcm_bits.specs.Cursors.{Cursor, advanced, unsigned_at}
use Rattle.rtcm_msg.specs.declared.fault.MsgFault.{MsgFault}
use Rattle.rtcm_msg.specs.declared.message.Message.{Message}
use Rattle.rtcm_msg.specs.Fields.{number_at, ◌>>=◌}
use Rattle.rtcm_msg.specs.Station.{station_at}
use Rattle.rtcm_msg.specs.declared.message.Message.TheVariants as messages
use Rattle.rtcm_msg.specs.declared.number.Kind.{Kind}
use Rattle.rtcm_msg.specs.declared.number.Kind.TheVariants as kinds
use Rattle.rtcm_msg.specs.declared.number.MsmSet.{MsmSet}
use Rattle.rtcm_msg.specs.Numbers.{kind_of, kind_with}
use Rattle.gnss_system.specs.declared.system.System.{System}
use Rattle.rtcm_msg.specs.declared.view.Form.{Form}
use Rattle.rtcm_msg.specs.Msm.{msm_at}
use Rattle.rtcm_msg.specs.Forms.{satellite_widths, cell_widths}

-- The result of reading after the message number.
abbrev pub formed_at : Form → System → Cursor → Result Message MsgFault
formed_at form system c =
    msm_at (satellite_widths form) (cell_widths form) system c >>= λ m. Ok (messages.Msm (record { form = form; msm = m.0 }))

-- The message numbers of the MSMs of the systems.
abbrev pub is_any_msm : ℕ → Bool
is_any_msm n = is_some (system_of_tens (n / 10)) && nat_le 1 (n % 10) && nat_le (n % 10) 7

-- The station and DF393 of an MSM, after its message number.
abbrev pub set_at : Cursor → Option (ℕ × Bool)
set_at c = if nat_lt (length c.rest) 43 then None
    else Some (unsigned_at 12 c, unsigned_at 1 (advanced (advanced c 12) 30) == 1)

abbrev pub set_in : ℕ → Cursor → Option (ℕ × Bool)
set_in n c = if is_any_msm n then set_at c else None

abbrev pub other_at : ℕ → Cursor → Message
other_at n c = messages.Other n (set_in n c)

-- The value of a station message, 1006 if it has a height, after its message number.
abbrev pub station_message_at : Bool → Cursor → Result Message MsgFault
station_message_at has_height c = station_at has_height c >>= λ s. Ok (messages.Station s.0)

abbrev pub start : List Bool → Cursor
start bits = record { place = 0; rest = bits }

-- The value, after the message number n.
abbrev pub body_by : Kind → ℕ → Cursor → Result Message MsgFault
body_by (kinds.Station has_height) n c = station_message_at has_height c
body_by (kinds.Msm form system) n c = formed_at form system c
body_by kinds.Other n c = Ok (other_at n c)

-- The value that bits are decoded to, with a function that says what a message of a number contains.
unfoldable pub message_by : (ℕ → Kind) → List Bool → Result Message MsgFault
message_by kind bits = number_at 12 (start bits) >>= λ n. body_by (kind n.0) n.0 n.1

-- The value that bytes are decoded to.
abbrev pub message_at : List ℕ → Result Message MsgFault
message_at bytes = message_by kind_of (bits_of bytes)

-- The same if of the MSMs only those of the set are decoded.
abbrev pub message_with : MsmSet → List ℕ → Result Message MsgFault
message_with set bytes = message_by (kind_with set) (bits_of bytes)
