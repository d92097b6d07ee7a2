-- The messages of a set of MSMs. With the default set exactly 1005, 1006, 1074, 1077, 1094 and 1097 are decoded.
use Rattle.std.specs.Prelude.{ℕ, ◌==◌, ◌&&◌, List, [], ◌∷◌, Bool, true, false, if◌then◌else◌, Result}
use Rattle.gnss_system.specs.declared.system.System.{System}
use Rattle.gnss_system.specs.declared.system.System.TheVariants.{Gps, Galileo}
use Rattle.gnss_system.specs.SystemValues.{value_of}
use Rattle.rtcm_bits.specs.Bits.{bits_of}
use Rattle.rtcm_msg.specs.declared.view.Form.{Form}
use Rattle.rtcm_msg.specs.declared.view.Form.TheVariants as forms
use Rattle.rtcm_msg.specs.declared.number.Kind.{Kind}
use Rattle.rtcm_msg.specs.declared.number.Kind.TheVariants as kinds
use Rattle.rtcm_msg.specs.declared.number.MsmSet.{MsmSet}
use Rattle.rtcm_msg.specs.declared.fault.MsgFault.{MsgFault}
use Rattle.rtcm_msg.specs.declared.message.Message.{Message}
use Rattle.rtcm_msg.specs.Messages.{by_message}
use Rattle.rtcm_msg.specs.Numbers.{have_form}
use Rattle.rtcm_msg.specs.Decoding.{message_by}

abbrev pub has_msm : MsmSet → Form → System → Bool
has_msm set form system = value_of system set.systems && have_form set.forms form

-- The message isn't an MSM outside the set.
abbrev pub is_in_set : MsmSet → Message → Bool
is_in_set set v = by_message (λ s. true) (λ form m. has_msm set form m.system) (λ n other. true) v

-- ---- the default set

abbrev pub kind_table : List (ℕ × Kind)
kind_table =
    (1005, kinds.Station false)
    ∷ (1006, kinds.Station true)
    ∷ (1074, kinds.Msm forms.Msm4 Gps)
    ∷ (1077, kinds.Msm forms.Msm7 Gps)
    ∷ (1094, kinds.Msm forms.Msm4 Galileo)
    ∷ (1097, kinds.Msm forms.Msm7 Galileo)
    ∷ []

-- The kind of the first row with this number.
abbrev pub kind_in : List (ℕ × Kind) → ℕ → Kind
kind_in [] n = kinds.Other
kind_in (row ∷ rows) n = if n == row.0 then row.1 else kind_in rows n

abbrev pub message_by_table : List ℕ → Result Message MsgFault
message_by_table bytes = message_by (kind_in kind_table) (bits_of bytes)
