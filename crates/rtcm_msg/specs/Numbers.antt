-- The message numbers, DF002, what a message of each contains, and which of them are decoded.
use Rattle.std.specs.Prelude.{ℕ, ◌+◌, ◌*◌, ◌/◌, ◌%◌, ◌==◌, ◌&&◌, [], ◌∷◌, Bool, true, false, if◌then◌else◌}
use Rattle.std.specs.Prelude.{Option, Some, None}
use Rattle.std.specs.List.{find}
use Rattle.gnss_system.specs.declared.system.System.{System}
use Rattle.gnss_system.specs.Satellites.{msm_tens, system_of_tens}
use Rattle.gnss_system.specs.SystemValues.{value_of, of_two}
use Rattle.rtcm_msg.specs.declared.view.Form.{Form}
use Rattle.rtcm_msg.specs.declared.view.Form.TheVariants as forms
use Rattle.rtcm_msg.specs.declared.number.Kind.{Kind}
use Rattle.rtcm_msg.specs.declared.number.Kind.TheVariants as kinds
use Rattle.rtcm_msg.specs.declared.number.Forms.{Forms}
use Rattle.rtcm_msg.specs.declared.number.Forms.TheVariants.{FourAndSeven, All}
use Rattle.rtcm_msg.specs.declared.number.MsmSet.{MsmSet}

abbrev pub station_number : Bool → ℕ
station_number has_height = if has_height then 1006 else 1005

-- The last digit of the numbers of a form.
abbrev pub digit_of : Form → ℕ
digit_of forms.Msm4 = 4
digit_of forms.Msm5 = 5
digit_of forms.Msm6 = 6
digit_of forms.Msm7 = 7

abbrev pub message_number : Form → System → ℕ
message_number form system = msm_tens system * 10 + digit_of form

abbrev pub form_of_digit : ℕ → Option Form
form_of_digit d = find (λ f. digit_of f == d) (forms.Msm4 ∷ forms.Msm5 ∷ forms.Msm6 ∷ forms.Msm7 ∷ [])

abbrev pub msm_kind : Option Form → Option System → Kind
msm_kind None system = kinds.Other
msm_kind (Some form) None = kinds.Other
msm_kind (Some form) (Some system) = kinds.Msm form system

-- What a message of a number contains.
abbrev pub kind_of : ℕ → Kind
kind_of n = if n == 1005 then kinds.Station false
    else (if n == 1006 then kinds.Station true
    else msm_kind (form_of_digit (n % 10)) (system_of_tens (n / 10)))

-- ---- a set of MSMs

abbrev pub have_form : Forms → Form → Bool
have_form All form = true
have_form FourAndSeven forms.Msm4 = true
have_form FourAndSeven forms.Msm5 = false
have_form FourAndSeven forms.Msm6 = false
have_form FourAndSeven forms.Msm7 = true

-- An MSM that isn't in the set isn't decoded.
abbrev pub kind_within : MsmSet → Kind → Kind
kind_within set (kinds.Station has_height) = kinds.Station has_height
kind_within set (kinds.Msm form system) =
    if value_of system set.systems && have_form set.forms form then kinds.Msm form system else kinds.Other
kind_within set kinds.Other = kinds.Other

-- What a message of a number contains if the MSMs of the set are decoded.
abbrev pub kind_with : MsmSet → ℕ → Kind
kind_with set n = kind_within set (kind_of n)

-- The set of MSM4 and MSM7 of GPS and Galileo, and the set of all MSMs.
abbrev pub default_set : MsmSet
default_set = record { systems = of_two true true false; forms = FourAndSeven }

abbrev pub whole_set : MsmSet
whole_set = record { systems = of_two true true true; forms = All }
