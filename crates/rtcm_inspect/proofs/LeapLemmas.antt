-- The time of week of the first MSM of a set without GLONASS.
use Rattle.rtcm_inspect.proofs.Names.{value_of, Glonass, has_msm, is_in_set, gps_tow, IsLeapFree, ◌≡◌, ◌∙◌, ◌&&◌, ap, ap₂, sym, subst, refl, ℕ, Bool, true, false, List, [], ◌∷◌, Option, Some, None, Result, Ok, Err, if◌then◌else◌, option_and_then, option_or, MsgFault, Message, Msm, Form, MsmSet, MsmValue, System, every_channel, have_form, heard, inspected_in, is_of_station, message_at, tow_of}
use Rattle.rtcm_inspect.proofs.SetLemmas.{tow_read, tow_refused}

tow_free : (set : MsmSet) (f : Form) (s : System) (a b time : ℕ) → value_of Glonass set.systems ≡ false → has_msm set f s ≡ true → gps_tow s a time ≡ gps_tow s b time
tow_free set f Glonass a b time none within = absurd (let e : (false && have_form set.forms f) ≡ true = subst (λ (d : Bool). (d && have_form set.forms f) ≡ true) none within in cc e)
tow_free set f other a b time none within = refl

-- an MSM in the set
msm_free : (set : MsmSet) (f : Form) (v : MsmValue) (wanted : Option ℕ) (own : Bool) (a b : ℕ) → value_of Glonass set.systems ≡ false → has_msm set f v.system ≡ true
    → ◌≡◌ {A = Option ℕ} (if own then Some (gps_tow v.system a v.header.time) else None) (if own then Some (gps_tow v.system b v.header.time) else None)
msm_free set f v wanted own a b none within = ap (λ (t : ℕ). if own then Some t else None) (tow_free set f v.system a b v.header.time none within)

message_free : (set : MsmSet) (m : Message) (wanted : Option ℕ) (a b : ℕ) → value_of Glonass set.systems ≡ false → is_in_set set m ≡ true
    → tow_of wanted (heard every_channel a m) ≡ tow_of wanted (heard every_channel b m)
message_free set (Msm v) wanted a b none within = msm_free set v.form v.msm wanted (is_of_station wanted (heard every_channel a (Msm v))) a b none within
message_free set other wanted a b none within = refl

frame_free : (set : MsmSet) (bytes : List ℕ) (wanted : Option ℕ) (a b : ℕ) → value_of Glonass set.systems ≡ false
    → option_and_then (tow_of wanted) (inspected_in a set bytes) ≡ option_and_then (tow_of wanted) (inspected_in b set bytes)
frame_free set bytes wanted a b none = by (message_at bytes) refl where
  by_set : (m : Message) (d : Bool) → is_in_set set m ≡ d → (if d then tow_of wanted (heard every_channel a m) else None) ≡ (if d then tow_of wanted (heard every_channel b m) else None)
  by_set m true is = message_free set m wanted a b none is
  by_set m false is = refl

  by : (r : Result Message MsgFault) → message_at bytes ≡ r → option_and_then (tow_of wanted) (inspected_in a set bytes) ≡ option_and_then (tow_of wanted) (inspected_in b set bytes)
  by (Ok m) read = tow_read a set wanted bytes m read ∙ (by_set m (is_in_set set m) refl ∙ sym (tow_read b set wanted bytes m read))
  by (Err e) read = tow_refused a set wanted bytes e read ∙ sym (tow_refused b set wanted bytes e read)

pub leap_free : IsLeapFree
leap_free set a b wanted [] none = refl
leap_free set a b wanted (f ∷ fs) none = ap₂ option_or (frame_free set f.message wanted a b none) (leap_free set a b wanted fs none)
