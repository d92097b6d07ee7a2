-- The times of week of the first MSMs of a stream, by system and form, and the greatest time.
use Rattle.std.specs.Prelude.{◌≡◌, ℕ, ◌+◌, ◌*◌, ◌%◌, ◌<◌, ◌≤◌, nat_lt, List, [], ◌∷◌, length, Option, Some, None, IfSome}
use Rattle.std.specs.Prelude.{false, true, is_some, option_and_then, option_map, take, if◌then◌else◌}
use Rattle.std.specs.Option.{option_or}
use Rattle.gnss_obs.specs.Weeks.{week, weeks}
use Rattle.gnss_system.specs.declared.system.System.{System}
use Rattle.gnss_system.specs.declared.system.System.TheVariants.{Glonass}
use Rattle.gnss_system.specs.declared.by_system.BySystem.{BySystem}
use Rattle.gnss_system.specs.SystemValues.{tabulate, value_of, with_value_of}
use Rattle.gnss_system.specs.Systems.{systems}
use Rattle.rtcm_msg.specs.Numbers.{have_form}
use Rattle.rtcm_msg.specs.declared.number.Forms.{Forms}
use Rattle.rtcm_msg.specs.declared.number.Forms.TheVariants.{FourAndSeven, All}
use Rattle.rtcm_msg.specs.declared.number.MsmSet.{MsmSet}
use Rattle.rtcm_msg.specs.declared.view.Form.{Form}
use Rattle.rtcm_scan.specs.Frames.{Framed}
use Rattle.rtcm_msg.specs.Sets.{has_msm, is_in_set}
use Rattle.rtcm_msg.specs.declared.message.Message.{Message}
use Rattle.rtcm_inspect.specs.CountedTimes.{counted_before, counted_tows, greatest_in, greatest_of, with_tow}
use Rattle.rtcm_inspect.specs.declared.first_tows.MsmTow.{MsmTow}
use Rattle.rtcm_inspect.specs.declared.first_tows.SystemTows.{SystemTows}
use Rattle.rtcm_inspect.specs.declared.first_tows.FirstTows.{FirstTows}
use Rattle.rtcm_inspect.specs.WeekLaws.{first_tow}

-- a time of week of a system by these leap seconds, if it is this one by none: only that of GLONASS depends on them
abbrev pub later_by : System → (leap : ℕ) → ℕ → ℕ
later_by Glonass leap tow = (tow + 1000 * leap) % week
later_by system leap tow = tow

-- the message is an MSM of this system and form
abbrev pub IsMsmOf : Message → System → Form → Type 0
IsMsmOf m system form = (set : MsmSet) → is_in_set set m ≡ has_msm set form system

-- ---- by system and form

-- the time of week by these leap seconds; it is kept without any
abbrev pub tow_by : (leap : ℕ) → MsmTow → ℕ
tow_by leap t = later_by t.system leap t.tow

-- the first MSM of a system in these forms
abbrev pub tow_in : Forms → SystemTows → Option MsmTow
tow_in FourAndSeven x = x.four_and_seven
tow_in All x = x.all

-- y are the first ones after one more MSM of this form
abbrev pub IsWith : SystemTows → Form → MsmTow → SystemTows → Forms → Type 0
IsWith x form t y forms = tow_in forms y ≡ (if have_form forms form then option_or (tow_in forms x) (Some t) else tow_in forms x)

abbrev pub earlier_of : Option MsmTow → Option MsmTow → Option MsmTow
earlier_of None b = b
earlier_of (Some x) None = Some x
earlier_of (Some x) (Some y) = if nat_lt y.msms_before x.msms_before then Some y else Some x

-- the first MSM of a system, if it is in the set
abbrev pub first_of_system : MsmSet → BySystem SystemTows → System → Option MsmTow
first_of_system set tows s = if value_of s set.systems then tow_in set.forms (value_of s tows) else None

-- the first MSM of the set, of these systems
abbrev pub earliest : MsmSet → BySystem SystemTows → List System → Option MsmTow
earliest set tows [] = None
earliest set tows (s ∷ ss) = earlier_of (first_of_system set tows s) (earliest set tows ss)

-- ---- the greatest time at a first MSM

-- a first MSM with this greatest time, if it has none
abbrev pub with_greatest : ℕ → MsmTow → MsmTow
with_greatest time t = record t { greatest = option_or t.greatest (Some time) }

abbrev pub tows_with_greatest : ℕ → SystemTows → SystemTows
tows_with_greatest time x =
    record { four_and_seven = option_map (with_greatest time) x.four_and_seven; all = option_map (with_greatest time) x.all }

-- every first MSM has one
abbrev pub HaveGreatest : BySystem SystemTows → Type 0
HaveGreatest tows =
    (s : System) (forms : Forms) → IfSome (tow_in forms (value_of s tows)) (λ t. is_some t.greatest ≡ true)

-- that of the first MSM of a set
abbrev pub greatest_among : MsmSet → BySystem SystemTows → Option ℕ
greatest_among set tows = option_and_then (λ t. t.greatest) (earliest set tows systems)

-- It is that of the counted times of week up to the one at index n, if there is one; else it is unknown.
abbrev pub IsGreatestAt : (n : ℕ) → List ℕ → Option ℕ → Type 0
IsGreatestAt n tows None = length tows ≡ n
IsGreatestAt n tows (Some t) = (n < length tows) × (greatest_of (take (n + 1) tows) ≡ Some t) × (t < weeks * week)

-- ---- one more message

-- an MSM of this form was added to the first ones
pub record KeepsFirst (x : FirstTows) (form : Form) (t : MsmTow) (y : FirstTows) : Type 0 where
  pub msms : y.msms ≡ x.msms
  pub greatest : y.greatest ≡ x.greatest
  pub tows : (now : SystemTows) × (y.tows ≡ with_value_of t.system x.tows now)
      × ((forms : Forms) → IsWith (value_of t.system x.tows) form t now forms)
  pub same : y.may_lack_greatest ≡ false → (x.may_lack_greatest ≡ false) × (y.tows ≡ x.tows)

-- the first ones were given a greatest time
pub record SetsGreatest (x : FirstTows) (time : ℕ) (y : FirstTows) : Type 0 where
  pub msms : y.msms ≡ x.msms
  pub greatest : y.greatest ≡ x.greatest
  pub tows : y.tows ≡ tabulate (λ s. tows_with_greatest time (value_of s x.tows))

-- a time of week was counted
pub record CountsTow (x : FirstTows) (tow : ℕ) (y : FirstTows) : Type 0 where
  pub msms : y.msms ≡ x.msms
  pub greatest : y.greatest ≡ with_tow x.greatest tow
  pub tows : (t : ℕ) × (y.greatest ≡ Some t) × (t < weeks * week) × ((x.may_lack_greatest ≡ false → HaveGreatest x.tows)
      → y.tows ≡ tabulate (λ s. tows_with_greatest t (value_of s x.tows)))

-- x are the first ones of these frames, and the greatest time
pub record AreTows (x : FirstTows) (wanted : Option ℕ) (fs : List Framed) : Type 0 where
  pub few : x.msms ≤ length fs
  pub before : (s : System) (forms : Forms) → IfSome (tow_in forms (value_of s x.tows)) (λ t. t.msms_before < x.msms)
  pub first : (leap : ℕ) (set : MsmSet)
      → option_map (tow_by leap) (earliest set x.tows systems) ≡ first_tow leap set wanted fs
  pub greatest : x.greatest ≡ greatest_in wanted fs
  pub have_greatest : x.may_lack_greatest ≡ false → HaveGreatest x.tows
  pub at_first : (set : MsmSet) → IfSome (earliest set x.tows systems)
      (λ t. IsGreatestAt (counted_before set wanted fs) (counted_tows wanted fs) t.greatest)
