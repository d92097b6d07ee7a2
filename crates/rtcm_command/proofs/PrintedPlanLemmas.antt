-- A conversion with the options that `options` prints for a stream.
use Rattle.rtcm_command.proofs.Names.{common_steps, ◌+◌, ◌*◌, ◌/◌, nat_le, false, option_and_then, if◌then◌else◌, nat_lt, true, ◌||◌, suc, first_of, one_of, System, Glonass, name_of, tabulate, no_channels, is_nil, plan_of, with_channels, PlanValue, plan_with, planned_of, Forms, StationParts, Framed, is_always_decoded, is_decoded, set_of, channels_text, first_station, first_tow, options_line, IsWeekNear, first_week, is_no_week, codes_word, forms_had, had, plan_in, set_had, valued_in, IsDatedByStart, IsLeapFree, setup_value, ArePrintedWords, IsDatedAsPrinted, IsDatedAsSent, IsDatedAt, IsStartedAsFound, StartsAsFound, leap_option, IsPlanSet, ChannelsValue, IsNumberOf, IsNumberOr, IsStartSet, Row, Start, Week, not, usual_leap, Setup, StationValues, bytes_eq, channels_set, height_text, no_values, plan_set, position_text, text_set, values_set, option_map_or, ◌<◌, ◌≡◌, Bool, IfSome, List, None, Ok, Option, Result, Some, [], ap, ap₂, arith, codes, decimal, length, option_map, refl, subst, sym, unwrap_or, ℕ, ◌^◌, ◌∙◌}
use Rattle.std.proofs.lemmas.Bool.{lt-ltb}
use Rattle.std.proofs.lemmas.List.Sums.{count_by-le-length}
use Rattle.gnss_obs.specs.Weeks.{week, weeks}
use Rattle.rtcm_msg.specs.Station.{InRange}
use Rattle.rtcm_msg.specs.declared.number.Forms.TheVariants as forms
use Rattle.rtcm_msg.specs.declared.number.MsmSet.{MsmSet}
use Rattle.obs_epoch.specs.Epochs.{values_from}
use Rattle.line_texts.specs.LeapSeconds.{leap_at, leap_months, month_number}
use Rattle.gnss_obs.specs.Dates.{civil_of}
use Rattle.rtcm_inspect.specs.ChannelLaws.{HasChannels}
use Rattle.obs_epoch.proofs.StartLaws.{given}
use Rattle.rtcm_inspect.specs.NearWeek.{IsWeekFor}
use Rattle.rtcm_inspect.specs.OptionOutput.{IsPrinted}
use Rattle.rtcm_inspect.specs.SentWeeks.{first_msm, leap_by, leap_with, time_in, week_by, within_weeks}
use Rattle.rtcm_inspect.specs.declared.first_two.FirstTwo.{FirstTwo}
use Rattle.rtcm_inspect.specs.declared.first_two.FirstTwo.TheVariants.{One}
use Rattle.rtcm_inspect.specs.declared.printed_week.WeekSource.{WeekSource}
use Rattle.rtcm_inspect.specs.declared.printed_week.WeekSource.TheVariants.{Unprinted, Near, Ephemerides}
use Rattle.rtcm_inspect.specs.SignalLaws.{AreReadAsPlan, HasFirstMsm}
use Rattle.rtcm_inspect.specs.StreamChannels.{channels_in}
use Rattle.rtcm_command.proofs.PrintedWordsLemmas.{AreAsPrinted, as_printed, channels_option, forms_text, signals_text}
use Rattle.rtcm_command.specs.StationLaws.{AreChannelsSet, AreLeapSecondsRead, AreReadAsStation, AreZeroByDefault, IsStationRead, IsWeekRead}

-- ---- the signals

some_length : (n : ℕ) → nat_lt 0 (suc n) ≡ true
some_length n = lt-ltb 0 (suc n) (omega arith)

text_of : (b : Bool) (s : System) (l : List ℕ) → (if b || nat_lt 0 (length l) then codes_word s l else codes "none") ≡ codes_word s l
text_of b s l = grind (arith, common_steps, some_length)

plan_read : (options : List Row) (wanted : Option ℕ) (fs : List Framed) → AreReadAsPlan → 0 < length (valued_in wanted fs)
    → ((s : System) → text_set options (name_of s) ≡ signals_text (plan_in wanted fs) s)
    → plan_set options ≡ Ok (plan_with (tabulate (had (valued_in wanted fs))))
unfolding plan_set
plan_read options wanted fs read some printed =
    ap plan_of (λ k. tabulate (λ s. (printed s ∙ text_of (is_always_decoded s) s (planned_of s (plan_in wanted fs))) k)) ∙ read wanted fs some

-- ---- the channels

same_ok : {A E : Type 0} (r : Result A E) (x y : A) → r ≡ Ok x → r ≡ Ok y → x ≡ y
same_ok r x y e f = cc

channels_printed : (l : List ℕ) (known : ChannelsValue) → is_nil l ≡ false
    → (if nat_lt 0 (length l) then channels_text (if is_nil l then no_channels else known) else []) ≡ channels_text known
channels_printed l known h = grind (arith, common_steps, some_length)

chosen : (l : List ℕ) (channels known : ChannelsValue) → (is_nil l ≡ false → channels ≡ known)
    → (if is_nil l then no_channels else channels) ≡ (if is_nil l then no_channels else known)
chosen l channels known h = grind (arith, common_steps)

-- ---- the forms

forms_read : (f : Forms) (text : List ℕ) → text ≡ forms_text f → (if bytes_eq text (codes "all") then forms.All else forms.FourAndSeven) ≡ f
forms_read f text e = grind (arith, common_steps)

-- ---- the station, the week and the leap seconds

station_read : (options : List Row) (wanted found : Option ℕ) → IsStationRead → IfSome wanted (λ n. n < 2 ^ 16)
    → one_of (codes "station") options ≡ option_map decimal wanted → IsNumberOf 16 (one_of (codes "station") options) found → found ≡ wanted
station_read options wanted found read small is h = grind (arith, common_steps)

near_small : (noon tow n : ℕ) → IsWeekNear noon tow n → n < weeks
near_small noon tow n h = grind (arith, common_steps)

within_last : (t : ℕ) → within_weeks t / week < weeks
within_last t = omega arith

-- without the option
pub usual_read : (m otherwise : ℕ) → IsNumberOr 8 otherwise None m → m ≡ otherwise
usual_read m otherwise (found, none, is) = is ∙ ap (λ (o : Option ℕ). unwrap_or o otherwise) none

-- the week and the leap seconds that are printed
week_small : (source : WeekSource) (w leap wanted : Option ℕ) (fs : List Framed) → IsPrinted source wanted fs w leap → IfSome w (λ n. n < weeks)
week_small Unprinted w leap wanted fs h = subst (λ (o : Option ℕ). IfSome o (λ n. n < weeks)) (sym h.0) tt
week_small (Near noon) w leap wanted fs h = by w (first_tow (leap_at noon) (set_had wanted fs) wanted fs) h.0 where
  by : (w tow : Option ℕ) → IsWeekFor (Some noon) tow w → IfSome w (λ n. n < weeks)
  by None tow h = tt
  by (Some n) None h = cc
  by (Some n) (Some tow) (m, is, near) = let same : n ≡ m = cc in subst (λ (k : ℕ). k < weeks) (sym same) (near_small noon tow m near)
week_small Ephemerides w leap wanted fs h = subst (λ (o : Option ℕ). IfSome o (λ n. n < weeks)) (sym h.2) (within_last (time_in h.0 (first_msm (leap_by wanted fs h.0) wanted fs)))

leap_small : (t : ℕ) → leap_at t < 256
leap_small t = omega (arith, count_by-le-length (λ m. nat_le m (month_number (civil_of t).year (civil_of t).month)) leap_months)

leap_below : (source : WeekSource) (w leap wanted : Option ℕ) (fs : List Framed) → IsPrinted source wanted fs w leap → IfSome leap (λ n. n < 256)
leap_below Unprinted w leap wanted fs h = subst (λ (o : Option ℕ). IfSome o (λ n. n < 256)) (sym h.1) tt
leap_below (Near noon) w leap wanted fs h = subst (λ (o : Option ℕ). IfSome o (λ n. n < 256)) (sym h.2) (leap_small noon)
leap_below Ephemerides w leap wanted fs h = subst (λ (o : Option ℕ). IfSome o (λ n. n < 256)) (sym h.3) (leap_small (within_weeks (time_in h.0 (first_msm (leap_with wanted fs h.0 0) wanted fs))))

week_read : (options : List Row) (w : Option ℕ) (start : Start) → IsWeekRead → IfSome w (λ n. n < weeks) → IfSome w (λ n. first_of (codes "week") options ≡ Some (decimal n))
    → IsStartSet options start → IfSome w (λ n. start ≡ Week n)
week_read options w start read small text set = grind (arith, common_steps)

leap_read : (options : List Row) (b : Bool) (leap : Option ℕ) (m otherwise : ℕ) → AreLeapSecondsRead → IfSome leap (λ n. n < 256)
    → one_of (codes "leap-seconds") options ≡ (if b then option_map decimal leap else None)
    → IsNumberOr 8 otherwise (one_of (codes "leap-seconds") options) m → m ≡ (if b then unwrap_or leap otherwise else otherwise)
leap_read options true (Some n) m otherwise read small is h = read options n m otherwise small is h
leap_read options true None m otherwise read small is h = usual_read m otherwise (subst (λ (t : Option (List ℕ)). IsNumberOr 8 otherwise t m) is h)
leap_read options false leap m otherwise read small is h = usual_read m otherwise (subst (λ (t : Option (List ℕ)). IsNumberOr 8 otherwise t m) is h)

-- ---- the station values

values_read : (options : List Row) (first : Option StationParts) (found : StationValues) → AreReadAsStation → AreZeroByDefault → IfSome first InRange
    → text_set options (codes "position") ≡ option_map_or position_text first (codes "0,0,0")
    → text_set options (codes "antenna-height") ≡ height_text (option_and_then (λ s. s.height) first)
    → values_set options ≡ Ok found → found ≡ option_map_or (λ s. values_from s 0) first no_values
values_read options first found read zero range position height is = grind (arith, common_steps, same_ok)

-- ---- the setup

-- the laws of what is read
pub record ReadLaws : Type 0 where
  pub plan : AreReadAsPlan
  pub channels : AreChannelsSet
  pub some_channels : HasChannels
  pub station : IsStationRead
  pub week : IsWeekRead
  pub leap : AreLeapSecondsRead
  pub position : AreReadAsStation
  pub zero : AreZeroByDefault
  pub range : (wanted : Option ℕ) (fs : List Framed) → IfSome (first_station wanted fs) InRange

plan_found : ReadLaws → (options : List Row) (plan : PlanValue) (wanted : Option ℕ) (fs : List Framed) → 0 < length (valued_in wanted fs)
    → ((s : System) → text_set options (name_of s) ≡ signals_text (plan_in wanted fs) s)
    → text_set options (codes "glonass-channels") ≡ channels_option (plan_in wanted fs) → IsPlanSet options plan → plan ≡ plan_in wanted fs
plan_found laws options plan wanted fs some signals channels (p, set, plan_is, set_is, is) =
    let found : PlanValue = plan_with (tabulate (had (valued_in wanted fs))) in
    let same : p ≡ found = same_ok (plan_set options) p found plan_is (plan_read options wanted fs laws.plan some signals) in
    let known : is_nil (had (valued_in wanted fs) Glonass) ≡ false → set ≡ channels_in wanted fs =
    λ some. same_ok (channels_set options) set (channels_in wanted fs) set_is
    (laws.channels options (channels_in wanted fs) (laws.some_channels wanted fs) (channels ∙ channels_printed (had (valued_in wanted fs) Glonass) (channels_in wanted fs) some)) in
    is ∙ ap (λ (q : PlanValue). with_channels q set) same
    ∙ ap (λ (c : ChannelsValue). record (plan_with (tabulate (had (valued_in wanted fs)))) { channels = c }) (chosen (had (valued_in wanted fs) Glonass) set (channels_in wanted fs) known)

pub started_as_found : ReadLaws → IsStartedAsFound
started_as_found laws options source w leap wanted fs x are start =
    let printed : AreAsPrinted options w leap wanted fs = as_printed options w leap wanted fs are.printed in
    record {
      plan = plan_found laws options x.gatherer.plan wanted fs are.some printed.signals printed.channels start.plan;
      forms = start.forms ∙ forms_read (forms_had wanted fs) (text_set options (codes "msm")) printed.forms;
      station = station_read options wanted x.gatherer.station laws.station are.station printed.station start.station;
      week = week_read options w x.gatherer.start laws.week (week_small source w leap wanted fs are.week) printed.week start.start;
      leap_seconds = leap_read options (is_decoded (plan_in wanted fs) Glonass) leap x.gatherer.leap_seconds (usual_leap x.gatherer.start) laws.leap (leap_below source w leap wanted fs are.week) printed.leap_seconds start.leap;
      initial = values_read options (first_station wanted fs) x.gatherer.initial laws.position laws.zero (laws.range wanted fs) printed.position printed.height start.initial;
    }

-- ---- the first time

-- the laws of the week
pub record DateLaws : Type 0 where
  pub free : IsLeapFree
  pub dated : IsDatedByStart
  pub some : HasFirstMsm
  pub small : (leap : ℕ) (set : MsmSet) (wanted : Option ℕ) (fs : List Framed) (tow : ℕ) → first_tow leap set wanted fs ≡ Some tow → tow < week

-- without GLONASS the leap seconds don't matter
same_first : IsLeapFree → (leap used : ℕ) (start : Start) (wanted : Option ℕ) (fs : List Framed) → used ≡ leap_option (Some leap) (plan_in wanted fs) start
    → first_tow used (set_had wanted fs) wanted fs ≡ first_tow leap (set_had wanted fs) wanted fs
same_first free leap used start wanted fs is = grind (arith, common_steps)

-- the first time of a conversion that starts as found
first_dated : DateLaws → (w leap : ℕ) (wanted : Option ℕ) (fs : List Framed) (x : Setup) → w < weeks → StartsAsFound x (Some w) (Some leap) wanted fs → (tow : ℕ)
    → first_tow leap (set_had wanted fs) wanted fs ≡ Some tow → IsDatedAt w tow leap x wanted fs
first_dated laws w leap wanted fs x small found tow first =
    let is_week : is_no_week x.gatherer.start ≡ false = ap is_no_week found.week ∙ ap not (lt-ltb w weeks small) in
    let set : set_of x.gatherer.plan x.forms ≡ set_had wanted fs = ap₂ set_of found.plan found.forms in
    let tow_is : first_tow x.gatherer.leap_seconds (set_of x.gatherer.plan x.forms) x.gatherer.station fs ≡ Some tow =
    ap₂ (λ (m : MsmSet) (o : Option ℕ). first_tow x.gatherer.leap_seconds m o fs) set found.station ∙ same_first laws.free leap x.gatherer.leap_seconds x.gatherer.start wanted fs found.leap_seconds ∙ first in (
      first,
      laws.dated (setup_value x).set (setup_value x).gatherer fs tow is_week (laws.small leap (set_had wanted fs) wanted fs tow first) tow_is
          ∙ ap (λ (n : ℕ). Some (n * week + tow)) (ap (λ (s : Start). first_week s tow) found.week ∙ given w tow),
    )

-- near a date
week_of : (noon tow : ℕ) (w : Option ℕ) → IsWeekFor (Some noon) (Some tow) w → (n : ℕ) × (w ≡ Some n) × IsWeekNear noon tow n
week_of noon tow w h = h

pub dated_as_printed : ReadLaws → DateLaws → IsDatedAsPrinted
dated_as_printed read laws options noon w leap wanted fs x are start =
    let (tow, first) = laws.some (leap_at noon) wanted fs are.some in
    let (n, is, near) = week_of noon tow w (subst (λ (t : Option ℕ). IsWeekFor (Some noon) t w) first are.week.0) in
    let found : StartsAsFound x (Some n) (Some (leap_at noon)) wanted fs = subst2 is are.week.2 (started_as_found read options (Near noon) w leap wanted fs x are start) in
    (n, tow, is, near, first_dated laws n (leap_at noon) wanted fs x (near_small noon tow n near) found tow first)
  where
    subst2 : {n m : Option ℕ} → w ≡ n → leap ≡ m → StartsAsFound x w leap wanted fs → StartsAsFound x n m wanted fs
    subst2 {n} {m} e f h = subst (λ (o : Option ℕ). StartsAsFound x o m wanted fs) e (subst (λ (o : Option ℕ). StartsAsFound x w o wanted fs) f h)

-- by the ephemerides
one_week : (a b : ℕ) → ◌≡◌ {A = FirstTwo} (One a) (One b) → a ≡ b
one_week a b e = cc

pub dated_as_sent : ReadLaws → DateLaws → IsDatedAsSent
dated_as_sent read laws options d w leap wanted fs x are start one =
    let (e, is, week_is, leap_is) = are.week in
    let (tow, first) = laws.some (leap_by wanted fs d) wanted fs are.some in
    let same : e ≡ d = one_week e d (sym is ∙ one) in
    let found : StartsAsFound x (Some (week_by wanted fs d)) (Some (leap_by wanted fs d)) wanted fs =
    subst2 (week_is ∙ ap (λ (n : ℕ). Some (week_by wanted fs n)) same) (leap_is ∙ ap (λ (n : ℕ). Some (leap_by wanted fs n)) same) (started_as_found read options Ephemerides w leap wanted fs x are start) in
    (tow, first_dated laws (week_by wanted fs d) (leap_by wanted fs d) wanted fs x (within_last (time_in d (first_msm (leap_by wanted fs d) wanted fs))) found tow first)
  where
    subst2 : {n m : Option ℕ} → w ≡ n → leap ≡ m → StartsAsFound x w leap wanted fs → StartsAsFound x n m wanted fs
    subst2 {n} {m} e f h = subst (λ (o : Option ℕ). StartsAsFound x o m wanted fs) e (subst (λ (o : Option ℕ). StartsAsFound x w o wanted fs) f h)

-- ---- the line

pub words_printed : ArePrintedWords
unfolding options_line
words_printed w leap wanted fs = refl
