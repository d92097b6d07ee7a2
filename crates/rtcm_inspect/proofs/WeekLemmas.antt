-- The nearest week, and the time of the first MSM.
use Rattle.rtcm_inspect.proofs.Names.{first_week, is_no_week, of_weeks, ◌≡◌, ◌∙◌, ◌+◌, ◌-◌, ◌*◌, ◌/◌, ◌<◌, ◌≤◌, ◌==◌, ◌&&◌, ◌||◌, ◌++◌, ℕ, Bool, true, false, List, [], ◌∷◌, Option, Some, None, Result, Ok, Err, refl, sym, ap, arith, cons_option, filter_map, nat_lt, option_and_then, if◌then◌else◌, option_or, option_map_or, week, weeks, Framed, message_with, MsmSet, MsgFault, Message, Msm, GatherSetup, Heard, is_own, is_of_station, Timed, ahead, greatest_time, is_closed, is_past, taken_at, timed_after, first_tow, tow_of, ChannelsValue, every_channel, heard_in, heard_of, IsNearestWeek, IsWeekNear, half_week, first_time}
use Rattle.rtcm_inspect.proofs.FirstLemmas.{or_more, or_none}

-- ---- the nearest week, by its quotient q: n = q * week + r

divided : (n : ℕ) → (n / week * week ≤ n) × (n < n / week * week + week)
divided n = grind arith

pub one_week : (noon tow : ℕ) → half_week ≤ noon → tow < week → (w : ℕ) × IsNearestWeek noon tow w × ((v : ℕ) → IsNearestWeek noon tow v → v ≡ w)
one_week noon tow late small = (q, (omega (arith, d.0, d.1, late, small), omega (arith, d.0, d.1, late, small)), same)
  where
    n : ℕ
    n = (noon + half_week - 1) - tow

    q : ℕ
    q = n / week

    d : (n / week * week ≤ n) × (n < n / week * week + week)
    d = divided n

    same : (v : ℕ) → IsNearestWeek noon tow v → v ≡ q
    same v h = omega (arith, d.0, d.1, late, small, h.0, h.1)

pub nearest_printed : (noon tow w v : ℕ) → IsWeekNear noon tow w → v < weeks → IsNearestWeek noon tow v → w ≡ v
nearest_printed noon tow w v near less h = omega arith

-- ---- the first MSM

-- a message of the setup's station is of the station whose messages count
pub own_counts : (s : GatherSetup) (m : Heard) → is_own s m ≡ true → is_of_station s.station m ≡ true
own_counts s m h = grind arith

-- and the other way round, if it has a station
counts_own : (s : GatherSetup) (m : Heard) (n : ℕ) → m.station ≡ Some n → is_of_station s.station m ≡ true → is_own s m ≡ true
counts_own s m n is h = grind arith

abbrev tow_in : Option Heard → Option ℕ
tow_in o = option_and_then (λ m. m.tow) o

abbrev station_in : Option Heard → Option ℕ
station_in o = option_and_then (λ m. m.station) o

no_tow : {t : ℕ} → ◌≡◌ {A = Option ℕ} None (Some t) → ⊥
no_tow e = cc

-- an MSM has a station
has_station : (channels : ChannelsValue) (leap : ℕ) (r : Result Message MsgFault) (m : Heard) (tow : ℕ) → heard_of channels leap r ≡ Some m → m.tow ≡ Some tow → (n : ℕ) × (m.station ≡ Some n)
has_station channels leap (Ok (Msm v)) m tow is t = (v.msm.header.station, ap (λ (o : Option Heard). station_in o) (sym is))
has_station channels leap (Ok other) m tow is t = absurd (let e : m.tow ≡ None = ap (λ (o : Option Heard). tow_in o) (sym is) in no_tow (sym e ∙ t))
has_station channels leap (Err e) m tow is t = cc

first_time-append : (xs ys : List Timed) → first_time (xs ++ ys) ≡ option_or (first_time xs) (first_time ys)
first_time-append [] ys = refl
first_time-append (x ∷ xs) ys = ap (option_or x.time) (first_time-append xs ys) ∙ or_more x.time (first_time xs) (first_time ys)

-- without a first time there is no greatest one
none_greatest : (xs : List Timed) → first_time xs ≡ None → greatest_time xs ≡ None
none_greatest [] h = refl
none_greatest (x ∷ xs) h = grind (arith, (none_greatest xs))

-- the first time stays
first_stays : (s : GatherSetup) (t : ℕ) (earlier : List Timed) (ms : List Heard) → first_time earlier ≡ Some t → first_time (timed_after s earlier ms) ≡ Some t
first_stays s t earlier [] h = h
first_stays s t earlier (m ∷ ms) h =
    let x : Timed = record { message = m; time = taken_at s earlier m } in
    first_stays s t (earlier ++ x ∷ []) ms (first_time-append earlier (x ∷ []) ∙ ap (λ (o : Option ℕ). option_or o (first_time (x ∷ []))) h)

-- one more message, the first one whose time may be accepted
first_or_none : {time : Option ℕ} (earlier : List Timed) (x : Timed) → first_time earlier ≡ None → x.time ≡ time → first_time (earlier ++ x ∷ []) ≡ time
first_or_none earlier x none is = grind (arith, first_time-append, or_none)

-- the parts of a time of week that was found
tow_parts : (wanted : Option ℕ) (m : Heard) (t : ℕ) → tow_of wanted m ≡ Some t → (is_of_station wanted m ≡ true) × (m.tow ≡ Some t)
tow_parts wanted m t h = grind (arith, no_tow)

no_parts : (wanted : Option ℕ) (m : Heard) → tow_of wanted m ≡ None → is_of_station wanted m ≡ true → m.tow ≡ None
no_parts wanted m h own = grind arith

choose : (own : Bool) (F : ℕ → Option ℕ) (o : Option ℕ) → (own ≡ true → o ≡ None) → (if own then option_and_then F o else None) ≡ None
choose own F o h = grind arith

-- a message without a time of week of the station isn't accepted
not_taken : (s : GatherSetup) (earlier : List Timed) (m : Heard) → tow_of s.station m ≡ None → taken_at s earlier m ≡ None
not_taken s earlier m none = choose (is_own s m) _ m.tow (λ own. no_parts s.station m none (own_counts s m own))

-- the time of an accepted message, by the greatest time before it
abbrev pub placed : GatherSetup → List Timed → Option ℕ → ℕ → Option ℕ
placed s earlier greatest tow =
    if option_map_or (λ t. nat_lt half_week (ahead t tow) || ((ahead t tow == 0) && is_closed s t earlier)) greatest false
    || is_past (option_map_or (λ t. t + ahead t tow) greatest (first_week s.start tow * week + tow))
    then None else Some (option_map_or (λ t. t + ahead t tow) greatest (first_week s.start tow * week + tow))

pub not_past : (n : ℕ) → n < weeks * week → is_past n ≡ false
not_past n small = grind arith

-- the first MSM is accepted in the week of the start
taken_first : {tow : ℕ} (s : GatherSetup) (earlier : List Timed) (m : Heard) → is_past (first_week s.start tow * week + tow) ≡ false → greatest_time earlier ≡ None → is_own s m ≡ true → m.tow ≡ Some tow
    → taken_at s earlier m ≡ Some (first_week s.start tow * week + tow)
taken_first s earlier m now none own is = grind arith

-- if this is the first time of week, these messages have the first time of all
abbrev Dated : GatherSetup → ℕ → Option ℕ → List Heard → Type 0
Dated s tow first ms = (earlier : List Timed) → first_time earlier ≡ None → first ≡ Some tow → first_time (timed_after s earlier ms) ≡ Some (first_week s.start tow * week + tow)

-- one more frame, whose message is o
dated_step : {tow : ℕ} {rest : Option ℕ} (s : GatherSetup) (o : Option Heard) (ms : List Heard) → is_past (first_week s.start tow * week + tow) ≡ false → Dated s tow rest ms
    → ((m : Heard) (t : ℕ) → o ≡ Some m → m.tow ≡ Some t → (n : ℕ) × (m.station ≡ Some n)) → Dated s tow (option_or (option_and_then (tow_of s.station) o) rest) (cons_option o ms)
dated_step s None ms now more station earlier none first = more earlier none first
dated_step {tow} {rest} s (Some m) ms now more station earlier none first = by (tow_of s.station m) refl first where
  x : Timed
  x = record { message = m; time = taken_at s earlier m }

  by : (t : Option ℕ) → tow_of s.station m ≡ t → option_or t rest ≡ Some tow → first_time (timed_after s (earlier ++ x ∷ []) ms) ≡ Some (first_week s.start tow * week + tow)
  by None e first = more (earlier ++ x ∷ []) (first_or_none earlier x none (not_taken s earlier m e)) first
  by (Some t) e first =
      let parts = tow_parts s.station m t e in
      let is : m.tow ≡ Some tow = parts.1 ∙ first in
      let from = station m tow refl is in
      let own = counts_own s m from.0 from.1 parts.0 in
      first_stays s (first_week s.start tow * week + tow) (earlier ++ x ∷ []) ms (first_or_none earlier x none (taken_first s earlier m now (none_greatest earlier none) own is))

-- the time of week doesn't depend on the channels
same_tow : (wanted : Option ℕ) (c d : ChannelsValue) (leap : ℕ) (r : Result Message MsgFault) → option_and_then (tow_of wanted) (heard_of c leap r) ≡ option_and_then (tow_of wanted) (heard_of d leap r)
same_tow wanted c d leap r = grind arith

-- the messages of frames by a setup
abbrev heard_all : MsmSet → GatherSetup → List Framed → List Heard
heard_all set s fs = filter_map (λ f. heard_in s.plan.channels s.leap_seconds set f.message) fs

dated_after : (set : MsmSet) (s : GatherSetup) (tow : ℕ) (fs : List Framed) → is_past (first_week s.start tow * week + tow) ≡ false → Dated s tow (first_tow s.leap_seconds set s.station fs) (heard_all set s fs)
dated_after set s tow [] now = λ earlier none first. absurd (no_tow first)
dated_after set s tow (f ∷ fs) now = λ earlier none first.
    dated_step s (heard_in s.plan.channels s.leap_seconds set f.message) (heard_all set s fs) now (dated_after set s tow fs now)
    (λ m t is h. has_station s.plan.channels s.leap_seconds (message_with set f.message) m t is h) earlier none
    (ap (λ (o : Option ℕ). option_or o (first_tow s.leap_seconds set s.station fs)) (same_tow s.station s.plan.channels every_channel s.leap_seconds (message_with set f.message)) ∙ first)

pub dated : (set : MsmSet) (s : GatherSetup) (fs : List Framed) (tow : ℕ) → is_no_week s.start ≡ false → tow < week → first_tow s.leap_seconds set s.station fs ≡ Some tow → first_time (timed_after s [] (heard_all set s fs)) ≡ Some (first_week s.start tow * week + tow)
dated set s fs tow within small first = dated_after set s tow fs (not_past (first_week s.start tow * week + tow) (let w = of_weeks s.start tow within in omega arith)) [] refl first
