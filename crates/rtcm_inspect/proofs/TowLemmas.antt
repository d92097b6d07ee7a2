-- The first MSMs of each system, after one more message.
use Rattle.rtcm_inspect.proofs.Names.{and-or_distrib_right, systems, index_of, is_system, length-take-le, tabulate, value_of, with_value_of, FourAndSeven, BySystem, any_system, each_after, index_less, is_tabulated, system_same, systems_split, value_after, value_of_other, value_tabulated, is_in_set, weeks, counted_before, counted_set, counted_tows, greatest_in, greatest_of, with_tow, counted_in, HaveGreatest, AreTows, CountsTow, IsGreatestAt, IsMsmOf, IsWith, KeepsFirst, earlier_of, earliest, first_of_system, later_by, tow_by, with_greatest, tows_with_greatest, FirstTows, MsmTow, SystemTows, common_steps, option_or, le-ltb, lt-ltb, Framed, Message, Ok, ◌++◌, ◌≤◌, first_tow, every_channel, heard, inspected_in, drop, length, length-append, message_at, tow_of, week, ◌*◌, ◌≡◌, ◌∙◌, ◌+◌, ◌<◌, ◌&&◌, ◌||◌, ℕ, Bool, true, false, List, [], ◌∷◌, Option, Some, None, IfSome, ap, ap₂, arith, list_any, option_map, is_some, refl, subst, sym, if◌then◌else◌, have_form, Form, Forms, MsmSet, System, option_and_then, FormedMsm, MsmHeader, Msm, inspected, is_of_station, gps_tow}
use Rattle.rtcm_msg.specs.declared.number.Forms.TheVariants.{All}
use Rattle.gnss_system.specs.declared.system.System.TheVariants as listed
use Rattle.rtcm_inspect.proofs.FirstLemmas.{first_more, or_none}
use Rattle.rtcm_inspect.proofs.SetLemmas.{if_same, tow_read}
use Rattle.rtcm_inspect.proofs.StreamChannelLemmas.{another_system}
use Rattle.rtcm_inspect.proofs.CountedLemmas.{at_more, greatest_more, none_counted, number_kept, number_new, some_counted}
use Rattle.rtcm_inspect.specs.inner.FirstTows.{tow_in}

-- fewer MSMs are before a time of week
abbrev pub IsBefore : ℕ → Option MsmTow → Type 0
IsBefore n o = IfSome o (λ t. t.msms_before < n)

-- one more, if none is known
abbrev pub grown : Bool → MsmTow → Option MsmTow → Option MsmTow
grown b c None = if b then Some c else None
grown b c (Some x) = Some x

-- of two, each before the new one
grown_earlier : (a b : Option MsmTow) (c : MsmTow) → IsBefore c.msms_before a → IsBefore c.msms_before b → (p q : Bool) → earlier_of (grown p c a) (grown q c b) ≡ grown (p || q) c (earlier_of a b)
grown_earlier a b c h k p q = grind (arith, if_same, lt-ltb, le-ltb)

earlier_before : (n : ℕ) (a b : Option MsmTow) → IsBefore n a → IsBefore n b → IsBefore n (earlier_of a b)
earlier_before n a b h k = grind arith

module _ (set : MsmSet) (tows : BySystem SystemTows) (n : ℕ) (before : (s : System) (forms : Forms) → IsBefore n (tow_in forms (value_of s tows))) where
  system_before : (s : System) → IsBefore n (first_of_system set tows s)
  system_before s = grind arith

  earliest_before : (ss : List System) → IsBefore n (earliest set tows ss)
  earliest_before [] = tt
  earliest_before (s ∷ ss) = earlier_before n (first_of_system set tows s) (earliest set tows ss) (system_before s) (earliest_before ss)

-- an MSM of this system and form
module _ (set : MsmSet) (tows : BySystem SystemTows) (system : System) (form : Form) (c : MsmTow) (now : SystemTows) (with_c : (forms : Forms) → IsWith (value_of system tows) form c now forms)
    (before : (s : System) (forms : Forms) → IsBefore c.msms_before (tow_in forms (value_of s tows))) where
  abbrev is_in : Bool
  is_in = value_of system set.systems && have_form set.forms form

  abbrev after : BySystem SystemTows
  after = with_value_of system tows now

  system_grown : (s : System) → first_of_system set after s ≡ grown (is_system system s && is_in) c (first_of_system set tows s)
  system_grown s = grind (arith, value_after, system_same, value_of_other)

  earliest_grown : (ss : List System) → earliest set after ss ≡ grown (list_any (is_system system) ss && is_in) c (earliest set tows ss)
  earliest_grown [] = refl
  earliest_grown (s ∷ ss) =
      ap₂ earlier_of (system_grown s) (earliest_grown ss)
      ∙ grown_earlier (first_of_system set tows s) (earliest set tows ss) c (system_before set tows c.msms_before before s) (earliest_before set tows c.msms_before before ss) (is_system system s && is_in) (list_any (is_system system) ss && is_in)
      ∙ ap (λ (b : Bool). grown b c (earlier_of (first_of_system set tows s) (earliest set tows ss))) (sym (and-or_distrib_right (is_system system s) (list_any (is_system system) ss) is_in))

  pub first_grown : earliest set (with_value_of system tows now) systems ≡ grown (value_of system set.systems && have_form set.forms form) c (earliest set tows systems)
  first_grown = earliest_grown systems ∙ ap (λ (b : Bool). grown (b && is_in) c (earliest set tows systems)) (any_system system)

-- ---- one more message

more_frames : (n : ℕ) (fs : List Framed) (f : Framed) → n ≤ length fs → n + 1 ≤ length (fs ++ f ∷ [])
more_frames n fs f h = omega (arith, h, length-append fs (f ∷ []))

-- the first time of week of a set
first_after : (leap : ℕ) (set : MsmSet) (wanted : Option ℕ) (fs : List Framed) (f : Framed) (m : Message) → message_at f.message ≡ Ok m
    → first_tow leap set wanted (fs ++ f ∷ []) ≡ option_or (first_tow leap set wanted fs) (if is_in_set set m then tow_of wanted (heard every_channel leap m) else None)
first_after leap set wanted fs f m read =
    first_more (inspected_in leap set) (tow_of wanted) fs f ∙ ap (option_or (first_tow leap set wanted fs)) (tow_read leap set wanted f.message m read)

-- ---- the greatest time

-- what a frame has for a set
tow_read_in : (set : MsmSet) (wanted : Option ℕ) (f : Framed) {m : Message} → message_at f.message ≡ Ok m
    → counted_in set wanted f ≡ (if is_in_set set m then tow_of wanted (heard every_channel 0 m) else None)
tow_read_in set wanted f {m} read = tow_read 0 set wanted f.message m read

-- the first MSM of a set is known, or there is none
module _ {x : FirstTows} {wanted : Option ℕ} {fs : List Framed} (h : AreTows x wanted fs) (set : MsmSet) where
  known : {t : MsmTow} → earliest set x.tows systems ≡ Some t → first_tow 0 set wanted fs ≡ Some (tow_by 0 t)
  known is = sym (h.first 0 set) ∙ ap (option_map (tow_by 0)) is

  unknown : earliest set x.tows systems ≡ None → first_tow 0 set wanted fs ≡ None
  unknown is = sym (h.first 0 set) ∙ ap (option_map (tow_by 0)) is

  at_known : {t : MsmTow} → earliest set x.tows systems ≡ Some t → IsGreatestAt (counted_before set wanted fs) (counted_tows wanted fs) t.greatest
  at_known is = subst (λ (o : Option MsmTow). IfSome o (λ t. IsGreatestAt (counted_before set wanted fs) (counted_tows wanted fs) t.greatest)) is (h.at_first set)

-- by the frames with one more, of which these times of week count
abbrev AtFirst : Option ℕ → List Framed → List ℕ → MsmSet → Option MsmTow → Type 0
AtFirst wanted gs tows set o = IfSome o (λ t. IsGreatestAt (counted_before set wanted gs) tows t.greatest)

at_same : {x : FirstTows} {wanted : Option ℕ} {fs : List Framed} (f : Framed) → AreTows x wanted fs → (set : MsmSet) → AtFirst wanted (fs ++ f ∷ []) (counted_tows wanted fs) set (earliest set x.tows systems)
at_same {x} {wanted} {fs} f h set = by (earliest set x.tows systems) refl where
  by : (o : Option MsmTow) → earliest set x.tows systems ≡ o → AtFirst wanted (fs ++ f ∷ []) (counted_tows wanted fs) set o
  by None is = tt
  by (Some t) is = subst (λ (n : ℕ). IsGreatestAt n (counted_tows wanted fs) t.greatest) (sym (number_kept set wanted fs f (known h set is))) (at_known h set is)

-- a frame that doesn't count
uncounted : (wanted : Option ℕ) (fs : List Framed) (f : Framed) (set : MsmSet) (o : Option MsmTow) → counted_in counted_set wanted f ≡ None
    → AtFirst wanted (fs ++ f ∷ []) (counted_tows wanted fs) set o → AtFirst wanted (fs ++ f ∷ []) (counted_tows wanted (fs ++ f ∷ [])) set o
uncounted wanted fs f set o none h = subst (λ (l : List ℕ). AtFirst wanted (fs ++ f ∷ []) l set o) (sym (none_counted wanted fs f none)) h

-- a frame without an MSM of the wanted station
pub tows_none : {x : FirstTows} {wanted : Option ℕ} {fs : List Framed} (f : Framed) → ((leap : ℕ) (set : MsmSet) → option_and_then (tow_of wanted) (inspected_in leap set f.message) ≡ None) → AreTows x wanted fs → AreTows x wanted (fs ++ f ∷ [])
tows_none {x} {wanted} {fs} f none h = record {
  few = omega (arith, more_frames x.msms fs f h.few);
  before = h.before;
  first = λ leap set. h.first leap set ∙ sym (first_more (inspected_in leap set) (tow_of wanted) fs f ∙ ap (option_or (first_tow leap set wanted fs)) (none leap set) ∙ or_none (first_tow leap set wanted fs));
  greatest = h.greatest ∙ ap greatest_of (sym (none_counted wanted fs f (none 0 counted_set)));
  have_greatest = h.have_greatest;
  at_first = λ set. uncounted wanted fs f set (earliest set x.tows systems) (none 0 counted_set) (at_same f h set);
}

later : (n m : ℕ) (o : Option MsmTow) → n ≤ m → IsBefore n o → IsBefore m o
later n m o le h = grind arith

tow_grown : (leap : ℕ) (b : Bool) (c : MsmTow) (o : Option MsmTow) → option_map (tow_by leap) (grown b c o) ≡ option_or (option_map (tow_by leap) o) (if b then Some (tow_by leap c) else None)
tow_grown leap b c o = grind arith

with_before : (x y : SystemTows) (form : Form) (c : MsmTow) (forms : Forms) → IsWith x form c y forms → IsBefore c.msms_before (tow_in forms x) → IsBefore (c.msms_before + 1) (tow_in forms y)
with_before x y form c forms is h = grind arith

-- an MSM of the wanted station was added to the first ones; its time may still have to be counted
pub record AreTowsButLast (y : FirstTows) (wanted : Option ℕ) (fs : List Framed) (f : Framed) : Type 0 where
  pub few : y.msms ≤ length (fs ++ f ∷ [])
  pub before : (s : System) (forms : Forms) → IfSome (tow_in forms (value_of s y.tows)) (λ t. t.msms_before < y.msms)
  pub first : (leap : ℕ) (set : MsmSet) → option_map (tow_by leap) (earliest set y.tows systems) ≡ first_tow leap set wanted (fs ++ f ∷ [])
  pub greatest : y.greatest ≡ greatest_in wanted fs
  pub have_greatest : y.may_lack_greatest ≡ false → HaveGreatest y.tows
  pub at_first : (set : MsmSet) → AtFirst wanted (fs ++ f ∷ []) (counted_tows wanted fs) set (earliest set y.tows systems)

-- the first MSM of a set with one more, whose greatest time isn't known
at_grown : (wanted : Option ℕ) (fs : List Framed) (f : Framed) (set : MsmSet) (c : MsmTow) (b : Bool) (o : Option MsmTow) → c.greatest ≡ None
    → AtFirst wanted (fs ++ f ∷ []) (counted_tows wanted fs) set o → (b ≡ true → o ≡ None → length (counted_tows wanted fs) ≡ counted_before set wanted (fs ++ f ∷ []))
    → AtFirst wanted (fs ++ f ∷ []) (counted_tows wanted fs) set (grown b c o)
at_grown wanted fs f set c b o none h new = grind arith

if_true : (b : Bool) (o : Option ℕ) → b ≡ true → (if b then o else None) ≡ o
if_true b o e = ap (λ (d : Bool). if d then o else None) e

-- the system, the form and the time of week of an MSM
pub msm_is : (v : FormedMsm) {system : System} {form : Form} → system ≡ v.msm.system → form ≡ v.form → IsMsmOf (Msm v) system form
msm_is v system form set = grind arith

pub msm_tow : (wanted : Option ℕ) (v : FormedMsm) {system : System} {header : MsmHeader} {tow : ℕ} → is_of_station wanted (inspected (Msm v)) ≡ true → system ≡ v.msm.system → header ≡ v.msm.header → tow ≡ gps_tow system 0 header.time → (leap : ℕ)
    → tow_of wanted (heard every_channel leap (Msm v)) ≡ Some (later_by system leap tow)
msm_tow wanted v own system header tow leap = grind (arith, common_steps)

pub tows_kept : {x y : FirstTows} {wanted : Option ℕ} {fs : List Framed} (f : Framed) {m : Message} (form : Form) (c : MsmTow) {n : ℕ} → n ≡ x.msms + 1 → message_at f.message ≡ Ok m → c.msms_before ≡ x.msms → c.greatest ≡ None
    → IsMsmOf m c.system form → ((leap : ℕ) → tow_of wanted (heard every_channel leap m) ≡ Some (later_by c.system leap c.tow))
    → KeepsFirst (record x { msms = n }) form c y → AreTows x wanted fs → AreTowsButLast y wanted fs f
tows_kept {x} {y} {wanted} {fs} f {m} form c count read place none is has p h = record {
  few = omega (arith, p.msms, count, more_frames x.msms fs f h.few);
  before = λ s forms. rw (p.msms, count, p.tows.1) (each_after (λ (s : System) (t : SystemTows). (forms : Forms) → IsBefore (x.msms + 1) (tow_in forms t)) c.system x.tows p.tows.0
      (λ s forms. later x.msms (x.msms + 1) (tow_in forms (value_of s x.tows)) (omega arith) (h.before s forms))
      (λ forms. subst (λ (n : ℕ). IsBefore (n + 1) (tow_in forms p.tows.0)) place (with_before (value_of c.system x.tows) p.tows.0 form c forms (p.tows.2 forms) (rw place (h.before c.system forms)))) s forms);
  first = λ leap set. ap (option_map (tow_by leap)) (grows set)
      ∙ tow_grown leap (is_in set) c (earliest set x.tows systems)
      ∙ ap (λ (o : Option ℕ). option_or o (if is_in set then Some (tow_by leap c) else None)) (h.first leap set)
      ∙ sym (first_after leap set wanted fs f m read ∙ ap₂ (λ (b : Bool) (t : Option ℕ). option_or (first_tow leap set wanted fs) (if b then t else None)) (is set) (has leap));
  greatest = p.greatest ∙ h.greatest;
  have_greatest = λ waits. subst HaveGreatest (sym (p.same waits).1) (h.have_greatest (p.same waits).0);
  at_first = λ set. subst (AtFirst wanted (fs ++ f ∷ []) (counted_tows wanted fs) set) (sym (grows set))
      (at_grown wanted fs f set c (is_in set) (earliest set x.tows systems) none (at_same f h set)
      (λ within first. number_new set wanted fs f (unknown h set first) (tow_read_in set wanted f read ∙ if_true (is_in_set set m) (tow_of wanted (heard every_channel 0 m)) (is set ∙ within) ∙ has 0)));
}
  where
    is_in : MsmSet → Bool
    is_in set = value_of c.system set.systems && have_form set.forms form

    grows : (set : MsmSet) → earliest set y.tows systems ≡ grown (is_in set) c (earliest set x.tows systems)
    grows set = ap (λ (tows : BySystem SystemTows). earliest set tows systems) p.tows.1
        ∙ first_grown set x.tows c.system form c p.tows.0 p.tows.2 (λ s forms. rw place (h.before s forms))

-- an MSM of GLONASS doesn't count
pub tows_of_glonass : {y : FirstTows} {wanted : Option ℕ} {fs : List Framed} (f : Framed) {m : Message} (form : Form) → message_at f.message ≡ Ok m → IsMsmOf m listed.Glonass form
    → AreTowsButLast y wanted fs f → AreTows y wanted (fs ++ f ∷ [])
tows_of_glonass {y} {wanted} {fs} f {m} form read is h = record {
  few = h.few;
  before = h.before;
  first = h.first;
  greatest = h.greatest ∙ ap greatest_of (sym (none_counted wanted fs f none_here));
  have_greatest = h.have_greatest;
  at_first = λ set. uncounted wanted fs f set (earliest set y.tows systems) none_here (h.at_first set);
}
  where
    none_here : counted_in counted_set wanted f ≡ None
    none_here = tow_read_in counted_set wanted f read ∙ ap (λ (b : Bool). if b then tow_of wanted (heard every_channel 0 m) else None) (is counted_set)

-- ---- a first MSM that is given a greatest time

with_greatest_earlier : (t : ℕ) (a b : Option MsmTow) → earlier_of (option_map (with_greatest t) a) (option_map (with_greatest t) b) ≡ option_map (with_greatest t) (earlier_of a b)
with_greatest_earlier t a b = grind (arith, with_greatest)

abbrev all_with_greatest : ℕ → BySystem SystemTows → BySystem SystemTows
all_with_greatest t tows = tabulate (λ s. tows_with_greatest t (value_of s tows))

with_greatest_in : (t : ℕ) (forms : Forms) (x : SystemTows) → tow_in forms (tows_with_greatest t x) ≡ option_map (with_greatest t) (tow_in forms x)
with_greatest_in t forms x = grind arith

of_with_greatest : (t : ℕ) (tows : BySystem SystemTows) (s : System) (forms : Forms) → tow_in forms (value_of s (all_with_greatest t tows)) ≡ option_map (with_greatest t) (tow_in forms (value_of s tows))
of_with_greatest t tows s forms = ap (tow_in forms) (value_tabulated s (λ s. tows_with_greatest t (value_of s tows))) ∙ with_greatest_in t forms (value_of s tows)

with_greatest_earliest : (t : ℕ) (set : MsmSet) (tows : BySystem SystemTows) (ss : List System) → earliest set (all_with_greatest t tows) ss ≡ option_map (with_greatest t) (earliest set tows ss)
with_greatest_earliest t set tows [] = refl
with_greatest_earliest t set tows (s ∷ ss) = grind (arith, with_greatest_earlier, with_greatest, (with_greatest_earliest t set tows ss))

with_greatest_before : (n t : ℕ) (o : Option MsmTow) → IsBefore n o → IsBefore n (option_map (with_greatest t) o)
with_greatest_before n t o h = grind arith

with_greatest_tow : (leap t : ℕ) (o : Option MsmTow) → option_map (tow_by leap) (option_map (with_greatest t) o) ≡ option_map (tow_by leap) o
with_greatest_tow leap t o = grind arith

with_greatest_some : (t : ℕ) (o : Option MsmTow) → IfSome (option_map (with_greatest t) o) (λ x. is_some x.greatest ≡ true)
with_greatest_some t o = grind (arith, is_some)

at_with_greatest : (n : ℕ) (tows : List ℕ) (tow t : ℕ) (o : Option MsmTow) → greatest_of (tows ++ tow ∷ []) ≡ Some t → t < weeks * week → IfSome o (λ x. IsGreatestAt n tows x.greatest)
    → IfSome (option_map (with_greatest t) o) (λ x. IsGreatestAt n (tows ++ tow ∷ []) x.greatest)
at_with_greatest n tows tow t o is small h = grind (arith, at_more)

-- an MSM of another system than GLONASS counts, with its time of week
pub counts_tow : (m : Message) (system : System) (form : Form) → IsMsmOf m system form → (system ≡ listed.Glonass → ⊥) → is_in_set counted_set m ≡ true
counts_tow m system form is other = grind (arith, value_tabulated, another_system)

pub same_later : (system : System) (tow : ℕ) → (system ≡ listed.Glonass → ⊥) → later_by system 0 tow ≡ tow
same_later system tow other = grind arith

-- a time of week is counted
same_with_greatest : (t : ℕ) (o : Option MsmTow) → IfSome o (λ x. is_some x.greatest ≡ true) → o ≡ option_map (with_greatest t) o
same_with_greatest t o h = grind (arith, is_some, with_greatest)

same_tows : (t : ℕ) (x : SystemTows) → ((forms : Forms) → IfSome (tow_in forms x) (λ t. is_some t.greatest ≡ true)) → x ≡ tows_with_greatest t x
same_tows t x h = ap₂ pair (same_with_greatest t x.four_and_seven (h FourAndSeven)) (same_with_greatest t x.all (h All)) where
  pair : Option MsmTow → Option MsmTow → SystemTows
  pair a b = record { four_and_seven = a; all = b }

pub counted_still : (x : FirstTows) (tow t : ℕ) → Some t ≡ with_tow x.greatest tow → t < weeks * week → x.may_lack_greatest ≡ false → CountsTow x tow (record x { greatest = Some t })
counted_still x tow t is small still = record {
  msms = refl;
  greatest = is;
  tows = (t, refl, small, λ have. is_tabulated x.tows (λ s. tows_with_greatest t (value_of s x.tows)) (λ s. same_tows t (value_of s x.tows) (have still s)));
}

-- an MSM of another system is counted
pub tows_counted : {y z : FirstTows} {wanted : Option ℕ} {fs : List Framed} (f : Framed) {m : Message} (form : Form) {tow : ℕ} → message_at f.message ≡ Ok m
    → is_in_set counted_set m ≡ true → tow_of wanted (heard every_channel 0 m) ≡ Some tow → CountsTow y tow z → AreTowsButLast y wanted fs f → AreTows z wanted (fs ++ f ∷ [])
tows_counted {y} {z} {wanted} {fs} f {m} form {tow} read counts has p h = record {
  few = omega (arith, p.msms, h.few);
  before = λ s forms. rw (p.msms, all) (subst (IsBefore y.msms) (sym (of_with_greatest t y.tows s forms)) (with_greatest_before y.msms t (tow_in forms (value_of s y.tows)) (h.before s forms)));
  first = λ leap set. ap (λ (tows : BySystem SystemTows). option_map (tow_by leap) (earliest set tows systems)) all
      ∙ ap (option_map (tow_by leap)) (with_greatest_earliest t set y.tows systems) ∙ with_greatest_tow leap t (earliest set y.tows systems) ∙ h.first leap set;
  greatest = p.tows.1 ∙ sym now ∙ ap greatest_of (sym (some_counted wanted fs f here));
  have_greatest = λ waits. rw all (λ s forms. subst (λ (o : Option MsmTow). IfSome o (λ x. is_some x.greatest ≡ true)) (sym (of_with_greatest t y.tows s forms)) (with_greatest_some t (tow_in forms (value_of s y.tows))));
  at_first = λ set. subst (λ (l : List ℕ). AtFirst wanted (fs ++ f ∷ []) l set (earliest set z.tows systems)) (sym (some_counted wanted fs f here))
      (subst (AtFirst wanted (fs ++ f ∷ []) (counted_tows wanted fs ++ tow ∷ []) set) (sym (ap (λ (tows : BySystem SystemTows). earliest set tows systems) all ∙ with_greatest_earliest t set y.tows systems))
      (at_with_greatest (counted_before set wanted (fs ++ f ∷ [])) (counted_tows wanted fs) tow t (earliest set y.tows systems) now p.tows.2 (h.at_first set)));
}
  where
    t : ℕ
    t = p.tows.0

    all : z.tows ≡ all_with_greatest t y.tows
    all = p.tows.3 h.have_greatest

    here : counted_in counted_set wanted f ≡ Some tow
    here = tow_read_in counted_set wanted f read ∙ if_true (is_in_set counted_set m) (tow_of wanted (heard every_channel 0 m)) counts ∙ has

    now : greatest_of (counted_tows wanted fs ++ tow ∷ []) ≡ Some t
    now = greatest_more (counted_tows wanted fs) tow ∙ ap (λ (o : Option ℕ). with_tow o tow) (sym h.greatest) ∙ sym p.greatest ∙ p.tows.1

-- ---- the first MSM of a set, from the last system on

dropped : (n : ℕ) (s : System) → index_of s ≡ n → drop n systems ≡ s ∷ drop (n + 1) systems
dropped n s e = grind (arith, systems_split, length-take-le {A = ℕ}, index_less)

pub one_more : (set : MsmSet) (tows : BySystem SystemTows) (n i : ℕ) (s : System) {first now here : Option MsmTow} → index_of s ≡ n → i ≡ n + 1 → here ≡ first_of_system set tows s → first ≡ earliest set tows (drop i systems)
    → now ≡ earlier_of here first → now ≡ earliest set tows (drop n systems)
one_more set tows n i s at more is before now =
    now ∙ ap₂ earlier_of is (before ∙ ap (λ (k : ℕ). earliest set tows (drop k systems)) more) ∙ sym (ap (earliest set tows) (dropped n s at))

-- ---- before the first message

abbrev none_yet : SystemTows
none_yet = record { four_and_seven = None; all = None }

pub no_tows : (wanted : Option ℕ) (tows : BySystem SystemTows) → tows ≡ tabulate (λ s. none_yet) → AreTows (record { msms = 0; tows = tows; greatest = None; may_lack_greatest = false }) wanted []
no_tows wanted tows is = grind (arith, common_steps, value_tabulated, is_some)
