-- What is read of messages if only the MSMs of a set are decoded.
use Rattle.rtcm_inspect.proofs.Names.{or-false, get_or, ◌<◌, ◌⊎◌, list_any_at, inside, outside, refused, other_of, has_msm, is_in_set, value_of, value_tabulated, is_decoded, ReadsAll, false_from_ne_true, true≢false, All-head, All-tail, GatherSetup, entries, is_planned, ◌≡◌, ◌∙◌, ◌++◌, ℕ, Bool, true, false, not, List, [], ◌∷◌, Option, None, Result, Ok, Err, All, All-cons, All-nil, ⊤, ◌&&◌, ap, arith, bits_of, length, list_any-append, nat_lt, option_and_then, option_map_or, refl, subst, sym, if◌then◌else◌, Framed, MsgFault, Message, Msm, Form, Forms, MsmSet, message_at, message_with, have_form, System, Heard, HeardCell, every_channel, heard, heard_of, inspected, inspected_in, inspected_of, is_of_station, set_of, valued, forms_had, has_other_value, needs_all, tow_of, valued_in, valued_of}
use Rattle.rtcm_msg.specs.declared.number.Forms.TheVariants as forms
use Rattle.rtcm_inspect.proofs.ValuedLemmas.{valued_system}

-- ---- a message that isn't decoded

pub if_same : {A : Type 0} (b : Bool) {x y : A} → x ≡ y → (if b then x else y) ≡ y
if_same b same = grind arith

abbrev found : {A : Type 0} → (leap : ℕ) → (Heard → A) → A → Result Message MsgFault → A
found leap has none r = option_map_or has (heard_of every_channel leap r) none

-- what is found in a message of the set, if nothing is in one that isn't decoded
module _ {A : Type 0} (leap : ℕ) (set : MsmSet) (bytes : List ℕ) (has : Heard → A) (none : A) (other : has (heard every_channel leap (other_of (bits_of bytes))) ≡ none) where
  pub found_inside : (m : Message) → message_at bytes ≡ Ok m → is_in_set set m ≡ true → option_map_or has (inspected_in leap set bytes) none ≡ has (heard every_channel leap m)
  found_inside m read is = ap (found leap has none) (inside set bytes m read is)

  pub found_outside : (m : Message) → message_at bytes ≡ Ok m → is_in_set set m ≡ false → option_map_or has (inspected_in leap set bytes) none ≡ none
  found_outside m read is = ap (found leap has none) (outside set bytes m read is) ∙ other

  pub found_refused : (e : MsgFault) → message_at bytes ≡ Err e → option_map_or has (inspected_in leap set bytes) none ≡ none
  found_refused e read = by (refused set bytes e read) where
    by : (message_with set bytes ≡ Err e) ⊎ (message_with set bytes ≡ Ok (other_of (bits_of bytes))) → found leap has none (message_with set bytes) ≡ none
    by h1 = grind (arith, none)

-- ---- the time of week

tow_found : (wanted : Option ℕ) (o : Option Heard) → option_and_then (tow_of wanted) o ≡ option_map_or (tow_of wanted) o None
tow_found wanted o = grind arith

none_of_other : (leap : ℕ) (wanted : Option ℕ) (bytes : List ℕ) → tow_of wanted (heard every_channel leap (other_of (bits_of bytes))) ≡ None
none_of_other leap wanted bytes = if_same (is_of_station wanted (heard every_channel leap (other_of (bits_of bytes)))) refl

pub tow_read : (leap : ℕ) (set : MsmSet) (wanted : Option ℕ) (bytes : List ℕ) (m : Message) → message_at bytes ≡ Ok m
    → option_and_then (tow_of wanted) (inspected_in leap set bytes) ≡ (if is_in_set set m then tow_of wanted (heard every_channel leap m) else None)
tow_read leap set wanted bytes m read = tow_found wanted (inspected_in leap set bytes) ∙ by (is_in_set set m) refl where
  by : (b : Bool) → is_in_set set m ≡ b → option_map_or (tow_of wanted) (inspected_in leap set bytes) None ≡ (if b then tow_of wanted (heard every_channel leap m) else None)
  by b h1 = grind (arith, found_inside, none_of_other, found_outside)

pub tow_refused : (leap : ℕ) (set : MsmSet) (wanted : Option ℕ) (bytes : List ℕ) (e : MsgFault) → message_at bytes ≡ Err e → option_and_then (tow_of wanted) (inspected_in leap set bytes) ≡ None
tow_refused leap set wanted bytes e read = grind (arith, tow_found, found_refused)

-- ---- the cells that count

pub none_valued : (wanted : Option ℕ) (bytes : List ℕ) → valued wanted (inspected (other_of (bits_of bytes))) ≡ []
none_valued wanted bytes = if_same (is_of_station wanted (inspected (other_of (bits_of bytes)))) refl

-- a message in these forms, or without such cells
abbrev IsHad : Forms → Option ℕ → Result Message MsgFault → Type 0
IsHad fs wanted (Ok m) = has_other_value fs wanted m ≡ false
IsHad fs wanted (Err e) = ⊤

abbrev pub ArePlanned : GatherSetup → List HeardCell → Type 0
ArePlanned s xs = All (λ x. is_planned s x ≡ true) xs

front : (s : GatherSetup) (xs ys : List HeardCell) → ArePlanned s (xs ++ ys) → ArePlanned s xs
front s [] ys h = All-nil (λ x. is_planned s x ≡ true)
front s (x ∷ xs) ys h = All-cons (λ x. is_planned s x ≡ true) x xs (All-head (λ x. is_planned s x ≡ true) x (xs ++ ys) h) (front s xs ys (All-tail (λ x. is_planned s x ≡ true) x (xs ++ ys) h))

rest : (s : GatherSetup) (xs ys : List HeardCell) → ArePlanned s (xs ++ ys) → ArePlanned s ys
rest s [] ys h = h
rest s (x ∷ xs) ys h = rest s xs ys (All-tail (λ x. is_planned s x ≡ true) x (xs ++ ys) h)

-- the cells of each frame
pub planned_each : (s : GatherSetup) (fs : List Framed) → ArePlanned s (valued_in s.station fs) → All (λ f. ArePlanned s (valued_of s.station f)) fs
planned_each s [] h = All-nil (λ f. ArePlanned s (valued_of s.station f))
planned_each s (f ∷ fs) h =
    All-cons (λ f. ArePlanned s (valued_of s.station f)) f fs (front s (valued_of s.station f) (valued_in s.station fs) h) (planned_each s fs (rest s (valued_of s.station f) (valued_in s.station fs) h))

-- the system of a planned cell is decoded
decoded : (s : GatherSetup) (x : HeardCell) → is_planned s x ≡ true → is_decoded s.plan x.satellite.system ≡ true
decoded s x h = grind arith

not_out : (a b n : Bool) → a ≡ true → (a && b) ≡ false → (not b && n) ≡ false → n ≡ false
not_out a b n e out had = grind arith

-- an MSM outside the set has no cell that counts
no_cell : (s : GatherSetup) (fs : Forms) (f : Form) (system : System) (xs : List HeardCell) → All (λ x. x.satellite.system ≡ system) xs → ArePlanned s xs → has_msm (set_of s.plan fs) f system ≡ false
    → (not (have_form fs f) && nat_lt 0 (length xs)) ≡ false → xs ≡ []
no_cell s fs f system [] of planned out had = refl
no_cell s fs f system (x ∷ xs) of planned out had =
    let same : x.satellite.system ≡ system = All-head (λ (x : HeardCell). x.satellite.system ≡ system) x xs of in
    let is : value_of system (set_of s.plan fs).systems ≡ true = value_tabulated system (is_decoded s.plan) ∙ subst (λ (u : System). is_decoded s.plan u ≡ true) same (decoded s x (All-head (λ x. is_planned s x ≡ true) x xs planned)) in
    let none = not_out (value_of system (set_of s.plan fs).systems) (have_form fs f) (nat_lt 0 (length (x ∷ xs))) is out had in
    absurd (grind (arith, none))

kept_frame : (s : GatherSetup) (fs : Forms) (f : Framed) → ArePlanned s (valued_of s.station f) → IsHad fs s.station (message_at f.message) → ReadsAll (set_of s.plan fs) s f
kept_frame s fs f planned had = by (message_at f.message) refl had where
  cells : (m : Message) → message_at f.message ≡ Ok m → valued_of s.station f ≡ valued s.station (inspected m)
  cells m read = ap (λ (r : Result Message MsgFault). option_map_or (valued s.station) (inspected_of r) []) read

  none : (m : Message) → is_in_set (set_of s.plan fs) m ≡ false → has_other_value fs s.station m ≡ false → ArePlanned s (valued s.station (inspected m)) → valued s.station (inspected m) ≡ []
  none (Msm v) out had h = no_cell s fs v.form v.msm.system (valued s.station (inspected (Msm v))) (valued_system s.station v.form v.msm (entries (Msm v))) h out had
  none other out had h = cc

  by_set : (m : Message) → message_at f.message ≡ Ok m → has_other_value fs s.station m ≡ false → (b : Bool) → is_in_set (set_of s.plan fs) m ≡ b → ReadsAll (set_of s.plan fs) s f
  by_set m read had true is = found_inside 0 (set_of s.plan fs) f.message (valued s.station) [] (none_valued s.station f.message) m read is ∙ sym (cells m read)
  by_set m read had false is =
      found_outside 0 (set_of s.plan fs) f.message (valued s.station) [] (none_valued s.station f.message) m read is ∙ sym (cells m read ∙ none m is had (subst (ArePlanned s) (cells m read) planned))

  by : (r : Result Message MsgFault) → message_at f.message ≡ r → IsHad fs s.station r → ReadsAll (set_of s.plan fs) s f
  by (Ok m) read had = by_set m read had (is_in_set (set_of s.plan fs) m) refl
  by (Err e) read had =
      found_refused 0 (set_of s.plan fs) f.message (valued s.station) [] (none_valued s.station f.message) e read
      ∙ sym (ap (λ (r : Result Message MsgFault). option_map_or (valued s.station) (inspected_of r) []) read)

not_needed : (wanted : Option ℕ) (r : Result Message MsgFault) → needs_all wanted r ≡ false → IsHad forms.FourAndSeven wanted r
not_needed wanted r h = grind arith

abbrev needs : Option ℕ → Framed → Bool
needs wanted f = needs_all wanted (message_at f.message)

had_each : (wanted : Option ℕ) (fs : List Framed) (k : ℕ) (d : Framed) → k < length fs → IsHad (forms_had wanted fs) wanted (message_at (get_or fs k d).message)
had_each wanted fs k d within = grind (arith, not_needed, false_from_ne_true, true≢false, list_any_at)

pub loses_none : (s : GatherSetup) (fs : List Framed) → ArePlanned s (valued_in s.station fs) → All (ReadsAll (set_of s.plan (forms_had s.station fs)) s) fs
loses_none s fs planned k d within = kept_frame s (forms_had s.station fs) (get_or fs k d) (planned_each s fs planned k d within) (had_each s.station fs k d within)

-- ---- the forms of one more message

pub forms_more : {before after : Forms} (wanted : Option ℕ) (fs : List Framed) (f : Framed) → after ≡ (if needs_all wanted (message_at f.message) then forms.All else before) → before ≡ forms_had wanted fs → after ≡ forms_had wanted (fs ++ f ∷ [])
forms_more wanted fs f new old = grind (arith, list_any-append, or-false)

-- those of one more MSM, by whether it has a cell
pub forms_kept : (had : Forms) (any : Bool) (f : Form) → (if any && not (have_form had f) then forms.All else had) ≡ (if not (have_form forms.FourAndSeven f) && any then forms.All else had)
forms_kept forms.FourAndSeven any f = grind arith
forms_kept forms.All any f = grind arith
