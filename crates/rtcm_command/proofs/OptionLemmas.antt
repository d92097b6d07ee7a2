-- The values of options.
use Rattle.rtcm_command.proofs.Names.{arith, common_steps, IsSourceRefused, Culprit, Devices, HaveFailedBy, NoDevice, IsCompleteBy, IsCompleteSet, IsWindowOf, complete_with, is_given, lacks_one, window_with, culprit, IsGiven, IsGapsSet, is_some, ◌≡◌, ◌∙◌, ℕ, Bool, true, false, ok_or, IsChoiceSet, IsFromSet, IsUntilSet, Row, choice_by, window_by, List, [], Option, Some, None, Result, Ok, Bor, option_map, unwrap_or, refl, sym, ap, subst, ParsesUnsigned, ReadsOne, first_value, one_text, first_of, one_of, rows_of, Found, first_value-rows, one_text-rows, IsIntervalSet, IsNumberOf, IsTimeBy, IsTimeOf, inl, inr, tolerance_set, DateOption, CommandFault, Err, text_set}
use Rattle.command_faults.specs.declared.fault.DateOption.TheVariants as dated
use Rattle.rinex_inspect.specs.declared.gaps.Window.{Window}
use Rattle.command_faults.specs.declared.fault.CommandFault.TheVariants as faults

-- a typed getter returns the number whose decimal form the text is; P and Q are further properties of the parse
number_of : {E : Type 0} (P Q : List ℕ → Result ℕ E → Type 0) (bits : ℕ) (text : Option (List ℕ)) (n : Option ℕ) → (text ≡ None → n ≡ None)
    → ((t : List ℕ) → text ≡ Some t → ReadsOne {T = ℕ} {E = E} (λ bs r. ParsesUnsigned bits 10 bs r × P bs r × Q bs r) t n) → IsNumberOf bits text n
number_of P Q bits (Some t) None none some = (some t refl).1.0
number_of P Q bits None n none some = none refl
number_of P Q bits (Some t) (Some n) none some = (some t refl).0

-- the same for the options as clap's definitions list them
pub number_given : {E : Type 0} (P Q : List ℕ → Result ℕ E → Type 0) (bits : ℕ) (f : Found) (id : List ℕ) (n : Option ℕ)
    → (one_text f id ≡ None → n ≡ None)
    → ((t : List ℕ) → one_text f id ≡ Some t → ReadsOne {T = ℕ} {E = E} (λ bs r. ParsesUnsigned bits 10 bs r × P bs r × Q bs r) t n)
    → IsNumberOf bits (one_of id (rows_of f)) n
number_given P Q bits f id n none some =
    subst (λ (t : Option (List ℕ)). IsNumberOf bits t n) (one_text-rows f id) (number_of P Q bits (one_text f id) n none some)

-- the text of an option, if r is its first value found
pub text_is : (f : Found) (id : List ℕ) (r o : Option (Bor (List ℕ))) → option_map (λ s. s.now) r ≡ first_value f id → r ≡ o
    → unwrap_or (option_map (λ s. s.now) o) [] ≡ text_set (rows_of f) id
text_is f id r o is found = grind (arith, common_steps, unwrap_or, option_map, first_value-rows)

-- ---- options that are read if they are given

-- a text by the first value found of an option, and by the options as clap's definitions list them
pub text_given : (f : Found) (id : List ℕ) (r o : Option (Bor (List ℕ))) → option_map (λ s. s.now) r ≡ first_value f id → r ≡ o → option_map (λ (s : Bor (List ℕ)). s.now) o ≡ first_of id (rows_of f)
text_given f id r o is found = ap (option_map (λ (s : Bor (List ℕ)). s.now)) (sym found) ∙ is ∙ first_value-rows f id

-- an option without a text, and with one, by the first value found
pub none_given : {A : Type 0} (Reads : List ℕ → Option A → Type 0) (fault : CommandFault) (f : Found) (id : List ℕ) (r : Option (Bor (List ℕ))) → option_map (λ s. s.now) r ≡ first_value f id → r ≡ None → IsGiven Reads fault (first_of id (rows_of f)) (Ok None)
none_given Reads fault f id r is found = grind (arith, common_steps, text_given)

pub some_given : {A : Type 0} (Reads : List ℕ → Option A → Type 0) (fault : CommandFault) (f : Found) (id : List ℕ) (r : Option (Bor (List ℕ))) (text : Bor (List ℕ)) (read : Option A) → option_map (λ s. s.now) r ≡ first_value f id → r ≡ Some text
    → ((t : List ℕ) → text.now ≡ t → Reads t read) → IsGiven Reads fault (first_of id (rows_of f)) (ok_or (option_map Some read) fault)
some_given Reads fault f id r text read is found reads = grind (arith, common_steps, text_given)

-- what was read by one relation was read by a weaker one
pub given_so : {A : Type 0} {Reads Finds : List ℕ → Option A → Type 0} {fault : CommandFault} {text : Option (List ℕ)} {value : Result (Option A) CommandFault} → IsGiven Reads fault text value → ((t : List ℕ) (x : Option A) → Reads t x → Finds t x) → IsGiven Finds fault text value
given_so h so = record { none = h.none; some = λ t is. (let found = h.some t is in (found.0, so t found.0 found.1, found.2)) }

-- the fault of a text in which nothing was found
pub bad_text : {A : Type 0} {Reads : List ℕ → Option A → Type 0} {known fault : CommandFault} {text : Option (List ℕ)} → IsGiven Reads known text (Err fault) → fault ≡ known
bad_text {A = A} {Reads} {known} {fault} {text} h = by text refl where
  of : (read : Option A) → ◌≡◌ {A = Result (Option A) CommandFault} (Err fault) (ok_or (option_map Some read) known) → fault ≡ known
  of None e = cc
  of (Some x) e = cc

  by : (t : Option (List ℕ)) → text ≡ t → fault ≡ known
  by None is = let bad : ◌≡◌ {A = Result (Option A) CommandFault} (Err fault) (Ok None) = h.none is in cc
  by (Some t) is = let found = h.some t is in of found.0 found.2

-- ---- dates and times

-- of two options, by the first values found and by the options as clap's definitions list them
pub both_given : (P : (a b : Option (List ℕ)) → Type 0) (f : Found) (id other : List ℕ) (r o q p : Option (Bor (List ℕ))) → option_map (λ s. s.now) r ≡ first_value f id → r ≡ o
    → option_map (λ s. s.now) q ≡ first_value f other → q ≡ p → P (option_map (λ s. s.now) o) (option_map (λ s. s.now) p) → P (first_of id (rows_of f)) (first_of other (rows_of f))
both_given P f id other r o q p is found are had h = grind (arith, common_steps, option_map, first_value-rows)

-- what holds of both faults of the source of a week
pub source_fault : (P : CommandFault → Type 0) (options : List Row) (fault : CommandFault) → P faults.OneOf → P (faults.BadDate dated.Near) → IsSourceRefused options fault → P fault
source_fault P options fault one date (inl (week, near, is)) = subst P (sym is) one
source_fault P options fault one date (inr (week, near)) = subst P (sym (bad_text near)) date

-- ---- the fault of the choice of epochs

bad_tolerance : {fault : CommandFault} (tolerance : Option ℕ) → ok_or tolerance faults.BadTolerance ≡ Err fault → fault ≡ faults.BadTolerance
bad_tolerance tolerance e = grind (arith, common_steps)

-- what holds of the faults of its options holds of its fault
module _ (P : CommandFault → Type 0) (each_time : (option : DateOption) → P (faults.BadDate option)) (each_window : P faults.BadWindow) (each_interval : P faults.BadInterval) (each_tolerance : P faults.BadTolerance) where
  bad_time : (option : DateOption) (text : Option (List ℕ)) (e : CommandFault) → IsGiven (IsTimeBy IsTimeOf) (faults.BadDate option) text (Err e) → P e
  bad_time option text e h = subst P (sym (bad_text h)) (each_time option)

  bad_window : (options : List Row) (from until : Result (Option ℕ) CommandFault) (fault : CommandFault) → IsFromSet options from → IsUntilSet options until → window_by from until ≡ Err fault → P fault
  bad_window options from until fault f u h = grind (arith, common_steps, bad_time)

  bad_grid : (window : Result (ℕ × ℕ) CommandFault) (interval : Result (Option ℕ) CommandFault) (tolerance : Option ℕ → Result ℕ CommandFault) (fault : CommandFault) → (window ≡ Err fault → P fault) → (interval ≡ Err fault → fault ≡ faults.BadInterval) → ((i : Option ℕ) → tolerance i ≡ Err fault → fault ≡ faults.BadTolerance)
      → choice_by window interval tolerance ≡ Err fault → P fault
  bad_grid window interval tolerance fault w i v h = grind (arith, common_steps)

  pub bad_choice : (options : List Row) (fault : CommandFault) → IsChoiceSet options (Err fault) → P fault
  bad_choice options fault (window, interval, (from, until, f, u, w), i, is) =
      bad_grid window interval (tolerance_set options) fault (λ e. bad_window options from until fault f u (sym w ∙ e))
      (λ e. bad_text (subst (λ (r : Result (Option ℕ) CommandFault). IsIntervalSet options r) e i)) (λ n t. bad_tolerance _ t) (sym is)

-- ---- what makes a file complete

given_some : {A B : Type 0} (f : A → B) (r : Option A) → is_some (option_map f r) ≡ is_some r
given_some f r = grind (arith, common_steps)

pub is_given_by : (f : Found) (id : List ℕ) (r : Option (Bor (List ℕ))) → option_map (λ s. s.now) r ≡ first_value f id → is_some r ≡ is_given id (rows_of f)
is_given_by f id r is = sym (given_some (λ (s : Bor (List ℕ)). s.now) r) ∙ ap (λ (o : Option (List ℕ)). is_some o) (is ∙ first_value-rows f id)

-- of these faults no device failed
refused_time : (option : DateOption) (text : Option (List ℕ)) (fault : CommandFault) → IsGiven (IsTimeBy IsTimeOf) (faults.BadDate option) text (Err fault) → culprit fault ≡ NoDevice
refused_time option text fault h = ap culprit (bad_text h)

refused_window : (interval : ℕ) (options : List Row) (from until : Result (Option ℕ) CommandFault) (fault : CommandFault) → IsFromSet options from → IsUntilSet options until → Err fault ≡ window_with interval from until → culprit fault ≡ NoDevice
refused_window interval options from until fault f u is = grind (arith, common_steps, refused_time)

pub refused_complete : (options : List Row) (fault : CommandFault) → IsCompleteSet options (Err fault) → culprit fault ≡ NoDevice
refused_complete options fault (gaps, set, is) = by (lacks_one options) gaps set is where
  of : (interval : ℕ) (window : Result (Option Window) CommandFault) → IsWindowOf interval options window → Err fault ≡ complete_with interval window → culprit fault ≡ NoDevice
  of interval (Err e) (from, until, f, u, is) same = refused_window interval options from until fault f u (let e_is : e ≡ fault = cc in ap Err (sym e_is) ∙ is)
  of interval (Ok w) h same = absurd cc

  by : (b : Bool) (gaps : Result (Option ℕ) CommandFault) → IsGapsSet options gaps → IsCompleteBy b gaps options (Err fault) → culprit fault ≡ NoDevice
  by true gaps set same = let is : fault ≡ faults.AllOf = cc in ap culprit is
  by false (Err x) set same = let is : fault ≡ faults.BadGaps = (let known : x ≡ faults.BadGaps = bad_text set in cc) in ap culprit is
  by false (Ok None) set same = absurd cc
  by false (Ok (Some interval)) set (window, is, same) = of interval window is same

pub no_device : {R W : Type 0} (fault : CommandFault) (d : Devices R W) → culprit fault ≡ NoDevice → HaveFailedBy (culprit fault) d d
no_device fault d none = subst (λ (c : Culprit). HaveFailedBy c d d) (sym none) (refl, refl)
