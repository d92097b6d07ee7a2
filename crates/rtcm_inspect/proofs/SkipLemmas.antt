-- The cells that a conversion skips with the plan of a stream's signals.
use Rattle.rtcm_inspect.proofs.Names.{other_of, is_in_set, common_steps, get_or, ◌≡◌, ◌∙◌, ◌+◌, ◌≤◌, ap, sym, bits_of, cons_option, every_channel, filter_map, heard_by, heard_msm, inspected, inspected_in, inspected_of, is_some, seen_in, unlisted_in, ChannelsValue, Entry, MsmValue, System, entries, Msm, message_at, Message, MsgFault, MsmSet, Result, Ok, Err, Bool, true, false, not, ℕ, List, [], ◌∷◌, filter, All, refl, subst, arith, cond, count_by, option_map_or, All-nil, All-head, All-tail, sum_by-cons, Framed, counts_of_message, is_planned, brings_value, valued, GatherSetup, Heard, HeardCell, Timed, SkipsOnly, valued_in, valued_of, Form}
use Rattle.rtcm_inspect.proofs.SetLemmas.{ArePlanned, planned_each, found_inside, found_outside, found_refused, none_valued}
use Rattle.rtcm_inspect.proofs.WeekLemmas.{own_counts}

abbrev one_unless : Bool → ℕ
one_unless b = cond (not b) 1 0

counted : (p : HeardCell → Bool) (x : HeardCell) (xs : List HeardCell) → count_by (λ y. not (p y)) (x ∷ xs) ≡ one_unless (p x) + count_by (λ y. not (p y)) xs
counted p x xs = sum_by-cons (λ y. cond (not (p y)) 1 0) x xs

at_most : (p : Bool) (a b : ℕ) → a ≤ b → one_unless p + a ≤ 1 + b
at_most p a b h = grind arith

planned_kept : (p : Bool) (a b : ℕ) → p ≡ true → a ≤ b → one_unless p + a ≤ 0 + b
planned_kept p a b e h = grind arith

-- if the cells with a value are planned, at most the others are skipped
few_skipped : (s : GatherSetup) (xs : List HeardCell) → ArePlanned s (filter brings_value xs) → count_by (λ x. not (is_planned s x)) xs ≤ count_by (λ x. not (brings_value x)) xs
few_skipped s [] h = omega arith
few_skipped s (x ∷ xs) h = rw (counted (is_planned s) x xs, counted brings_value x xs) (by (brings_value x) h (few_skipped s xs)) where
  by : (b : Bool) → ArePlanned s (cond b (x ∷ filter brings_value xs) (filter brings_value xs))
      → (ArePlanned s (filter brings_value xs) → count_by (λ x. not (is_planned s x)) xs ≤ count_by (λ x. not (brings_value x)) xs)
      → one_unless (is_planned s x) + count_by (λ x. not (is_planned s x)) xs ≤ one_unless b + count_by (λ x. not (brings_value x)) xs
  by true h more =
      planned_kept (is_planned s x) _ _ (All-head (λ x. is_planned s x ≡ true) x (filter brings_value xs) h) (more (All-tail (λ x. is_planned s x ≡ true) x (filter brings_value xs) h))
  by false h more = at_most (is_planned s x) _ _ (more h)

-- ---- a message is heard with the channels of a setup, and inspected with others

module _ (s : GatherSetup) (c d : ChannelsValue) (form : Form) (system : System) where
  abbrev skipped_among : List HeardCell → ℕ
  skipped_among xs = count_by (λ x. not (is_planned s x)) xs

  -- the key of a cell doesn't depend on the channels
  one_skipped : (e : Entry) (xs ys : List HeardCell) → skipped_among xs ≡ skipped_among ys → skipped_among (cons_option (seen_in c form system e) xs) ≡ skipped_among (cons_option (seen_in d form system e) ys)
  one_skipped e xs ys same = grind (arith, common_steps, counted)

  skipped_same : (es : List Entry) → skipped_among (filter_map (seen_in c form system) es) ≡ skipped_among (filter_map (seen_in d form system) es)
  skipped_same [] = refl
  skipped_same (e ∷ es) = one_skipped e (filter_map (seen_in c form system) es) (filter_map (seen_in d form system) es) (skipped_same es)

  unlisted_same : (es : List Entry) → unlisted_in c form system es ≡ unlisted_in d form system es
  unlisted_same [] = refl
  unlisted_same (e ∷ es) = grind (arith, is_some, (unlisted_same es))

-- what a conversion counts of a message doesn't depend on the channels
record SameKeys (s : GatherSetup) (x y : Heard) : Type 0 where
  station : x.station ≡ y.station
  unlisted : x.unlisted ≡ y.unlisted
  skipped : count_by (λ z. not (is_planned s z)) x.cells ≡ count_by (λ z. not (is_planned s z)) y.cells

msm_keys : (s : GatherSetup) (form : Form) (v : MsmValue) (es : List Entry) → SameKeys s (heard_msm s.plan.channels s.leap_seconds form v es) (heard_msm every_channel 0 form v es)
msm_keys s form v es = record { station = refl; unlisted = unlisted_same s s.plan.channels every_channel form v.system es; skipped = skipped_same s s.plan.channels every_channel form v.system es }

same_keys : (s : GatherSetup) (m : Message) → SameKeys s (heard_by s m) (inspected m)
same_keys s (Msm v) = msm_keys s v.form v.msm (entries (Msm v))
same_keys s other = record { station = refl; unlisted = refl; skipped = refl }

message_skips : (s : GatherSetup) (earlier : List Timed) (x y : Heard) → SameKeys s x y → ArePlanned s (valued s.station y)
    → (counts_of_message s earlier x).skipped ≤ y.unlisted + count_by (λ z. not (brings_value z)) y.cells
message_skips s earlier x y same h = grind (arith, few_skipped, own_counts)

-- the cells that are read with a set are planned, too
planned_in : (set : MsmSet) (s : GatherSetup) (f : Framed) → ArePlanned s (valued_of s.station f) → ArePlanned s (option_map_or (valued s.station) (inspected_in 0 set f.message) [])
planned_in set s f h = by (message_at f.message) refl where
  goal : List HeardCell → Type 0
  goal cells = ArePlanned s cells

  other : valued s.station (inspected (other_of (bits_of f.message))) ≡ []
  other = none_valued s.station f.message

  none : option_map_or (valued s.station) (inspected_in 0 set f.message) [] ≡ [] → goal (option_map_or (valued s.station) (inspected_in 0 set f.message) [])
  none e = subst goal (sym e) (All-nil (λ x. is_planned s x ≡ true))

  by_set : (m : Message) → message_at f.message ≡ Ok m → (b : Bool) → is_in_set set m ≡ b → goal (option_map_or (valued s.station) (inspected_in 0 set f.message) [])
  by_set m read true is =
      subst goal (ap (λ (r : Result Message MsgFault). option_map_or (valued s.station) (inspected_of r) []) read ∙ sym (found_inside 0 set f.message (valued s.station) [] other m read is)) h
  by_set m read false is = none (found_outside 0 set f.message (valued s.station) [] other m read is)

  by : (r : Result Message MsgFault) → message_at f.message ≡ r → goal (option_map_or (valued s.station) (inspected_in 0 set f.message) [])
  by (Ok m) read = by_set m read (is_in_set set m) refl
  by (Err e) read = none (found_refused 0 set f.message (valued s.station) [] other e read)

pub frames_skip : (set : MsmSet) (s : GatherSetup) (earlier : List Timed) (fs : List Framed) → ArePlanned s (valued_in s.station fs) → All (SkipsOnly set s earlier) fs
frames_skip set s earlier fs h = λ k d within m is.
    message_skips s earlier (heard_by s m) (inspected m) (same_keys s m)
    (subst (λ (r : Result Message MsgFault). ArePlanned s (option_map_or (valued s.station) (inspected_of r) [])) is (planned_in set s (get_or fs k d) (planned_each s fs h k d within)))
