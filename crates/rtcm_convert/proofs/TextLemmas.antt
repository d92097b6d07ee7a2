-- The text of a file, epoch by epoch.
use Rattle.rtcm_convert.proofs.Names.{Decides-int_eq, ◌≡◌, ℕ, List, [], ◌∷◌, ◌++◌, Bool, true, refl, ap, arith, Option, Some, append_assoc, append-nil, nat_lt, length, length-append, ◌+◌, if◌then◌else◌, filter-append, filter_map-append, Framed, IsPrefix, PlanValue, EpochValue, Closed, same_values, satellites_written, StationValues, GatherSetup, Heard, closed_epochs, all_epochs, closed_by, HeaderLists, header_text, epoch_text, event_text, change_text, closed_text, file_text, gathered, SetupValue, messages_of, written_epochs, text_of_epochs, text_with, so_far, file, capped, opening, added, epochs_after, values_after, values_following_closed, last_values, common_steps}

-- a capped count that is increased
pub cap_more : (n k : ℕ) → capped (capped n + k) ≡ capped (n + k)
cap_more n k = omega arith

-- ---- station values

same_self : (v : StationValues) → same_values v v ≡ true
same_self v = grind (arith, Decides-int_eq)

-- no event is written if they are the same
no_change : (v : StationValues) → change_text v v ≡ []
no_change v = ap (λ (b : Bool). if b then [] else event_text v) (same_self v)

-- ---- more epochs

closed_text-append : (p : PlanValue) (v : StationValues) (cs ds : List Closed) → closed_text p v (cs ++ ds) ≡ closed_text p v cs ++ closed_text p (values_following_closed v cs) ds
closed_text-append p v [] ds = refl
closed_text-append p v (c ∷ cs) ds = grind (arith, common_steps, closed_text-append p c.values cs ds)

-- the text of some epochs is a prefix of the text of these and more
pub text_of-append : (t : HeaderLists) (i : Option ℕ) (p : PlanValue) (es fs : List Closed) → IsPrefix (text_of_epochs t i p es) (text_of_epochs t i p (es ++ fs))
unfolding text_of_epochs
text_of-append t i p [] fs = (text_of_epochs t i p fs, refl)
text_of-append t i p (e ∷ es) fs = grind (arith, closed_text-append, append_assoc, closed_text-append p e.values (e ∷ es) fs, append_assoc (header_text t i p e.values e.epoch.time) (closed_text p e.values (e ∷ es)) (closed_text p (values_following_closed e.values (e ∷ es)) fs))

-- one more epoch
text_of-one : (t : HeaderLists) (i : Option ℕ) (p : PlanValue) (es : List Closed) (c : Closed)
    → text_of_epochs t i p (es ++ c ∷ []) ≡ text_of_epochs t i p es ++ (opening t i p (last_values es) c.epoch c.values ++ epoch_text p c.epoch)
unfolding text_of_epochs
text_of-one t i p es c = grind (arith, common_steps, no_change, append-nil, closed_text-append)

-- one more epoch, if it is written
text_of-maybe : (t : HeaderLists) (i : Option ℕ) (p : PlanValue) (es : List Closed) (c : Closed) (b : Bool)
    → text_of_epochs t i p (es ++ (if b then c ∷ [] else [])) ≡ text_of_epochs t i p es ++ (if b then opening t i p (last_values es) c.epoch c.values ++ epoch_text p c.epoch else [])
text_of-maybe t i p es c b = grind (arith, common_steps, text_of-one, append-nil)

values_following-one : (v : StationValues) (es : List Closed) (c : Closed) → values_following_closed v (es ++ c ∷ []) ≡ c.values
values_following-one v [] c = refl
values_following-one v (e ∷ es) c = values_following-one e.values es c

last_values-one : (es : List Closed) (c : Closed) → last_values (es ++ c ∷ []) ≡ Some c.values
last_values-one [] c = refl
last_values-one (e ∷ es) c = ap Some (values_following-one e.values es c)

last_values-maybe : (es : List Closed) (c : Closed) (b : Bool) → last_values (es ++ (if b then c ∷ [] else [])) ≡ (if b then Some c.values else last_values es)
last_values-maybe es c b = grind (arith, common_steps, last_values-one, append-nil)

count-maybe : (es : List Closed) (c : Closed) (b : Bool) → capped (length (es ++ (if b then c ∷ [] else []))) ≡ (if b then capped (capped (length es) + 1) else capped (length es))
count-maybe es c b = grind (arith, common_steps, length-append, cap_more, append-nil)

-- the number of epochs in the text, capped
abbrev pub count : List Closed → ℕ
count es = capped (length (written_epochs es))

-- the station values that were written last in the text
abbrev pub last : List Closed → Option StationValues
last es = last_values (written_epochs es)

pub last-closed : (es : List Closed) (o : Option EpochValue) (v : StationValues) → last (es ++ closed_by o v) ≡ values_after (last es) o v
last-closed es o v = grind (arith, common_steps, append-nil, filter-append, last_values-maybe)

-- what the epoch that was closed last adds
pub text-closed : (s : SetupValue) (es : List Closed) (o : Option EpochValue) (v : StationValues)
    → text_with s (es ++ closed_by o v) ≡ text_with s es ++ added s.texts s.gatherer.choice.interval s.gatherer.plan (last es) o v
text-closed s es o v = grind (arith, common_steps, append-nil, filter-append, text_of-maybe)

pub count-closed : (es : List Closed) (o : Option EpochValue) (v : StationValues) → count (es ++ closed_by o v) ≡ epochs_after (count es) o
count-closed es o v = grind (arith, common_steps, append-nil, filter-append, count-maybe)

-- more epochs leave the text as a prefix
pub text-more : (s : SetupValue) (es fs : List Closed) → IsPrefix es fs → IsPrefix (text_with s es) (text_with s fs)
text-more s es fs p = rw (p.1, filter-append) (text_of-append s.texts s.gatherer.choice.interval s.gatherer.plan (written_epochs es) (written_epochs p.0))

-- the closed epochs are a prefix of those that more messages close, and of all epochs
abbrev pub ClosedStay : Type 0
ClosedStay = (s : GatherSetup) (ms more : List Heard) → IsPrefix (closed_epochs s ms) (closed_epochs s (ms ++ more))

abbrev pub ClosedInAll : Type 0
ClosedInAll = (s : GatherSetup) (ms more : List Heard) → IsPrefix (closed_epochs s ms) (all_epochs s (ms ++ more))

-- more frames leave the text as a prefix
pub so_far-more : ClosedStay → (s : SetupValue) (fs more : List Framed) → IsPrefix (so_far s fs) (so_far s (fs ++ more))
so_far-more stay s fs more =
    text-more s (closed_epochs s.gatherer (messages_of s fs)) (closed_epochs s.gatherer (messages_of s (fs ++ more)))
    (rw filter_map-append (stay s.gatherer (messages_of s fs) (messages_of s more)))

pub so_far-all : ClosedInAll → (s : SetupValue) (fs more : List Framed) → IsPrefix (so_far s fs) (file s (fs ++ more))
so_far-all stay s fs more =
    text-more s (closed_epochs s.gatherer (messages_of s fs)) (all_epochs s.gatherer (messages_of s (fs ++ more)))
    (rw filter_map-append (stay s.gatherer (messages_of s fs) (messages_of s more)))

-- the same: an event, or nothing
pub opening_later : {n : Option StationValues} {v before w : StationValues} {b : Bool} (P : List ℕ → Type 0) (t : HeaderLists) (i : Option ℕ) (p : PlanValue) (e : EpochValue)
    → n ≡ Some before → w ≡ v → same_values before w ≡ b → P (if b then [] else event_text w) → P (opening t i p n e v)
opening_later {v = v} {before} {w} P t i p e last values same x = grind (arith, common_steps)

-- what the epoch that the gatherer returns adds
pub added_lent : {p q : PlanValue} {e : Closed} (t : HeaderLists) (i : Option ℕ) (n : Option StationValues) (o : Option EpochValue) (v : StationValues) → q ≡ p → e ∷ [] ≡ closed_by o v → nat_lt 0 (satellites_written e.epoch) ≡ true
    → added t i p n o v ≡ opening t i p n e.epoch e.values ++ epoch_text q e.epoch
added_lent {p} {q} {e} t i n o v same is some = grind (arith, common_steps)

-- no frames have an empty text
pub so_far-none : ((s : GatherSetup) → closed_epochs s [] ≡ []) → (s : SetupValue) → so_far s [] ≡ []
unfolding text_of_epochs
so_far-none none s = ap (text_with s) (none s.gatherer)

-- the text of one or more epochs is that of a file value
pub text_of-file : ((t : HeaderLists) (i : Option ℕ) (p : PlanValue) (v : StationValues) (c : Closed) (cs : List Closed) → header_text t i p v c.epoch.time ++ closed_text p v (c ∷ cs) ≡ file_text (gathered t i p v (c ∷ cs)))
    → (t : HeaderLists) (i : Option ℕ) (p : PlanValue) (c : Closed) (cs : List Closed) → text_of_epochs t i p (c ∷ cs) ≡ file_text (gathered t i p c.values (c ∷ cs))
unfolding text_of_epochs
text_of-file law t i p c cs = law t i p c.values c cs
