-- The steps of a reading from one line of an event to the next.
use Rattle.rinex_file.proofs.OneReading.{has-point}
use Rattle.rinex_file.proofs.Reading.Epochs.{lines_with, lines_are, changes_midst, sound_between, at_expected, file_value, cons_parts}
use Rattle.rinex_file.proofs.Names.{has-append, common_steps, arith, lit<, ◌≡◌, ℕ, zero, suc, ◌<◌, ◌^◌, get_or, List, [], ◌∷◌, ◌++◌, refl, sym, ap, subst, ◌∙◌, length, drop, append_assoc, Option, Some, None, true, false, ⊤, ◌||◌, flat_map, civil_of, Civil, StationValues, Expected, Epoch, EventPosition, EventHeight, EventEpoch, Stamped, FileValue, IsFileValue, IsChange, position_line, height_line, epoch_line, joined, has, stamped_lines, event_line, GoesOnWithLine, ShowsLine, Progress, file_with, StartsAt, IsAt, IsAtEpoch, IsInEvent, IsPosition, position_of, HasLinesLeft, expected_next, IsSound, values_now, drop-cons}

-- ---- an event's line isn't that of an epoch, which has a point

has_after : (a b : List ℕ) → has 46 b ≡ true → has 46 (a ++ b) ≡ true
has_after a b h = grind (arith, has-append)

has_field : (fs : List (List ℕ)) (k : ℕ) → k < length fs → has 46 (get_or fs k []) ≡ true → has 46 (joined fs) ≡ true
has_field [] k less h = absurd (omega (arith, less))
has_field (f ∷ fs) zero less h = has-append 46 f (joined fs) ∙ ap (λ x. x || has 46 (joined fs)) h
has_field (f ∷ fs) (suc k) less h = has_after f (joined fs) (has_field fs k (omega (arith, less)) h)

no_point : has 46 event_line ≡ false
unfolding event_line
no_point = refl

not_epoch : (t : Civil) (n : ℕ) → event_line ≡ epoch_line t n → ⊥
unfolding epoch_line
not_epoch t n e = grind (arith, common_steps, has_field, lit<, has_after, has-point, no_point)

-- ---- the line of an event

abbrev Others : List Stamped → List (List ℕ)
Others es = flat_map stamped_lines es

event_begins : (s : Progress) {v : FileValue} {line : List ℕ} {left : List (List ℕ)} (others : List Stamped) → line ≡ event_line → v ≡ file_with s (s.epochs ++ others)
    → StartsAt s.known.shown.first (s.epochs ++ others) → line ∷ left ≡ Others others → IsInEvent (expected_next s EventPosition) 1 (λ w. ⊤) v left
event_begins s [] shown value starts rest = cc
event_begins s {v} {line} {left} (e ∷ es) shown value starts rest = by e.change refl where
  by : (c : Option StationValues) → e.change ≡ c → IsInEvent (expected_next s EventPosition) 1 (λ w. ⊤) v left
  by None h =
      let text : line ∷ left ≡ lines_with None e ++ Others es = rest ∙ ap (λ l. l ++ Others es) (lines_are e None h) in
      absurd (not_epoch (civil_of e.time) (length e.rows) (sym shown ∙ cc))
  by (Some w) h =
      let text : line ∷ left ≡ lines_with (Some w) e ++ Others es = rest ∙ ap (λ l. l ++ Others es) (lines_are e (Some w) h) in
      record {
        next = e;
        values = w;
        others = es;
        value = value;
        starts = starts;
        change = h;
        shown = tt;
        rest = (ap (drop 1) text) ∙ ap (λ l. drop 1 l ++ Others es) (sym (lines_are e (Some w) h));
      }

-- the event with another line expected and other knowledge of its station values
abbrev event_with : {s : Progress} {d : Expected} {k n : ℕ} {P Q : StationValues → Type 0} {v : FileValue} {all left : List (List ℕ)} (h : IsInEvent s k P v all) → Q h.values
    → left ≡ drop n (stamped_lines h.next) ++ Others h.others → IsInEvent (expected_next s d) n Q v left
event_with h shown rest =
    record { next = h.next; values = h.values; others = h.others; value = h.value; starts = h.starts; change = h.change; shown = shown; rest = rest }

pub event_taken : (s : Progress) (line : List ℕ) → s.expected ≡ Epoch → line ≡ event_line → GoesOnWithLine s (expected_next s EventPosition) line
unfolding HasLinesLeft
event_taken s line expected shown v left on =
    let here : IsAtEpoch s v (line ∷ left) = subst (λ d. IsAt s d v (line ∷ left)) expected on.1 in
    (on.0, event_begins s here.others shown here.value here.starts here.rest)

pub event_shows : (s : Progress) (line : List ℕ) → s.expected ≡ Epoch → line ≡ event_line → ShowsLine s (expected_next s EventPosition) line
event_shows s line expected shown = grind (arith, common_steps)

-- the lines with another one
lines_more : (whole taken before : List (List ℕ)) (line shown : List ℕ) → taken ≡ whole ++ before → line ≡ shown → taken ++ line ∷ [] ≡ whole ++ (before ++ shown ∷ [])
lines_more whole taken before line shown e same = ap (λ l. l ++ line ∷ []) e ∙ append_assoc whole before (line ∷ []) ∙ ap (λ l. whole ++ (before ++ l ∷ [])) same

-- the station values of an event differ from those before
values_in_range : (s : Progress) (v : FileValue) (e : Stamped) (others : List Stamped) (w : StationValues) → IsFileValue v → v ≡ file_with s (s.epochs ++ e ∷ others) → e.change ≡ Some w
    → IsChange (values_now s) (Some w)
values_in_range s v e others w is value change = grind (arith, changes_midst)

-- what follows if `k` lines of an event were accepted and the next one is the position, the height or the epoch's
record EventNext (s : Progress) (d : Expected) (k : ℕ) (P : StationValues → Type 0) (v : FileValue) (line : List ℕ) (left : List (List ℕ)) : Type 0 where
  pub event : IsInEvent (expected_next s d) (suc k) P v left
  pub shown : line ≡ get_or (lines_with (Some event.values) event.next) k []
  pub change : IsChange (values_now s) (Some event.values)

event_next : {s : Progress} {d : Expected} {k : ℕ} {P : StationValues → Type 0} {v : FileValue} {line : List ℕ} {left : List (List ℕ)} → k < 4 → IsFileValue v
    → IsInEvent s k P v (line ∷ left) → EventNext s d k P v line left
event_next {s} {d} {k} {P} {v} {line} {left} few is here =
    let all = lines_with (Some here.values) here.next in
    let lines = lines_are here.next (Some here.values) here.change in
    let text : line ∷ left ≡ (get_or all k [] ∷ drop (suc k) all) ++ Others here.others =
    here.rest ∙ ap (λ l. drop k l ++ Others here.others) lines ∙ ap (λ l. l ++ Others here.others) (drop-cons all k [] (omega (arith, few))) in
    let (first, rest) = cons_parts line (get_or all k []) left (drop (suc k) all ++ Others here.others) text in
    record {
      event = event_with here here.shown (rest ∙ ap (λ l. drop (suc k) l ++ Others here.others) (sym lines));
      shown = first;
      change = values_in_range s v here.next here.others here.values is here.value here.change;
    }

-- ---- the position

position_next : (s : Progress) (d : Expected) (v : FileValue) (line : List ℕ) (left : List (List ℕ)) → s.expected ≡ EventPosition → HasLinesLeft s v (line ∷ left) → EventNext s d 1 (λ w. ⊤) v line left
position_next s d v line left expected on = event_next (lit< tt) (file_value s v (line ∷ left) on) (at_expected s EventPosition expected v (line ∷ left) on)

pub no_position : (s : Progress) (line : List ℕ) → s.expected ≡ EventPosition → ((p : StationValues) → IsPosition p → line ≡ position_line p → ⊥) → (v : FileValue) (left : List (List ℕ)) → HasLinesLeft s v (line ∷ left) → ⊥
no_position s line expected none v left on =
    let next = position_next s EventPosition v line left expected on in
    none (position_of next.event.values) (let are = next.change.0 in (are.x, are.y, are.z, refl)) next.shown

pub position_taken : (s : Progress) (p : StationValues) (line : List ℕ) → s.expected ≡ EventPosition → ((q : StationValues) → IsPosition q → line ≡ position_line q → q ≡ p)
    → GoesOnWithLine s (expected_next s (EventHeight p)) line
unfolding HasLinesLeft
position_taken s p line expected only v left on =
    let next = position_next s (EventHeight p) v line left expected on in
    let here = next.event in (
      on.0,
      event_with here (only (position_of here.values) (let are = next.change.0 in (are.x, are.y, are.z, refl)) next.shown) here.rest,
    )

pub position_shows : (s : Progress) (p : StationValues) (line : List ℕ) → s.expected ≡ EventPosition → line ≡ position_line p → ShowsLine s (expected_next s (EventHeight p)) line
position_shows s p line expected shown = grind (arith, common_steps, lines_more)

-- ---- the height

abbrev pub with_height : StationValues → ℕ → StationValues
with_height p h = record p { height = h }

abbrev HeightNext : Progress → Expected → StationValues → FileValue → List ℕ → List (List ℕ) → Type 0
HeightNext s d p v line left = EventNext s d 2 (λ w. position_of w ≡ p) v line left

height_next : (s : Progress) (d : Expected) (p : StationValues) (v : FileValue) (line : List ℕ) (left : List (List ℕ)) → s.expected ≡ EventHeight p → HasLinesLeft s v (line ∷ left) → HeightNext s d p v line left
height_next s d p v line left expected on =
    event_next (lit< tt) (file_value s v (line ∷ left) on) (at_expected s (EventHeight p) expected v (line ∷ left) on)

module _ (s : Progress) (p : StationValues) (line : List ℕ) (expected : s.expected ≡ EventHeight p) where
  pub no_height : ((h : ℕ) → h < 2 ^ 16 → line ≡ height_line h → ⊥) → (v : FileValue) (left : List (List ℕ)) → HasLinesLeft s v (line ∷ left) → ⊥
  no_height none v left on =
      let next = height_next s (EventHeight p) p v line left expected on in
      none next.event.values.height next.change.0.height next.shown

  module _ (h : ℕ) (only : (k : ℕ) → k < 2 ^ 16 → line ≡ height_line k → k ≡ h) where
    same_next : (d : Expected) (v : FileValue) (left : List (List ℕ)) (next : HeightNext s d p v line left) → next.event.values ≡ with_height p h
    same_next d v left next = ap (λ q. with_height q next.event.values.height) next.event.shown ∙ ap (with_height p) (only next.event.values.height next.change.0.height next.shown)

    -- the station values are those before
    pub same_height : with_height p h ≡ values_now s → (v : FileValue) (left : List (List ℕ)) → HasLinesLeft s v (line ∷ left) → ⊥
    same_height same v left on =
        let next = height_next s (EventHeight p) p v line left expected on in
        next.change.1 (same_next (EventHeight p) v left next ∙ same)

    pub height_taken : GoesOnWithLine s (expected_next s (EventEpoch (with_height p h))) line
    unfolding HasLinesLeft
    height_taken v left on =
        let d = EventEpoch (with_height p h) in
        let next = height_next s d p v line left expected on in
        (on.0, event_with next.event (same_next d v left next) next.event.rest)

pub height_shows : (s : Progress) (p : StationValues) (h : ℕ) (line : List ℕ) → s.expected ≡ EventHeight p → line ≡ height_line h → ShowsLine s (expected_next s (EventEpoch (with_height p h))) line
height_shows s p h line expected shown = grind (arith, common_steps, lines_more)

-- ---- what holds after a line of an event is accepted

pub sound_event : (s : Progress) → s.expected ≡ Epoch → IsSound s → 0 < length s.epochs → IsSound (expected_next s EventPosition)
sound_event s expected sound some = grind (arith, sound_between)

pub sound_position : (s : Progress) (p : StationValues) → s.expected ≡ EventPosition → IsSound s → IsPosition p → IsSound (expected_next s (EventHeight p))
sound_position s p expected sound is = grind arith

pub sound_height : (s : Progress) (p : StationValues) (h : ℕ) → s.expected ≡ EventHeight p → IsSound s → h < 2 ^ 16 → (with_height p h ≡ values_now s → ⊥) → IsSound (expected_next s (EventEpoch (with_height p h)))
sound_height s p h expected sound small other = grind arith
