-- The steps of a reading from the header to the epochs, and its end.
use Rattle.rinex_file.proofs.Writing.Sent.{joined-append}
use Rattle.rinex_file.proofs.HeaderRows.Agree.{some_after, split_at}
use Rattle.rinex_file.proofs.HeaderRows.Some.{some_shown}
use Rattle.rinex_file.proofs.HeaderRows.End.{zero_values}
use Rattle.rinex_file.proofs.Reading.Lines.{consumed}
use Rattle.rinex_file.proofs.Reading.Epochs.{lines_with, lines_are, sound_open, sound_between, at_expected, file_value}
use Rattle.rinex_file.proofs.Names.{joined, ExpectsHeader, ExpectsRow, IsEpochBegun, true, file_text, is_of_types, HasHeader, IsHeaderBegun, shown_text, append_assoc, MayRunOut, common_steps, Has, GoesOn, shown_of, arith, ◌≡◌, ◌∙◌, sym, ap, refl, ℕ, zero, suc, ◌+◌, ◌<◌, pos, List, [], ◌∷◌, ◌++◌, length, Option, IfSome, lit<, subst, take, drop, append-nil, inl, inr, AreBegunWith, AreWholeWith, None, Some, map, flat_map, All-head, All-nil, length-map, StationValues, ParserState, Expected, Header, Epoch, EventPosition, EventHeight, EventEpoch, Satellite, IsChange, IsFileValue, AreBegun, IsEventBegun, header_lines, whole_lines, AreBefore, IsExpectedAt, Progress, IsPosition, shown_with, lines_after, stamped, Known, Shown, IsShown, IsHeadAt, file_with, StartsAt, IsInHeader, IsAt, IsAtEpoch, IsInEvent, HasLinesLeft, RefusesLine, IsSound, IsSoundAt, IsEventExpected, AreLinesAt, values_now, AreRead, AreLinesOf, History, FollowsHistory, progress_at, GoesOnWithLine, ShowsLine, IsTaken, SatelliteRow, Stamped, FileValue, satellite_line, event_lines, stamped_lines, file_lines, lines_of_parts, GoesTo, EndsHeader, NoneGoesOn}

-- ---- station values of a position that aren't these

abbrev other_height : ℕ → ℕ
other_height zero = 1
other_height (suc n) = 0

abbrev other_values : StationValues → StationValues → StationValues
other_values v p = record p { height = other_height v.height }

is_change : (v p : StationValues) → IsPosition p → IsChange v (Some (other_values v p))
is_change v p is = (record { x = is.0; y = is.1; z = is.2; height = grind arith }, λ e. grind (arith, ap (λ (w : StationValues). w.height) e))

abbrev no_values : StationValues
no_values = record { x = pos 0; y = pos 0; z = pos 0; height = 0 }

-- ---- the lines before one that is expected

event_before : (s : Progress) (k : ℕ) (values : StationValues) (lines : List (List ℕ)) → IsEventExpected s → IsChange (values_now s) (Some values)
    → lines ≡ whole_lines s.known.shown s.epochs ++ take k (event_lines values) → IsEventBegun k lines
event_before s k values lines sound change are = record { h = s.known.shown; es = s.epochs; values = values; whole = sound.0; some = sound.2; change = change; are = are }

are_before : (s : Progress) (expected : Expected) (lines : List (List ℕ)) → IsSoundAt s expected → AreLinesAt s expected lines → AreBefore expected lines
are_before s (Header place) lines sound are =
    let one = some_shown s.known place sound.2 in
    let h = shown_with s.known one.p in
    record {
      h = h;
      left = lines_after h place;
      is = one.is;
      some = grind (arith, common_steps, some_after h place sound.2.expected);
      are = split_at h place ∙ ap (λ l. l ++ lines_after h place) (sym (are h one.is one.has));
    }
are_before s Epoch lines sound are = record { h = s.known.shown; es = s.epochs; whole = sound.0; are = are }
are_before s EventPosition lines sound are =
    event_before s 1 (other_values (values_now s) no_values) lines sound (is_change (values_now s) no_values (zero_values.x, zero_values.y, zero_values.z, refl)) are
are_before s (EventHeight p) lines sound are = event_before s 2 (other_values (values_now s) p) lines sound.0 (is_change (values_now s) p sound.1) are
are_before s (EventEpoch w) lines sound are = event_before s 3 w lines sound.0 sound.1 are
are_before s (Satellite n) lines sound are = record {
  h = s.known.shown;
  es = s.epochs;
  e = stamped s s.rows;
  n = length s.rows + n;
  whole = sound.0;
  next = sound.1;
  fewer = omega (arith, sound.2);
  room = sound.3;
  are = are;
}

-- the epochs that were read, if no satellite is expected
pub whole_with : (s : Progress) (expected : Expected) (lines : List (List ℕ)) → IsSoundAt s expected → AreLinesAt s expected lines → (ExpectsRow expected → ⊥) → AreWholeWith s.epochs lines
unfolding are_before event_before
whole_with s (Header place) lines sound are outside = inl (sound.0, are_before s (Header place) lines sound are)
whole_with s Epoch lines sound are outside = inr (inl (are_before s Epoch lines sound are, refl))
whole_with s EventPosition lines sound are outside = inr (inr (inl (are_before s EventPosition lines sound are, refl)))
whole_with s (EventHeight p) lines sound are outside = inr (inr (inr (inl (are_before s (EventHeight p) lines sound are, refl))))
whole_with s (EventEpoch w) lines sound are outside = inr (inr (inr (inr (are_before s (EventEpoch w) lines sound are, refl))))
whole_with s (Satellite n) lines sound are outside = absurd (outside tt)

-- the same with the epochs that were read
pub begun_with : (s : Progress) (expected : Expected) (lines : List (List ℕ)) → IsSoundAt s expected → AreLinesAt s expected lines → AreBegunWith s.epochs lines
unfolding are_before event_before
begun_with s (Satellite n) lines sound are = inr (are_before s (Satellite n) lines sound are, refl)
begun_with s expected lines sound are = inl (whole_with s expected lines sound are (λ inside. inside))

-- the line of an epoch was read, and lines of its satellites
pub row_expected : (s : Progress) (expected : Expected) (lines : List (List ℕ)) → IsSoundAt s expected → AreLinesAt s expected lines → ExpectsRow expected
    → (b : IsEpochBegun lines) × (b.es ≡ s.epochs) × (b.e.time ≡ s.time) × (b.e.rows ≡ s.rows)
unfolding are_before
row_expected s (Satellite n) lines sound are inside = (are_before s (Satellite n) lines sound are, refl, refl, refl)
row_expected s other lines sound are inside = absurd inside

-- the header is whole if an epoch was read
pub past_header : (s : Progress) (expected : Expected) → IsSoundAt s expected → (s.epochs ≡ [] → ⊥) → ExpectsHeader expected → ⊥
past_header s expected sound some inside = grind (arith, common_steps)

are_begun : (expected : Expected) (lines : List (List ℕ)) → AreBefore expected lines → AreBegun lines
are_begun v0 lines h = grind arith

pub begun : (s : Progress) (n : ℕ) (a b : Option (List ℕ)) (t : IsTaken s n a b) → IsSound s → AreBegun t.lines
begun s n a b t sound = are_begun s.expected t.lines (are_before s s.expected t.lines sound t.history.are)

pub expected_at : {c : ParserState} {h : History} {expected : Expected} {n : ℕ} {a b : Option (List ℕ)} → IsTaken (progress_at c h) n a b → expected ≡ c.expected → FollowsHistory c h → IfSome a (λ input. IsExpectedAt expected input (n + 1))
expected_at t same history = grind (arith, consumed, are_before)

-- memory runs out only at a line of types in a header
pub run_out : (s : Progress) (expected : Expected) (lines : List (List ℕ)) (line : List ℕ) → IsSoundAt s expected → AreLinesAt s expected lines → MayRunOut expected line
    → IsHeaderBegun lines × (is_of_types line ≡ true)
unfolding are_before
run_out s (Header place) lines line sound are run = (are_before s (Header place) lines sound are, run)
run_out s other lines line sound are run = absurd run

pub no_epochs_yet : (s : Progress) (expected : Expected) (line : List ℕ) → IsSoundAt s expected → MayRunOut expected line → s.epochs ≡ []
no_epochs_yet s expected line sound run = grind (arith, common_steps)

-- the lines that were read begin with the header if a satellite was read
pub begin_whole : (s : Progress) (expected : Expected) (lines : List (List ℕ)) → IsSoundAt s expected → AreLinesAt s expected lines → (s.epochs ≡ [] → s.rows ≡ [] → ⊥)
    → (others : List (List ℕ)) × IsShown s.known.shown × (lines ≡ header_lines s.known.shown ++ others)
begin_whole s (Header place) lines sound are some = absurd (some sound.0 sound.1)
begin_whole s Epoch lines sound are some = (_, sound.0.shown, are)
begin_whole s (EventHeight p) lines sound are some = (_, sound.0.0.shown, are ∙ append_assoc (header_lines s.known.shown) _ _)
begin_whole s (EventEpoch w) lines sound are some = (_, sound.0.0.shown, are ∙ append_assoc (header_lines s.known.shown) _ _)
begin_whole s other lines sound are some = (_, sound.0.shown, are ∙ append_assoc (header_lines s.known.shown) _ _)

-- the header of a file value is a header
pub shown_is : (v : FileValue) (e : Stamped) (es : List Stamped) → v.epochs ≡ e ∷ es → IsFileValue v → IsShown (shown_of v e.time)
shown_is v e es same is = grind (arith, All-head)

-- ---- a line of the header

-- what was read, with another header and another line expected
abbrev pub known_as : Progress → Known → Expected → Progress
known_as s k expected = record { expected = expected; known = k; epochs = s.epochs; change = s.change; time = s.time; rows = s.rows }

-- what holds if a line of the header is expected
in_header : (s : Progress) (place : ℕ) (v : FileValue) (left : List (List ℕ)) → s.expected ≡ Header place → HasLinesLeft s v left → IsFileValue v × IsInHeader s place v left
in_header s place v left expected on = (file_value s v left on, at_expected s (Header place) expected v left on)

-- a file has an epoch, and the header of its time
record Begins (v : FileValue) : Type 0 where
  first : Stamped
  others : List Stamped
  epochs : v.epochs ≡ first ∷ others
  is : IsShown (shown_of v first.time)
  lines : file_lines v ≡ header_lines (shown_of v first.time) ++ flat_map stamped_lines (first ∷ others)

begins : (v : FileValue) → IsFileValue v → Begins v
begins v is = by v.epochs refl where
  by : (es : List Stamped) → v.epochs ≡ es → Begins v
  by [] e = let size = ap length e in let some = is.some in absurd (omega (arith, size, some))
  by (first ∷ others) e = record { first = first; others = others; epochs = e; is = shown_is v first others e is; lines = ap (lines_of_parts (shown_of v 0)) e }

-- the text of a file value begins with a header
pub text_header : (v : FileValue) → IsFileValue v → HasHeader (file_text v)
unfolding shown_text
text_header v is =
    let b = begins v is in
    let others = flat_map stamped_lines (b.first ∷ b.others) in
    record { h = shown_of v b.first.time; rest = joined others; is = b.is; begins = ap joined b.lines ∙ joined-append (header_lines (shown_of v b.first.time)) others }

-- a file with what was read is a header that goes on
goes_on_with : {s : Progress} {place : ℕ} {v : FileValue} {left : List (List ℕ)} → IsFileValue v → (here : IsInHeader s place v left)
    → GoesOn s.known place (shown_of v here.first.time) (flat_map stamped_lines (here.first ∷ here.others)) left
goes_on_with {v = v} is here = record { is = shown_is v here.first here.others here.epochs is; has = here.has; rest = here.rest }

module _ (s : Progress) {place : ℕ} (line : List ℕ) (expected : s.expected ≡ Header place) where
  pub no_header : NoneGoesOn s.known place line → RefusesLine s line
  no_header never v left on = let here = in_header s place v (line ∷ left) expected on in never _ _ left (goes_on_with here.0 here.1)

  module _ {k : Known} {place' : ℕ} (goes : GoesTo s.known place line k place') where
    pub header_taken : GoesOnWithLine s (known_as s k (Header place')) line
    unfolding HasLinesLeft
    header_taken v left on =
        let (is, here) = in_header s place v (line ∷ left) expected on in
        let b = goes.takes.goes _ _ left (goes_on_with is here) in
        (is, record { first = here.first; others = here.others; epochs = here.epochs; has = b.has; rest = b.rest })

    pub header_shows : ShowsLine s (known_as s k (Header place')) line
    header_shows taken are h is has = ap (λ l. l ++ line ∷ []) (subst (λ d. AreLinesAt s d taken) expected are h is (goes.takes.back h is has)) ∙ sym (goes.takes.lines h is has)

  module _ {k : Known} (none : s.epochs ≡ []) (end : EndsHeader s.known place line k) where
    ended : (v : FileValue) (left : List (List ℕ)) → IsFileValue v → IsInHeader s place v (line ∷ left) → IsAtEpoch (known_as s k Epoch) v left
    ended v left is here =
        let (header, rest) = end.goes _ _ left (goes_on_with is here) in
        let all = here.first ∷ here.others in
        let epochs : all ≡ s.epochs ++ all = ap (λ x. x ++ all) (sym none) in
        let file = λ (g : Shown) (es : List Stamped). record v { texts = g.texts; interval = g.interval; plan = g.plan; values = g.values; epochs = es } in
        let value : v ≡ file k.shown (s.epochs ++ all) = ap (λ g. file g v.epochs) header ∙ ap (file k.shown) (here.epochs ∙ epochs) in
        let first : k.shown.first ≡ here.first.time = sym (ap (λ g. g.first) header) in
        record { others = all; value = value; starts = subst (StartsAt k.shown.first) epochs first; rest = sym rest }

    pub header_ended : GoesOnWithLine s (known_as s k Epoch) line
    unfolding HasLinesLeft
    header_ended v left on = let here = in_header s place v (line ∷ left) expected on in (here.0, ended v left here.0 here.1)

    pub ended_shows : ShowsLine s (known_as s k Epoch) line
    ended_shows = grind (arith, common_steps)

-- the header was read, and nothing more
pub sound_start : (s : Progress) (k : Known) → IsShown k.shown → s.epochs ≡ [] → AreRead (known_as s k Epoch)
sound_start s k shown none = grind (arith, All-nil, length-map)

pub sound_header : (s : Progress) (place : ℕ) → s.expected ≡ Header place → IsSound s → (s.epochs ≡ []) × (s.rows ≡ []) × IsHeadAt s.known place
sound_header s place expected sound = subst (λ d. IsSoundAt s d) expected sound

-- ---- the first line

-- every header has what is known before the first line
has_nothing : (k : Known) (h : Shown) → IsHeadAt k 0 → Has k 0 h
has_nothing k h at = record { rows = λ i less. absurd (omega (arith, less)) }

pub header_starts : (s : Progress) → s.expected ≡ Header 0 → IsHeadAt s.known 0 → (v : FileValue) → IsFileValue v → HasLinesLeft s v (file_lines v)
unfolding HasLinesLeft header_lines
header_starts s expected at v is =
    let b = begins v is in
    (is, subst (λ d. IsAt s d v (file_lines v)) (sym expected) (record { first = b.first; others = b.others; epochs = b.epochs; has = has_nothing s.known (shown_of v b.first.time) at; rest = sym b.lines }))

-- ---- the end

no_lines : (xs ys : List (List ℕ)) → [] ≡ xs ++ ys → xs ≡ []
no_lines [] ys e = refl
no_lines (x ∷ xs) ys e = cc

pub header_unfinished : (s : Progress) (place : ℕ) → s.expected ≡ Header place → IsSound s → (v : FileValue) → HasLinesLeft s v [] → ⊥
header_unfinished s place expected sound v on =
    let (is, here) = in_header s place v [] expected on in
    let h = shown_of v here.first.time in
    some_after h place (sound_header s place expected sound).2.expected (no_lines (lines_after h place) (flat_map stamped_lines (here.first ∷ here.others)) (sym here.rest))

no_rows_left : (n : ℕ) (more : List SatelliteRow) (others : List Stamped) → 0 < n → length more ≡ n → [] ≡ map satellite_line more ++ flat_map stamped_lines others → ⊥
no_rows_left n [] others some count rest = omega (arith, some, count)
no_rows_left n (m ∷ ms) others some count rest = cc

pub epoch_unfinished : (s : Progress) (n : ℕ) → s.expected ≡ Satellite n → IsSound s → (v : FileValue) → HasLinesLeft s v [] → ⊥
unfolding HasLinesLeft
epoch_unfinished s n expected sound v h2 = grind (arith, sound_open, no_rows_left)

-- a line of an event or of its epoch is missing
pub event_unfinished : (s : Progress) (k : ℕ) (Show : StationValues → Type 0) → k < 4 → (v : FileValue) → IsInEvent s k Show v [] → ⊥
event_unfinished s k Show few v here =
    none_after k here.next here.values (flat_map stamped_lines here.others) few (here.rest ∙ ap (λ l. drop k l ++ flat_map stamped_lines here.others) (lines_are here.next (Some here.values) here.change)) where
      none_after : (k : ℕ) (e : Stamped) (w : StationValues) (others : List (List ℕ)) → k < 4 → [] ≡ drop k (lines_with (Some w) e) ++ others → ⊥
      none_after (suc (suc (suc (suc k)))) e w others few h = omega (arith, few)
      none_after k e w others few h = cc

-- no epoch is left if no line is
none_left : (s : Progress) (v : FileValue) (others : List Stamped) → IsFileValue v → v ≡ file_with s (s.epochs ++ others) → [] ≡ flat_map stamped_lines others → others ≡ []
none_left s v [] is value rest = refl
none_left s v (e ∷ es) is value rest = absurd (by e.change (rest ∙ ap (λ l. l ++ flat_map stamped_lines es) (lines_are e e.change refl))) where
  by : (c : Option StationValues) → [] ≡ lines_with c e ++ flat_map stamped_lines es → ⊥
  by None h = cc
  by (Some w) h = cc

-- the file that was read whole is the only one that continues without a line
pub only_file : (s : Progress) → s.expected ≡ Epoch → (v : FileValue) → HasLinesLeft s v [] → v ≡ file_with s s.epochs
unfolding HasLinesLeft
only_file s expected v (is, at) = grind (arith, none_left, append-nil)

pub file_read : (s : Progress) → s.expected ≡ Epoch → IsSound s → 0 < length s.epochs → IsFileValue (file_with s s.epochs)
file_read s expected sound some = grind arith

-- the lines of the file that was read whole
pub lines_read : (h : Shown) (es : List Stamped) → 0 < length es → StartsAt h.first es → lines_of_parts h es ≡ whole_lines h es
lines_read h [] some starts = absurd (omega (arith, some))
lines_read h (e ∷ es) some starts = ap (λ (t : ℕ). header_lines (record h { first = t }) ++ flat_map stamped_lines (e ∷ es)) (sym starts)

pub file_shown : (s : Progress) (taken : List (List ℕ)) → s.expected ≡ Epoch → IsSound s → 0 < length s.epochs → AreLinesOf s taken → file_lines (file_with s s.epochs) ≡ taken
file_shown s taken expected sound some are =
    lines_read s.known.shown s.epochs some (sound_between s expected sound).0.starts ∙ sym (subst (λ d. AreLinesAt s d taken) expected are)

-- ---- when a file may not end

-- lines are missing
pub unfinished : (c : ParserState) (h : History) (expected : Expected) → c.expected ≡ expected → FollowsHistory c h → ((expected ≡ Epoch) × (0 < c.counts.epochs) → ⊥) → (v : FileValue) → HasLinesLeft (progress_at c h) v [] → ⊥
unfinished c h (Header place) same history never v on = header_unfinished (progress_at c h) place same history.sound v on
unfinished c h Epoch same history never v on = grind (arith, only_file, file_value)
unfinished c h (Satellite n) same history never v on = epoch_unfinished (progress_at c h) n same history.sound v on
unfinished c h event same history never v on = event_unfinished (progress_at c h) _ _ (lit< tt) v (at_expected (progress_at c h) event same v [] on)

-- no satellite was read if an epoch is expected
pub sound_rows : (s : Progress) → s.expected ≡ Epoch → IsSound s → s.rows ≡ []
sound_rows s expected sound = grind arith
