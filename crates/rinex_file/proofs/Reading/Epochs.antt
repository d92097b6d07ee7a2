-- The steps of a reading from one line of an epoch to the next.
use Rattle.rinex_file.proofs.FewRows.{few_most, few_rows}
use Rattle.rinex_file.proofs.Names.{⊤, le_trans, few_below, open_epochs, ExpectsHeader, ExpectsRow, ok_or, MayRunOut, Err, Memory, arith, ◌≡◌, refl, ℕ, ◌<◌, List, [], ◌∷◌, ◌++◌, length, length-append, suc, ◌+◌, ◌≤◌, sym, ap, ap₂, subst, ◌∙◌, append_assoc, append-nil, zero-add, drop, get_or, Option, Some, None, Expected, IsStrictlyIncreasing, All, map, flat_map, Result, IsErrAnd, get_or_append_left, map-append, common_steps, All-head, All-tail, All-nil, All-push, flat_map-append, System, PlanValue, planned_of, civil_of, StationValues, Stamped, SatelliteRow, FileValue, time_stamped, IsFileValue, IsPlan, IsStamped, IsSatelliteRow, AreSatelliteRows, IsTime, IsChange, AreChanges, IsFirstSame, changed_by, values_following, rank_of, most_rows, planned_in, Epoch, Satellite, epoch_line, satellite_line, stamped_lines, change_lines, event_line, Progress, file_with, stamped, StartsAt, IsAt, IsAtEpoch, IsInEvent, IsInEpoch, HasLinesLeft, epoch_after, begun_at, with_row, with_epoch, AreRead, IsBegun, IsSoundAt, IsSound, MayBegin, values_now, AreLinesAt, header_lines, whole_lines, part_lines, Refusal, Bad, ParserState, History, FollowsHistory, GoesOnWithLine, ShowsLine, RefusesLine, TakesLine, progress_at, Known, IsNext, most_signals, table, short_table}

-- a line was refused: memory ran out, or no file continues with it
pub passed : {Q : Refusal → Type 0} (old new : ParserState) (line : List ℕ) (r : Result ⊤ Refusal) → IsErrAnd r Q → ((e : Refusal) → Q e → e ≡ Bad → (h : History) → FollowsHistory old h → RefusesLine (progress_at old h) line)
    → ((e : Refusal) → Q e → e ≡ Memory → MayRunOut old.expected line) → TakesLine old new line r
passed old new line r is bad run = grind (arith, common_steps)

-- a line was refused since nothing was read in it
pub stopped : {Q : Refusal → Type 0} (old new : ParserState) (line : List ℕ) (r : Result ⊤ Refusal) → IsErrAnd r Q → ((e : Refusal) → Q e → e ≡ Bad)
    → ((h : History) → FollowsHistory old h → RefusesLine (progress_at old h) line) → TakesLine old new line r
stopped old new line r is bad refuses = passed old new line r is (λ e q same. refuses) (λ e q same. let other : Bad ≡ Memory = sym (bad e q) ∙ same in cc)

-- the refusal in place of a value that is absent
pub bad_of : {A : Type 0} {o : Option A} {e : Refusal} → ◌≡◌ {A = Result A Refusal} (Err e) (ok_or o Bad) → o ≡ None → e ≡ Bad
bad_of {A} {o} {e} is none = let same : ◌≡◌ {A = Result A Refusal} (Err e) (Err Bad) = is ∙ ap (λ (x : Option A). ok_or x Bad) none in cc

-- the first of ascending numbers are ascending
pub rise_front : (xs ys : List ℕ) → IsStrictlyIncreasing (xs ++ ys) → IsStrictlyIncreasing xs
rise_front xs ys rise k h = grind (arith, length-append, get_or_append_left)

-- ascending numbers and a number above their last are ascending
pub rise_after : (xs front : List ℕ) (x next : ℕ) → xs ≡ front ++ x ∷ [] → IsStrictlyIncreasing xs → x < next → IsStrictlyIncreasing (xs ++ next ∷ [])
rise_after xs front x next ends rise less = grind (arith, common_steps)

-- if numbers are ascending, the last is above the one before it
pub rise_last : (xs front : List ℕ) (x next : ℕ) → xs ≡ front ++ x ∷ [] → IsStrictlyIncreasing (xs ++ next ∷ []) → x < next
rise_last xs front x next ends rise = let k = rise (length front) in grind (arith, common_steps)

-- if there is a last time, there is an epoch
pub not_none : (es : List Stamped) (front : List ℕ) (x : ℕ) → map time_stamped es ≡ front ++ x ∷ [] → es ≡ [] → ⊥
not_none es front x last none = grind (arith, common_steps)

-- the first line and the rest of what is left are those of the same lines
pub cons_parts : (x y : List ℕ) (xs ys : List (List ℕ)) → x ∷ xs ≡ y ∷ ys → (x ≡ y) × (xs ≡ ys)
cons_parts x y xs ys e = (ap (λ l. get_or l 0 []) e, ap (drop 1) e)

pub All-midst : {X : Type 0} (P : X → Type 0) (xs ys : List X) (y : X) → All P (xs ++ y ∷ ys) → P y
All-midst P [] ys y h = All-head P y ys h
All-midst P (x ∷ xs) ys y h = All-midst P xs ys y (All-tail P x (xs ++ y ∷ ys) h)

-- ---- station values that change

-- the lines of an epoch after this change of station values
abbrev pub lines_with : Option StationValues → Stamped → List (List ℕ)
lines_with c e = change_lines c ++ (epoch_line (civil_of e.time) (length e.rows) ∷ map satellite_line e.rows)

pub lines_are : (e : Stamped) (c : Option StationValues) → e.change ≡ c → stamped_lines e ≡ lines_with c e
lines_are e c h = ap (λ x. lines_with x e) h

-- the change of an epoch is one of the station values before it
pub changes_midst : (v : StationValues) (es others : List Stamped) (x : Stamped) → AreChanges v (es ++ x ∷ others) → IsChange (values_following v es) x.change
changes_midst v [] others x h = h.0
changes_midst v (e ∷ es) others x h = changes_midst (changed_by v e.change) es others x h.1

changes_more : (v : StationValues) (es : List Stamped) (x : Stamped) → AreChanges v es → IsChange (values_following v es) x.change → AreChanges v (es ++ x ∷ [])
changes_more v [] x h k = (k, tt)
changes_more v (e ∷ es) x h k = (h.0, changes_more (changed_by v e.change) es x h.1 k)

pub values_more : (v : StationValues) (es : List Stamped) (x : Stamped) → values_following v (es ++ x ∷ []) ≡ changed_by (values_following v es) x.change
values_more v [] x = refl
values_more v (e ∷ es) x = values_more (changed_by v e.change) es x

-- ---- a file that continues with these lines

pub file_value : (s : Progress) (v : FileValue) (left : List (List ℕ)) → HasLinesLeft s v left → IsFileValue v
unfolding HasLinesLeft
file_value s v left on = on.0

pub at_expected : (s : Progress) (d : Expected) → s.expected ≡ d → (v : FileValue) (left : List (List ℕ)) → HasLinesLeft s v left → IsAt s d v left
unfolding HasLinesLeft
at_expected s d expected v left on = subst (λ d. IsAt s d v left) expected on.1

-- ---- the line of an epoch

-- an epoch after this change, at this time, with these satellites
abbrev pub at_time : Option StationValues → ℕ → List SatelliteRow → Stamped
at_time c t rows = record { change = c; time = t; rows = rows }

-- what follows if the first line of an epoch is next, after this change of station values
pub record EpochNext (s : Progress) (c : Option StationValues) (v : FileValue) (line : List ℕ) (left : List (List ℕ)) : Type 0 where
  pub e : Stamped
  pub es : List Stamped
  pub value : v ≡ file_with s (s.epochs ++ e ∷ es)
  pub starts : StartsAt s.known.shown.first (s.epochs ++ e ∷ es)
  pub is : IsStamped (planned_in s.known.shown.plan) e
  pub rising : IsStrictlyIncreasing (map time_stamped s.epochs ++ e.time ∷ map time_stamped es)
  pub change : e.change ≡ c
  pub shown : line ≡ epoch_line (civil_of e.time) (length e.rows)
  pub rest : left ≡ map satellite_line e.rows ++ flat_map stamped_lines es

next_with : {s : Progress} {c : Option StationValues} {v : FileValue} {line : List ℕ} {left : List (List ℕ)} (e : Stamped) (es : List Stamped) → IsFileValue v
    → v ≡ file_with s (s.epochs ++ e ∷ es) → StartsAt s.known.shown.first (s.epochs ++ e ∷ es) → e.change ≡ c
    → line ∷ left ≡ (epoch_line (civil_of e.time) (length e.rows) ∷ map satellite_line e.rows) ++ flat_map stamped_lines es → EpochNext s c v line left
next_with {s} e es is value starts change text =
    let valid : IsFileValue (file_with s (s.epochs ++ e ∷ es)) = subst IsFileValue value is in
    record {
      e = e;
      es = es;
      value = value;
      starts = starts;
      is = All-midst (IsStamped (planned_in s.known.shown.plan)) s.epochs es e valid.epochs;
      rising = subst IsStrictlyIncreasing (map-append time_stamped s.epochs (e ∷ es)) valid.rising;
      change = change;
      shown = (cons_parts _ _ _ _ text).0;
      rest = (cons_parts _ _ _ _ text).1;
    }

some_epochs : (es others : List Stamped) (e : Stamped) (w : StationValues) → IsFirstSame (es ++ e ∷ others) → e.change ≡ Some w → 0 < length es
some_epochs es others e w first is = grind (arith, common_steps)

-- no event begins with the line, or none is allowed here
abbrev pub NoEvent : Progress → List ℕ → Type 0
NoEvent s line = (0 < length s.epochs) × (line ≡ event_line) → ⊥

from_others : {s : Progress} {v : FileValue} {line : List ℕ} {left : List (List ℕ)} (others : List Stamped) → NoEvent s line → IsFileValue v → v ≡ file_with s (s.epochs ++ others)
    → StartsAt s.known.shown.first (s.epochs ++ others) → line ∷ left ≡ flat_map stamped_lines others → EpochNext s None v line left
from_others {left = left} [] never is value starts rest = let none : suc (length left) ≡ 0 = ap length rest in absurd (omega (arith, none))
from_others {s} {v} {line} {left} (e ∷ es) never is value starts rest = by e.change refl where
  by : (c : Option StationValues) → e.change ≡ c → EpochNext s None v line left
  by None h = next_with e es is value starts h (rest ∙ ap (λ l. l ++ flat_map stamped_lines es) (lines_are e None h))
  by (Some w) h =
      let text : line ∷ left ≡ lines_with (Some w) e ++ flat_map stamped_lines es = rest ∙ ap (λ l. l ++ flat_map stamped_lines es) (lines_are e (Some w) h) in
      absurd (never (some_epochs s.epochs es e w (subst IsFileValue value is).first h, (cons_parts _ _ _ _ text).0))

pub epoch_next : (s : Progress) (c : Option StationValues) (v : FileValue) (line : List ℕ) (left : List (List ℕ)) → s.expected ≡ epoch_after c → (c ≡ None → NoEvent s line) → HasLinesLeft s v (line ∷ left) → EpochNext s c v line left
unfolding HasLinesLeft
epoch_next s None v line left expected never (is, at) =
    let here : IsAtEpoch s v (line ∷ left) = subst (λ d. IsAt s d v (line ∷ left)) expected at in
    from_others here.others (never refl) is here.value here.starts here.rest
epoch_next s (Some w) v line left expected never (is, at) =
    let here : IsInEvent s 3 (λ x. x ≡ w) v (line ∷ left) = subst (λ d. IsAt s d v (line ∷ left)) expected at in
    let change : here.next.change ≡ Some w = here.change ∙ ap Some here.shown in
    next_with here.next here.others is here.value here.starts change (here.rest ∙ ap (λ l. drop 3 l ++ flat_map stamped_lines here.others) (lines_are here.next (Some w) change))

-- as many satellites as the planned systems have fit their columns
pub few_satellites : (signals : System → ℕ) (n : ℕ) → n ≤ most_rows signals → n ≤ 999
few_satellites signals n room = le_trans room (few_most signals)

-- an epoch whose line follows may begin
may_begin : (s : Progress) (c : Option StationValues) (v : FileValue) (line : List ℕ) (left : List (List ℕ)) (next : EpochNext s c v line left)
    → IsTime next.e.time × MayBegin s next.e.time (length next.e.rows)
may_begin s c v line left next = (
  next.is.time,
  record {
    later =
        rise_front (map time_stamped s.epochs ++ next.e.time ∷ []) (map time_stamped next.es)
        (subst IsStrictlyIncreasing (sym (append_assoc (map time_stamped s.epochs) (next.e.time ∷ []) (map time_stamped next.es))) next.rising);
    first = λ none. subst (λ x. StartsAt s.known.shown.first (x ++ next.e ∷ next.es)) none next.starts;
    some = next.is.some;
    room = few_rows (planned_in s.known.shown.plan) next.e.rows next.is.rows;
  },
)

-- an epoch's time and the number of its satellites, if it may begin
abbrev pub Begins : Progress → ℕ × ℕ → Type 0
Begins s w = IsTime w.0 × MayBegin s w.0 w.1

abbrev pub begin_line : ℕ × ℕ → List ℕ
begin_line w = epoch_line (civil_of w.0) w.1

-- no epoch may begin with the line
pub no_epoch : (s : Progress) (c : Option StationValues) (line : List ℕ) → s.expected ≡ epoch_after c → (c ≡ None → NoEvent s line) → ((w : ℕ × ℕ) → Begins s w → line ≡ begin_line w → ⊥) → RefusesLine s line
no_epoch s c line expected never none = λ v left on.
    let next = epoch_next s c v line left expected never on in
    none (next.e.time, length next.e.rows) (may_begin s c v line left next) next.shown

module _ (s : Progress) (c : Option StationValues) {t n : ℕ} {line : List ℕ} (none : s.rows ≡ []) (shown : line ≡ epoch_line (civil_of t) n)
    (only : (w : ℕ × ℕ) → Begins s w → line ≡ begin_line w → w ≡ (t, n)) where
  -- the epoch that the line begins
  to_within : (v : FileValue) (left : List (List ℕ)) → EpochNext s c v line left → IsInEpoch (begun_at s c t n) n v left
  to_within v left next =
      let same : ◌≡◌ {A = ℕ × ℕ} (next.e.time, length next.e.rows) (t, n) = only (next.e.time, length next.e.rows) (may_begin s c v line left next) next.shown in
      let time : next.e.time ≡ t = ap (λ w. w.0) same in
      let epoch : next.e ≡ at_time c t (s.rows ++ next.e.rows) = ap₂ (λ (x : Option StationValues) (u : ℕ). at_time x u next.e.rows) next.change time ∙ ap (λ r. at_time c t (r ++ next.e.rows)) (sym none) in
      record {
        more = next.e.rows;
        others = next.es;
        count = ap (λ w. w.1) same;
        value = next.value ∙ ap (λ x. file_with s (s.epochs ++ x ∷ next.es)) epoch;
        starts = subst (λ x. StartsAt s.known.shown.first (s.epochs ++ x ∷ next.es)) epoch next.starts;
        rest = next.rest;
      }

  pub epoch_taken : s.expected ≡ epoch_after c → (c ≡ None → NoEvent s line) → GoesOnWithLine s (begun_at s c t n) line
  unfolding HasLinesLeft
  epoch_taken expected never v left on = (on.0, to_within v left (epoch_next s c v line left expected never on))

-- the lines with that of an epoch
begun_lines : (whole : List (List ℕ)) {taken before : List (List ℕ)} {line : List ℕ} (t n : ℕ) (c : Option StationValues) {rows : List SatelliteRow} → rows ≡ [] → taken ≡ whole ++ before → before ≡ change_lines c
    → line ≡ epoch_line (civil_of t) n → taken ++ line ∷ [] ≡ whole ++ part_lines (at_time c t rows) (length rows + n)
begun_lines whole {before} {line} t n c none e same shown =
    ap (λ l. l ++ line ∷ []) e ∙ append_assoc whole before (line ∷ []) ∙ ap (λ l. whole ++ (l ++ line ∷ [])) same ∙ ap (λ l. whole ++ (change_lines c ++ l ∷ [])) shown
    ∙ ap (λ (k : ℕ). whole ++ part_lines (at_time c t []) k) (sym (zero-add n)) ∙ sym (ap (λ (r : List SatelliteRow). whole ++ part_lines (at_time c t r) (length r + n)) none)

pub epoch_shows : (s : Progress) (c : Option StationValues) (t n : ℕ) (line : List ℕ) → s.expected ≡ epoch_after c → s.rows ≡ [] → line ≡ epoch_line (civil_of t) n → ShowsLine s (begun_at s c t n) line
epoch_shows s None t n line expected none shown taken are =
    let whole = whole_lines s.known.shown s.epochs in
    begun_lines whole t n None none (subst (λ d. AreLinesAt s d taken) expected are ∙ sym (append-nil whole)) refl shown
epoch_shows s (Some w) t n line expected none shown taken are =
    begun_lines (whole_lines s.known.shown s.epochs) t n (Some w) none (subst (λ d. AreLinesAt s d taken) expected are) refl shown

-- ---- what holds after the first line of an epoch is accepted

pub sound_between : (s : Progress) → s.expected ≡ Epoch → IsSound s → AreRead s × (s.rows ≡ [])
sound_between s expected sound = subst (λ d. IsSoundAt s d) expected sound

-- what holds before the first line of an epoch
pub sound_epoch : (s : Progress) (c : Option StationValues) → s.expected ≡ epoch_after c → IsSound s → AreRead s × (s.rows ≡ []) × IsChange (values_now s) c × (s.epochs ≡ [] → c ≡ None)
sound_epoch s c expected sound = grind (arith, sound_between)

pub sound_begun : {s : Progress} {c : Option StationValues} {t n : ℕ} → AreRead s → s.rows ≡ [] → MayBegin s t n → IsTime t → IsChange (values_now s) c → (s.epochs ≡ [] → c ≡ None)
    → IsSound (begun_at s c t n)
sound_begun read none may time change same = grind (arith, All-nil)

-- ---- the line of a satellite

-- what follows if satellites are expected and a line is next
pub record RowNext (s : Progress) (n : ℕ) (v : FileValue) (line : List ℕ) (left : List (List ℕ)) : Type 0 where
  pub row : SatelliteRow
  pub more : List SatelliteRow
  pub others : List Stamped
  pub count : length more ≡ n
  pub value : v ≡ file_with s (s.epochs ++ stamped s (s.rows ++ row ∷ more) ∷ others)
  pub starts : StartsAt s.known.shown.first (s.epochs ++ stamped s (s.rows ++ row ∷ more) ∷ others)
  pub is : IsSatelliteRow (planned_in s.known.shown.plan) row
  pub rising : IsStrictlyIncreasing (map rank_of s.rows ++ rank_of row ∷ map rank_of more)
  pub shown : line ≡ satellite_line row
  pub rest : left ≡ map satellite_line more ++ flat_map stamped_lines others

from_more : {s : Progress} {n : ℕ} {v : FileValue} {line : List ℕ} {left : List (List ℕ)} (more : List SatelliteRow) (others : List Stamped) → IsFileValue v → length more ≡ suc n
    → v ≡ file_with s (s.epochs ++ stamped s (s.rows ++ more) ∷ others) → StartsAt s.known.shown.first (s.epochs ++ stamped s (s.rows ++ more) ∷ others)
    → line ∷ left ≡ map satellite_line more ++ flat_map stamped_lines others → RowNext s n v line left
from_more [] others is count value starts rest = absurd (omega (arith, count))
from_more {s} (m ∷ ms) others is count value starts rest =
    let valid : IsFileValue (file_with s (s.epochs ++ stamped s (s.rows ++ m ∷ ms) ∷ others)) = subst IsFileValue value is in
    let one : IsStamped (planned_in s.known.shown.plan) (stamped s (s.rows ++ m ∷ ms)) =
    All-midst (IsStamped (planned_in s.known.shown.plan)) s.epochs others (stamped s (s.rows ++ m ∷ ms)) valid.epochs in
    record {
      row = m;
      more = ms;
      others = others;
      count = omega (arith, count);
      value = value;
      starts = starts;
      is = All-midst (IsSatelliteRow (planned_in s.known.shown.plan)) s.rows ms m one.rows.each;
      rising = subst IsStrictlyIncreasing (map-append rank_of s.rows (m ∷ ms)) one.rows.rise;
      shown = (cons_parts _ _ _ _ rest).0;
      rest = (cons_parts _ _ _ _ rest).1;
    }

pub row_next : (s : Progress) (n : ℕ) (v : FileValue) (line : List ℕ) (left : List (List ℕ)) → s.expected ≡ Satellite (suc n) → HasLinesLeft s v (line ∷ left) → RowNext s n v line left
unfolding HasLinesLeft
row_next s n v line left expected h1 = grind (arith, from_more)

module _ (s : Progress) (n : ℕ) (line : List ℕ) (expected : s.expected ≡ Satellite (suc n)) where
  pub no_row : ((w : SatelliteRow) → IsSatelliteRow (planned_in s.known.shown.plan) w → line ≡ satellite_line w → ⊥) → RefusesLine s line
  no_row none v left on = let next = row_next s n v line left expected on in none next.row next.is next.shown

  pub bad_row : (row : SatelliteRow) → ((w : SatelliteRow) → IsSatelliteRow (planned_in s.known.shown.plan) w → line ≡ satellite_line w → w ≡ row)
      → (IsStrictlyIncreasing (map rank_of s.rows ++ rank_of row ∷ []) → ⊥) → RefusesLine s line
  bad_row row only never v left on =
      let next = row_next s n v line left expected on in
      let same : next.row ≡ row = only next.row next.is next.shown in
      let rise : IsStrictlyIncreasing (map rank_of s.rows ++ rank_of next.row ∷ []) =
      rise_front (map rank_of s.rows ++ rank_of next.row ∷ []) (map rank_of next.more)
      (subst IsStrictlyIncreasing (sym (append_assoc (map rank_of s.rows) (rank_of next.row ∷ []) (map rank_of next.more))) next.rising) in
      never (subst (λ w. IsStrictlyIncreasing (map rank_of s.rows ++ rank_of w ∷ [])) same rise)

  pub row_taken : (row : SatelliteRow) → line ≡ satellite_line row → ((w : SatelliteRow) → IsSatelliteRow (planned_in s.known.shown.plan) w → line ≡ satellite_line w → w ≡ row)
      → GoesOnWithLine s (with_row s row n) line
  unfolding HasLinesLeft
  row_taken row shown only v left on = grind (arith, common_steps, append_assoc, row_next s n v line left expected on)

-- the lines with that of a satellite
satellite_lines : (whole : List (List ℕ)) {taken : List (List ℕ)} {line : List ℕ} (c : Option StationValues) (t : ℕ) {k n : ℕ} (rows : List SatelliteRow) (row : SatelliteRow) → taken ≡ whole ++ part_lines (at_time c t rows) k
    → line ≡ satellite_line row → k ≡ n → taken ++ line ∷ [] ≡ whole ++ part_lines (at_time c t (rows ++ row ∷ [])) n
satellite_lines whole {line} c t {k} rows row e shown same =
    let front = change_lines c in
    let first = epoch_line (civil_of t) k in
    ap (λ l. l ++ line ∷ []) e ∙ append_assoc whole (front ++ first ∷ map satellite_line rows) (line ∷ [])
    ∙ ap (λ l. whole ++ l) (append_assoc front (first ∷ map satellite_line rows) (line ∷ []) ∙ ap (λ l. front ++ (first ∷ (map satellite_line rows ++ l ∷ []))) shown
    ∙ ap (λ l. front ++ first ∷ l) (sym (map-append satellite_line rows (row ∷ []))) ∙ ap (λ (m : ℕ). part_lines (at_time c t (rows ++ row ∷ [])) m) same)

one_fewer : (rows : List SatelliteRow) (row : SatelliteRow) (n : ℕ) → length rows + suc n ≡ length (rows ++ row ∷ []) + n
one_fewer rows row n = let size : length (rows ++ row ∷ []) ≡ length rows + 1 = length-append rows (row ∷ []) in omega (arith, size)

pub row_shows : (s : Progress) (n : ℕ) (line : List ℕ) → s.expected ≡ Satellite (suc n) → (row : SatelliteRow) → line ≡ satellite_line row → ShowsLine s (with_row s row n) line
row_shows s n line expected row shown taken are =
    satellite_lines (whole_lines s.known.shown s.epochs) s.change s.time s.rows row (subst (λ d. AreLinesAt s d taken) expected are) shown (one_fewer s.rows row n)

-- the last satellite makes the epoch whole
pub last_shows : (s : Progress) (line : List ℕ) → s.expected ≡ Satellite 1 → (row : SatelliteRow) → line ≡ satellite_line row → ShowsLine s (with_epoch (with_row s row 0)) line
last_shows s line expected row shown taken are =
    let e = stamped s (s.rows ++ row ∷ []) in
    let all = row_shows s 0 line expected row shown taken are in
    let n : length (s.rows ++ row ∷ []) + 0 ≡ length (s.rows ++ row ∷ []) = omega arith in
    let head = header_lines s.known.shown in
    all ∙ ap (λ (m : ℕ). whole_lines s.known.shown s.epochs ++ part_lines e m) n ∙ append_assoc head (flat_map stamped_lines s.epochs) (stamped_lines e)
    ∙ ap (λ l. head ++ l) (ap (λ l. flat_map stamped_lines s.epochs ++ l) (sym (append-nil (stamped_lines e))) ∙ sym (flat_map-append stamped_lines s.epochs (e ∷ [])))

-- ---- what holds after the line of a satellite is accepted

pub sound_open : (s : Progress) (n : ℕ) → s.expected ≡ Satellite n → IsSound s → AreRead s × IsBegun s × (0 < n) × (length s.rows + n ≤ most_rows (planned_in s.known.shown.plan))
sound_open s n expected sound = subst (λ d. IsSoundAt s d) expected sound

pub few_signals_of : (p : PlanValue) → IsPlan p → (system : System) → length (planned_of system p) ≤ most_signals
few_signals_of p is system = let few = few_below (length (table system)) (planned_of system p) (is.listed system) (is.apart system) in let most = short_table system in omega (arith, few, most)

pub few_at : (s : Progress) (n : ℕ) → s.expected ≡ Satellite n → IsSound s → ((t : System) → planned_in s.known.shown.plan t ≤ most_signals)
few_at s n expected sound = few_signals_of s.known.shown.plan (sound_open s n expected sound).0.shown.plan

seen_more : (signals : System → ℕ) (rows : List SatelliteRow) (row : SatelliteRow) → AreSatelliteRows signals rows → IsSatelliteRow signals row → IsStrictlyIncreasing (map rank_of rows ++ rank_of row ∷ [])
    → AreSatelliteRows signals (rows ++ row ∷ [])
seen_more signals rows row these is rise = grind (arith, common_steps, All-push)

module _ (s : Progress) (n : ℕ) {left : ℕ} (expected : s.expected ≡ Satellite left) (sound : IsSound s) {row : SatelliteRow}
    (is : IsSatelliteRow (planned_in s.known.shown.plan) row) (rise : IsStrictlyIncreasing (map rank_of s.rows ++ rank_of row ∷ [])) where
  rows_more : AreSatelliteRows (planned_in s.known.shown.plan) (s.rows ++ row ∷ [])
  rows_more = seen_more (planned_in s.known.shown.plan) s.rows row (sound_open s left expected sound).1.rows is rise

  pub sound_row : 0 < n → left ≡ suc n → IsSound (with_row s row n)
  sound_row some one = grind (arith, common_steps, sound_open, one_fewer, rows_more)

  pub sound_closed : IsSound (with_epoch (with_row s row n))
  sound_closed =
      let (read, begun, all, room) = sound_open s left expected sound in
      let size : length (s.rows ++ row ∷ []) ≡ length s.rows + 1 = length-append s.rows (row ∷ []) in (
        record {
          shown = read.shown;
          epochs = All-push (IsStamped (planned_in s.known.shown.plan)) s.epochs (stamped s (s.rows ++ row ∷ [])) read.epochs (record {
            time = begun.time;
            rows = rows_more;
            some = omega (arith, size);
          });
          rising = subst IsStrictlyIncreasing (sym (map-append time_stamped s.epochs (stamped s (s.rows ++ row ∷ []) ∷ []))) begun.later;
          starts = grind (arith, read.starts, begun.first);
          first = grind (arith, read.first, begun.same);
          changes = changes_more s.known.shown.values s.epochs (stamped s (s.rows ++ row ∷ [])) read.changes begun.change;
        },
        refl,
      )

-- the last line of an epoch's satellites
pub last_taken : (s : Progress) (line : List ℕ) → s.expected ≡ Satellite 1 → (row : SatelliteRow) → line ≡ satellite_line row
    → ((w : SatelliteRow) → IsSatelliteRow (planned_in s.known.shown.plan) w → line ≡ satellite_line w → w ≡ row)
    → GoesOnWithLine s (with_epoch (with_row s row 0)) line
unfolding HasLinesLeft
last_taken s line expected row shown only v left on =
    let here : IsInEpoch (with_row s row 0) 0 v left = (row_taken s 0 line expected row shown only v left on).1 in
    (on.0, grind (arith, common_steps, append-nil, append_assoc, here.count, here.value, here.starts, here.rest))

-- ---- a line that adds nothing

-- the state with what a line changes that adds no satellite: the expected line, the header, and the epoch that it begins
abbrev pub state_with : ParserState → Expected → Known → Option StationValues → ℕ → ParserState
state_with c e k change t = record c { expected = e; head = k; change = change; time = t }

few_open : (e : Expected) → open_epochs e ≤ 1
few_open e = grind arith

pub goes_on : {c : ParserState} {h : History} (e : Expected) (k : Known) (change : Option StationValues) (t : ℕ) {line : List ℕ} → FollowsHistory c h
    → IsSound (progress_at (state_with c e k change t) h) → GoesOnWithLine (progress_at c h) (progress_at (state_with c e k change t) h) line
    → ShowsLine (progress_at c h) (progress_at (state_with c e k change t) h) line → (ExpectsRow c.expected → ⊥) → ((ExpectsHeader c.expected → ⊥) → k ≡ c.head)
    → (after : History) × IsNext c (state_with c e k change t) line h after
goes_on e k change t history sound follows shows outside same = grind (arith, common_steps, few_open e)

-- another line is expected than that of a satellite
pub outside_after : (expected : Expected) (change : Option StationValues) → expected ≡ epoch_after change → ExpectsRow expected → ⊥
outside_after expected change is inside = grind (arith, common_steps)
