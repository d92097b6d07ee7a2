-- The epochs in the lines that were accepted.
use Rattle.rinex_file.proofs.Writing.Sent.{joined-append}
use Rattle.rinex_file.specs.declared.read.fault.ReadFault.TheVariants.{Memory}
use Rattle.rinex_file.proofs.FileLines.{lines_are_lines, lines_are_short}
use Rattle.rinex_file.proofs.Reading.Header.{begin_whole, begun_with, row_expected, whole_with}
use Rattle.rinex_file.proofs.Reading.Epochs.{sound_open}
use Rattle.rinex_file.proofs.Reading.Lines.{both_said, only_faults, said_of, consumed, none_ahead, splits}
use Rattle.rinex_file.proofs.Names.{AddsAt, with_last_read, Known, HasReadRowsAt, arith, common_steps, append_assoc, ReadsNextLine, Ok, ReadFault, ExpectsHeader, ExpectsRow, HasReadRows, ExplainsFault, IsFaultAfter, StopsReading, HasPlan, IsEpochLine, System, IsSatelliteRow, IsStamped, AreRead, All, All-head, All-tail, plan_of, planned_in, with_read, Read, ◌∙◌, header_lines, Memory, HasHeader, shown_text, ◌≡◌, sym, ap, refl, subst, ℕ, List, [], ◌∷◌, ◌++◌, Option, IfSome, Expected, Header, Epoch, Satellite, ParserState, EpochReader, Progress, History, HasRead, HasReadEpochs, IsSoundAt, IsAt, IsSound, HasLinesLeft, progress_at, SatelliteRow, Stamped, FileValue, stamped, joined, Result, Bool, ReadsRow, NextEpoch, BeginsEpoch, most_lines, ◌≤◌, file_lines, AreEpochsRead, AreFirstEpochs, AreWholeBefore, ◌+◌, Consumes, IsPrefix, false, has, prepend_known}

-- a file that continues after what was read begins with the epochs that were read
at_left : (s : Progress) (expected : Expected) (v : FileValue) (left : List (List ℕ)) → IsSoundAt s expected → IsAt s expected v left → IsPrefix s.epochs v.epochs
at_left s (Header place) v left sound at = (v.epochs, ap (λ es. es ++ v.epochs) (sym sound.0))
at_left s Epoch v left sound at = (at.others, ap (λ (f : FileValue). f.epochs) at.value)
at_left s (Satellite n) v left sound at = (stamped s (s.rows ++ at.more) ∷ at.others, ap (λ (f : FileValue). f.epochs) at.value)
at_left s other v left sound at = (at.next ∷ at.others, ap (λ (f : FileValue). f.epochs) at.value)

epochs_left : (s : Progress) (v : FileValue) (left : List (List ℕ)) → IsSound s → HasLinesLeft s v left → IsPrefix s.epochs v.epochs
unfolding HasLinesLeft
epochs_left s v left sound on = at_left s s.expected v left sound on.1

-- the lines that were accepted have the epochs that were read
pub first_epochs : {r : EpochReader} {h : History} {input left : Option (List ℕ)} → HasRead r h input left → IfSome input (AreFirstEpochs h.epochs r.count)
first_epochs {r} {h} {input} read =
    let s = progress_at r.parser_state h in
    let t = read.taken in
    let sound = read.history.sound in
    consumed input _ (joined t.lines) (AreFirstEpochs h.epochs r.count) t.taken (λ rest. record {
      lines = t.lines;
      rest = rest;
      first = record { are = t.are; first = refl };
      count = t.many;
      begun = begun_with s s.expected t.lines sound t.history.are;
      only = λ v is e.
          let (more, lines, text) = splits (file_lines v) t.lines rest (lines_are_lines v is) t.are (sym e) in
          epochs_left s v more sound (t.history.goes v more is lines);
    })

-- the same of the bytes that were read, if the reader failed in a line
pub epochs_read : {r : EpochReader} {h : History} {input before : Option (List ℕ)} (left : Option (List ℕ)) {ahead : List ℕ} (line : List ℕ) → HasRead r h input before → Consumes (prepend_known r.lines.ahead before) (prepend_known ahead left) line → ahead ≡ []
    → has 10 line ≡ false → AreEpochsRead h.epochs input left
epochs_read left line read next none endless = grind (arith, common_steps, none_ahead, begun_with)

-- ---- the lines of epochs

pub header_expected : (expected : Expected) → ExpectsHeader expected → ExpectsRow expected → ⊥
header_expected expected header inside = grind (arith, common_steps)

-- a line that isn't that of a satellite adds nothing
pub none_added : (d : Expected) (old new : ParserState) (h after : History) → AddsAt d old new h after → (ExpectsRow d → ⊥) → (after ≡ h) × ((ExpectsHeader d → ⊥) → new.head ≡ old.head)
none_added d old new h after adds outside = grind (arith, common_steps)

-- a satellite of an epoch is expected
pub open_part : {r : EpochReader} {es : List Stamped} {e : Stamped} {input left : Option (List ℕ)} (expected : Expected) → ExpectsRow expected → HasReadRowsAt expected r es e input left
    → HasRead r (record { epochs = es; rows = e.rows }) input left × (r.parser_state.change ≡ e.change) × (r.parser_state.time ≡ e.time)
open_part expected inside part = grind (arith, common_steps)

pub is_part : {r : EpochReader} {es : List Stamped} {e : Stamped} {input left : Option (List ℕ)} (expected : Expected) → ExpectsRow expected → HasRead r (record { epochs = es; rows = e.rows }) input left
    → r.parser_state.change ≡ e.change → r.parser_state.time ≡ e.time → HasReadRowsAt expected r es e input left
is_part expected inside read change time = grind (arith, common_steps)

-- none is expected
pub whole_part : {r : EpochReader} (es : List Stamped) (e : Stamped) {input left : Option (List ℕ)} (expected : Expected) → (ExpectsRow expected → ⊥) → HasReadRowsAt expected r es e input left
    → HasReadEpochs r (es ++ e ∷ []) input left
whole_part es e expected outside part = grind (arith, common_steps)

pub not_pushed : {A : Type 0} (xs : List A) (x : A) → xs ++ x ∷ [] ≡ [] → ⊥
not_pushed xs x e = grind (arith, common_steps)

pub are_read : (s : Progress) (expected : Expected) → IsSoundAt s expected → (s.epochs ≡ [] → ⊥) → AreRead s
are_read s expected sound some = grind (arith, common_steps)

-- the line of a satellite is read
row_at : (d f : Expected) (old new : EpochReader) (es : List Stamped) (e : Stamped) (input before left : Option (List ℕ)) (after : History) → ExpectsRow d → HasReadRowsAt d old es e input before → new.parser_state.expected ≡ f
    → HasRead new after input left → AddsAt d old.parser_state new.parser_state (record { epochs = es; rows = e.rows }) after → HasReadRowsAt f new es (with_read e new.parser_state.last_read) input left × (plan_of new ≡ plan_of old)
row_at (Satellite n) (Satellite m) old new es e input before left after inside part is read ((head, change, time), same) =
    let one = same ∙ ap (λ (d : Expected). with_last_read d new.parser_state (record { epochs = es; rows = e.rows })) is in
    ((subst (λ (h : History). HasRead new h input left) one read, change ∙ part.1, time ∙ part.2), ap (λ (k : Known). k.shown.plan) head)
row_at (Satellite n) other old new es e input before left after inside part is read ((head, change, time), same) = grind (arith, common_steps)
row_at other f old new es e input before left after inside part is read adds = absurd inside

pub row_read : (old new : EpochReader) (es : List Stamped) (e : Stamped) (input before left : Option (List ℕ)) (after : History) → ExpectsRow old.parser_state.expected → HasReadRows old es e input before
    → HasRead new after input left → AddsAt old.parser_state.expected old.parser_state new.parser_state (record { epochs = es; rows = e.rows }) after
    → HasReadRows new es (with_read e new.parser_state.last_read) input left × (plan_of new ≡ plan_of old)
row_read old new es e input before left after inside part read adds = row_at old.parser_state.expected new.parser_state.expected old new es e input before left after inside part refl read adds

last_of : {A : Type 0} (P : A → Type 0) (xs : List A) (x : A) → All P (xs ++ x ∷ []) → P x
last_of P [] x all = All-head P x [] all
last_of P (y ∷ ys) x all = last_of P ys x (All-tail P y (ys ++ x ∷ []) all)

-- it is a satellite of the plan
pub row_planned : (r : EpochReader) (es : List Stamped) (e : Stamped) (input left : Option (List ℕ)) → HasReadRows r es (with_read e r.parser_state.last_read) input left
    → IsSatelliteRow (planned_in (plan_of r)) r.parser_state.last_read
row_planned r es e input left part = by r.parser_state.expected refl part where
  signals : System → ℕ
  signals = planned_in (plan_of r)

  seen : SatelliteRow
  seen = r.parser_state.last_read

  by : (d : Expected) → r.parser_state.expected ≡ d → HasReadRowsAt d r es (with_read e seen) input left → IsSatelliteRow signals seen
  by (Satellite n) is part =
      let s = progress_at r.parser_state (record { epochs = es; rows = e.rows ++ seen ∷ [] }) in
      last_of (IsSatelliteRow signals) e.rows seen (sound_open s n is part.0.history.sound).1.rows.each
  by other is part =
      let s = progress_at r.parser_state (record { epochs = es ++ with_read e seen ∷ []; rows = [] }) in
      let are = are_read s s.expected part.0.history.sound (not_pushed es (with_read e seen)) in
      last_of (IsSatelliteRow signals) e.rows seen (last_of (IsStamped signals) es (with_read e seen) are.epochs).rows.each

-- a file that continues after it has that epoch
next_at : (s : Progress) (expected : Expected) (v : FileValue) (left : List (List ℕ)) → ExpectsRow expected → IsAt s expected v left → (e : Stamped) × (e.time ≡ s.time) × IsPrefix (s.epochs ++ e ∷ []) v.epochs
next_at s (Satellite n) v left inside at =
    let e = stamped s (s.rows ++ at.more) in
    (e, refl, (at.others, ap (λ (f : FileValue). f.epochs) at.value ∙ sym (append_assoc s.epochs (e ∷ []) at.others)))
next_at s other v left inside at = absurd inside

next_left : (s : Progress) (v : FileValue) (left : List (List ℕ)) → ExpectsRow s.expected → HasLinesLeft s v left → (e : Stamped) × (e.time ≡ s.time) × IsPrefix (s.epochs ++ e ∷ []) v.epochs
unfolding HasLinesLeft
next_left s v left inside on = next_at s s.expected v left inside on.1

-- the line of an epoch was read
pub epoch_begun : (r : EpochReader) (es : List Stamped) {input left : Option (List ℕ)} → ExpectsRow r.parser_state.expected → HasRead r (record { epochs = es; rows = [] }) input left
    → IfSome input (IsEpochLine es r.parser_state.time r.count)
epoch_begun r es {input} {left} inside read =
    let s = progress_at r.parser_state (record { epochs = es; rows = [] }) in
    let t = read.taken in
    let sound = read.history.sound in
    consumed input _ (joined t.lines) (IsEpochLine es r.parser_state.time r.count) t.taken (λ rest. record {
      lines = t.lines;
      rest = rest;
      first = record { are = t.are; first = refl };
      count = t.many;
      begun = row_expected s s.expected t.lines sound t.history.are inside;
      only = λ v is e.
          let (more, lines, text) = splits (file_lines v) t.lines rest (lines_are_lines v is) t.are (sym e) in
          next_left s v more inside (t.history.goes v more is lines);
    })

-- a fault of the next line
pub stopped : {r : EpochReader} {h : History} {input before : Option (List ℕ)} (left : Option (List ℕ)) (fault : ReadFault) → HasRead r h input before → IfSome input (λ bytes. ExplainsFault bytes fault)
    → IsFaultAfter fault r.count → (fault ≡ Memory → h.epochs ≡ []) → (fault ≡ Read → AreEpochsRead h.epochs input left) → StopsReading h.epochs input left fault
stopped {r} {h} {input} left fault read why number memory failed = (
  both_said input _ _ _ (λ bytes why first. (why, (r.count, number, first, memory))) why (first_epochs read),
  λ v is few. only_faults lines_are_lines lines_are_short input fault v why is few,
  failed,
)

-- the fault follows whole epochs
pub whole_before : {r : EpochReader} {es : List Stamped} {input left : Option (List ℕ)} (fault : ReadFault) → HasReadEpochs r es input left → IsFaultAfter fault r.count → IfSome input (AreWholeBefore es fault)
whole_before {r} {es} {input} {left} fault (read, outside) number =
    let s = progress_at r.parser_state (record { epochs = es; rows = [] }) in
    let t = read.taken in
    consumed input _ (joined t.lines) (AreWholeBefore es fault) t.taken (λ rest. (
      r.count,
      number,
      record {
        lines = t.lines;
        rest = rest;
        first = record { are = t.are; first = refl };
        count = ap (λ (n : ℕ). n + 1) t.many;
        are = whole_with s s.expected t.lines read.history.sound t.history.are outside;
      },
    ))

-- the input begins with a header if a satellite was read, and its plan was read
pub plan_read : {r : EpochReader} {h : History} {input left : Option (List ℕ)} → HasRead r h input left → (h.epochs ≡ [] → h.rows ≡ [] → ⊥) → IfSome input (HasPlan (plan_of r))
unfolding shown_text
plan_read {r} {h} {input} read some =
    let s = progress_at r.parser_state h in
    let t = read.taken in
    let (others, is, are) = begin_whole s s.expected t.lines read.history.sound t.history.are some in
    let front = header_lines s.known.shown in
    consumed input _ (joined t.lines) (HasPlan (plan_of r)) t.taken (λ rest. (
      record {
        h = s.known.shown;
        rest = joined others ++ rest;
        is = is;
        begins = ap (λ (l : List ℕ). l ++ rest) (ap joined are ∙ joined-append front others) ∙ append_assoc (joined front) (joined others) rest;
      },
      refl,
    ))

pub whole_header : {r : EpochReader} {h : History} {input left : Option (List ℕ)} → HasRead r h input left → (h.epochs ≡ [] → h.rows ≡ [] → ⊥) → IfSome input HasHeader
whole_header {input = input} read some = said_of input _ _ (λ bytes has. has.0) (plan_read read some)

-- the same if a satellite of an epoch was read
pub row_header : (r : EpochReader) (es : List Stamped) (e : Stamped) (input left : Option (List ℕ)) → HasReadRows r es e input left → (e.rows ≡ [] → ⊥) → IfSome input HasHeader
row_header r es e input left part some = by r.parser_state.expected part where
  by : (d : Expected) → HasReadRowsAt d r es e input left → IfSome input HasHeader
  by (Satellite n) part = whole_header part.0 (λ none rows. some rows)
  by other part = whole_header part.0 (λ none rows. not_pushed es e none)

-- ---- what the reader returns, by its value

pub line_is : (old new : EpochReader) (h : History) (input left : Option (List ℕ)) {r ended : Result Bool ReadFault} → r ≡ ended → ReadsNextLine old new h input left r → ReadsNextLine old new h input left ended
line_is old new h input left is reads = subst (ReadsNextLine old new h input left) is reads

pub row_is : (old new : EpochReader) (es : List Stamped) (e : Stamped) (input left : Option (List ℕ)) {r ended : Result Bool ReadFault} → r ≡ ended → ReadsRow old new es e input left r → ReadsRow old new es e input left ended
row_is old new es e input left is reads = subst (ReadsRow old new es e input left) is reads

pub begins_is : (old new : EpochReader) (es : List Stamped) (input left : Option (List ℕ)) {n m : NextEpoch} → n ≡ m → BeginsEpoch old new es input left (Ok n) → BeginsEpoch old new es input left (Ok m)
begins_is old new es input left is begins = subst (λ (n : NextEpoch). BeginsEpoch old new es input left (Ok n)) is begins

-- no more lines were read than a file has
pub few_lines : (r : EpochReader) (es : List Stamped) (e : Stamped) (input left : Option (List ℕ)) → HasReadRows r es e input left → r.count ≤ most_lines
few_lines r es e input left part = grind (arith, common_steps)
