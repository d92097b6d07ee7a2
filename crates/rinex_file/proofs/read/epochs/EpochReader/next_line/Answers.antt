-- What the next line is decides the end of the step: the end of the input, a line that is too long, or a line that
-- the parser takes or refuses. The lines taken so far go on by one.
use Rattle.rinex_file.proofs.FileLines.{lines_are_lines}
use Rattle.rinex_file.proofs.Reading.Accepted.{epochs_read, stopped}
use Rattle.rinex_file.specs.declared.read.fault.ReadFault.TheVariants.{Memory}
use Rattle.rinex_file.proofs.Reading.Header.{no_epochs_yet, run_out, unfinished, file_shown, only_file, file_read, sound_rows, begun, expected_at}
use Rattle.rinex_file.proofs.Reading.Lines.{at_types, one_more, refused, over_long, cut, whole, both_said, too_long, line_some, is_empty, not_empty}
use Rattle.rinex_file.proofs.Names.{fine_read, refused as judged, common_steps, ◌≡◌, ExplainsFault, HasRead, History, IfSome, IsFaultAfter, EpochReader, List, Option, Read, ReadFault, StopsReading, ⊤, is_of_types, refl, ◌∙◌, sym, ap, subst, ℕ, ◌^◌, ◌+◌, ◌<◌, ◌≤◌, length, Err, arith, Refusal, GoesOnWithLine, ShowsLine, RefusesLine, TakesLine, progress_at}
use Rattle.rinex_file.proofs.read.epochs.EpochReader.next_line.Goals as goal

-- a fault that is neither the reader's nor one of memory
stops_at : {r : EpochReader} {h : History} {input before : Option (List ℕ)} (left : Option (List ℕ)) (fault : ReadFault) → HasRead r h input before → IfSome input (λ bytes. ExplainsFault bytes fault) → IsFaultAfter fault r.count → (fault ≡ Memory → ⊥)
    → (fault ≡ Read → ⊥) → StopsReading h.epochs input left fault × IsFaultAfter fault r.count
stops_at left fault read why number memory other = (stopped left fault read why number (λ e. absurd (memory e)) (λ e. absurd (other e)), number)

pub returns-in_default-clause-goes : goal.returns-in_default-clause-goes
returns-in_default-clause-goes g c = λ h input read. stops_at _ _ read
    (too_long _ c.next.new.self.line read.taken c.if-self-eq-MOST_LINES.true (not_empty _ (sym c.if-not-is_empty.true ∙ c.is_empty.ensures)) c.next.ensures.taken.0)
    c.if-self-eq-MOST_LINES.true (λ e. cc) (λ e. cc)

pub returns-in-End-clause-goes : goal.returns-in-End-clause-goes
returns-in-End-clause-goes g c = λ h input read.
    let end = c.in-End.ensures in
    let (expected, counted) = c.may_end.ensures.0 c.if-may_end.true in
    let some : 0 < length h.epochs = subst (λ (n : ℕ). 0 < n) read.history.counted.epochs counted in
    let lines = file_shown _ read.taken.lines expected read.history.sound some read.taken.history.are in (
      record {
        is = file_read _ expected read.history.sound some;
        few = subst (λ (k : ℕ). k ≤ 2 ^ 32) (sym (ap length lines ∙ read.taken.many)) read.within.1;
        text = whole lines_are_lines _ read.taken lines (is_empty _ c.if-is_empty.ensures) end.found.1 end.taken.0 (only_file _ expected);
        history = read.history;
        none = sound_rows _ expected read.history.sound;
      },
      expected,
      refl,
    )

pub returns-in-End-2-clause-goes : goal.returns-in-End-2-clause-goes
returns-in-End-2-clause-goes g c = λ h input read.
    let parser_state = c.args.self.now.parser_state in
    let end = c.in-End.ensures in
    let why = cut lines_are_lines _ {bytes = c.next.new.self.line} read.taken (begun _ _ _ _ read.taken read.history.sound) end.found.0 end.found.3 end.found.1 end.taken.0
    (λ none. unfinished parser_state h parser_state.expected refl read.history (judged c.may_end.result _ c.may_end.ensures c.if-may_end.false)) in
    stops_at _ _ read why refl (λ e. cc) (λ e. cc)

pub returns-in-End-2-2-clause-goes : goal.returns-in-End-2-2-clause-goes
returns-in-End-2-2-clause-goes g c = λ h input read.
    let end = c.in-End.ensures in
    let why = cut lines_are_lines _ {bytes = c.next.new.self.line} read.taken (begun _ _ _ _ read.taken read.history.sound) end.found.0 end.found.3 end.found.1 end.taken.0
    (λ none. let some = not_empty _ c.if-is_empty.ensures in let size = ap length none in absurd (omega (arith, some, size))) in
    stops_at _ _ read why refl (λ e. cc) (λ e. cc)

pub returns-in-Long-clause-goes : goal.returns-in-Long-clause-goes
returns-in-Long-clause-goes g c = λ h input read.
    let long = c.in-Long.ensures in
    let fault = c.fault_at-fault.ensures in
    stops_at _ _ read (both_said input _ _ _ fault.faulty (over_long _ c.next.new.self.line read.taken long.found.0 long.found.1 long.taken.0) (expected_at read.taken refl read.history)) (fault.number _ refl) fault.memory fault.other

pub returns-clause-goes : goal.returns-clause-goes
returns-clause-goes g c = λ h input read.
    let old = progress_at c.args.self.now.parser_state h in
    let line = c.next.new.self.line in
    let (after, next) = c.in-Ok.ensures h read.history in
    let new = progress_at c.take.new.self after in
    let (room, few) = read.within in
    let less : c.args.self.now.count + 1 ≤ 2 ^ 32 = elim c.if-self-eq-MOST_LINES.branch [
      | goal.then-self-eq-MOST_LINES+else-not-is_empty w ↦ grind (arith, common_steps, c.in-Line.ensures.found, is_empty, line_some)
      | goal.else-self-eq-MOST_LINES w ↦ omega (arith, few, w.if-self-eq-MOST_LINES.false)
    ] in (
      after,
      record {
        taken = one_more line read.taken c.in-Line.ensures.found.0 c.in-Line.ensures.taken.0 (subst (GoesOnWithLine old new) c.line.ensures.line next.follows)
            (subst (ShowsLine old new) c.line.ensures.line next.shows);
        history = next.history;
        within = (next.room _ room, less);
      },
      refl,
      next.adds,
    )

pub returns-in-Err-Bad-clause-goes : goal.returns-in-Err-Bad-clause-goes
returns-in-Err-Bad-clause-goes g c = λ h input read.
    let takes = subst (λ (r : Refusal). TakesLine c.args.self.now.parser_state c.take.new.self c.line.result.now (Err r)) c.in-Err-Bad.field-0-is c.in-Err-Bad.ensures in
    let fault = c.fault_at-fault.ensures in
    let why = both_said input _ _ _ fault.faulty
    (refused lines_are_lines _ c.next.new.self.line read.taken c.in-Line.ensures.found.0 c.in-Line.ensures.taken.0 (subst (RefusesLine _) c.line.ensures.line (takes h read.history)))
    (expected_at read.taken refl read.history) in
    stops_at _ _ read why (fault.number _ refl) fault.memory fault.other

-- nothing is to explain if the reader failed
unexplained : (input : Option (List ℕ)) → IfSome input (λ bytes. ⊤)
unexplained input = grind arith

pub returns-in-Failed-clause-goes : goal.returns-in-Failed-clause-goes
returns-in-Failed-clause-goes g c = λ h input read. (
  stopped _ Read read (unexplained input) tt (λ e. cc)
      (λ e. epochs_read (g.R.Read.remaining c.next.new.reader.inner) c.next.new.self.line read c.in-Failed.ensures.taken.0 (c.in-Failed.ensures.failed refl) c.in-Failed.ensures.found.1),
  tt,
)

pub returns-clause-reads : goal.returns-clause-reads
returns-clause-reads g c = fine_read _ (λ e. cc) (record { left = c.next.ensures.taken.1; same = c.in-Line.ensures.found.1 })

-- memory runs out at a line of types in the header
pub returns-in-Err-Memory-clause-goes : goal.returns-in-Err-Memory-clause-goes
returns-in-Err-Memory-clause-goes g c = λ h input read.
    let s = progress_at c.args.self.now.parser_state h in
    let may = subst (λ (r : Refusal). TakesLine c.args.self.now.parser_state c.take.new.self c.line.result.now (Err r)) c.in-Err-Memory.field-0-is c.in-Err-Memory.ensures in
    let (begun, types) = run_out s s.expected read.taken.lines c.line.result.now read.history.sound read.taken.history.are may in
    let why = at_types _ c.next.new.self.line read.taken c.in-Line.ensures.found.0 c.in-Line.ensures.taken.0 begun (sym (ap is_of_types c.line.ensures.line) ∙ types) in
    (stopped _ Memory read why tt (λ e. grind (arith, common_steps, may, no_epochs_yet)) (λ e. cc), tt)
