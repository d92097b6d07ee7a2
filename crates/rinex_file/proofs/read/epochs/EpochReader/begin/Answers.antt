use Rattle.rinex_file.proofs.Reading.Accepted.{epoch_begun, is_part, line_is, none_added, whole_before}
use Rattle.rinex_file.proofs.Reading.Header.{past_header}
use Rattle.rinex_file.proofs.Reading.Summary.{ended, has_times, summed}
use Rattle.rinex_file.proofs.Names.{failed_read, fine_read, more_read, Bool, IsTrue, ◌↔◌, true, false, ◌≡◌, ◌∙◌, ◌+◌, [], ℕ, List, Option, arith, ap, refl, subst, HasRead, HasReadEpochs, History, Known, ParserState, progress_at, ReadsNextLine, EpochReader, Stamped, Ok, err_from_is_err_and}
use Rattle.rinex_file.proofs.read.epochs.EpochReader.begin.Goals as goal

pub next_line-requires : goal.next_line-requires
next_line-requires g c =
    let (es, input, before) = c.loop-self.invariant.some in
    let (read, least, head) = c.loop-self.invariant.read es input before in
    (_, input, read.0)

-- one line more was read, which adds nothing
one_line : (old new : EpochReader) (es : List Stamped) {input before left : Option (List ℕ)} {b : Bool} → HasReadEpochs old es input before → b ≡ true → ReadsNextLine old new (record { epochs = es; rows = [] }) input left (Ok b)
    → HasRead new (record { epochs = es; rows = [] }) input left × (new.count ≡ old.count + 1) × ((es ≡ [] → ⊥) → new.parser_state.head ≡ old.parser_state.head)
one_line old new es {input} {before} {left} read is goes =
    let h : History = record { epochs = es; rows = [] } in
    let (after, more, counted, adds) = line_is old new h input left (ap Ok is) goes in
    let (same, head) = none_added old.parser_state.expected old.parser_state new.parser_state h after adds read.1 in
    (subst (λ (x : History). HasRead new x input left) same more, counted, λ some. head (past_header (progress_at old.parser_state h) old.parser_state.expected read.0.history.sound some))

pub loop-self-smaller : goal.loop-self-smaller
loop-self-smaller g c =
    let (es, input, before) = c.loop-self.invariant.some in
    let (read, least, head) = c.loop-self.invariant.read es input before in
    let (more, counted, same) = one_line c.loop-self.self c.next_line.new.self es {left = g.R.Read.remaining c.next_line.new.reader.inner} read c.if-branch.true (c.in_ok-next_line.ensures.goes _ _ read.0) in
    omega (arith, counted, read.0.within.1)

-- the line isn't that of an epoch
not_expected : (b : Bool) (P : Type 0) → (IsTrue b ↔ P) → b ≡ false → P → ⊥
not_expected b P is isnt p = let held : b ≡ true = is.1 p in cc

pub loop-self-preserved : goal.loop-self-preserved
loop-self-preserved g c =
    let inv = c.loop-self.invariant in
    record {
      read = λ es input before.
          let (read, least, head) = inv.read es input before in
          let (more, counted, same) = one_line c.loop-self.self c.next_line.new.self es {left = g.R.Read.remaining c.next_line.new.reader.inner} read c.if-branch.true (c.in_ok-next_line.ensures.goes _ _ read.0) in
          ((more, not_expected c.expects_row.result _ c.expects_row.ensures c.if-expects_row.false), omega (arith, counted, least), λ some. same some ∙ head some);
      some = inv.some;
      reads = more_read inv.reads c.in_ok-next_line.ensures.reads;
    }

pub returns-then-expects_row-clause-epochs : goal.returns-then-expects_row-clause-epochs
returns-then-expects_row-clause-epochs g c = λ es input before.
    let (read, least, head) = c.loop-self.invariant.read es input before in
    let new = c.next_line.new.self in
    let left = g.R.Read.remaining c.next_line.new.reader.inner in
    let (more, counted, same) = one_line c.loop-self.self new es {left = left} read c.if-branch.true (c.in_ok-next_line.ensures.goes _ _ read.0) in
    let inside = c.expects_row.ensures.0 c.if-expects_row.true in (
      refl,
      before.0.history.counted.times,
      is_part new.parser_state.expected inside more refl refl,
      epoch_begun new es inside more,
      omega (arith, counted, least),
      λ some. ap (λ (k : Known). k.shown.plan) (same some ∙ head some),
    )

pub returns-then-expects_row-clause-reads : goal.returns-then-expects_row-clause-reads
returns-then-expects_row-clause-reads g c = fine_read _ (λ e. cc) (more_read c.loop-self.invariant.reads c.in_ok-next_line.ensures.reads)

pub unwrap-times-requires : goal.unwrap-times-requires
unwrap-times-requires g c =
    let (es, input, before) = c.loop-self.invariant.some in
    let (read, least, head) = c.loop-self.invariant.read es input before in
    has_times _ _ _ (line_is c.loop-self.self c.next_line.new.self _ _ _ (ap Ok c.if-branch.false) (c.in_ok-next_line.ensures.goes _ _ read.0)).0

pub returns-clause-epochs : goal.returns-clause-epochs
returns-clause-epochs g c = λ es input before.
    let (read, least, head) = c.loop-self.invariant.read es input before in
    let (whole, expected, same) = line_is c.loop-self.self c.next_line.new.self _ _ _ (ap Ok c.if-branch.false) (c.in_ok-next_line.ensures.goes _ _ read.0) in
    let (has, only) = ended c.next_line.new.self es (record { counts = c.next_line.new.self.parser_state.counts; times = c.unwrap-times.result }) whole (summed _ refl c.unwrap-times.ensures whole) in
    (has, only, λ some. ap (λ (p : ParserState). p.head.shown.plan) same ∙ ap (λ (k : Known). k.shown.plan) (head some))

pub returns-clause-reads : goal.returns-clause-reads
returns-clause-reads g c = fine_read _ (λ e. cc) (more_read c.loop-self.invariant.reads c.in_ok-next_line.ensures.reads)

pub returns-in_err-next_line-clause-epochs : goal.returns-in_err-next_line-clause-epochs
returns-in_err-next_line-clause-epochs g c = λ es input before.
    let p = err_from_is_err_and c.from_residual.result c.from_residual.ensures.1 in
    let (read, least, head) = c.loop-self.invariant.read es input before in
    let (stops, number) = c.in_err-next_line.ensures.goes _ _ read.0 in
    rw (p.1, p.2) (stops, whole_before _ read number)

pub returns-in_err-next_line-clause-reads : goal.returns-in_err-next_line-clause-reads
returns-in_err-next_line-clause-reads g c = failed_read c.from_residual.result c.from_residual.ensures.1 c.loop-self.invariant.reads c.in_err-next_line.ensures.reads
