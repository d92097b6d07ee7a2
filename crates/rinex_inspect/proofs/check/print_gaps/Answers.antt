use Rattle.rinex_file.proofs.ReaderLaws.{leaves_more, more_read, none_read}
use Rattle.rinex_inspect.proofs.MissingLemmas.{none_missed, none_printed}
use Rattle.rinex_inspect.proofs.GapLemmas.{begins_is, counted_more, inside_more, file_read, printed_more, reader_failed}
use Rattle.rinex_inspect.proofs.Names.{◌<◌, ◌*◌, week, weeks, rules, File, ⊤, begun_in, IfSome_then, is_inside, true, inl, inr, All-nil, ◌≡◌, Appends, ◌∙◌, ◌++◌, ◌∷◌, [], arith, refl, subst, sym, Appends-nil, Err, FileFault, ReadsGaps, ℕ, passed, devices_of, writer_of}
use Rattle.rinex_inspect.proofs.check.print_gaps.Goals as goal

pub loop-before-init : goal.loop-before-init
loop-before-init g c = record { read = ([], c.requires.start _, (refl, c.requires.sent, subst (Appends _ _) (sym (none_printed c.args.complete.now)) (Appends-nil _)), λ rise. none_missed c.args.complete.now, All-nil (λ (t : ℕ). is_inside c.args.complete.now t ≡ true)); reads = none_read _ _ }

pub finish-requires : goal.finish-requires
finish-requires g c =
    let (es, read, printed, counts, inside) = c.loop-before.invariant.read in
    let (start, before, part, line, counted, kept) = begins_is c.loop-before.file c.begin.new.self es _ (g.R.Read.remaining c.begin.new.reader.inner) c.in-Ok-Epoch.field-0-is (c.in-Ok-Epoch.ensures.epochs es _ read) in
    (es, begun_in c.begin.new.self, _, part)

pub loop-before-smaller : goal.loop-before-smaller
loop-before-smaller g c =
    let (es, read, printed, counts, inside) = c.loop-before.invariant.read in
    let (start, before, part, line, counted, kept) = begins_is c.loop-before.file c.begin.new.self es _ (g.R.Read.remaining c.begin.new.reader.inner) c.in-Ok-Epoch.field-0-is (c.in-Ok-Epoch.ensures.epochs es _ read) in
    let (e, time, next, first, least, same) = c.in-Ok.ensures.rows es _ _ part in
    omega (arith, counted, least)

pub loop-before-preserved : goal.loop-before-preserved
loop-before-preserved g c =
    let at = writer_of g.W.Write.contents g.W.Deliver.waiting in
    let inv = c.loop-before.invariant in
    let (es, read, printed, counts, inside) = inv.read in
    let (start, before, part, line, counted, kept) = begins_is c.loop-before.file c.begin.new.self es _ (g.R.Read.remaining c.begin.new.reader.inner) c.in-Ok-Epoch.field-0-is (c.in-Ok-Epoch.ensures.epochs es _ read) in
    let (e, same, next, first, least, plan) = c.in-Ok.ensures.rows es _ _ part in
    let time = same ∙ start in
    record {
      read = (es ++ e ∷ [], next, printed_more (at c.args.writer.now) (at c.loop-before.writer) (at c.print_gap.new.writer) c.args.complete.now es e c.in-Ok-Epoch.before printed before time c.in_ok-print_gap-in-Ok-Epoch.was (c.print_gap.ensures.line printed.1), counted_more c.args.complete.now es e c.in-Ok-Epoch.before c.print_gap.ensures.fits before time counts (rw c.in_ok-print_gap-in-Ok-Epoch.was at c.print_gap.ensures.ends) (λ fits. omega (arith, fits, c.saturating_add-missing.ensures)) (let small : c.in-Ok-Epoch.time < weeks * week = search rules in omega (arith, small)), inside_more c.args.complete.now es e inside time (sym c.is_inside.ensures ∙ c.if-not-is_inside.false));
      reads = more_read (more_read inv.reads c.in-Ok-Epoch.ensures.reads) c.in-Ok.ensures.reads;
    }

pub returns-in_err-print_gap-in-Ok-Epoch : goal.returns-in_err-print_gap-in-Ok-Epoch
returns-in_err-print_gap-in-Ok-Epoch g c =
    let at = writer_of g.W.Write.contents g.W.Deliver.waiting in
    let inv = c.loop-before.invariant in
    let (es, read, printed, counts, inside) = inv.read in
    let (start, before, part, line, counted, kept) = begins_is c.loop-before.file c.begin.new.self es _ (g.R.Read.remaining c.begin.new.reader.inner) c.in-Ok-Epoch.field-0-is (c.in-Ok-Epoch.ensures.epochs es _ read) in
    let (e, same, next, first, least, plan) = c.in-Ok.ensures.rows es _ _ part in
    let (write, text) = printed_more (at c.args.writer.now) (at c.loop-before.writer) (at c.print_gap.new.writer) c.args.complete.now es e c.in-Ok-Epoch.before printed before (same ∙ start) c.in_err-print_gap-in-Ok-Epoch.was (c.print_gap.ensures.line printed.1) in
    let both = devices_of g.R.Read.remaining g.W.Write.contents g.W.Deliver.waiting in
    let d = both c.args.reader.now c.args.writer.now in
    let d2 = both c.finish.new.reader c.print_gap.new.writer in (
      passed c.from_residual.result _ (λ r. ReadsGaps c.finish.new.self r c.args.complete.now d d2) c.from_residual.ensures.1
          (subst (λ (f : FileFault). ReadsGaps c.finish.new.self (Err f) c.args.complete.now d d2) (sym write)
          (es ++ e ∷ [], c.finish.new.self.count, rw c.in_err-print_gap-in-Ok-Epoch.was at c.print_gap.ensures.ends, first, text, (more_read (more_read inv.reads c.in-Ok-Epoch.ensures.reads) c.in-Ok.ensures.reads).same, inside_more c.args.complete.now es e inside (same ∙ start) (sym c.is_inside.ensures ∙ c.if-not-is_inside.false))),
      leaves_more _ _ _ (leaves_more _ _ _ c.loop-before.invariant.reads.left c.in-Ok-Epoch.ensures.reads.left) c.in-Ok.ensures.reads.left,
    )

pub returns-then-not-is_inside : goal.returns-then-not-is_inside
returns-then-not-is_inside g c =
    let inv = c.loop-before.invariant in
    let (es, read, printed, counts, inside) = inv.read in
    let (start, before, part, line, counted, kept) = begins_is c.loop-before.file c.begin.new.self es _ (g.R.Read.remaining c.begin.new.reader.inner) c.in-Ok-Epoch.field-0-is (c.in-Ok-Epoch.ensures.epochs es _ read) in (
      (es, IfSome_then (g.R.Read.remaining c.args.reader.now.inner) line (λ input at. (c.in-Ok-Epoch.time, sym c.is_inside.ensures ∙ c.if-not-is_inside.true, inside, rw c.line.ensures at)), printed, (more_read inv.reads c.in-Ok-Epoch.ensures.reads).same),
      leaves_more _ _ _ c.loop-before.invariant.reads.left c.in-Ok-Epoch.ensures.reads.left,
    )

pub returns-in-Ok-End : goal.returns-in-Ok-End
returns-in-Ok-End g c =
    let inv = c.loop-before.invariant in
    let (es, read, printed, counts, inside) = inv.read in
    let (found, only, kept) = begins_is c.loop-before.file c.begin.new.self es _ (g.R.Read.remaining c.begin.new.reader.inner) c.in-Ok-End.field-0-is (c.in-Ok-End.ensures.epochs es _ read) in (
      (es, found, only, printed, (more_read inv.reads c.in-Ok-End.ensures.reads).same, counts, inside),
      leaves_more _ _ _ c.loop-before.invariant.reads.left c.in-Ok-End.ensures.reads.left,
    )

pub returns-in-Err : goal.returns-in-Err
returns-in-Err g c =
    let inv = c.loop-before.invariant in
    let (es, read, printed, counts, inside) = inv.read in
    let (stops, whole) = c.in-Err.ensures.epochs es _ read in (
      (es, stops, printed, reader_failed (File c.in-Err.fault) (none_read _ _) (file_read {B = ⊤} inv.reads c.in-Err.ensures.reads), inside, IfSome_then (g.R.Read.remaining c.args.reader.now.inner) whole (λ input w. inl w)),
      leaves_more _ _ _ c.loop-before.invariant.reads.left c.in-Err.ensures.reads.left,
    )

pub returns-in-Err-finish : goal.returns-in-Err-finish
returns-in-Err-finish g c =
    let inv = c.loop-before.invariant in
    let (es, read, printed, counts, inside) = inv.read in
    let (start, before, part, line, counted, kept) = begins_is c.loop-before.file c.begin.new.self es _ (g.R.Read.remaining c.begin.new.reader.inner) c.in-Ok-Epoch.field-0-is (c.in-Ok-Epoch.ensures.epochs es _ read) in (
      (es, c.in-Err-finish.ensures.rows es _ _ part, printed, reader_failed (File c.in-Err-finish.fault) (none_read _ _) (file_read {B = ⊤} (more_read inv.reads c.in-Ok-Epoch.ensures.reads) c.in-Err-finish.ensures.reads), inside, IfSome_then (g.R.Read.remaining c.args.reader.now.inner) line (λ input at. inr (c.in-Ok-Epoch.time, c.begin.new.self.count, sym c.is_inside.ensures ∙ c.if-not-is_inside.false, at))),
      leaves_more _ _ _ (leaves_more _ _ _ c.loop-before.invariant.reads.left c.in-Ok-Epoch.ensures.reads.left) c.in-Err-finish.ensures.reads.left,
    )
