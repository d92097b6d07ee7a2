use Rattle.rinex_file.proofs.Reading.Accepted.{line_is}
use Rattle.rinex_file.proofs.Reading.Lines.{said_of}
use Rattle.rinex_file.proofs.Reading.Summary.{counted, only_with, text_with}
use Rattle.rinex_file.proofs.Names.{failed_read, fine_read, more_read, none_read, AreCounts, Ok, ap, arith, err_from_is_err_and}
use Rattle.rinex_file.proofs.read.file.check_file.Goals as goal

pub loop-file-init : goal.loop-file-init
loop-file-init g c = record { read = (_, (c.new-file.ensures _).0); reads = none_read _ _ }

pub loop-file-smaller : goal.loop-file-smaller
loop-file-smaller g c =
    let (h, read) = c.loop-file.invariant.read in
    let (after, more, one, adds) = line_is c.loop-file.file c.next_line.new.self h _ (g.R.Read.remaining c.next_line.new.reader.inner) (ap Ok c.if-branch.true) (c.in_ok-next_line.ensures.goes h _ read) in
    omega (arith, one, read.within.1)

pub loop-file-preserved : goal.loop-file-preserved
loop-file-preserved g c =
    let inv = c.loop-file.invariant in
    let (h, read) = inv.read in
    let (after, more, one, adds) = line_is c.loop-file.file c.next_line.new.self h _ (g.R.Read.remaining c.next_line.new.reader.inner) (ap Ok c.if-branch.true) (c.in_ok-next_line.ensures.goes h _ read) in
    record {
      read = (after, more);
      reads = more_read inv.reads c.in_ok-next_line.ensures.reads;
    }

pub returns-clause-found : goal.returns-clause-found
returns-clause-found g c =
    let (h, read) = c.loop-file.invariant.read in
    let (whole, expected, same) = line_is c.loop-file.file c.next_line.new.self h _ (g.R.Read.remaining c.next_line.new.reader.inner) (ap Ok c.if-branch.false) (c.in_ok-next_line.ensures.goes h _ read) in
    text_with whole (AreCounts _) (counted whole)

pub returns-clause-only : goal.returns-clause-only
returns-clause-only g c = λ v is few.
    let (h, read) = c.loop-file.invariant.read in
    let (whole, expected, same) = line_is c.loop-file.file c.next_line.new.self h _ (g.R.Read.remaining c.next_line.new.reader.inner) (ap Ok c.if-branch.false) (c.in_ok-next_line.ensures.goes h _ read) in
    only_with whole (AreCounts _) (counted whole) v is

pub returns-clause-reads : goal.returns-clause-reads
returns-clause-reads g c = fine_read _ (λ e. cc) (more_read c.loop-file.invariant.reads c.in_ok-next_line.ensures.reads)

pub returns-in_err-next_line-clause-fault : goal.returns-in_err-next_line-clause-fault
returns-in_err-next_line-clause-fault g c =
    let (h, read) = c.loop-file.invariant.read in
    let p = err_from_is_err_and c.from_residual.result c.from_residual.ensures.1 in
    rw (p.1, p.2) (said_of (g.R.Read.remaining c.args.reader.now.inner) _ _ (λ bytes h. h.0) (c.in_err-next_line.ensures.goes h _ read).0.0)

pub returns-in_err-next_line-clause-only : goal.returns-in_err-next_line-clause-only
returns-in_err-next_line-clause-only g c =
    let (h, read) = c.loop-file.invariant.read in
    let p = err_from_is_err_and c.from_residual.result c.from_residual.ensures.1 in
    rw (p.1, p.2) (c.in_err-next_line.ensures.goes h _ read).0.1

pub returns-in_err-next_line-clause-reads : goal.returns-in_err-next_line-clause-reads
returns-in_err-next_line-clause-reads g c = failed_read c.from_residual.result c.from_residual.ensures.1 c.loop-file.invariant.reads c.in_err-next_line.ensures.reads
