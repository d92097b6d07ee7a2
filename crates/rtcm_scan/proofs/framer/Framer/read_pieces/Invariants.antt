use Rattle.rtcm_scan.proofs.Names.{◌≡◌, ◌+◌, ◌-◌, ◌≤◌, length, max, ReadsOn, IsReadingOn}
use Rattle.rtcm_scan.proofs.framer.Framer.read_pieces.Given as goal

abbrev pub invariant-loop-n : goal.invariant-loop-n
invariant-loop-n g l =
    let remaining = g.R.Read.remaining in
    record {
      came : ReadsOn g.S.FrameSink.took l.fn.self l.fn.sink l.fn.out l.self l.sink l.out (remaining l.fn.reader.inner) (remaining l.reader.inner);
      same : IsReadingOn g.S.FrameSink.can_take l.sink l.fn.self l.self (length l.fn.buffer) (length l.buffer);
      sent : g.S.FrameSink.is_sent l.out;
      reader : l.reader.failures ≡ l.fn.reader.failures;
      widest : l.reader.widest ≤ max l.fn.reader.widest (length l.fn.buffer);
    }

abbrev pub decreases-loop-n : goal.decreases-loop-n
decreases-loop-n g l = (l.self.limit + 1) - l.self.taken
