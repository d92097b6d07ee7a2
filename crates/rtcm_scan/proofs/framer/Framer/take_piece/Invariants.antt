use Rattle.rtcm_scan.proofs.Names.{◌≡◌, ◌+◌, ◌-◌, ◌≤◌, take, length, Continues}
use Rattle.rtcm_scan.proofs.PassingLemmas.{PassesPart}
use Rattle.rtcm_scan.proofs.framer.Framer.take_piece.Given as goal

abbrev pub invariant-loop-self : goal.invariant-loop-self
invariant-loop-self g l = record {
  passes : PassesPart g.S.FrameSink.took l.fn.self l.fn.sink l.fn.out l.self l.sink l.out (take l.taken l.piece);
  can : g.S.FrameSink.can_take l.sink;
  bound : l.taken ≤ length l.piece;
  taken : l.self.taken ≡ l.fn.self.taken + l.taken;
  same : Continues l.fn.self l.self l.taken;
}

abbrev pub decreases-loop-self : goal.decreases-loop-self
decreases-loop-self g l = length l.piece - l.taken
