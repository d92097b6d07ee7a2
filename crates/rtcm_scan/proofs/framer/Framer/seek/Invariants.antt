use Rattle.rtcm_scan.proofs.Names.{◌≡◌, length, IsScannedOn, KeepsHistory}
use Rattle.rtcm_scan.proofs.framer.Framer.seek.Given as goal

abbrev pub invariant-loop-self : goal.invariant-loop-self
invariant-loop-self l = record {
  history : KeepsHistory l.fn.self l.self;
  same : IsScannedOn l.fn.self l.self;
  ready : l.self.is_ready ≡ l.fn.self.is_ready;
}

abbrev pub decreases-loop-self : goal.decreases-loop-self
decreases-loop-self l = length l.self.held
