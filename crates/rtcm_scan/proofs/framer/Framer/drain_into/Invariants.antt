use Rattle.rtcm_scan.proofs.Names.{◌≡◌, List, ℕ, length, IsPrefix, HasExaminedSome, Framed, HasPassed}
use Rattle.rtcm_scan.proofs.framer.Framer.drain_into.Given as goal

abbrev pub invariant-loop-offset : goal.invariant-loop-offset
invariant-loop-offset g l =
    let took = g.S.FrameSink.took in
    record {
      passed : (s : _) (o : _) (ps : List Framed) (b : List ℕ) (fs : List Framed) → HasPassed took l.fn.self s o ps l.fn.sink l.fn.out b fs
          → (gs : List Framed) × IsPrefix fs gs × HasPassed took l.self s o ps l.sink l.out b gs;
      can : g.S.FrameSink.can_take l.sink;
      ended : l.self.has_ended ≡ l.fn.self.has_ended;
      limit : l.self.limit ≡ l.fn.self.limit;
      taken : l.self.taken ≡ l.fn.self.taken;
      some : HasExaminedSome l.fn.self → HasExaminedSome l.self;
    }

abbrev pub decreases-loop-offset : goal.decreases-loop-offset
decreases-loop-offset g l = length l.self.held
