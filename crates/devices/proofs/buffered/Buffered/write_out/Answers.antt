use Rattle.devices.proofs.Names.{◌-◌, length, drop, arith, length-take, append_known-moved, Keeps-trans}
use Rattle.devices.proofs.BufferLemmas.{more_out, all_out}
use Rattle.devices.proofs.buffered.Buffered.write_out.Goals as goal

pub loop-self-preserved : goal.loop-self-preserved
loop-self-preserved g c =
    let s = c.loop-self.self-inside in
    let xs = c.deref.result.now in
    let fits = c.in_ok-n.ensures.bound in
    let most = length-take (length xs - s.sent) (drop s.sent xs) in
    record {
      within = omega arith;
      held = c.loop-self.invariant.held;
      room = c.loop-self.invariant.room;
      failed = c.loop-self.invariant.failed;
      bytes = Keeps-trans _ _ _ c.loop-self.invariant.bytes (append_known-moved _ _ _ _ _ c.in_ok-n.ensures.bytes (more_out s.bytes.items c.deref.result.now s.sent c.in_ok-n.n c.deref.ensures.value));
    }

pub returns-clause-bytes : goal.returns-clause-bytes
returns-clause-bytes g c =
    let s = c.loop-self.self-inside in
    rw (← all_out s.bytes.items c.clear.new.self.items s.sent (omega arith) c.clear.ensures.items) c.loop-self.invariant.bytes
