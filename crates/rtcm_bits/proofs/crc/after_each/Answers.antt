use Rattle.rtcm_bits.proofs.Names.{take, take_more}
use Rattle.rtcm_bits.proofs.RegisterLemmas.{steps_push, no_steps}
use Rattle.rtcm_bits.proofs.crc.after_each.Goals as goal

pub loop-byte-init : goal.loop-byte-init
loop-byte-init c = no_steps c.args.register c.requires

pub loop-byte-preserved : goal.loop-byte-preserved
loop-byte-preserved c =
    steps_push (take c.loop-byte.byte-index c.args.bytes.now) c.args.register c.loop-byte.after c.by_table-after.result _
    (take_more c.args.bytes.now c.loop-byte.byte-index 0 c.loop-byte-test.true) c.loop-byte.invariant c.by_table-after.ensures
