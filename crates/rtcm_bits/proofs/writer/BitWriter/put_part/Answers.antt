use Rattle.rtcm_bits.proofs.Names.{arith}
use Rattle.rtcm_bits.proofs.WriteLemmas.{Part, part_is, part_put, byte_put, begun_is}
use Rattle.rtcm_bits.proofs.writer.BitWriter.put_part.Goals as goal

pub overflow_cast-part-then-self-n-eq8 : goal.overflow_cast-part-then-self-n-eq8
overflow_cast-part-then-self-n-eq8 c =
    let t : Part c.self.inside.part_bits c.args.n c.self.inside.part c.args.bits = part_is _ _ _ _ (omega arith) c.self.invariant.1 c.requires.fits in
    omega (arith, t.byte)

pub push-requires : goal.push-requires
push-requires c = grind (arith, begun_is)

pub invariant_of-self : goal.invariant_of-self
invariant_of-self c = grind (arith, begun_is)

pub overflow_cast-self : goal.overflow_cast-self
overflow_cast-self c =
    let l = begun_is c.self.inside.whole.items c.self.inside.part_bits c.self.inside.part c.args.self.now c.self.view_is in
    let t : Part c.self.inside.part_bits c.args.n c.self.inside.part c.args.bits = part_is _ _ _ _ (omega (arith, l, c.requires.within, c.self.invariant.0)) c.self.invariant.1 c.requires.fits in
    omega (arith, t.byte)

pub invariant_of-self-else-self-n-eq8 : goal.invariant_of-self-else-self-n-eq8
invariant_of-self-else-self-n-eq8 c = grind (arith, begun_is, part_is)

pub returns-then-self-n-eq8 : goal.returns-then-self-n-eq8
returns-then-self-n-eq8 c = grind (arith, part_is, byte_put)

pub returns-else-self-n-eq8 : goal.returns-else-self-n-eq8
returns-else-self-n-eq8 c = grind (arith, begun_is, part_is, part_put)
