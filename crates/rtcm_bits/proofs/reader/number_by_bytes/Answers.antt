use Rattle.rtcm_bits.proofs.Names.{arith, drop, length-drop, bits_of, length-bits_of, number-take-fits}
use Rattle.rtcm_bits.proofs.PartLemmas.{nothing_read, next_part}
use Rattle.rtcm_bits.proofs.reader.number_by_bytes.Goals as goal

pub loop-at-init : goal.loop-at-init
loop-at-init c = record { from = omega arith; within = omega arith; value = nothing_read c.args.place (drop c.args.place (bits_of c.args.bytes.now)) }

pub overflow_add-value : goal.overflow_add-value
overflow_add-value c =
    let next = next_part c.args.bytes.now c.min-n.result c.loop-at.invariant.from (omega arith) (omega arith) (omega arith) c.loop-at.invariant.value c.bits_in_byte.ensures in
    omega (arith, next.fits)

pub loop-at-preserved : goal.loop-at-preserved
loop-at-preserved c = grind (arith, next_part)

pub returns-clause-fits : goal.returns-clause-fits
returns-clause-fits c = grind (arith, length-drop, number-take-fits, length-bits_of)
