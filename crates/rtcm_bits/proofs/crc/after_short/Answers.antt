use Rattle.rtcm_bits.proofs.Names.{◌++◌, ℕ, take, ap, sym, ◌∙◌, arith, take-append-drop, take-add, take_rest}
use Rattle.rtcm_bits.proofs.RegisterLemmas.{steps_more, no_steps}
use Rattle.rtcm_bits.proofs.crc.after_short.Goals as goal

pub loop-taken-init : goal.loop-taken-init
loop-taken-init c = record { within = omega arith; steps = no_steps c.args.register c.requires }

pub loop-taken-preserved : goal.loop-taken-preserved
loop-taken-preserved c = grind (arith, steps_more, take-add)

pub returns : goal.returns
returns c =
    let t : ℕ = c.loop-taken.taken in
    steps_more (take t c.args.bytes.now) _ c.args.register c.loop-taken.after c.after_fewer.result (sym (take-append-drop t c.args.bytes.now) ∙ ap (λ l. take t c.args.bytes.now ++ l) (sym (take_rest c.args.bytes.now t)))
    c.loop-taken.invariant.steps c.after_fewer.ensures
