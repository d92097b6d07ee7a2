use Rattle.rtcm_bits.proofs.Names.{◌++◌, List, ℕ, take, ap, sym, ◌∙◌, take-append-drop, take_rest}
use Rattle.rtcm_bits.proofs.RegisterLemmas.{steps_more}
use Rattle.rtcm_bits.proofs.crc.after_fewer.Goals as goal

pub returns : goal.returns
returns c =
    steps_more (take 8 c.args.bytes.now) _ c.args.register c.after_some.result c.after_each-2.result
    (sym (take-append-drop 8 c.args.bytes.now) ∙ ap (λ (l : List ℕ). take 8 c.args.bytes.now ++ l) (sym (take_rest c.args.bytes.now 8)))
    c.after_some.ensures c.after_each-2.ensures
