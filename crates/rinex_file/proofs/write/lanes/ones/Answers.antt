use Rattle.rinex_file.proofs.Names.{arith, ◌∙◌, ap, []}
use Rattle.rinex_file.proofs.Digits.Lanes.{four, eight, bytes_of, ones_and_tens}
use Rattle.rinex_file.proofs.write.lanes.ones.Goals as goal

pub returns : goal.returns
returns c =
    let all = bytes_of (four c.args.low (four c.args.high [])) (omega (arith, c.requires.low, c.requires.high)) in
    rw c.twos-twos.ensures (all ∙ ones_and_tens c.args.low (four c.args.high []) ∙ ap (eight c.args.low) (ones_and_tens c.args.high []))
