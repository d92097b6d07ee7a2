use Rattle.rtcm_bits.proofs.Names.{◌++◌, ℕ, List, length, take, ap, ◌∙◌, arith, length-append, length-take-le, pick_l-range_with_len, fold_into}
use Rattle.rtcm_bits.proofs.FoldLemmas.{offsets, vector_next, length-fold}
use Rattle.rtcm_bits.proofs.folding.Folded.next.Goals as goal

abbrev whole : goal.returns-clause-added
whole c =
    let s = c.self.invariant in
    vector_next c.args.bytes.now s c.requires
    (pick_l-range_with_len 0 (c.self.inside.1 ++ c.self.inside.2) 11 16 (omega (arith, s.second, s.third, length-append c.self.inside.1 c.self.inside.2)))
    (pick_l-range_with_len 0 (c.self.inside.1 ++ c.self.inside.2) 9 16 (omega (arith, s.second, s.third, length-append c.self.inside.1 c.self.inside.2)))
    (pick_l-range_with_len 0 (c.self.inside.1 ++ c.self.inside.2) 1 16 (omega (arith, s.second, s.third, length-append c.self.inside.1 c.self.inside.2)))
    (pick_l-range_with_len 0 (c.self.inside.0 ++ c.self.inside.1) 11 16 (omega (arith, s.first, s.second, length-append c.self.inside.0 c.self.inside.1)))
    ∙ ap (λ (l : List ℕ). take 16 (fold_into l c.args.bytes.now)) c.self.view_is

pub returns-clause-long : goal.returns-clause-long
unfolding fold_into
returns-clause-long c = ap length (whole c) ∙ length-take-le 16 (fold_into c.args.self.now c.args.bytes.now) (omega (arith, length-fold offsets c.args.self.now c.args.bytes.now, c.requires))

pub returns-clause-added : goal.returns-clause-added
returns-clause-added c = whole c
