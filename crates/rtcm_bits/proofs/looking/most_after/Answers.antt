use Rattle.rtcm_bits.proofs.Names.{max, ap, ◌∙◌}
use Rattle.rtcm_bits.proofs.LookLemmas.{most_more}
use Rattle.rtcm_bits.proofs.looking.most_after.Goals as goal

pub loop-i-preserved : goal.loop-i-preserved
loop-i-preserved c =
    most_more c.args.counts.now c.args.greatest c.args.start c.loop-i.i c.loop-i.most c.max-most.result c.loop-i.invariant (c.max-most.ensures ∙ ap (max c.loop-i.most) c.saturating_add.ensures)
