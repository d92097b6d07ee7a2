use Rattle.rtcm_bits.proofs.Names.{[], ◌∷◌, drop, arith, length-drop}
use Rattle.rtcm_bits.proofs.SmallLaws.{of_ok}
use Rattle.rtcm_bits.proofs.LookLemmas.{view_grown}
use Rattle.rtcm_bits.proofs.window.Window.push.Goals as goal

pub returns : goal.returns
returns c =
    let i = c.self.inside in
    view_grown i.bytes (c.args.byte ∷ []) (drop i.first i.counts.items) i.once c.self.view_is (of_ok c.unwrap.ensures c.try_push_back.ensures.ok) (omega (arith, length-drop i.first i.counts.items, c.self.invariant))
