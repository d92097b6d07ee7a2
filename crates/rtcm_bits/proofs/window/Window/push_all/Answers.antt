use Rattle.rtcm_bits.proofs.Names.{◌≡◌, length, drop, ap, arith, length-drop}
use Rattle.rtcm_bits.proofs.LookLemmas.{view_grown}
use Rattle.rtcm_bits.proofs.WindowLaws.{all_taken}
use Rattle.rtcm_bits.proofs.window.Window.push_all.Goals as goal

pub returns : goal.returns
returns c =
    let i = c.self.inside in
    let l : length i.bytes.items ≡ length c.args.self.now.bytes = ap (λ w. length w.bytes) c.self.view_is in
    view_grown i.bytes c.args.bytes.now (drop i.first i.counts.items) i.once c.self.view_is
    (all_taken i.bytes c.fill_from_slice.new.self c.args.bytes.now c.fill_from_slice.result (omega (arith, l, c.requires, c.self.invariant.0)) c.fill_from_slice.ensures.count c.fill_from_slice.ensures.items)
    (omega (arith, length-drop i.first i.counts.items, c.self.invariant))
