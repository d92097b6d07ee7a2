use Rattle.rtcm_bits.proofs.Names.{◌≡◌, ℕ, Buffer, length, drop, ap, arith, length-drop, vec_len}
use Rattle.rtcm_bits.proofs.LookLemmas.{view_dropped}
use Rattle.rtcm_bits.proofs.window.Window.drop_front.Goals as goal

pub returns : goal.returns
returns c =
    let i = c.self.inside in
    let l : length i.bytes.items ≡ length c.args.self.now.bytes = ap (λ w. length w.bytes) c.self.view_is in
    let v : vec_len i.counts ≡ length i.counts.items = i.counts.ok.0 in
    let k = length-drop i.first i.counts.items in
    view_dropped (drop i.first i.counts.items) i.once c.self.view_is (ap (λ (t : Buffer ℕ). t.items) c.truncate_front.ensures) (omega (arith, l, c.requires)) c.clear.ensures.items (omega (arith, v, k)) (omega (arith, v, k))
