use Rattle.rtcm_bits.proofs.Names.{◌≡◌, ◌+◌, List, ℕ, length, ap, ◌∙◌, arith, rules, length-drop, vec_len, looked_through, counts_alone}
use Rattle.rtcm_bits.proofs.LookLemmas.{last_looks, last_stored}
use Rattle.rtcm_bits.proofs.window.Window.count_last_looks.Goals as goal

pub returns-then-start-counted-clause-counted : goal.returns-then-start-counted-clause-counted
returns-then-start-counted-clause-counted c = grind (arith, length-drop, last_looks)

pub returns-then-start-n-clause-counted : goal.returns-then-start-n-clause-counted
returns-then-start-n-clause-counted c =
    let i = c.self.inside in
    let v : vec_len i.counts ≡ length i.counts.items = i.counts.ok.0 in
    last_stored i.counts.items i.first i.once c.args.start c.self.view_is (omega (arith, v, length-drop i.first i.counts.items))
    (record { few = search rules; sum = c.saturating_add-self-inside-then-start-n.ensures; most = c.most_after-self-inside.ensures ∙ ap (λ (t : List ℕ). (looked_through (counts_alone t i.greatest) (i.first + c.args.start) c.args.n).most) c.as_slice.ensures.value })
