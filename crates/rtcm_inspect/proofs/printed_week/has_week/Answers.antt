use Rattle.rtcm_inspect.proofs.Names.{is_in, ◌≡◌, ◌∙◌, ◌&&◌, ℕ, ap, arith, below, false, get_or, list_any}
use Rattle.rtcm_inspect.proofs.SaidLemmas.{any_added}
use Rattle.rtcm_inspect.proofs.printed_week.has_week.Goals as goal

pub returns : goal.returns
returns c = λ size ns few h.
    let weeks = c.args.weeks.now in
    let end : c.loop-zero.zero ≡ size = omega (arith, c.min-zero-end.ensures, c.len.ensures, c.loop-zero.auto.zero-end, c.loop-zero-test.false, h.room, few) in
    c.loop-zero.invariant ∙ ap (λ (n : ℕ). list_any (λ i. get_or weeks.added.items i false && is_in c.args.is_whole c.args.first.now c.args.week i) (below n)) end
    ∙ any_added (is_in c.args.is_whole c.args.first.now c.args.week) weeks.added.items size ns h.room h.added
