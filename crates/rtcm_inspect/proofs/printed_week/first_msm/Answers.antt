use Rattle.rtcm_inspect.proofs.Names.{greatest_at_first, FirstMsm, ◌∙◌, ℕ, Option, ap, ap₂, first_tow, unwrap_or, MsmSet}
use Rattle.rtcm_inspect.proofs.PrintedWeekLemmas.{at_first_msm}
use Rattle.rtcm_inspect.proofs.printed_week.first_msm.Goals as goal

made : ℕ → ℕ → FirstMsm
made greatest tow = record { greatest = greatest; tow = tow }

pub returns : goal.returns
unfolding made
returns c = λ fs h.
    let s = c.args.signals.now in
    let set = c.set_had-set.ensures fs h in
    let greatest = at_first_msm h.first.tows c.set_had-set.result in
    ap₂ made
    (c.unwrap_or.ensures ∙ ap₂ (λ (o : Option ℕ) (n : ℕ). unwrap_or o n) (c.greatest_at_first-greatest.ensures greatest.0 ∙ greatest.1 ∙ ap (λ (m : MsmSet). greatest_at_first m s.station fs) set) c.within.ensures)
    (c.unwrap_or-2.ensures ∙ ap (λ (o : Option ℕ). unwrap_or o 0) (c.first_tow.ensures ∙ h.first.tows.first c.args.leap c.set_had-set.result ∙ ap (λ (m : MsmSet). first_tow c.args.leap m s.station fs) set))
