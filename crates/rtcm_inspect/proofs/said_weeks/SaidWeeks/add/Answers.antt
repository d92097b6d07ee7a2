use Rattle.rtcm_inspect.proofs.SaidLemmas.{both_said, no_sender, nothing_said, rest_small, whole_small}
use Rattle.rtcm_inspect.proofs.Names.{rests_in, whole_in, ◌∙◌, refl, sym}
use Rattle.rtcm_inspect.proofs.said_weeks.SaidWeeks.add.Goals as goal

pub returns-in_default : goal.returns-in_default
returns-in_default c = λ wanted fs f is greatest h.
    nothing_said f c.args.message.now is (sym c.in_default.is ∙ c.sent_week.ensures.value) greatest (no_sender c.args.greatest) h

pub returns-in_default-greatest : goal.returns-in_default-greatest
returns-in_default-greatest c = λ wanted fs f is greatest h.
    nothing_said f c.args.message.now is (sym c.in-Some.is ∙ c.sent_week.ensures.value) (sym c.in_default-greatest.is ∙ greatest) (λ says. refl) h

pub returns : goal.returns
returns c = λ wanted fs f is greatest h.
    both_said f c.args.message.now c.in-Some-greatest.greatest c.in-Some.sent is (sym c.in-Some.is ∙ c.sent_week.ensures.value) (sym c.in-Some-greatest.is ∙ greatest)
    c.whole_by.ensures c.rest_by.ensures
    (c.add.ensures 16_384 (whole_in wanted fs) (whole_small c.in-Some-greatest.greatest c.in-Some.sent c.whole_by.ensures c.in-Some.ensures.bounds.0))
    (c.add-2.ensures 1_024 (rests_in wanted fs) (rest_small c.in-Some-greatest.greatest c.in-Some.sent c.rest_by.ensures)) h
