use Rattle.rtcm_inspect.proofs.CountingLemmas.{one_more_counted}
use Rattle.rtcm_inspect.proofs.Names.{whole_is, whole_set, MsmSet, subst, List, ℕ, ◌≡◌, Result, MsgFault, ◌∙◌, ap, refl, sym, message_at, message_with, viewed_message, framed, GivesViewed, View}
use Rattle.rtcm_inspect.proofs.counting.StreamSignalsFrameSinkUnit.take.Goals as goal

-- all messages are decoded
whole : (set : MsmSet) (bytes : List ℕ) (r : Result View MsgFault) → set ≡ whole_set → GivesViewed viewed_message r (message_with set bytes) → GivesViewed viewed_message r (message_at bytes)
whole set bytes r is read = subst (GivesViewed viewed_message r) (ap (λ (s : MsmSet). message_with s bytes) is ∙ whole_is bytes) read

pub returns-clause-whole : goal.returns-clause-whole
returns-clause-whole c = λ c0 o ps fs took.
    let f = framed c.args.frame.now in
    one_more_counted c.args.self.now _ _ f refl (λ gs greatest h. c.add.ensures c.args.self.now.station gs f (sym c.as_slice-message.ensures.value) greatest h)
    (c.take_message.ensures f (sym c.as_slice-message.ensures.value) (whole _ _ _ c.all.ensures c.look_in.ensures.exact)) took
