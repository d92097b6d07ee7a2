use Rattle.rtcm_convert.proofs.Names.{◌∙◌, ap, all_epochs, Choice, messages_of, text_with}
use Rattle.rtcm_convert.proofs.laws.every_epoch.Goals as goal

pub returns : goal.returns
returns c = λ s fs e.
    let ms = messages_of s fs in
    ap (text_with s) (ap (λ (k : Choice). all_epochs (record s.gatherer { choice = k }) ms) e ∙ (c.choices.ensures.whole s.gatherer ms).all)
