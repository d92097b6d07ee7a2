use Rattle.rtcm_inspect.proofs.CountingLemmas.{takes_other, takes_refused}
use Rattle.rtcm_inspect.proofs.Names.{subst, List, ℕ, ◌≡◌, Ok, Result, MsgFault, ◌∙◌, ap, sym, rules, message_at, viewed_message, Framed, with_sent, option_to_list, channel_of_1020, GivesViewed, View}
use Rattle.rtcm_inspect.proofs.counting.StreamSignals.take_message.Goals as goal

viewed : {v w : Result View MsgFault} {bytes : List ℕ} (f : Framed) → f.message ≡ bytes → v ≡ w → GivesViewed viewed_message v (message_at bytes) → GivesViewed viewed_message w (message_at f.message)
viewed {bytes = bytes} f same is read = rw same (subst (λ (r : Result View MsgFault). GivesViewed viewed_message r (message_at bytes)) is read)

pub returns-in-Ok-Other : goal.returns-in-Ok-Other
returns-in-Ok-Other c = λ f same read.
    let is : c.args.view.now ≡ Ok (View.Other c.in-Ok-Other.field-0-0 c.in-Ok-Other.field-0-1) = search rules in
    takes_other c.args.self.now f (viewed f same is read) (c.add_1020.ensures ∙ ap (λ (bytes : List ℕ). with_sent c.args.self.now.channels (option_to_list (channel_of_1020 bytes))) (sym same))

pub returns-in-Err : goal.returns-in-Err
returns-in-Err c = λ f same read. takes_refused c.args.self.now f (viewed f same c.in-Err.is read)
