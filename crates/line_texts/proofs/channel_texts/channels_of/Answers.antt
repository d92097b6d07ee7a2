use Rattle.gnss_obs.proofs.PlanLaws.{first_none, first_some}
use Rattle.line_texts.proofs.ChannelLaws.{entry_last, entry_refused, entry_taken}
use Rattle.line_texts.proofs.Names.{◌∙◌, rules, sym, arith, common_steps}
use Rattle.line_texts.proofs.channel_texts.channels_of.Goals as goal

pub loop-entry-preserved : goal.loop-entry-preserved
loop-entry-preserved c =
    let rest = c.loop-entry.rest.now in
    let split = first_some rest c.split_once.result _ c.split_once.ensures.cases c.in-Some.is in
    (search rules, entry_taken c.loop-entry.channels rest c.args.text.now c.loop-entry.invariant.1 c.in-Some.entry.now c.in-Some.after.now split (sym c.with_entry.ensures ∙ c.in_ok-channels.was))

pub returns-in_err-channels : goal.returns-in_err-channels
returns-in_err-channels c =
    let rest = c.loop-entry.rest.now in
    let split = first_some rest c.split_once.result _ c.split_once.ensures.cases c.in-Some.is in
    c.from_residual.ensures ∙ sym (entry_refused c.loop-entry.channels rest c.args.text.now c.loop-entry.invariant.1 c.in-Some.entry.now c.in-Some.after.now (search rules) split (sym c.with_entry.ensures ∙ c.in_err-channels.was))

pub returns : goal.returns
returns c = grind (arith, common_steps, first_none, entry_last)
