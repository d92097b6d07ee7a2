use Rattle.command_line.proofs.CommandLineLemmas.{needed_row}
use Rattle.command_line.proofs.Names.{◌∙◌, map, option_map, sym, subst, ap, true, false, App, Makes, option_set, with_options}
use Rattle.command_line.proofs.cli.command.Goals as goal

pub returns-then-needs_options : goal.returns-then-needs_options
returns-then-needs_options c =
    let row = c.args.row.now in
    subst (Makes c.with_options.result) (ap (λ (a : App). with_options a (map option_set row.options.now)) c.described-command.ensures
    ∙ needed_row (option_map (λ a. a.now) c.args.asked) row true (sym c.needs_options.ensures ∙ c.if-needs_options.true)) c.with_options.ensures

pub returns-else-needs_options : goal.returns-else-needs_options
returns-else-needs_options c =
    c.described-command.ensures ∙ needed_row (option_map (λ a. a.now) c.args.asked) c.args.row.now false (sym c.needs_options.ensures ∙ c.if-needs_options.false)
