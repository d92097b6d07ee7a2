use Rattle.command_line.proofs.CommandLineLemmas.{no_command, one_command_more, plain_given, with_command}
use Rattle.command_line.proofs.Names.{◌∙◌, get_or, option_map, app_of, needed_set}
use Rattle.command_line.proofs.cli.with_commands.Goals as goal

pub loop-row-preserved : goal.loop-row-preserved
loop-row-preserved c =
    let asked = option_map (λ a. a.now) c.args.asked in
    let row = get_or c.args.rows.now c.loop-row.row-index no_command in
    with_command c.in_ok-program.ensures c.loop-row.invariant c.in_ok-command.ensures (plain_given asked row)
    ∙ one_command_more (needed_set asked) (app_of c.args.program) c.args.rows.now c.loop-row.row-index no_command c.loop-row-test.true
