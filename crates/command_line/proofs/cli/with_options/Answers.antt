use Rattle.command_line.proofs.CommandLineLemmas.{no_option, one_option_more, simple_given, with_option}
use Rattle.command_line.proofs.Names.{◌∙◌, get_or, app_of}
use Rattle.command_line.proofs.cli.with_options.Goals as goal

pub loop-row-preserved : goal.loop-row-preserved
loop-row-preserved c =
    with_option c.in_ok-command.ensures c.loop-row.invariant c.option.ensures (simple_given (get_or c.args.rows.now c.loop-row.row-index no_option))
    ∙ one_option_more (app_of c.args.command) c.args.rows.now c.loop-row.row-index no_option c.loop-row-test.true
