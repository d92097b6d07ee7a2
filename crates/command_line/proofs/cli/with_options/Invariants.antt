use Rattle.command_line.proofs.Names.{◌≡◌, map, take, app_of, option_set, with_options}
use Rattle.command_line.proofs.cli.with_options.Given as goal

abbrev pub invariant-loop-row : goal.invariant-loop-row
invariant-loop-row l = app_of l.command ≡ with_options (app_of l.fn.command) (map option_set (take l.row-index l.fn.rows))
