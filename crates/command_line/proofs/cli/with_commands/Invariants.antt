use Rattle.command_line.proofs.Names.{◌≡◌, map, option_map, take, app_of, needed_set, with_commands}
use Rattle.command_line.proofs.cli.with_commands.Given as goal

abbrev pub invariant-loop-row : goal.invariant-loop-row
invariant-loop-row l =
    app_of l.program ≡ with_commands (app_of l.fn.program) (map (needed_set (option_map (λ a. a.now) l.fn.asked)) (take l.row-index l.fn.rows))
