-- The names that proofs cite, passed on from one place. Declares nothing.
unfoldable pub use Rattle.clap.proofs.OnLiterals.{clap_on_literals}
pub use Rattle.clap.specs.Built.{AddsArg, AddsSubcommand}
pub use Rattle.clap.specs.Facts.{explicit_source}
unfoldable pub use Rattle.clap.specs.Faults.{walk_fault}
pub use Rattle.clap.specs.Faults.{built_fault, check_fault, defaults_fault, entered_fault, fault_of, is_free_app, is_simple_and_free, level_fault, other_fault, settle_fault, step_fault, turn_fault, word_fault}
pub use Rattle.clap.specs.Kinds.{FailsBy, HasKind, IsAmong, Kinds, check_kinds, or_else}
pub use Rattle.clap.specs.Lexer.{long_of, short_of}
pub use Rattle.clap.specs.Simple.{App, HasMatchesOf, Shape, app_of, app_of_fields, argument_words, built, entered, is_simple, label_of, names_of, new_app, on_top, rows_at, subcommand_of, subcommand_rows_of, with_rule, with_subcommand}
pub use Rattle.clap.specs.Takes.{is_given}
unfoldable pub use Rattle.clap.specs.Walk.{walked}
pub use Rattle.clap.specs.Walk.{Held, Names, Outcome, Row, Rule, Step, Text, Waiting, Walk, after_flag, after_step, answers_to, arg_by_index, arg_by_long, bundle, done, finished, idle, is_empty, long_met, long_or_other, next, nothing_held, plain_word, rule_of, settled, short_or_plain, stop_after, subcommand, subcommand_met, subcommand_or_other, texts, to_positional, trailing, value, waits, walk, walk_from, walked_from, word_met}
pub use Rattle.clap.specs.Values.{kind_of}
pub use Rattle.clap.specs.declared.builder.arg.Arg.{Arg}
pub use Rattle.clap.specs.declared.builder.command.Command.{Command}
pub use Rattle.clap.specs.declared.builder.command.Command.TheViews.{out-Command}
pub use Rattle.clap.specs.declared.error.Error.{Error}
pub use Rattle.clap.specs.declared.parser.matches.ArgMatches.{ArgMatches}
pub use Rattle.command_line.specs.CommandLine.{Choices, IsProgram, commands, program, start, start_of, with_commands, with_options}
pub use Rattle.command_line.specs.inner.CommandLine.{AreRows, IsCommand, IsFoundIn, IsNameOf, Makes, command_set, has_row, is_needed, needed, needed_set, option_set}
pub use Rattle.command_line.specs.declared.commands.CommandRow.{CommandRow}
pub use Rattle.command_line.specs.declared.commands.OptionRow.{OptionRow}
pub use Rattle.std.proofs.lemmas.List.{map_more}
pub use Rattle.std.proofs.lemmas.List.Sums.{fold-append}
pub use Rattle.std.proofs.lemmas.Result.{IfErr-weaker}
pub use Rattle.std.proofs.lemmas.Slice.Eq.{bytes_eq-Decides}
pub use Rattle.std.specs.Borrow.{Bor}
pub use Rattle.std.specs.List.{list_any}
pub use Rattle.std.specs.Option.{option_map_or}
pub use Rattle.std.specs.Prelude.{Err, IfSome, if◌then◌else◌, not, slice_get, ⊤, ◌<◌, ◌≡◌}
pub use Rattle.std.specs.Str.{bytes_eq}
pub use Rattle.std.proofs.Common.{Bool, IfErr, IfOk, List, None, Ok, Option, Result, Some, [], ap, ap₂, arith, codes, false, find, fold, get_or, inl, inr, is_some, length, map, option_map, refl, rules, subst, sym, take, true, ℕ, ◌&&◌, ◌++◌, ◌+◌, ◌||◌, ◌∙◌, ◌∷◌}
pub use Rattle.command_line.specs.Words.{joined}
pub use Rattle.std.proofs.lemmas.Bool.{and_parts, not-true}
pub use Rattle.std.proofs.lemmas.Grind.{common_steps}
