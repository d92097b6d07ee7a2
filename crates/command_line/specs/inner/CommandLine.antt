-- The program's command line: its commands and their options, by which clap's definitions read words. They agree with
-- the manual page.
use Rattle.std.specs.Prelude.{◌≡◌, ◌⊎◌, true, Bool, List, [], ◌∷◌, map, codes, Option, Some, Result, IfOk, if◌then◌else◌}
use Rattle.std.specs.List.{list_any}
use Rattle.std.specs.Option.{option_map_or}
use Rattle.std.specs.Str.{bytes_eq}
use Rattle.clap.specs.Walk.{Row, Rule, Text}
use Rattle.clap.specs.Simple.{App, app_of, new_app, subcommand_rows_of}
use Rattle.clap.specs.Values.{kind_of}
use Rattle.clap.specs.declared.error.Error.{Error}
use Rattle.clap.specs.declared.error.kind.ErrorKind.TheVariants as kind
use Rattle.clap.specs.declared.parser.matches.ArgMatches.{ArgMatches}
use Rattle.clap.specs.declared.builder.command.Command.{Command}
use Rattle.command_line.specs.declared.commands.CommandRow.{CommandRow}
use Rattle.command_line.specs.declared.commands.OptionRow.{OptionRow}
use Rattle.command_line.specs.CommandLine.{Choices, AreChoices, named, with_options, commands, SelectsCommand}
use Rattle.command_line.specs.CommandLine.{FailsParsing}

-- ---- options

-- the option of a row
abbrev pub option_set : OptionRow → Rule
option_set row = record (named row.name.now) {
  required = row.required;
  defaults = map (λ s. s.now) row.defaults.now;
  parser = Some row.parser;
  action = Some row.action;
}

-- ---- commands

-- the command of a row, with all its options
abbrev pub command_set : CommandRow → App
command_set row = with_options (new_app row.name.now) (map option_set row.options.now)

-- A command that the words ask for is named by the first one after the program's name. The options of the others are
-- not needed, and all are if the words ask for none.
abbrev pub is_needed : Option Text → Text → Bool
is_needed asked name = option_map_or (λ a. bytes_eq a name) asked true

abbrev pub needed : Option Text → App → App
needed asked a = if is_needed asked a.top.name then a else new_app a.top.name

-- the command of a row, with those that are needed
abbrev pub needed_set : Option Text → CommandRow → App
needed_set asked row = needed asked (command_set row)

-- the rows of the program and of its commands
abbrev pub AreRows : CommandRow → List CommandRow → Type 0
AreRows program rows = (forms : Choices) × (rules : Choices) × AreChoices (codes "4,7" ∷ codes "all" ∷ []) forms
    × AreChoices (codes "bit" ∷ codes "time" ∷ []) rules × (program.name.now ≡ codes "rtcm2rinex")
    × (map command_set rows ≡ commands forms rules)

-- the command of this name is one of the rows
abbrev pub has_row : List CommandRow → Text → Bool
has_row rows name = list_any (λ row. bytes_eq row.name.now name) rows

-- the name is that of one of these commands
abbrev pub IsNameOf : List App → Text → Type 0
IsNameOf [] name = ⊥
IsNameOf (command ∷ others) name = (name ≡ command.top.name) ⊎ IsNameOf others name

-- if the command was made, its definition is this one
abbrev pub Makes : {E : Type 0} → Result Command E → App → Type 0
Makes command a = IfOk command (λ c. app_of c ≡ a)

-- the name is that of one of the program's commands
abbrev pub IsCommand : Text → Type 0
IsCommand name = (forms : Choices) × (rules : Choices) × IsNameOf (commands forms rules) name

-- ---- what words ask for, by clap's own definitions

-- a command of the program was found in the words, and they ask for it
abbrev pub IsFoundIn : List Text → ArgMatches → Type 0
IsFoundIn words m = (name : Text) × (options : List Row) × IsCommand name
    × (subcommand_rows_of m ≡ Some (name, options)) × SelectsCommand words name options

-- the reason why the words weren't accepted: memory ran out, or the words themselves
abbrev pub RefusesWords : List Text → Error → Type 0
RefusesWords words e = (kind_of e ≡ kind.OutOfMemory) ⊎ FailsParsing words (kind_of e)
