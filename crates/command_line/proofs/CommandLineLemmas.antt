-- A command after an option or a command is added.
use Rattle.command_line.proofs.Names.{◌≡◌, ◌+◌, ◌<◌, ◌&&◌, ◌∷◌, [], ℕ, Bool, if◌then◌else◌, Result, IfErr, List, Option, None, Some, true, false, length, map, take, get_or, refl, ap₂, ◌∙◌, map_more, fold-append, Rule, Text, rule_of, App, app_of, built, is_simple, new_app, on_top, with_rule, with_subcommand, AddsArg, AddsSubcommand, is_free_app, is_simple_and_free, clap_on_literals, FailsBy, HasKind, Kinds, Error, Bor, CommandRow, OptionRow, command_set, is_needed, needed_set, option_set, program, with_commands, with_options, Arg, Command, out-Command, arith, common_steps, and_parts, not-true}
use Rattle.clap.specs.declared.builder.value_parser.ValueParser.TheVariants as value
use Rattle.clap.specs.declared.builder.action.ArgAction.TheVariants as action

pub second : (a b : Bool) → (a && b) ≡ true → b ≡ true
second a b e = (and_parts a b e).1

-- an option that clap's definitions read belongs to its command alone
local : (a : Arg) (r : Rule) → rule_of a ≡ r → r.is_simple ≡ true → a.global ≡ false
local a r is simple = grind (arith, common_steps, not-true, second)

has_local : (c : Command) (a : App) → app_of c ≡ a → a.top.is_plain ≡ true → (out-Command c).has_globals ≡ false
has_local c a is plain = grind (arith, common_steps, not-true, and_parts, second)

-- a command with a version that requires a subcommand
pub versioned : (c d e : Command) {a : App} {t : Bor Text} → out-Command d ≡ record (out-Command c) { version = Some t }
    → out-Command e ≡ record (out-Command d) { subcommand_required = true } → app_of c ≡ a
    → app_of e ≡ on_top (λ s. record s { subcommand_required = true; has_version = true }) a
versioned c d e version wants was = grind (arith, common_steps)

-- one more option
pub with_option : {old new : Command} {a : Arg} {app : App} {r : Rule} → AddsArg old a new → app_of old ≡ app → rule_of a ≡ r → r.is_simple ≡ true
    → app_of new ≡ with_rule app r
with_option {a} {r} added was is simple = added.shape (local a r is simple) ∙ ap₂ with_rule was is

-- an option of a row is read by clap's definitions
pub simple_given : (row : OptionRow) → (option_set row).is_simple ≡ true
simple_given row = refl

-- the options of a command don't change the command itself
pub plain : (a : App) (rs : List Rule) → (with_options a rs).top.is_plain ≡ a.top.is_plain
plain a [] = refl
plain a (r ∷ rs) = plain (with_rule a r) rs

-- the command of a row has only a name, with its options or without
pub plain_given : (asked : Option Text) (row : CommandRow) → (needed_set asked row).top.is_plain ≡ true
plain_given asked row = grind (arith, common_steps, plain)

-- the options of a command don't change its name
pub named_as : (a : App) (rs : List Rule) → (with_options a rs).top.name ≡ a.top.name
named_as a [] = refl
named_as a (r ∷ rs) = named_as (with_rule a r) rs

-- one more command
pub with_command : {old sub new : Command} {app below : App} → AddsSubcommand old sub new → app_of old ≡ app → app_of sub ≡ below → below.top.is_plain ≡ true
    → app_of new ≡ with_subcommand app below.top
with_command {sub} {below} added was is plain = grind (arith, common_steps, has_local)

-- clap's definitions read the words by these commands and options
pub is_read : (forms rules : Bor (List (Bor Text))) → is_simple_and_free (program forms rules) ≡ true
unfolding clap_on_literals
is_read forms rules = refl

pub is_simple_read : (a : App) → is_simple_and_free a ≡ true → is_simple a ≡ true
is_simple_read a read = (and_parts (is_simple a) (is_free_app (built a)) read).0

-- the reason why a parse failed, if clap's definitions read the words
pub why : {T : Type 0} (kinds : Kinds) (r : Result T Error) → FailsBy kinds r → IfErr r (HasKind kinds)
why kinds r h = grind (arith, common_steps)

abbrev nothing : Bor (List ℕ)
nothing = record { ref_ptr = (0, 0); now = [] }

-- the row after the last one
abbrev pub no_option : OptionRow
no_option = record { name = nothing; value = nothing; required = false; defaults = record { ref_ptr = (0, 0); now = [] }; parser = value.String; action = action.Set; help = nothing; heading = None }

abbrev pub no_command : CommandRow
no_command = record { name = nothing; about = nothing; examples = nothing; options = record { ref_ptr = (0, 0); now = [] } }

-- one more option of the rows
pub one_option_more : (a : App) (rows : List OptionRow) (n : ℕ) (d : OptionRow) → n < length rows
    → with_rule (with_options a (map option_set (take n rows))) (option_set (get_or rows n d)) ≡ with_options a (map option_set (take (n + 1) rows))
one_option_more a rows n d lt = grind (arith, common_steps, map_more, fold-append)

-- one more command, of these of the rows
pub one_command_more : (of : CommandRow → App) (a : App) (rows : List CommandRow) (n : ℕ) (d : CommandRow) → n < length rows
    → with_subcommand (with_commands a (map of (take n rows))) (of (get_or rows n d)).top ≡ with_commands a (map of (take (n + 1) rows))
one_command_more of a rows n d lt = grind (arith, common_steps, map_more, fold-append)

-- the command of a row, with its options or without
pub needed_row : (asked : Option Text) (row : CommandRow) (b : Bool) → is_needed asked row.name.now ≡ b
    → (if b then command_set row else new_app row.name.now) ≡ needed_set asked row
needed_row asked row b e = grind (arith, common_steps, named_as)
