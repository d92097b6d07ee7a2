-- With the options of the asked command alone, words come to what they come to with those of all commands.
use Rattle.command_line.proofs.AcceptedLemmas.{FindsSame, kept_name}
use Rattle.command_line.proofs.CommandLineLemmas.{is_read, named_as}
use Rattle.command_line.proofs.Names.{is_some, ◌≡◌, ◌∙◌, ◌∷◌, Bor, [], Bool, true, List, Option, Some, None, IfSome, find, map, option_map, refl, sym, subst, ap, ap₂, bytes_eq-Decides, slice_get, clap_on_literals, walked, Names, Row, Shape, Text, App, Kinds, answers_to, idle, nothing_held, subcommand_met, walk, label_of, built, built_fault, entered, entered_fault, level_fault, is_simple_and_free, stop_after, Choices, CommandRow, IsCommand, command_set, commands, has_row, needed, needed_set, program, start, with_commands, common_steps, arith, rules, IsNameOf}

-- the walk stops, if it does, at a subcommand of the first word's name, if there is one
stops_at : (s : Shape) (names : Names) (n : Text) (rest : List Text) (p : Text × List Text) → subcommand_met names idle n ≡ Some n
    → (walk s.rules names nothing_held (n ∷ rest)).stopped ≡ Some p → n ≡ p.0
unfolding walked
stops_at s names n rest p met stops = grind (arith, common_steps, kept_name)

abbrev app : Shape → List Shape → App
app top subs = record { top = top; subs = subs }

-- two commands have the same subcommand of this name
abbrev SameAt : Text → List Shape → List Shape → Type 0
SameAt n xs ys = find (λ s. answers_to n (label_of s)) xs ≡ find (λ s. answers_to n (label_of s)) ys

-- it is entered, and fails, in both in the same way
same_entered : (t : Shape) (xs ys : List Shape) (n : Text) (stop : Option (Text × List Text)) → SameAt n xs ys → ((p : Text × List Text) → stop ≡ Some p → n ≡ p.0)
    → (entered (app t xs) stop ≡ entered (app t ys) stop)
    × (entered_fault (app t xs) stop ≡ entered_fault (app t ys) stop)
same_entered t xs ys n None same at = (refl, refl)
same_entered t xs ys n (Some p) same at = rw (← at p refl, same) (refl, refl)

-- so do commands that differ in their subcommands alone, of which this one is the same
same_built : (t : Shape) (xs ys : List Shape) (n : Text) (rest : List Text) → map label_of xs ≡ map label_of ys → subcommand_met (map label_of ys) idle n ≡ Some n
    → SameAt n xs ys → (built_fault (app t xs) nothing_held (n ∷ rest) ≡ built_fault (app t ys) nothing_held (n ∷ rest))
    × (entered (app t xs) (stop_after t.rules (map label_of xs) (n ∷ rest)) ≡ entered (app t ys) (stop_after t.rules (map label_of ys) (n ∷ rest)))
same_built t xs ys n rest names met same =
    let a = app t xs in
    let b = app t ys in
    let e = same_entered t xs ys n (stop_after t.rules (map label_of ys) (n ∷ rest)) same (λ p. stops_at t (map label_of ys) n rest p met) in
    subst (λ (ns : Names). let stop = stop_after t.rules ns (n ∷ rest) in
    (level_fault t ns nothing_held (n ∷ rest) (is_some (entered a stop)) (entered_fault a stop) ≡ built_fault b nothing_held (n ∷ rest))
    × (entered a stop ≡ entered b (stop_after t.rules (map label_of ys) (n ∷ rest)))) (sym names)
    (ap₂ (λ (o : Option (Text × List Row)) (k : Kinds). level_fault t (map label_of ys) nothing_held (n ∷ rest) (is_some o) k) e.0 e.1, e.0)

-- ---- the commands of the program

-- the program with the needed options alone
abbrev part : Option Text → (forms rules : Choices) → App
part asked forms rules = with_commands start (map (needed asked) (commands forms rules))

-- after this name it finds what the program finds
abbrev Fits : (forms rules : Choices) → Text → Type 0
Fits forms rules n = (is_simple_and_free (part (Some n) forms rules) ≡ true)
    × ((word : Text) (rest : List Text) → FindsSame (part (Some n) forms rules) (program forms rules) (word ∷ n ∷ rest))

-- the subcommands of the program, and those of it with the needed options, when they are built
abbrev of_all : (forms rules : Choices) → List Shape
of_all forms rules = (built (program forms rules)).subs

abbrev of_part : (forms rules : Choices) → Text → List Shape
of_part forms rules n = (built (part (Some n) forms rules)).subs

-- functions that agree at the name of each of these commands agree at the one that is named
agree_at : {A : Type 0} (f g : Text → A) (cs : List App) (name : Text) → map (λ c. f c.top.name) cs ≡ map (λ c. g c.top.name) cs → IsNameOf cs name → f name ≡ g name
agree_at f g [] name same named = absurd named
agree_at f g (c ∷ cs) name same named = grind (arith, common_steps, agree_at f g cs name)

-- whether the program with the options of this command alone is read, its names, the one that is met, and what it finds
abbrev met : (forms rules : Choices) → Text → Bool × Names × Option Text × Option Shape
met forms rules n = (is_simple_and_free (part (Some n) forms rules), map label_of (of_part forms rules n), subcommand_met (map label_of (of_all forms rules)) idle n, find (λ s. answers_to n (label_of s)) (of_part forms rules n))

abbrev wanted : (forms rules : Choices) → Text → Bool × Names × Option Text × Option Shape
wanted forms rules n = (true, map label_of (of_all forms rules), Some n, find (λ s. answers_to n (label_of s)) (of_all forms rules))

all_met : (forms rules some others : Choices) → map (λ c. met forms rules c.top.name) (commands some others) ≡ map (λ c. wanted forms rules c.top.name) (commands some others)
unfolding clap_on_literals
all_met forms rules some others = refl

each_fits : (forms rules : Choices) (n : Text) → IsCommand n → Fits forms rules n
each_fits forms rules n (some, others, named) =
    let e : met forms rules n ≡ wanted forms rules n = agree_at (met forms rules) (wanted forms rules) (commands some others) n (all_met forms rules some others) named in
    (ap (λ p. p.0) e, λ word rest. same_built (built (program forms rules)).top (of_part forms rules n) (of_all forms rules) n rest (ap (λ p. p.1) e) (ap (λ p. p.2) e) (ap (λ p. p.3) e))

-- the name of a row is that of the row's command
named_row : (rows : List CommandRow) (name : Text) → has_row rows name ≡ true → IsNameOf (map command_set rows) name
named_row [] name has = cc
named_row (r ∷ rs) name has = grind (arith, common_steps, bytes_eq-Decides, named_as, named_row rs name)

is_command : (forms rules : Choices) (rows : List CommandRow) (name : Text) → map command_set rows ≡ commands forms rules → has_row rows name ≡ true → IsCommand name
is_command forms rules rows name sets has = (forms, rules, subst (λ (cs : List App). IsNameOf cs name) sets (named_row rows name has))

-- the program with the needed options finds what that with all finds, if a command is asked by the first word after
-- the program's name
part_fits : (forms rules : Choices) (rows : List CommandRow) (asked : Option Text) (words : List Text) → map command_set rows ≡ commands forms rules
    → IfSome asked (λ n. (slice_get words 1 ≡ Some n) × (has_row rows n ≡ true))
    → (is_simple_and_free (part asked forms rules) ≡ true) × FindsSame (part asked forms rules) (program forms rules) words
part_fits forms rules rows None words sets is = (is_read forms rules, (refl, refl))
part_fits forms rules rows (Some n) (word ∷ m ∷ rest) sets is =
    let same : m ≡ n = cc is.0 in
    let fits = each_fits forms rules n (is_command forms rules rows n sets is.1) in
    (fits.0, rw same (fits.1 word rest))
part_fits forms rules rows (Some n) few sets is = absurd (cc is.0)

needed_sets : (asked : Option Text) (rows : List CommandRow) → map (needed asked) (map command_set rows) ≡ map (needed_set asked) rows
needed_sets asked [] = refl
needed_sets asked (r ∷ rs) = ap (λ (others : List App). needed_set asked r ∷ others) (needed_sets asked rs)

-- the same of the commands of the rows
pub rows_fit : (a : App) (forms rules : Choices) (rows : List CommandRow) (asked : Option (Bor Text)) (words : List Text) → map command_set rows ≡ commands forms rules
    → IfSome asked (λ n. (slice_get words 1 ≡ Some n.now) × (has_row rows n.now ≡ true)) → a ≡ with_commands start (map (needed_set (option_map (λ n. n.now) asked)) rows)
    → (is_simple_and_free a ≡ true) × FindsSame a (program forms rules) words
rows_fit a forms rules rows asked words sets named same =
    let part_is = ap (with_commands start) (sym (ap (map (needed (option_map (λ n. n.now) asked))) sets) ∙ needed_sets (option_map (λ n. n.now) asked) rows) in
    subst (λ (x : App). (is_simple_and_free x ≡ true) × FindsSame x (program forms rules) words) (part_is ∙ sym same)
    (part_fits forms rules rows (option_map (λ n. n.now) asked) words sets (by asked named)) where
      by : (o : Option (Bor Text)) → IfSome o (λ n. (slice_get words 1 ≡ Some n.now) × (has_row rows n.now ≡ true))
          → IfSome (option_map (λ n. n.now) o) (λ n. (slice_get words 1 ≡ Some n) × (has_row rows n ≡ true))
      by o h = grind (arith, common_steps)
