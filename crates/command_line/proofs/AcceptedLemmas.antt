-- Words in which clap's definitions find no fault name a command of the program.
use Rattle.command_line.proofs.CommandLineLemmas.{is_simple_read}
use Rattle.command_line.proofs.Names.{is_some, ◌≡◌, ◌∙◌, ◌&&◌, ◌++◌, ◌∷◌, [], ℕ, Bool, true, false, not, List, Option, Some, None, Result, Ok, Err, IfOk, find, fold, inl, inr, refl, sym, subst, ap, codes, if◌then◌else◌, option_map, ⊤, bytes_eq, bytes_eq-Decides, long_of, Held, Names, Row, Rule, Step, Text, Waiting, Walk, Outcome, next, trailing, subcommand, value, after_flag, after_step, answers_to, long_or_other, short_or_plain, nothing_held, plain_word, subcommand_or_other, word_met, walk, walk_from, walked, Error, ArgMatches, App, HasMatchesOf, Shape, argument_words, built, entered, label_of, names_of, rows_at, subcommand_of, option_map_or, FailsBy, Kinds, check_kinds, or_else, check_fault, entered_fault, is_simple_and_free, fault_of, level_fault, other_fault, step_fault, turn_fault, walk_fault, word_fault, IsCommand, IsFoundIn, IsProgram, program, arith, map, commands, common_steps, IsNameOf}

-- ---- no kind of error of one step after another

first_none : (a b : Kinds) → or_else a b ≡ [] → a ≡ []
first_none a b e = grind (arith, common_steps)

next_none : (a b : Kinds) → or_else a b ≡ [] → b ≡ []
next_none a b e = grind (arith, common_steps)

last_none : (a b c d e : Kinds) → or_else a (or_else b (or_else c (or_else d e))) ≡ [] → e ≡ []
last_none a b c d e none = next_none d e (next_none c (or_else d e) (next_none b (or_else c (or_else d e)) (next_none a (or_else b (or_else c (or_else d e))) none)))

no_subcommand_wanted : (x y z : Bool) → check_kinds x y z ≡ [] → y ≡ false
no_subcommand_wanted x y z e = grind (arith, common_steps)

unwanted : (s : Shape) (rows : List Row) → check_fault s rows false ≡ [] → s.subcommand_required ≡ false
unwanted s rows none = grind (arith, common_steps, no_subcommand_wanted)

-- a level that requires a subcommand has one
enters_wanted : (s : Shape) (names : Names) (h : Held) (words : List Text) (has : Bool) (below : Kinds) → s.subcommand_required ≡ true
    → level_fault s names h words has below ≡ [] → has ≡ true
enters_wanted s names h words has below wanted none = grind (arith, common_steps, last_none, unwanted)

-- ---- the subcommand at which a walk stops isn't clap's own `help`

-- no subcommand was met
IsOther : Step → Type 0
IsOther (next w) = ⊤
IsOther (trailing n) = ⊤
IsOther (subcommand name) = ⊥
IsOther value = ⊤

plain_other : (c : List Rule) (w : Waiting) (word : Text) (h : Held) → IsOther (plain_word c w word h).1
unfolding IsOther
plain_other c w word h = grind (arith, common_steps)

flag_other : (c : List Rule) (w : Waiting) (word : Text) (h : Held) (o : Outcome) → IsOther (after_flag c w word h o).1
unfolding IsOther
flag_other c w word h o = grind (arith, common_steps, plain_other)

short_other : (c : List Rule) (w : Waiting) (word : Text) (flags : Option Text) (h : Held) → IsOther (short_or_plain c w word flags h).1
short_other c w word flags h = grind (arith, common_steps, flag_other, plain_other)

long_other : (c : List Rule) (w : Waiting) (word : Text) (long : Option (Text × Option Text)) (h : Held) → IsOther (long_or_other c w word long h).1
long_other c w word long h = grind (arith, common_steps, flag_other, short_other)

either_other : (b : Bool) (x y : Held × Step) → IsOther x.1 → IsOther y.1 → IsOther (if b then x else y).1
either_other b x y p q = grind (arith, common_steps)

word_other : (c : List Rule) (w : Waiting) (position : ℕ) (word : Text) (h : Held) → IsOther (subcommand_or_other c None w position word h).1
unfolding IsOther
word_other c w position word h = either_other (bytes_eq word (45 ∷ 45 ∷ [])) (h, trailing position) (long_or_other c w word (long_of word) h) tt (long_other c w word (long_of word) h)

goes_on : (c : List Rule) (word : Text) (w : Walk) (h : Held) (step : Step) → w.stopped ≡ None → IsOther step → (after_step c word w h step).stopped ≡ None
unfolding IsOther
goes_on c word w h step none is = grind (arith, common_steps)

isnt_help : (b : Bool) (kinds : Kinds) → (if b && not false then kinds else []) ≡ [] → (kinds ≡ [] → ⊥) → b ≡ false
isnt_help b kinds e some = grind (arith, common_steps)

-- the subcommand at which a walk stops, if it does, isn't `help`
abbrev IsNotHelp : Option (Text × List Text) → Type 0
IsNotHelp stop = (p : Text × List Text) → stop ≡ Some p → bytes_eq p.0 (codes "help") ≡ false

-- a subcommand that this word meets isn't `help`
met_name : (s : Shape) (w : Walk) (word : Text) (t : Bool) (m : Option Text) → s.disable_help_subcommand ≡ false → w.stopped ≡ None → (if t then [] else other_fault s m word w.held) ≡ []
    → IsNotHelp (let met = if t then (w.held, value) else subcommand_or_other s.rules m w.waiting w.position word w.held in (after_step s.rules word w met.0 met.1).stopped)
unfolding IsOther
met_name s w word t m free none fault p stops = grind (arith, common_steps, goes_on, word_other, isnt_help)

-- the faults of a word, by whether a walk has stopped
TurnFault : (s : Shape) (names : Names) (w : Walk) (word : Text) (stopped : Option (Text × List Text)) → Kinds
TurnFault s names w word stopped =
    let met = word_met s.rules names w.is_trailing w.waiting w.position word w.held in
    if is_some stopped then [] else or_else (word_fault s names w.is_trailing w.waiting word w.held) (step_fault s w.position met.0 met.1)

-- one more word
turn_name : (s : Shape) (names : Names) (w : Walk) (word : Text) → s.disable_help_subcommand ≡ false → w.stopped ≡ None → turn_fault s names w word ≡ [] → IsNotHelp (walked s.rules names w word).stopped
unfolding walked TurnFault
turn_name s names w word free none fault p stops = grind (arith, common_steps, met_name, first_none, TurnFault)

-- after a subcommand the walk keeps its name
pub kept_name : (s : Shape) (names : Names) (words : List Text) (w : Walk) (q p : Text × List Text) → w.stopped ≡ Some q
    → (fold (walked s.rules names) w words).stopped ≡ Some p → q.0 ≡ p.0
unfolding walked
kept_name s names [] w q p at stops = ap (λ (o : Option (Text × List Text)). option_map_or (λ x. x.0) o q.0) (sym at ∙ stops)
kept_name s names (word ∷ rest) w q p at stops = grind (arith, common_steps, kept_name s names rest (walked s.rules names w word) (q.0, q.1 ++ word ∷ []) p)

-- the subcommand after more words isn't `help`, if the walk stopped at none before or at none of that name
word_name : (s : Shape) (names : Names) (w : Walk) (rest : List Text) (o : Option (Text × List Text)) → w.stopped ≡ o → IsNotHelp w.stopped
    → (w.stopped ≡ None → IsNotHelp (fold (walked s.rules names) w rest).stopped) → IsNotHelp (fold (walked s.rules names) w rest).stopped
word_name s names w rest o at this later p stops = grind (arith, common_steps, kept_name)

stop_name : (s : Shape) (names : Names) (words : List Text) (w : Walk) → s.disable_help_subcommand ≡ false → w.stopped ≡ None → walk_fault s names w words ≡ []
    → IsNotHelp (fold (walked s.rules names) w words).stopped
unfolding walk_fault
stop_name s names [] w free none fault = λ p stops. (let bad : None ≡ Some p = sym none ∙ stops in cc)
stop_name s names (word ∷ rest) w free none fault =
    word_name s names (walked s.rules names w word) rest (walked s.rules names w word).stopped refl (turn_name s names w word free none (first_none _ _ fault))
    (λ (still : (walked s.rules names w word).stopped ≡ None). stop_name s names rest (walked s.rules names w word) free still (next_none _ _ fault))

-- ---- the name of the subcommand that is entered

Each : (Shape → Type 0) → List Shape → Type 0
Each P [] = ⊤
Each P (s ∷ rest) = P s × Each P rest

found_each : (P : Shape → Type 0) (f : Shape → Bool) (subs : List Shape) (s : Shape) → Each (λ x. f x ≡ true → P x) subs → find f subs ≡ Some s → P s
unfolding Each
found_each P f [] s all e = cc
found_each P f (x ∷ rest) s all e = grind (arith, common_steps, found_each P f rest s all.1)

-- P holds for the subcommand of this name, if it is one of these
Answers : (Text → Type 0) → Text → List Shape → Type 0
Answers P name subs = Each (λ s. answers_to name (label_of s) ≡ true → P s.name) subs

found_name : (P : Text → Type 0) (subs : List Shape) (p : Text × List Text) (o : Option Shape) → find (λ s. answers_to p.0 (label_of s)) subs ≡ o → Answers P p.0 subs
    → is_some (option_map (λ s. rows_at s p.1) o) ≡ true
    → (name : Text) × (options : List Row) × P name × (option_map (λ s. rows_at s p.1) o ≡ Some (name, options))
unfolding Answers
found_name P subs p None e all some = cc
found_name P subs p (Some s) e all some = (s.name, (rows_at s p.1).1, found_each (λ x. P x.name) (λ x. answers_to p.0 (label_of x)) subs s all e, refl)

entered_name : (P : Text → Type 0) (a : App) (stop : Option (Text × List Text)) → ((p : Text × List Text) → stop ≡ Some p → Answers P p.0 a.subs)
    → is_some (entered a stop) ≡ true → (name : Text) × (options : List Row) × P name × (entered a stop ≡ Some (name, options))
entered_name P a None all some = cc
entered_name P a (Some p) all some = found_name P a.subs p (find (λ s. answers_to p.0 (label_of s)) a.subs) refl (all p refl) some

-- the name of the subcommand of a command that requires one
name_asked : (P : Text → Type 0) (a : App) (words : List Text) → (built a).top.subcommand_required ≡ true → (built a).top.disable_help_subcommand ≡ false
    → ((name : Text) → bytes_eq name (codes "help") ≡ false → Answers P name (built a).subs) → fault_of a words ≡ []
    → (name : Text) × (options : List Row) × P name × (subcommand_of a words ≡ Some (name, options))
name_asked P a words wanted free all none =
    let stop : Option (Text × List Text) = (walk (built a).top.rules (names_of (built a)) nothing_held (argument_words a words)).stopped in
    entered_name P (built a) stop
    (λ p e. all p.0 (stop_name (built a).top (names_of (built a)) (argument_words a words) (walk_from nothing_held) free refl (first_none _ _ none) p e))
    (enters_wanted (built a).top (names_of (built a)) nothing_held (argument_words a words) (is_some (entered (built a) stop)) (entered_fault (built a) stop) wanted none)

-- a subcommand that answers to a name other than `help` is one of these commands, if they and `help` are all
of_each : (P : Text → Type 0) (cs : List App) (subs : List Shape) (name : Text) → map label_of subs ≡ map (λ c. (c.top.name, [])) cs ++ (codes "help", []) ∷ [] → ((n : Text) → IsNameOf cs n → P n)
    → bytes_eq name (codes "help") ≡ false → Answers P name subs
unfolding Answers Each
of_each P cs [] name same named isnt = tt
of_each P [] (s ∷ []) name same named isnt = grind (arith, common_steps, bytes_eq-Decides)
of_each P [] (s ∷ r ∷ subs) name same named isnt = absurd cc
of_each P (c ∷ cs) (s ∷ subs) name same named isnt =
    let first : label_of s ≡ (c.top.name, []) = cc in
    let others : map label_of subs ≡ map (λ c. (c.top.name, [])) cs ++ (codes "help", []) ∷ [] = cc in
    (λ t. named s.name (inl (ap (λ p. p.0) first)), of_each P cs subs name others (λ n h. named n (inr h)) isnt)

pub command_asked : (a : App) (words : List Text) → IsProgram a → fault_of a words ≡ []
    → (name : Text) × (options : List Row) × IsCommand name × (subcommand_of a words ≡ Some (name, options))
command_asked a words (forms, rules, are, also, is) none =
    subst (λ (x : App). fault_of x words ≡ [] → (name : Text) × (options : List Row) × IsCommand name × (subcommand_of x words ≡ Some (name, options))) (sym is)
    (name_asked IsCommand (program forms rules) words refl refl (λ name. of_each IsCommand (commands forms rules) (built (program forms rules)).subs name refl (λ n h. (forms, rules, h)))) none

-- two commands have the same faults at these words, and are asked for the same
abbrev pub FindsSame : App → App → List Text → Type 0
FindsSame p a words = (fault_of p words ≡ fault_of a words) × (subcommand_of p words ≡ subcommand_of a words)

-- a parse finds the command that the words ask for
pub found_command : (p a : App) (words : List Text) (r : Result ArgMatches Error) → IsProgram a → FindsSame p a words → is_simple_and_free p ≡ true
    → FailsBy (fault_of p words) r → IfOk r (HasMatchesOf p words) → IfOk r (IsFoundIn words)
found_command p a words (Err e) is same read fails found = tt
found_command p a words (Ok m) is same read none found =
    let clear = sym same.0 ∙ none in
    let asked = command_asked a words is clear in
    (asked.0, asked.1, asked.2, (found (is_simple_read p read)).1 ∙ same.1 ∙ asked.3, (a, is, clear, asked.3))
