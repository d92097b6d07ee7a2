use Rattle.rinex_file.proofs.HeaderRows.Types.{few_types, count_read}
use Rattle.rinex_file.proofs.Names.{arith, ◌≡◌, ◌∙◌, ap, ℕ, List, ◌/◌, ◌≤◌, Some, System, digits_in, short_table, common_steps, length, types_with}
use Rattle.rinex_file.proofs.read.types.TypesSoFar.read_count.Goals as goal

first_row : (system : System) (all line : List ℕ) (row : ℕ) → row ≤ 0 → line ≡ types_with system (length all) all row → line ≡ types_with system (length all) all 0
first_row system all line row none is = let e : row ≡ 0 = omega (arith, none) in is ∙ ap (types_with system (length all) all) e

pub returns-then-count-eq0-clause-count : goal.returns-then-count-eq0-clause-count
returns-then-count-eq0-clause-count c = λ old all l.
    let read = ap (λ n. n / 4) (c.digits_in-types.ensures.value ∙ ap digits_in c.columns.ensures.value) ∙ count_read c.args.system all c.args.line.now l.are (short_table c.args.system) (first_row c.args.system all c.args.line.now c.args.row c.if-row-gt0.false l.is) in
    let few = few_types c.args.system all l.are in let are = l.are in
    grind (arith, common_steps, c.then-count-eq0.branch)

pub returns-clause-count : goal.returns-clause-count
returns-clause-count c = λ old all l.
    ap (λ n. Some (n / 4)) (c.digits_in-types.ensures.value ∙ ap digits_in c.columns.ensures.value)
    ∙ ap Some (count_read c.args.system all c.args.line.now l.are (short_table c.args.system) (first_row c.args.system all c.args.line.now c.args.row c.if-row-gt0.false l.is))
