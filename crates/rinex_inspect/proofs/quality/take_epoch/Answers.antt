use Rattle.rinex_inspect.proofs.Names.{◌∙◌, ◌∷◌, [], ap, arith, refl, sym, subst, ℕ, ◌*◌, ◌<◌, devices_of, times_in, IfSome, week, weeks, plan_of, last_of, Table, period_text, IsBlankTable, IsTableOf, in_period, last_period, period_of}
use Rattle.rinex_inspect.proofs.RatingLemmas.{few_in, fine_with, later, later_tables, rated_in_part, rated_same}
use Rattle.rinex_inspect.proofs.PeriodLemmas.{start_within}
use Rattle.rinex_inspect.proofs.TableSteps.{blank_table}
use Rattle.rinex_inspect.proofs.quality.take_epoch.Goals as goal

pub read_rows-requires : goal.read_rows-requires
read_rows-requires g c =
    let (es, e, input, start, rows, tables) = c.requires.begun in
    (es, e, input, in_period c.args.every.now (last_period c.args.every.now es) es, start, rows, tables.current, few_in c.args.every.now (last_period c.args.every.now es) es)

pub returns-then-period-tables-clause-rates : goal.returns-then-period-tables-clause-rates
returns-then-period-tables-clause-rates g c = λ es e input start rows tables.
    let at = devices_of g.R.Read.remaining g.W.Write.contents g.W.Deliver.waiting in
    rated_same c.args.every.now c.args.file.now c.read_rows.new.file c.args.tables.now c.read_rows.new.table es c.args.time input (at c.args.reader.now c.args.writer.now) (at c.read_rows.new.reader c.args.writer.now) c.read_rows.result tables (sym c.period_of-period.ensures.number ∙ c.if-period-tables.true) refl c.requires.sent (c.read_rows.ensures.rows es e input start rows)

pub read_rows-requires-2 : goal.read_rows-requires-2
read_rows-requires-2 g c =
    let (es, e, input, start, rows, tables) = c.requires.begun in
    (es, e, input, [], start, rows, blank_table c.args.tables.now.next tables.next, omega arith)

pub print_period-requires-clause-fits : goal.print_period-requires-clause-fits
print_period-requires-clause-fits g c =
    let (es, e, input, start, rows, tables) = c.requires.begun in
    let (whole, at, read, first, least, plan, added) = c.in_ok-read_rows.ensures.rows es e input start rows in
    let new = c.read_rows-2.new.file in
    (later c.args.every.now (plan_of new) c.args.tables.now es whole tables (fine_with new es whole input (g.R.Read.remaining c.read_rows-2.new.reader.inner) read)
    (λ same. c.if-period-tables.false (c.period_of-period.ensures.number ∙ sym (ap (period_of c.args.every.now) at) ∙ same))).fits

pub print_period-requires-clause-within : goal.print_period-requires-clause-within
print_period-requires-clause-within g c =
    let (es, e, input, start, rows, tables) = c.requires.begun in
    subst (λ (p : ℕ). IfSome c.args.every.now (λ n. p * n < weeks * week)) (sym tables.period) (start_within c.args.every.now (last_of (times_in es)) tables.interval)

pub returns-in_err-print_period-clause-rates : goal.returns-in_err-print_period-clause-rates
returns-in_err-print_period-clause-rates g c = λ es e input start rows tables.
    let at_devices = devices_of g.R.Read.remaining g.W.Write.contents g.W.Deliver.waiting in
    let (whole, at, read, first, least, plan, added) = c.in_ok-read_rows.ensures.rows es e input start rows in
    let new = c.read_rows-2.new.file in
    let after = later c.args.every.now (plan_of new) c.args.tables.now es whole tables (fine_with new es whole input (g.R.Read.remaining c.read_rows-2.new.reader.inner) read)
    (λ same. c.if-period-tables.false (c.period_of-period.ensures.number ∙ sym (ap (period_of c.args.every.now) at) ∙ same)) in
    rated_in_part (record { period = c.args.tables.now.period; current = c.args.tables.now.current; next = c.read_rows-2.new.table }) c.args.every.now c.args.file.now new es c.args.time input (at_devices c.args.reader.now c.args.writer.now) (at_devices c.read_rows-2.new.reader c.print_period.new.writer) c.from_residual-in_err-print_period.result c.from_residual-in_err-print_period.ensures.1 (c.in_err-print_period.ensures c.requires.sent).0
    (whole, read, first, plan, (period_text c.args.every.now (plan_of new) c.args.tables.now.current c.args.tables.now.period, after.lines, (c.in_err-print_period.ensures c.requires.sent).1))

pub returns-clause-rates : goal.returns-clause-rates
returns-clause-rates g c = λ es e input start rows tables.
    let (whole, at, read, first, least, plan, added) = c.in_ok-read_rows.ensures.rows es e input start rows in
    let new = c.read_rows-2.new.file in
    let fine = fine_with new es whole input (g.R.Read.remaining c.read_rows-2.new.reader.inner) read in
    let after = later c.args.every.now (plan_of new) c.args.tables.now es whole tables fine
    (λ same. c.if-period-tables.false (c.period_of-period.ensures.number ∙ sym (ap (period_of c.args.every.now) at) ∙ same)) in
    let current : IsTableOf c.swap.new.x (whole ∷ []) = subst (λ (t : Table). IsTableOf t (whole ∷ [])) (sym c.swap.ensures.x_after) (added [] (omega arith) (blank_table c.args.tables.now.next tables.next)) in
    let next : IsBlankTable c.swap.new.y = subst IsBlankTable (sym c.swap.ensures.y_after) c.clear.ensures in (
      whole,
      at,
      read,
      least,
      plan,
      later_tables c.args.every.now es whole (record { period = c.period_of-period.result; current = c.swap.new.x; next = c.swap.new.y }) tables.interval fine.rising after.less (c.period_of-period.ensures.number ∙ sym (ap (period_of c.args.every.now) at)) current next,
      (period_text c.args.every.now (plan_of new) c.args.tables.now.current c.args.tables.now.period, after.lines, c.in_ok-print_period.ensures c.requires.sent),
    )
