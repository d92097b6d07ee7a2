use Rattle.std.proofs.Common.{ap, sym, ◌∙◌, unwrap_or, option_map}
use Rattle.gnss_obs.proofs.TableLaws.{row_is}
use Rattle.gnss_obs.proofs.signal.Signal.from_id.Goals as goal

pub invariant_of-result : goal.invariant_of-result
invariant_of-result c =
    let lookup = rw c.row.ensures.rows at c.get.ensures.lookup in
    ((row_is c.args.system c.args.id c.get.result c.ranges.id.fits lookup.0 lookup.1 _ (c.unwrap_or-index.ensures ∙ ap (λ o. unwrap_or o 255) c.copied.ensures)).1 c.if-index.false).1

pub returns-else-index : goal.returns-else-index
returns-else-index c =
    let lookup = rw c.row.ensures.rows at c.get.ensures.lookup in
    let row = (row_is c.args.system c.args.id c.get.result c.ranges.id.fits lookup.0 lookup.1 _ (c.unwrap_or-index.ensures ∙ ap (λ o. unwrap_or o 255) c.copied.ensures)).1 c.if-index.false in
    ap (option_map (λ i. record { system = c.args.system; index = i })) row.0

pub returns-then-index : goal.returns-then-index
returns-then-index c =
    let lookup = rw c.row.ensures.rows at c.get.ensures.lookup in
    let none = (row_is c.args.system c.args.id c.get.result c.ranges.id.fits lookup.0 lookup.1 _ (c.unwrap_or-index.ensures ∙ ap (λ o. unwrap_or o 255) c.copied.ensures)).0 c.if-index.true in
    ap (option_map (λ i. record { system = c.args.system; index = i })) (sym none)
