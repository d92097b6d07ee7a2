use Rattle.gnss_obs.proofs.Names.{◌≡◌, ◌≤◌, ◌+◌, ◌*◌, sym, arith, subst, length, AreBelow, planned_of, satellites, HasSatellites, common_steps}
use Rattle.gnss_obs.proofs.SetLemmas.{AreSortedTo, all_sorted, few_satellites, lowest, lowest_bit, lowest_rises, lowest_sorted, none_sorted}
use Rattle.gnss_obs.proofs.SortLemmas.{few_planned}
use Rattle.gnss_obs.proofs.epoch_cells.sort_into.Goals as goal

pub loop-left-init : goal.loop-left-init
loop-left-init c =
    let planned = planned_of c.args.system c.args.plan.now in
    let set = c.satellites_of-left.result in
    subst (AreSortedTo (satellites c.args.system) planned c.args.cells.now set) (sym c.clear.ensures)
    (none_sorted (satellites c.args.system) planned c.args.cells.now set (omega arith) (subst (λ l. HasSatellites (satellites c.args.system) l set) c.as_slice.ensures.cells c.satellites_of-left.ensures))

pub copy_satellite-requires-clause-id : goal.copy_satellite-requires-clause-id
copy_satellite-requires-clause-id c = c.loop-left.invariant.listed (lowest c.loop-left.left) (lowest_bit c.loop-left.left (omega (arith, c.loop-left-test.true)) (omega arith)).1

pub loop-left-smaller : goal.loop-left-smaller
loop-left-smaller c = grind (arith, common_steps, lowest_bit, lowest_rises)

pub loop-left-preserved : goal.loop-left-preserved
loop-left-preserved c =
    let planned = planned_of c.args.system c.args.plan.now in
    let signals = c.of-signals in
    lowest_sorted (satellites c.args.system) planned c.args.cells.now c.loop-left.left (omega (arith, c.loop-left-test.true)) (omega arith)
    (subst (λ l. length l ≤ 64) signals.ensures.indices (few_planned c.args.system signals.result.now signals.ensures.system)) (few_satellites c.args.system) c.loop-left.invariant
    (subst (λ l. AreBelow l (64 * (lowest c.loop-left.left + 1)) c.args.cells.now c.copy_satellite.new.sorted) signals.ensures.indices c.copy_satellite.ensures)

pub returns : goal.returns
returns c =
    let planned = planned_of c.args.system c.args.plan.now in
    let signals = c.of-signals in
    let end : c.loop-left.left ≡ 0 = omega (arith, c.loop-left-test.false) in
    all_sorted (satellites c.args.system) planned c.args.cells.now c.loop-left.sorted (subst (λ l. length l ≤ 64) signals.ensures.indices (few_planned c.args.system signals.result.now signals.ensures.system))
    (subst (λ set. AreSortedTo (satellites c.args.system) planned c.args.cells.now set c.loop-left.sorted) end c.loop-left.invariant)
