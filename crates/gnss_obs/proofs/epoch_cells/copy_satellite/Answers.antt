use Rattle.gnss_obs.proofs.Names.{◌+◌, ◌*◌, ◌∙◌, sym, ap, arith, subst, get_or, is_some, map, AreBelow, has_slot, indices, slot}
use Rattle.gnss_obs.proofs.SortLemmas.{entries_end, entry_found, entry_none}
use Rattle.gnss_obs.proofs.epoch_cells.copy_satellite.Goals.{in-Some, in_default}
use Rattle.gnss_obs.proofs.epoch_cells.copy_satellite.Goals as goal

pub push-requires : goal.push-requires
push-requires c =
    let found = c.in-Some.ensures.found in
    let next = entry_found c.args.id c.in-Some.at (record { plan = c.requires.signals; kept = c.requires.kept; planned = c.requires.planned }) (record { less = c.loop-i-test.true; is = c.index-signals-i.is; listed = c.index.ensures.listed })
    (found.0, λ d. found.1 d ∙ ap (λ n. 32 * c.args.id + n) c.index.ensures.value)
    (c.index-as_slice-at.is ∙ ap (λ l. get_or l c.in-Some.at c.index-as_slice-at.result) c.as_slice.ensures.cells) c.loop-i.invariant in
    omega (arith, next.0, c.requires.kept.held.few)

pub loop-i-preserved : goal.loop-i-preserved
loop-i-preserved c = elim c.match-find.branch [
  | in-Some w ↦
      let found = w.in-Some.ensures.found in
      subst (AreBelow (indices c.args.signals.now) (64 * c.args.id + (c.loop-i.i + 1)) c.args.cells.now) (sym (w.sorted-is ∙ w.push.ensures))
      (entry_found c.args.id w.in-Some.at (record { plan = c.requires.signals; kept = c.requires.kept; planned = c.requires.planned }) (record { less = c.loop-i-test.true; is = c.index-signals-i.is; listed = c.index.ensures.listed })
      (found.0, λ d. found.1 d ∙ ap (λ n. 32 * c.args.id + n) c.index.ensures.value)
      (w.index-as_slice-at.is ∙ ap (λ l. get_or l w.in-Some.at w.index-as_slice-at.result) w.as_slice.ensures.cells) c.loop-i.invariant).1
  | in_default w ↦
      subst (AreBelow (indices c.args.signals.now) (64 * c.args.id + (c.loop-i.i + 1)) c.args.cells.now) (sym w.sorted-is)
      (entry_none c.args.id (record { plan = c.requires.signals; kept = c.requires.kept; planned = c.requires.planned }) (record { less = c.loop-i-test.true; is = c.index-signals-i.is; listed = c.index.ensures.listed })
      (ap (λ n. has_slot (32 * c.args.id + n) (map slot c.args.cells.now)) (sym c.index.ensures.value) ∙ sym c.find.ensures.any ∙ ap is_some w.in_default.is) c.loop-i.invariant)
]

pub returns : goal.returns
returns c =
    entries_end c.args.id (record { plan = c.requires.signals; kept = c.requires.kept; planned = c.requires.planned }) (omega (arith, c.loop-i-test.false, c.loop-i.auto.i-end)) c.loop-i.invariant
