use Rattle.gnss_obs.proofs.Names.{◌≡◌, ◌∙◌, ap, slice_set, arith, marked_at, with_mark, common_steps}
use Rattle.gnss_obs.proofs.MarkLemmas.{mark_length, mark_set, mark_slots}
use Rattle.gnss_obs.proofs.cells.Cells.mark.Goals as goal

marked_is : (c : goal.After-self-1) → slice_set c.self.inside.list.items c.args.at (with_mark c.index-x.result.now) ≡ marked_at c.args.at c.self.inside.list.items
marked_is c = grind (arith, common_steps, mark_set)

pub invariant_of-self : goal.invariant_of-self
invariant_of-self c = grind (arith, common_steps, marked_is, mark_length, mark_slots)

pub returns : goal.returns
returns c = marked_is c ∙ ap (marked_at c.args.at) c.self.view_is
