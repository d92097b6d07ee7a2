use Rattle.gnss_obs.proofs.Names.{◌∙◌, sym, ap, subst, rules, indices, IsOf}
use Rattle.gnss_obs.proofs.PlanLaws.{none_of, index_added}
use Rattle.gnss_obs.proofs.plan.add_every.Goals as goal

pub loop-index-init : goal.loop-index-init
loop-index-init c = (ap indices (sym c.requires), subst (IsOf c.args.system) (sym c.requires) (none_of c.args.system))

pub loop-index-preserved : goal.loop-index-preserved
loop-index-preserved c =
    index_added c.loop-index.index c.add.result (search rules)
    c.loop-index.invariant.0 c.loop-index.invariant.1 (sym c.from_index.ensures ∙ c.unwrap-signal.ensures) c.add.ensures.new c.add.ensures.old
