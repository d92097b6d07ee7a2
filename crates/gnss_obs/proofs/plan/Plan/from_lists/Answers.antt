use Rattle.gnss_obs.proofs.Names.{sym, subst, map_by, IsOf, value_mapped}
use Rattle.gnss_obs.proofs.MadeLemmas.{memory_alone, plan_added}
use Rattle.gnss_obs.proofs.plan.Plan.from_lists.Goals as goal

pub returns-clause-cases : goal.returns-clause-cases
returns-clause-cases c = plan_added c.add_all-added.result _ c.add_all-added.new.lists c.with.result c.add_all-added.ensures c.with.ensures

pub returns-clause-planned : goal.returns-clause-planned
returns-clause-planned c = λ each some.
    memory_alone (map_by (λ l. l.now) c.args.signals.now) c.with.result (returns-clause-cases c) (λ s. subst (IsOf s) (sym (value_mapped s (λ l. l.now) c.args.signals.now)) (each s)) some
