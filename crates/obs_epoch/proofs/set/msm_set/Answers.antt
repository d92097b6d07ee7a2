use Rattle.obs_epoch.proofs.Names.{rules, refl, is_tabulated, is_decoded}
use Rattle.obs_epoch.proofs.set.msm_set.Goals as goal

pub returns : goal.returns
returns c =
    let systems = is_tabulated c.each.result (is_decoded c.args.plan.now) (λ s. let given = c.each.ensures s in search rules) in
    rw systems refl
