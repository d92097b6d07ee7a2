use Rattle.rtcm_command.proofs.Names.{name_of, map_by, HasSignal, plan_of, IsDefined, ◌∙◌, ℕ, List, rules, subst, options_of, plan_set, text_set}
use Rattle.gnss_system.specs.declared.by_system.BySystem.{BySystem}
use Rattle.gnss_system.proofs.SystemLaws.{is_tabulated, value_mapped}
use Rattle.rtcm_command.proofs.options.plan_of.Goals as goal

pub returns : goal.returns
unfolding plan_set
returns c =
    let options = options_of c.args.options.now in
    let texts = is_tabulated (map_by (λ t. t.now) c.each-lists.result) (λ s. text_set options (name_of s))
    (λ s. value_mapped s (λ t. t.now) c.each-lists.result ∙ (let given = c.each-lists.ensures s in search rules)) in
    subst (λ (t : BySystem (List ℕ)). IsDefined (HasSignal t) (plan_of t) c.parse_all.result) texts c.parse_all.ensures
