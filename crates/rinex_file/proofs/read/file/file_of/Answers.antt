use Rattle.std.specs.Borrow.{Bor}
use Rattle.gnss_system.specs.declared.by_system.BySystem.{BySystem}
use Rattle.rinex_file.specs.declared.read.types.TypesSoFar.{TypesSoFar}
use Rattle.rinex_file.proofs.Names.{map_by, value_of, tabulated_same, value_mapped, Glonass, with_channels, plan_with, arith, common_steps, rules, ◌≡◌, ◌∙◌, [], ap, indices, no_channels, planned_of, subst, sym, ChannelsValue, Known, List, PlanValue, SignalAt, System, ℕ}
use Rattle.rinex_file.proofs.read.file.file_of.Goals as goal

abbrev made : BySystem (List ℕ) → ChannelsValue → PlanValue
made signals channels = record { signals = signals; channels = channels }

-- a plan has these channels, unless there are some without a signal of GLONASS
with_own : (p : PlanValue) (signals : BySystem (List ℕ)) (channels : ChannelsValue) → p.signals ≡ signals → (value_of Glonass signals ≡ [] → channels ≡ no_channels) → with_channels p channels ≡ made signals channels
with_own p signals channels e none = grind arith

-- the plan of what was read of the types and of the channels
plan_read : (types : BySystem TypesSoFar) (channels : ChannelsValue) {lists : BySystem (Bor (List SignalAt))} {plan : PlanValue} → plan ≡ plan_with (map_by indices (map_by (λ l. l.now) lists))
    → ((s : System) → (value_of s lists).now ≡ (value_of s types).signals) → (value_of Glonass (map_by (λ t. indices t.signals) types) ≡ [] → channels ≡ no_channels)
    → with_channels plan channels ≡ made (map_by (λ t. indices t.signals) types) channels
plan_read types channels {lists} {plan} is same none =
    with_own plan _ channels (ap (λ (p : PlanValue). p.signals) is ∙ tabulated_same _ _ (λ s. ap indices (value_mapped s (λ l. l.now) lists ∙ same s))) none

pub invariant_of-result : goal.invariant_of-result
invariant_of-result c =
    let none = subst (λ (k : Known). planned_of Glonass k.shown.plan ≡ [] → k.shown.plan.channels ≡ no_channels) (sym c.head.view_is) c.requires.value.plan.unplanned in
    let plan = c.with_channels.ensures ∙ plan_read c.head.inside.types c.head.inside.slots.channels {lists = c.each-lists.result} c.in-Ok.ensures.cases.value (λ s. let given = c.each-lists.ensures s in search rules) none in
    grind (arith, common_steps, plan)

pub returns : goal.returns
returns c =
    let none = subst (λ (k : Known). planned_of Glonass k.shown.plan ≡ [] → k.shown.plan.channels ≡ no_channels) (sym c.head.view_is) c.requires.value.plan.unplanned in
    let plan = c.with_channels.ensures ∙ plan_read c.head.inside.types c.head.inside.slots.channels {lists = c.each-lists.result} c.in-Ok.ensures.cases.value (λ s. let given = c.each-lists.ensures s in search rules) none in
    grind (arith, common_steps, plan)
