use Rattle.obs_epoch.proofs.Names.{◌≡◌, ◌∙◌, sym, ap, ap₂, subst, not, Bool, true, false, is_some, ChannelsValue, hertz_in, GatherSetup, time_in, Cell, lacks_channel, planned_of, heard_cell, kept_cell, place_in, GathererValue, hold, outcome_in, count_in, lli_with, both_ways}
use Rattle.obs_epoch.proofs.ValueLemmas.{gathered_of, held_is, open_is, outcome_is, planned_added, planned_is}
use Rattle.obs_epoch.proofs.gather.Gatherer.load_cell.Goals as goal

pub invariant_of-self : goal.invariant_of-self
invariant_of-self c =
    let m : Cell = kept_cell (heard_cell c.args.x) c.lli.result in
    let planned = subst (λ (v : GathererValue). is_some (place_in c.args.x.signal (planned_of c.args.x.satellite.system v.clock.setup.plan)) ≡ true) (sym c.self.view_is) c.requires.planned in
    let going : c.self.inside.clock.pending ≡ true = ap (λ (v : GathererValue). v.clock.pending) c.self.view_is ∙ c.requires.pending in
    record {
      planned = planned_added c.self.inside.clock.setup.plan c.self.inside.pending c.add.new.self m planned c.self.invariant.planned c.add.ensures;
      none = λ e. absurd (both_ways _ e going);
      empty = c.self.invariant.empty;
      closed = λ e. absurd (both_ways _ (c.self.invariant.closed e).0 going);
    }

pub returns-clause-step : goal.returns-clause-step
returns-clause-step c =
    let x = heard_cell c.args.x in
    let i = c.self.inside in
    let g : GathererValue = gathered_of i.clock i.pending i.closed i.values i.locks i.marks i.counts i.chosen i.just_closed i.has_ended in
    let planned = subst (λ (v : GathererValue). is_some (place_in c.args.x.signal (planned_of c.args.x.satellite.system v.clock.setup.plan)) ≡ true) (sym c.self.view_is) c.requires.planned in
    let going : i.clock.pending ≡ true = ap (λ (v : GathererValue). v.clock.pending) c.self.view_is ∙ c.requires.pending in
    let now = open_is i.clock i.pending i.closed going in
    let lli = c.lli.ensures.value ∙ ap₂ (λ t o. lli_with t x o) (c.requires.time ∙ ap (λ (v : GathererValue). time_in v.clock) (sym c.self.view_is) ∙ ap (λ e. e.time) (sym now)) c.latest.ensures in
    ap (λ e. record g { epoch = e }) (open_is i.clock c.add.new.self i.closed going)
    ∙ held_is g x now (planned_is g.clock.setup x c.requires.observed.key planned) lli c.add.ensures ∙ ap (λ v. hold v x) c.self.view_is

turned : (a b : Bool) → not a ≡ b → a ≡ not b
turned true b e = ap not e
turned false b e = ap not e

pub returns-clause-counts : goal.returns-clause-counts
returns-clause-counts c =
    let x = heard_cell c.args.x in
    let i = c.self.inside in
    let g : GathererValue = gathered_of i.clock i.pending i.closed i.values i.locks i.marks i.counts i.chosen i.just_closed i.has_ended in
    let planned = subst (λ (v : GathererValue). is_some (place_in c.args.x.signal (planned_of c.args.x.satellite.system v.clock.setup.plan)) ≡ true) (sym c.self.view_is) c.requires.planned in
    let going : i.clock.pending ≡ true = ap (λ (v : GathererValue). v.clock.pending) c.self.view_is ∙ c.requires.pending in
    let lacks : c.is_none.result ≡ lacks_channel c.args.self.now.clock.setup x =
    turned c.is_none.result _ (sym c.is_none.ensures ∙ ap is_some (c.hertz-carrier.ensures.value
    ∙ ap (λ (channels : ChannelsValue). hertz_in channels x.satellite x.signal) (c.channels.ensures ∙ ap (λ (s : GatherSetup). s.plan.channels) (c.setup.ensures ∙ ap (λ (v : GathererValue). v.clock.setup) c.self.view_is)))) in
    c.add-2.ensures
    ∙ ap₂ (λ b o. count_in b o c.args.n.now) lacks
    (outcome_is g x c.lli.result (open_is i.clock i.pending i.closed going) (planned_is g.clock.setup x c.requires.observed.key planned) c.add.ensures ∙ ap (λ v. outcome_in v x) c.self.view_is)
