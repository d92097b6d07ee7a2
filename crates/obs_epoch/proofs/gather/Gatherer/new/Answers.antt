use Rattle.obs_epoch.proofs.Names.{length, refl, sym, ap, subst, rules, ◌∙◌, Closed, EpochValue, cells_of, HasPlannedCells, GatherSetup}
use Rattle.obs_epoch.proofs.MarksLemmas.{none_marked}
use Rattle.obs_epoch.proofs.OneStepLemmas.{none_locked}
use Rattle.obs_epoch.proofs.ValueLemmas.{none_planned, shut_is}
use Rattle.obs_epoch.proofs.gather.Gatherer.new.Goals as goal

pub invariant_of-result : goal.invariant_of-result
invariant_of-result c = record {
  planned = subst (HasPlannedCells c.new.result.setup.plan) (sym c.in-Ok.ensures.new.pending) (none_planned c.new.result.setup.plan);
  none = λ e. c.in-Ok.ensures.new.pending;
  empty = λ e. ap (λ (l : Closed). l.epoch.cells) c.in-Ok.ensures.new.closed;
  closed = λ e. cc;
}

pub returns-in-Ok-clause-history : goal.returns-in-Ok-clause-history
returns-in-Ok-clause-history c =
    let epoch = shut_is c.new.result c.in-Ok.parts.pending c.in-Ok.parts.closed c.new.ensures.pending ∙ ap (λ (e : Closed). e.epoch) c.in-Ok.ensures.new.closed in
    record {
      standing = record {
        clock = c.new.ensures;
        epoch = λ _. epoch;
        sizes = λ system. ap (λ (e : EpochValue). length (cells_of system e)) epoch;
        locks = none_locked _ _ c.in-Ok.ensures.new.locks;
        values = refl;
      };
      returned = refl;
      epochs = λ e. refl;
      first = search rules;
      fits = tt;
      plan = ap (λ (s : GatherSetup). s.plan) c.new.ensures.setup;
      marks = none_marked _ c.in-Ok.ensures.new.marks;
      counts = λ i. record { epochs = c.default.ensures.0 i; window = c.default.ensures.1.0 i; grid = c.default.ensures.1.1 i };
    }
