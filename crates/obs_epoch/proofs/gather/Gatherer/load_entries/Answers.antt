use Rattle.obs_epoch.proofs.Names.{◌≡◌, ◌∙◌, sym, ap, subst, arith, time_in, State, Loaded, load_entry}
use Rattle.obs_epoch.proofs.EntryLemmas.{OneMore, one_more}
use Rattle.obs_epoch.proofs.gather.Gatherer.load_entries.Goals as goal

pub loop-entry-preserved : goal.loop-entry-preserved
loop-entry-preserved g c =
    let before : Loaded = record { state = c.loop-entry.self; counts = c.loop-entry.n } in
    let after : Loaded = record { state = c.load_entry.new.self; counts = c.load_entry.new.n } in
    let step : after ≡ load_entry c.form_as-form.result c.system_as-system.result before c.in-Some.entry = c.load_entry.ensures.step in
    let more : OneMore before after = subst (OneMore before) (sym step) (one_more c.form_as-form.result c.system_as-system.result before c.in-Some.entry) in
    record {
      form = c.loop-entry.invariant.form;
      same = grind (arith, step, c.in-Some.ensures.some, c.loop-entry.invariant.form, c.loop-entry.invariant.same);
      pending = ap (λ (k : State). k.pending) more.clock ∙ c.loop-entry.invariant.pending;
      time = c.loop-entry.invariant.time ∙ ap time_in (sym more.clock);
      cells = c.next_in.ensures.same ∙ c.loop-entry.invariant.cells;
      counted = grind (arith, more.one, c.in-Some.ensures.some, c.loop-entry.invariant.counted);
      less = more.less c.loop-entry.invariant.less;
    }
