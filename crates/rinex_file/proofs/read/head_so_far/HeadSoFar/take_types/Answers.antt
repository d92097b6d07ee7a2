use Rattle.rinex_file.proofs.HeaderRows.Steps.{types_labelled}
use Rattle.rinex_file.proofs.Names.{each_after, ◌≡◌, ◌∙◌, sym, ap, true, false, is_of_types, ◌≤◌, length, table, IsOf, has_label}
use Rattle.rinex_file.proofs.read.head_so_far.HeadSoFar.take_types.Goals as goal

pub invariant_of-self : goal.invariant_of-self
invariant_of-self c =
    let held = c.self.invariant in (
      held.0,
      held.1,
      each_after (λ s types. IsOf s types.signals × (types.count ≤ length (table s))) c.args.system c.self.inside.types c.take.new.self held.2
          (c.take.ensures.signals, c.take.ensures.few),
      held.3,
    )

pub returns-then-not-has_label-clause-bad : goal.returns-then-not-has_label-clause-bad
returns-then-not-has_label-clause-bad c = λ bad all l. let e : true ≡ false = sym (types_labelled c.args.system all c.args.row) ∙ ap is_of_types (sym l.is) ∙ ap (λ t. has_label t c.args.line.now) (sym c.label.ensures.value) ∙ sym c.has_label.ensures ∙ c.if-not-has_label.true in cc
