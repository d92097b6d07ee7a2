use Rattle.rinex_file.proofs.HeaderRows.End.{begins, none_read, zero_time, zero_values}
use Rattle.rinex_file.proofs.Names.{at_some, value_of, value_mapped, arith, rules, ◌≡◌, ◌∙◌, [], ap, subst, sym, indices, AreStationValues, refl}
use Rattle.rinex_file.proofs.read.head_so_far.HeadSoFar.new.Goals as goal

pub returns : goal.returns
returns c =
    begins _ c.are_valid.ensures c.blank.ensures refl (λ s. value_mapped s (λ t. t.count) c.each.result ∙ (let given = c.each.ensures s in search rules))
    (λ s. value_mapped s (λ t. indices t.signals) c.each.result ∙ ap indices {y = []} (let given = c.each.ensures s in search rules))
    c.new.ensures.count c.new.ensures.channels

pub invariant_of-head : goal.invariant_of-head
invariant_of-head c = (
  subst AreStationValues (sym c.zero.ensures) zero_values,
  zero_time c.unwrap.result (at_some _ _ (λ t. t ≡ 0) c.unwrap.ensures c.new-2.ensures.value),
  λ s.
      let none : (value_of s c.each.result).count ≡ 0 = let given = c.each.ensures s in search rules in
      (none_read s (value_of s c.each.result).signals (let given = c.each.ensures s in search rules), omega (arith, none)),
  tt,
)
