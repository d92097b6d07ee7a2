use Rattle.rinex_file.proofs.Fields.Lanes.{below_at, ordered, ordered_below, size_is, size_l, twos_below}
use Rattle.rinex_file.proofs.Names.{arith, ◌≡◌, ◌∙◌, ap, subst, sym, ◌+◌, ◌*◌, ◌<◌, ◌^◌, ℕ, get_or, AreBelow, twos_of, common_steps}
use Rattle.rinex_file.proofs.read.fields.size_of.Goals.{After-twos, After-fours, After-eights}
use Rattle.rinex_file.proofs.read.fields.size_of.Goals as goal

pub twos-requires : goal.twos-requires
twos-requires c = ordered_below c.args.digits c.fits-digits.0 c.requires

-- each two numbers are below the square of their base
hundreds : (c : After-twos) → AreBelow 100 c.twos.result
hundreds c = subst (AreBelow 100) (sym c.twos.ensures) (twos_below 10 100 (λ a b h k. omega (arith, h, k)) (ordered c.args.digits) (ordered_below c.args.digits c.fits-digits.0 c.requires))

thousands : (c : After-fours) → AreBelow 10_000 c.fours.result
thousands c = subst (AreBelow 10_000) (sym c.fours.ensures) (twos_below 100 10_000 (λ a b h k. omega (arith, h, k)) c.twos.result (hundreds c.before))

halves : (c : After-eights) (i : ℕ) → get_or c.eights.result i 0 < 10 ^ 8
halves c i = grind (arith, common_steps, below_at, twos_below, thousands)

pub fours-requires : goal.fours-requires
fours-requires c = hundreds ((goal.at.fours-requires c).After-twos)

pub eights-requires : goal.eights-requires
eights-requires c = thousands ((goal.at.eights-requires c).After-fours)

pub overflow_mul-result : goal.overflow_mul-result
overflow_mul-result c = let high = halves ((goal.at.overflow_mul-result c).After-eights) 0 in omega (arith, high)

pub overflow_add-result : goal.overflow_add-result
overflow_add-result c = grind (arith, halves)

sum : (c : After-eights) → get_or c.eights.result 0 0 * 100_000_000 + get_or c.eights.result 1 0 ≡ size_l c.args.digits
sum c = ap (λ es. get_or es 0 0 * 100_000_000 + get_or es 1 0) (c.eights.ensures ∙ ap (twos_of 10_000) (c.fours.ensures ∙ ap (twos_of 100) c.twos.ensures))

pub returns-clause-digits : goal.returns-clause-digits
returns-clause-digits c = (size_is c.args.digits c.fits-digits.0 c.requires _ (sum ((goal.at.returns-clause-digits c).After-eights))).0

pub returns-clause-bound : goal.returns-clause-bound
returns-clause-bound c = (size_is c.args.digits c.fits-digits.0 c.requires _ (sum ((goal.at.returns-clause-bound c).After-eights))).1
