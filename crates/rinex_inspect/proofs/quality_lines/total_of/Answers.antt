use Rattle.rinex_inspect.proofs.Names.{◌≡◌, ◌∙◌, ℕ, Bool, cond, ap, ap₂, arith, length, has_values, Tally, plus, tally_at}
use mir.Val.{bool_byte}
use Rattle.rinex_inspect.proofs.QualityTexts.{counted, one_small}
use Rattle.rinex_inspect.proofs.SumLemmas.{total_more}
use Rattle.rinex_inspect.proofs.quality_lines.total_of.Goals as goal

byte : (b : Bool) → bool_byte b ≡ cond b 1 0
byte b = grind arith

pub loop-i-preserved : goal.loop-i-preserved
loop-i-preserved c =
    let inv = c.loop-i.invariant in
    let f : ℕ → Tally = tally_at c.args.records.now c.args.k in
    record {
      number = counted (λ (i : ℕ). has_values (f i)) c.loop-i.i inv.number (c.from-satellites.ensures ∙ byte c.has_values.result) (c.has_values.ensures ∙ ap has_values c.tally_at-tally.ensures);
      bound = let one = one_small c.has_values.result (c.from-satellites.ensures ∙ byte c.has_values.result) in omega (arith, inv.bound, one);
      total = c.plus-total.ensures ∙ ap₂ plus inv.total c.tally_at-tally.ensures ∙ total_more f c.loop-i.i (length c.args.records.now) c.loop-i-test.true c.requires.fits;
    }
