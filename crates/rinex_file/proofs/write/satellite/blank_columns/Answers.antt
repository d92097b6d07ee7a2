use Rattle.rinex_file.proofs.Rows.Columns.{is_signal, few_without, less_without, apart_without, value_blanked}
use Rattle.rinex_file.proofs.Names.{bit_at, trailing_zeros, w64, bit_at-trailing_zeros, arith, ◌≡◌, ◌∙◌, ◌<◌, ◌^◌, ℕ}
use Rattle.rinex_file.proofs.write.satellite.blank_columns.Goals as goal

is_left : (left : ℕ) → (left ≡ 0 → ⊥) → left < 2 ^ 64 → bit_at left (trailing_zeros w64 left) ≡ 1
is_left left some fits = (bit_at-trailing_zeros w64 left (omega (arith, some)) fits).1

pub put_columns-requires-clause-few : goal.put_columns-requires-clause-few
put_columns-requires-clause-few c =
    let left = c.loop-left.left in
    is_signal left (trailing_zeros w64 left) c.loop-left.invariant.few (is_left left c.loop-left-test.true (omega arith))

pub loop-left-smaller : goal.loop-left-smaller
loop-left-smaller c = grind (arith, c.loop-left-test.true, c.loop-left.invariant.few, is_left, is_signal, less_without)

pub loop-left-preserved : goal.loop-left-preserved
loop-left-preserved c =
    let left = c.loop-left.left in
    let inv = c.loop-left.invariant in
    record {
      columns = λ own values apart h. value_blanked (is_left left c.loop-left-test.true (omega arith)) (inv.apart own apart) c.put_columns.ensures.columns (inv.columns own values apart h);
      apart = λ own h. apart_without left _ own (inv.apart own h);
      front = c.put_columns.ensures.front ∙ inv.front;
      few = few_without left _ inv.few;
    }
