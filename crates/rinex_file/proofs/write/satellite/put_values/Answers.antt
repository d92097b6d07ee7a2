use Rattle.rinex_file.proofs.Rows.Cells.{signal_after}
use Rattle.rinex_file.proofs.Writing.Stored.{one_more}
use Rattle.rinex_file.proofs.Names.{arith, ◌≡◌, ◌∙◌, refl, ap, ◌∷◌, ◌++◌, length, take, take_all, letter, number_of, padded, satellite_line, signal_text, most_line}
use Rattle.rinex_file.proofs.write.satellite.put_values.Goals as goal

pub loop-value-preserved : goal.loop-value-preserved
loop-value-preserved c =
    let inv = c.loop-value.invariant in
    let text = c.put_signal.ensures.text ∙ ap signal_text c.value.view_is in
    let less = c.loop-value-test.true in
    let size : length c.put_signal.new.columns ≡ 64 = c.put_signal.ensures.size in
    let room : length c.loop-value.row ≡ most_line = omega arith in
    record {
      shown = one_more signal_text c.args.values.now c.loop-value.value-index (letter c.args.system ∷ padded 2 (number_of c.args.system c.args.id)) less c.value-item.is inv.shown
          (signal_after c.loop-value.row c.put_signal.new.columns c.loop-value.size size (omega arith) (omega (arith, less, inv.size, room, c.requires.few)) refl refl ∙ ap (λ t. take c.loop-value.size c.loop-value.row ++ t) text);
      size = omega (arith, inv.size);
    }

pub returns-clause-text : goal.returns-clause-text
unfolding satellite_line
returns-clause-text c = grind (arith, c.end_columns.ensures.text, c.loop-value.invariant.shown, c.loop-value-test.false, take_all)
