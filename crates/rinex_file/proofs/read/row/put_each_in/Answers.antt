use Rattle.rinex_file.proofs.Rows.Written.{signals_more, some_more}
use Rattle.rinex_file.proofs.Rows.Cut.{filled_part, all_read}
use Rattle.rinex_file.proofs.OneReading.{signal_at}
use Rattle.rinex_file.proofs.Names.{arith, ◌≡◌, ◌∙◌, sym, subst, ◌+◌, ◌*◌, ◌<◌, take, length, [], ◌∷◌, ◌++◌, All, slice_set, ap, get_or, get_or-set_same, drop, take_more_set, All-push, AreSignalValues, has_some_value, filled_to, no_signal_values}
use Rattle.rinex_file.proofs.read.row.put_each_in.Goals as goal

pub loop-i-preserved : goal.loop-i-preserved
loop-i-preserved c =
    let i = c.loop-i.i in
    let n = length c.args.values.now in
    let text = c.args.text.now in
    let old = c.loop-i.values in
    let entry = c.in-Some.entry in
    let new = take (i + 1) (slice_set old i entry) in
    let less : i < length old = omega (arith, c.loop-i-test.true, c.loop-i.auto.values) in
    let pushed : new ≡ take i old ++ entry ∷ [] = take_more_set old i entry less in
    record {
      each = subst (All AreSignalValues) (sym pushed) (All-push AreSignalValues (take i old) entry c.loop-i.invariant.each c.in-Some.ensures.0);
      some = some_more (take i old) new entry c.loop-i.some c.has_value-some.result pushed c.loop-i.invariant.some
          (c.has_value-some.ensures ∙ ap has_some_value (get_or-set_same old i entry c.index-values-i.result less));
      text = signals_more (filled_to (64 * n) text) i (take i old) entry pushed c.loop-i.invariant.text
          (filled_part (64 * n) (64 * i) text (omega (arith, c.loop-i-test.true)) c.requires.room ∙ c.in-Some.ensures.1);
    }

pub returns-in_default-clause-read : goal.returns-in_default-clause-read
returns-in_default-clause-read c = λ es are shows.
    let n = length c.args.values.now in
    let i = c.loop-i.i in
    let text = c.args.text.now in
    let (is, at) = signal_at es i are.each (omega (arith, c.loop-i-test.true, are.whole)) in
    c.in_default.ensures (get_or es i no_signal_values) is
    (sym (filled_part (64 * n) (64 * i) text (omega (arith, c.loop-i-test.true)) c.requires.room) ∙ ap (λ t. take 64 (drop (64 * i) t)) shows ∙ at)

pub returns-clause-read : goal.returns-clause-read
returns-clause-read c = grind (arith, c.loop-i-test.false, c.requires.room, c.loop-i.invariant.each, c.loop-i.invariant.some, c.loop-i.invariant.text, all_read)
