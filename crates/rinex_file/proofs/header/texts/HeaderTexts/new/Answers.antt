use Rattle.rinex_file.proofs.HeaderRows.Texts.{fault_here, fine_here, one_stored, all_cut}
use Rattle.rinex_file.proofs.Names.{arith, ◌∙◌, sym, ap, refl, Err, result_err, err_from_is_err_and, fault_of, lists_of}
use Rattle.rinex_file.proofs.header.texts.HeaderTexts.new.Goals as goal

pub loop-field-preserved : goal.loop-field-preserved
loop-field-preserved c =
    let t = lists_of c.args.texts.now in
    let i = c.loop-field.field-index in
    let text = c.as_bytes.ensures.value ∙ c.of.ensures in
    let stored = one_stored t c.loop-field.taken _ c.loop-field-test.true c.loop-field.invariant.count c.loop-field.invariant.cut text c.in_ok-set.ensures.value in
    record {
      faultless = c.loop-field.invariant.faultless ∙ fine_here t i _ c.loop-field-test.true (sym (c.in_ok-set.ensures.fault ∙ ap (fault_of _) text));
      cut = stored.0;
      count = stored.1;
    }

pub returns-in_err-set-clause-fault : goal.returns-in_err-set-clause-fault
returns-in_err-set-clause-fault c =
    let p = err_from_is_err_and c.from_residual.result c.from_residual.ensures.1 in
    let text = c.as_bytes.ensures.value ∙ c.of.ensures in
    ap result_err (p.1 ∙ ap Err p.2)
    ∙ sym (c.loop-field.invariant.faultless ∙ fault_here (lists_of c.args.texts.now) c.loop-field.field-index _ c.loop-field-test.true _ (sym (c.in_err-set.ensures.fault ∙ ap (fault_of _) text)))

pub returns-clause-texts : goal.returns-clause-texts
returns-clause-texts c =
    let far = c.loop-field-test.false in
    all_cut (lists_of c.args.texts.now) c.loop-field.taken refl c.are_texts.ensures.count (λ j less. c.loop-field.invariant.cut j (omega (arith, less, far)))
