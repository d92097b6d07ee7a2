use Rattle.rtcm_msg.proofs.Names.{Err, sym, subst, ◌≤◌, ◌≡◌, ◌+◌, ◌-◌, ◌∷◌, ◌++◌, ◌∙◌, [], ℕ, List, length, map, arith, ap, suc, append_assoc, map-append, err_from_is_err_and, AreShort, texts_at, All-push}
use Rattle.rtcm_msg.proofs.EquipmentLaws.{followed, none_more, one_more}
use Rattle.rtcm_msg.proofs.equipment.add_texts.Goals as goal

pub loop-preserved : goal.loop-preserved
loop-preserved c =
    let (done, items, read, size, few, near, short) = c.loop.invariant in
    let t = c.in_ok-text.text.now in
    let bytes = c.args.bytes.now in
    let left : c.args.count - c.loop.counter ≡ suc (c.args.count - (c.loop.counter + 1)) = omega (arith, c.loop-test.true) in (
      done ++ t ∷ [],
      ap (map (λ t. t.now)) c.push.ensures.items ∙ map-append (λ t. t.now) c.loop.texts.items (c.in_ok-text.text ∷ []) ∙ ap (λ (l : List (List ℕ)). l ++ t ∷ []) items ∙ append_assoc _ done (t ∷ []),
      read ∙ ap (λ (n : ℕ). followed done (texts_at bytes c.loop.at n)) left ∙ one_more bytes c.loop.at _ t done c.in_ok-text.ensures.text,
      omega (arith, c.push.ensures.len, size),
      omega (arith, c.loop-test.true),
      omega (arith, near, c.in_ok-text.ensures.short),
      λ all. subst AreShort (sym c.push.ensures.items) (All-push (λ t. length t.now ≤ 31) c.loop.texts.items c.in_ok-text.text (short all) c.in_ok-text.ensures.short),
    )

pub returns-in_err-text-clause-refused : goal.returns-in_err-text-clause-refused
returns-in_err-text-clause-refused c =
    let (done, items, read, size, few, near, short) = c.loop.invariant in
    let bytes = c.args.bytes.now in
    let f = c.in_err-text.field-0.0 in
    let left : c.args.count - c.loop.counter ≡ suc (c.args.count - (c.loop.counter + 1)) = omega (arith, c.loop-test.true) in
    let refused : texts_at bytes c.args.at c.args.count ≡ Err f =
    read ∙ ap (λ (n : ℕ). followed done (texts_at bytes c.loop.at n)) left ∙ none_more bytes c.loop.at _ f done c.in_err-text.ensures.refused in
    let p = err_from_is_err_and c.from_residual.result c.from_residual.ensures.1 in
    rw (p.1, p.2) refused
