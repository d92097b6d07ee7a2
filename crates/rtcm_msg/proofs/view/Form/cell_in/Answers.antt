use Rattle.rtcm_msg.proofs.Names.{ℕ, ◌+◌, ◌*◌, ◌==◌, ◌∙◌, [], ◌∷◌, arith, ap, sym, rules, w16, w32, w64, lit≤, to_z-of_z, bits_of, AreLast, precision}
use Rattle.rtcm_msg.proofs.ContentLaws.{first_ends, cell_read}
use Rattle.rtcm_msg.proofs.SignedLaws.{narrower}
use Rattle.rtcm_msg.proofs.view.Form.cell_in.Goals as goal

pub returns-then-is_fine : goal.returns-then-is_fine
returns-then-is_fine c =
    let b = c.args.cells.now in
    let fine = ap precision (sym c.is_fine.ensures ∙ c.if-is_fine.true) in
    let ends : AreLast (20 ∷ 24 ∷ 10 ∷ 1 ∷ 10 ∷ []) b = first_ends c.args.self b fine c.requires.last in
    cell_read c.args.self _ b.count (bits_of c.args.bytes.now) b.place c.args.i fine
    (narrower w64 w32 c.signed_to.result (search rules) (lit≤ tt) ∙ c.signed_to.ensures.value b.place ends.0)
    (narrower w64 w32 c.signed_to-then-is_fine.result (search rules) (lit≤ tt) ∙ c.signed_to-then-is_fine.ensures.value (b.place + b.count * 20) ends.1.0)
    (c.short_to.ensures.value (b.place + b.count * 44) (omega (arith, ends.1.1.0)))
    (ap (λ (n : ℕ). n == 1) (c.short_to-then-is_fine.ensures.value (b.place + b.count * 54) (omega (arith, ends.1.1.1.0))))
    (c.short_to-then-is_fine-2.ensures.value (b.place + b.count * 55) (omega (arith, ends.1.1.1.1.0)))
    (to_z-of_z w16 c.rate_in.result (search rules) ∙ c.rate_in.ensures)

pub returns-else-is_fine : goal.returns-else-is_fine
returns-else-is_fine c =
    let b = c.args.cells.now in
    let fine = ap precision (sym c.is_fine.ensures ∙ c.if-is_fine.false) in
    let ends : AreLast (15 ∷ 22 ∷ 4 ∷ 1 ∷ 6 ∷ []) b = first_ends c.args.self b fine c.requires.last in
    cell_read c.args.self _ b.count (bits_of c.args.bytes.now) b.place c.args.i fine
    (narrower w64 w32 c.signed_to-else-is_fine.result (search rules) (lit≤ tt) ∙ c.signed_to-else-is_fine.ensures.value b.place ends.0)
    (narrower w64 w32 c.signed_to-else-is_fine-2.result (search rules) (lit≤ tt) ∙ c.signed_to-else-is_fine-2.ensures.value (b.place + b.count * 15) ends.1.0)
    (c.short_to-else-is_fine.ensures.value (b.place + b.count * 37) (omega (arith, ends.1.1.0)))
    (ap (λ (n : ℕ). n == 1) (c.short_to-else-is_fine-2.ensures.value (b.place + b.count * 41) (omega (arith, ends.1.1.1.0))))
    (c.short_to-else-is_fine-3.ensures.value (b.place + b.count * 42) (omega (arith, ends.1.1.1.1.0)))
    (to_z-of_z w16 c.rate_in-else-is_fine.result (search rules) ∙ c.rate_in-else-is_fine.ensures)
