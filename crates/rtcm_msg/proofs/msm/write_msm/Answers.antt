use Rattle.rtcm_msg.proofs.Names.{ℕ, List, Bool, ◌≡◌, ◌++◌, ◌∙◌, append_assoc, ap, field_bits}
use Rattle.rtcm_msg.proofs.WritingSteps.{field_bits-append}
use Rattle.rtcm_msg.proofs.msm.write_msm.Goals as goal

appended : (old d e : List Bool) {m s t : List Bool} (a b : List (ℕ × ℕ)) → m ≡ old ++ field_bits (a ++ b) → s ≡ m ++ d → t ≡ s ++ e → t ≡ old ++ (field_bits a ++ (field_bits b ++ (d ++ e)))
appended old d e a b x y z =
    rw (z, y, x, field_bits-append a b)
    (append_assoc (old ++ (field_bits a ++ field_bits b)) d e ∙ (append_assoc old (field_bits a ++ field_bits b) (d ++ e) ∙ ap (λ n. old ++ n) (append_assoc (field_bits a) (field_bits b) (d ++ e))))

pub returns-clause-bits : goal.returns-clause-bits
returns-clause-bits c =
    let h = rw (c.number.ensures.value, ← c.msm.view_is) at c.write_head.ensures.bits in
    let s = rw (c.widths.ensures.satellites, c.as_slice.ensures.value) at c.write_columns.ensures.bits in
    let t = rw (c.widths.ensures.cells, c.as_slice-2.ensures.value) at c.write_columns-2.ensures.bits in
    rw (← c.msm.view_is) (appended c.args.writer.now _ _ _ _ h s t)
