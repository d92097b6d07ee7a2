-- Each failed test gives the fault with which reading field by field ends (HeadLaws), for either form and system.
use Rattle.rtcm_msg.proofs.Names.{ℕ, ◌≡◌, ◌+◌, ◌*◌, ◌≤◌, ◌∙◌, Bool, length, count_ones, sym, ap, arith, inl, inr, err_from_is_err_and, System, is_time}
use Rattle.rtcm_msg.proofs.HeadLaws.{time_missing, time_late, head_missing, header_whole, masks_many, cells_missing, masks_whole}
use Rattle.rtcm_msg.proofs.ViewLaws.{no_header, no_masks}
use Rattle.rtcm_msg.proofs.header.read_head.Goals as goal

-- The test of the time, by the bits.
tested : (g : System) (t u : ℕ) (b d : Bool) → t ≡ u → b ≡ is_time g t → b ≡ d → is_time g u ≡ d
tested g t u b d e f h = ap (is_time g) (sym e) ∙ (sym f ∙ h)

pub returns-in_err-end_of_fields-clause-fault : goal.returns-in_err-end_of_fields-clause-fault
returns-in_err-end_of_fields-clause-fault c =
    let p = err_from_is_err_and c.from_residual.result c.from_residual.ensures.1 in
    rw (p.1, p.2) (λ form. no_header form c.args.system _ _ (time_missing c.args.bytes.now c.args.system _ c.requires.there c.in_err-end_of_fields.ensures.exact))

pub returns-then-not-is_time-clause-fault : goal.returns-then-not-is_time-clause-fault
returns-then-not-is_time-clause-fault c =
    λ form. no_header form c.args.system _ _ (time_late c.args.bytes.now c.args.system (omega (arith, c.in_ok-end_of_fields.ensures.end, c.in_ok-end_of_fields.ensures.within)) (tested c.args.system _ _ _ _ c.number_at-time.ensures.value c.is_time.ensures c.if-not-is_time.true))

pub returns-in_err-end_of_fields-2-clause-fault : goal.returns-in_err-end_of_fields-2-clause-fault
returns-in_err-end_of_fields-2-clause-fault c =
    let p = err_from_is_err_and c.from_residual-in_err-end_of_fields-2.result c.from_residual-in_err-end_of_fields-2.ensures.1 in
    rw (p.1, p.2)
    (λ form. elim (head_missing c.args.bytes.now c.args.system _ (omega (arith, c.in_ok-end_of_fields.ensures.end, c.in_ok-end_of_fields.ensures.within)) (tested c.args.system _ _ _ _ c.number_at-time.ensures.value c.is_time.ensures c.if-not-is_time.false) c.in_err-end_of_fields-2.ensures.exact) [
      | inl first ↦ no_header form c.args.system _ _ first
      | inr second ↦ no_masks form c.args.system _ _ _ _ second.0 second.1
    ])

pub returns-then-pairs-gt-MOST_CELL_MASK_BITS-clause-fault : goal.returns-then-pairs-gt-MOST_CELL_MASK_BITS-clause-fault
returns-then-pairs-gt-MOST_CELL_MASK_BITS-clause-fault c =
    let there : 169 ≤ 8 * length c.args.bytes.now = omega (arith, c.in_ok-end_of_fields-2.ensures.end, c.in_ok-end_of_fields-2.ensures.within) in
    λ form. no_masks form c.args.system _ _ _ _ (header_whole c.args.bytes.now c.args.system (omega (arith, there)) (tested c.args.system _ _ _ _ c.number_at-time.ensures.value c.is_time.ensures c.if-not-is_time.false))
    (masks_many c.args.bytes.now there (rw (c.number_at-satellites.ensures.value, c.number_at-signals.ensures.value) at c.if-pairs-gt-MOST_CELL_MASK_BITS.true))

pub returns-in_err-end-clause-fault : goal.returns-in_err-end-clause-fault
returns-in_err-end-clause-fault c =
    let p = err_from_is_err_and c.from_residual-in_err-end.result c.from_residual-in_err-end.ensures.1 in
    let there : 169 ≤ 8 * length c.args.bytes.now = omega (arith, c.in_ok-end_of_fields-2.ensures.end, c.in_ok-end_of_fields-2.ensures.within) in
    rw (p.1, p.2)
    (λ form. no_masks form c.args.system _ _ _ _ (header_whole c.args.bytes.now c.args.system (omega (arith, there)) (tested c.args.system _ _ _ _ c.number_at-time.ensures.value c.is_time.ensures c.if-not-is_time.false))
    (cells_missing c.args.bytes.now _ there (rw (c.number_at-satellites.ensures.value, c.number_at-signals.ensures.value) at c.if-pairs-gt-MOST_CELL_MASK_BITS.false)
    (rw (c.number_at-satellites.ensures.value, c.number_at-signals.ensures.value) at c.in_err-end.ensures.exact)))

pub returns-clause-read : goal.returns-clause-read
returns-clause-read c =
    let p = count_ones c.number_at-satellites.result * count_ones c.number_at-signals.result in
    let end : c.in_ok-end.end ≡ 169 + p = omega (arith, c.in_ok-end.ensures.end) in
    let room : 169 + p ≤ 8 * length c.args.bytes.now = rw (← end) c.in_ok-end.ensures.within.there in (
      rw (c.header_in.ensures.value, c.number_at-time.ensures.value) (header_whole c.args.bytes.now c.args.system (omega (arith, room)) (tested c.args.system _ _ _ _ c.number_at-time.ensures.value c.is_time.ensures c.if-not-is_time.false)),
      rw (end, c.number_at.ensures.value, c.number_at-satellites.ensures.value, c.number_at-signals.ensures.value)
          (masks_whole c.args.bytes.now (rw (c.number_at-satellites.ensures.value, c.number_at-signals.ensures.value) at c.if-pairs-gt-MOST_CELL_MASK_BITS.false) (rw (c.number_at-satellites.ensures.value, c.number_at-signals.ensures.value) at room)),
    )
