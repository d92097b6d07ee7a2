use Rattle.devices.proofs.Names.{◌≡◌, false, sym, ap, ◌∙◌, rules, append_known-grown, Keeps-refl}
use Rattle.devices.proofs.BufferLemmas.{one_more}
use Rattle.rtcm_bits.proofs.ListLaws.{when_ok}
use Rattle.devices.proofs.buffered.BufferedWrite.write.Goals.{then-self+in_ok-write_out, else-self+else-len-eq-BUFFER_BYTES}
use Rattle.devices.proofs.buffered.BufferedWrite.write.Goals as goal

pub returns-clause-bytes : goal.returns-clause-bytes
returns-clause-bytes g c =
    let held = c.if-self in
    let device = ap (λ v. v.device) c.self-2.view_is in
    let fine : held.self.has_failed ≡ false = elim held.branch [
      | then-self+in_ok-write_out w ↦ ap (λ v. v.has_failed) w.self-is ∙ w.in_ok-write_out.ensures.stays.fine
      | else-self+else-len-eq-BUFFER_BYTES w ↦ ap (λ v. v.has_failed) w.self-is ∙ ap (λ v. v.has_failed) (sym c.self.view_is) ∙ w.if-self.false
    ] in
    let none : c.self-2.inside.sent ≡ 0 = search rules in
    append_known-grown _ _ held.self.waiting _ _ (rw device (elim held.branch [
      | then-self+in_ok-write_out w ↦ rw w.self-is w.write_out.ensures.bytes
      | else-self+else-len-eq-BUFFER_BYTES w ↦ rw w.self-is (Keeps-refl _)
    ])) (one_more _ _ _ _ _ none (ap (λ v. v.waiting) (sym c.self-2.view_is)) (when_ok _ c.unwrap.ensures c.extend_from_slice.ensures.items))
