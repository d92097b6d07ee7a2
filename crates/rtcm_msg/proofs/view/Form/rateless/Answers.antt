use Rattle.rtcm_msg.proofs.Names.{◌∙◌, true, false, sym, refl, rules, w32, w64, lit≤, div-one}
use Rattle.rtcm_msg.proofs.ContentLaws.{rateless_is}
use Rattle.rtcm_msg.proofs.SignedLaws.{narrower}
use Rattle.rtcm_msg.proofs.view.Form.rateless.Goals as goal

pub returns-then-is_fine : goal.returns-then-is_fine
returns-then-is_fine c =
    rateless_is _ true c.args.number _ (sym c.is_fine.ensures ∙ c.if-is_fine.true)
    (rw (narrower w64 w32 c.signed_of.result (search rules) (lit≤ tt), narrower w64 w32 c.signed_of-then-is_fine.result (search rules) (lit≤ tt), c.signed_of.ensures.value, c.signed_of-then-is_fine.ensures.value, div-one c.args.number) refl)

pub returns-else-is_fine : goal.returns-else-is_fine
returns-else-is_fine c =
    rateless_is _ false c.args.number _ (sym c.is_fine.ensures ∙ c.if-is_fine.false)
    (rw (narrower w64 w32 c.signed_of-else-is_fine.result (search rules) (lit≤ tt), narrower w64 w32 c.signed_of-else-is_fine-2.result (search rules) (lit≤ tt), c.signed_of-else-is_fine.ensures.value, c.signed_of-else-is_fine-2.ensures.value, div-one c.args.number) refl)
