use Rattle.rtcm_msg.proofs.Names.{common_steps, ◌+◌, ◌*◌, ◌-◌, ◌/◌, ◌%◌, ap, ◌∙◌, arith, drop, take, bits_of, number}
use Rattle.rtcm_bits.proofs.WordLaws.{within_word}
use Rattle.rtcm_msg.proofs.ContentLaws.{field_fits}
use Rattle.rtcm_msg.proofs.field.short_to.Goals as goal

pub returns-clause-value : goal.returns-clause-value
returns-clause-value c =
    let last = c.args.last + c.args.i * c.args.width in
    let end = last / 8 + 1 in
    let skip = 57 - c.args.width + last % 8 in
    λ at e. c.bits_in_word.ensures
    ∙ ap (λ t. number (take c.args.width (drop skip t))) c.word_at.ensures
    ∙ ap number (within_word (bits_of c.args.bytes.now) (8 * (end - 8)) skip c.args.width (at + c.args.i * c.args.width) (omega arith) (omega (arith, e)))

pub returns-clause-fits : goal.returns-clause-fits
returns-clause-fits c = grind (arith, common_steps, field_fits)
