use Rattle.rtcm_msg.proofs.Names.{common_steps, arith, ◌≡◌, bits_of, message_with, kind_with, length-bits_of}
use Rattle.rtcm_msg.proofs.MessageLaws.{message_none, message_there}
use Rattle.rtcm_msg.proofs.LongLaws.{with_prefix}
use Rattle.rtcm_msg.proofs.view.look_in.Goals as goal

pub returns-then-bytes-lt2-clause-exact : goal.returns-then-bytes-lt2-clause-exact
returns-then-bytes-lt2-clause-exact c = grind (arith, common_steps, with_prefix, message_none, length-bits_of)

pub returns-clause-exact : goal.returns-clause-exact
returns-clause-exact c =
    let same : message_with c.args.set.now c.unwrap_or-bytes.result.now ≡ message_with c.args.set.now c.args.bytes.now = grind (arith, with_prefix c.args.set.now, c.get.ensures, c.unwrap_or-bytes.ensures) in
    let read = message_there (kind_with c.args.set.now) (bits_of c.unwrap_or-bytes.result.now) (omega (arith, c.if-bytes-lt2.false, length-bits_of c.unwrap_or-bytes.result.now)) in
    rw (← same, read, ← c.number_at-number.ensures.value, ← c.kind.ensures) c.view_body.ensures
