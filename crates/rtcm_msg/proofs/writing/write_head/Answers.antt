use Rattle.rtcm_msg.proofs.Names.{refl, byte-bit}
use Rattle.rtcm_msg.proofs.writing.write_head.Goals as goal

pub returns-clause-bits : goal.returns-clause-bits
returns-clause-bits c =
    rw (c.write_fields.ensures.bits, byte-bit c.args.header.now.more, byte-bit c.args.header.now.smoothing, c.satellites-2.ensures, c.signals-2.ensures, c.cells-2.ensures.value, c.satellites.ensures, c.signals.ensures) refl
