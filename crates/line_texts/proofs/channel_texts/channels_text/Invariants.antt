use Rattle.line_texts.specs.Lines.{IsTextWithin}
use Rattle.line_texts.proofs.Names.{◌*◌, take, channels_text}
use Rattle.line_texts.proofs.channel_texts.channels_text.Given as goal

abbrev pub invariant-loop-i : goal.invariant-loop-i
invariant-loop-i l = IsTextWithin l.line (channels_text (take l.i l.channels)) (6 * l.i)
