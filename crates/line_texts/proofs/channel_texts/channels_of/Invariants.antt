use denote.Shadow.{shadow}
use denote.Text.{Utf8}
use Rattle.line_texts.proofs.Names.{no_channels, ◌≡◌, between_commas, length, channels_after}
use Rattle.line_texts.proofs.channel_texts.channels_of.Given as goal

-- The rest of the text gives what the whole text does.
abbrev pub invariant-loop-entry : goal.invariant-loop-entry
invariant-loop-entry l =
    shadow (Utf8 l.rest) × (channels_after l.channels (between_commas l.rest) ≡ channels_after no_channels (between_commas l.text))

abbrev pub decreases-loop-entry : goal.decreases-loop-entry
decreases-loop-entry l = length l.rest
