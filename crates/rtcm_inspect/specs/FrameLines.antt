-- The lines of `frames`.
use Rattle.std.specs.Prelude.{ℕ, nat_le, List, [], ◌∷◌, length, take, codes, decimal, if◌then◌else◌}
use Rattle.std.specs.List.{flat_map}
use Rattle.rtcm_bits.specs.Bits.{bits_of, number}
use Rattle.rtcm_scan.specs.Frames.{Framed}
use Rattle.line_texts.specs.Lines.{line}

-- the message number (DF002), which is the first 12 bits, or a dash if there are fewer
unfoldable pub number_word : List ℕ → List ℕ
number_word message =
    if nat_le 12 (length (bits_of message)) then decimal (number (take 12 (bits_of message))) else codes "-"

-- the offset, the length of the message in bytes, and the message number
unfoldable pub frame_line : Framed → List ℕ
frame_line f = line (decimal f.offset ∷ decimal (length f.message) ∷ number_word f.message ∷ [])

-- one line for each frame
abbrev pub frame_lines : List Framed → List ℕ
frame_lines fs = flat_map frame_line fs
