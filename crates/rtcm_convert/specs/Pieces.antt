-- Pieces that a converter accepts up to the end of its stream, for everything accepted before.
use Rattle.std.specs.Prelude.{ℕ, ◌+◌, ◌<◌, ◌⊎◌, List, ◌++◌, take, length, Option, Vec}
use Rattle.rtcm_scan.specs.Decided.{decided_frames}
use Rattle.rtcm_convert.specs.Broken.{joined_pieces}
use Rattle.rtcm_convert.specs.Converted.{so_far}
use Rattle.rtcm_convert.specs.Conversion.{Conversion, ForAccepted, FailsAtEnd}
use Rattle.rtcm_convert.specs.Fed.{AppendsUpTo}

-- the writer failed at one of the pieces: what those before it add was written, and then a prefix of what it adds
abbrev pub StopsAtOne : {Z : Type 0} → Conversion → List (Vec ℕ Z) → (a b : Option (List ℕ)) → Type 0
StopsAtOne v pieces a b = (k : ℕ) × (k < length pieces) × ForAccepted v (λ s bytes.
    AppendsUpTo a b (so_far s (decided_frames bytes))
    (so_far s (decided_frames (bytes ++ joined_pieces (take k pieces))))
    (so_far s (decided_frames (bytes ++ joined_pieces (take (k + 1) pieces)))))

-- it failed at one of the pieces, or at the end, in the rest of the file
abbrev pub StopsInPieces : {Z : Type 0} → Conversion → List (Vec ℕ Z) → (a b : Option (List ℕ)) → Type 0
StopsInPieces v pieces a b =
    StopsAtOne v pieces a b ⊎ ForAccepted v (λ s bytes. FailsAtEnd a b s bytes (bytes ++ joined_pieces pieces))
