-- The framer and the file writer of a stream.
use Rattle.std.specs.Prelude.{ℕ, List, Option}
use Rattle.rtcm_scan.specs.Frames.{frames_of}
use Rattle.rtcm_scan.specs.Decided.{decided_frames}
use Rattle.rtcm_scan.specs.Known.{known_frames}
use Rattle.rtcm_scan.specs.Scan.{FramerValue}
use Rattle.rtcm_scan.specs.Examined.{HasExamined}
use Rattle.rtcm_scan.specs.Drained.{IsDrained}
use Rattle.rtcm_convert.specs.Converted.{SetupValue, so_far, file}
use Rattle.rtcm_convert.specs.Fed.{AppendsBetween, AppendsPrefixBetween}
use Rattle.rtcm_convert.specs.Filed.{HasFiledFrames}
use Rattle.rtcm_convert.specs.declared.file_writer.FileWriter.{FileWriter}

-- b was accepted and examined, and all known frames were passed on
pub record HasDrained (v : FramerValue) (b : List ℕ) : Type 0 where
  pub framer : HasExamined v b (known_frames v.has_ended b)
  pub drained : IsDrained v b (known_frames v.has_ended b)

-- and the epochs that these frames close were written
pub record Drained (v : FramerValue) (w : FileWriter) (s : SetupValue) (b : List ℕ) : Type 0 where
  pub scan : HasDrained v b
  pub file_writer : HasFiledFrames w s (known_frames v.has_ended b)

-- the known bytes grow by what the decided frames of the later bytes add to those of the earlier ones
abbrev pub AppendsDecided : Option (List ℕ) → Option (List ℕ) → SetupValue → List ℕ → List ℕ → Type 0
AppendsDecided old new s b c = AppendsBetween old new (so_far s (decided_frames b)) (so_far s (decided_frames c))

-- the known bytes grow by a prefix of that
abbrev pub AppendsPrefixOfDecided : Option (List ℕ) → Option (List ℕ) → SetupValue → List ℕ → List ℕ → Type 0
AppendsPrefixOfDecided old new s b c =
    AppendsPrefixBetween old new (so_far s (decided_frames b)) (so_far s (decided_frames c))

-- the known bytes grow by what follows the text of the decided frames in the whole file
abbrev pub AppendsRest : Option (List ℕ) → Option (List ℕ) → SetupValue → List ℕ → List ℕ → Type 0
AppendsRest old new s b c = AppendsBetween old new (so_far s (decided_frames b)) (file s (frames_of c))

-- the known bytes grow by a prefix of that
abbrev pub AppendsPrefixOfRest : Option (List ℕ) → Option (List ℕ) → SetupValue → List ℕ → List ℕ → Type 0
AppendsPrefixOfRest old new s b c = AppendsPrefixBetween old new (so_far s (decided_frames b)) (file s (frames_of c))
