-- The framer and the file writer of a stream.
use Rattle.std.specs.Prelude.{◌≡◌, ◌≤◌, ℕ, true, List, length, Option}
use Rattle.devices.specs.Device.{Device, HasFailed}
use Rattle.rtcm_scan.specs.Frames.{Framed, frames_of}
use Rattle.rtcm_scan.specs.Scan.{FramerValue}
use Rattle.rtcm_scan.specs.Drained.{IsDrained}
use Rattle.rtcm_convert.specs.Converted.{SetupValue, so_far, epoch_counts, epochs_in}
use Rattle.rtcm_convert.specs.Fed.{AppendsBetween, AppendsUpTo}
use Rattle.rtcm_convert.specs.Filed.{HasFiledFrames, HasGathered}
use Rattle.rtcm_convert.specs.Outcomes.{outcomes, tally_of}
use Rattle.rtcm_convert.specs.declared.file_writer.FileWriter.{FileWriter}
use Rattle.rtcm_convert.specs.Stream.{HasDrained, Drained, AppendsRest, AppendsPrefixOfRest}

-- the same for some bytes
abbrev pub HasDrainedSome : FramerValue → Type 0
HasDrainedSome v = (b : List ℕ) × HasDrained v b

-- ---- the file writer as a sink of frames

-- The first file writer and device, after the frames ps, became the second after the frames fs: the epochs that the
-- frames between close were written, and no call of the device failed.
pub record Files {W : Type 0} (contents : W → Option (List ℕ)) (v0 : FileWriter) (o0 : Device W) (ps : List Framed)
    (v : FileWriter) (o : Device W) (fs : List Framed) : Type 0 where
  pub fine : o.failures ≡ o0.failures
  pub widest : o.widest ≡ o0.widest
  pub files : (s : SetupValue) → HasFiledFrames v0 s ps
      → HasFiledFrames v s fs × AppendsBetween (contents o0.inner) (contents o.inner) (so_far s ps) (so_far s fs)

-- One call of the device failed: what the frames up to fs add was written, and a prefix of what those up to gs add.
pub record BreaksFiling {W : Type 0} (contents : W → Option (List ℕ)) (v0 : FileWriter) (o0 : Device W)
    (ps : List Framed) (v : FileWriter) (o : Device W) (fs gs : List Framed) : Type 0 where
  pub failed : HasFailed o0.failures o.failures
  pub widest : o.widest ≡ o0.widest
  pub part : (s : SetupValue) → HasFiledFrames v0 s ps
      → AppendsUpTo (contents o0.inner) (contents o.inner) (so_far s ps) (so_far s fs) (so_far s gs)

-- ---- the end of a stream

-- The rest of the file of these bytes was written; all of them were decided and counted, and all messages were
-- gathered.
pub record IsEnded (v : FramerValue) (w : FileWriter) (a b : Option (List ℕ)) (s : SetupValue)
    (bytes : List ℕ) : Type 0 where
  pub over : v.has_ended ≡ true
  pub out : AppendsRest a b s bytes bytes
  pub epochs : w.epochs ≡ epochs_in s (frames_of bytes)
  pub counts : epochs_in s (frames_of bytes) ≡ 0 → w.gatherer.counts ≡ epoch_counts s (frames_of bytes)
  pub tally : w.tally ≡ tally_of (outcomes s (frames_of bytes))
  pub taken : v.taken ≡ length bytes
  pub within : length bytes ≤ v.limit
  pub drained : IsDrained v bytes (frames_of bytes)
  pub gathered : HasGathered w s (frames_of bytes)

-- the same for all bytes accepted before
abbrev pub EndsBytes : FramerValue → FileWriter → FramerValue → FileWriter → Option (List ℕ) → Option (List ℕ) → Type 0
EndsBytes v w v' w' a b = (s : SetupValue) (bytes : List ℕ) → Drained v w s bytes → IsEnded v' w' a b s bytes

-- a prefix of the rest of the file was written
abbrev pub BreaksAtEndOf : FramerValue → FileWriter → Option (List ℕ) → Option (List ℕ) → Type 0
BreaksAtEndOf v w a b = (s : SetupValue) (bytes : List ℕ) → Drained v w s bytes → AppendsPrefixOfRest a b s bytes bytes
