-- What the calls of the file writer do, for all messages and frames before.
use Rattle.std.specs.Prelude.{◌≡◌, ℕ, true, false, List, [], ◌∷◌, ◌++◌, Option, Some, None}
use Rattle.rtcm_scan.specs.Frames.{Framed}
use Rattle.gnss_obs.specs.Values.{Closed}
use Rattle.rtcm_msg.specs.declared.message.Message.{Message}
use Rattle.obs_epoch.specs.Heard.{Heard, heard_by}
use Rattle.obs_epoch.specs.Kinds.{is_close_first, kind_of}
use Rattle.obs_epoch.specs.declared.taken.Kind.{Kind}
use Rattle.obs_epoch.specs.GathererHistory.{IsAwaited, closed_epochs, capped_counts}
use Rattle.rtcm_convert.specs.Converted.{SetupValue, text_with, so_far, file, epoch_counts, epochs_in}
use Rattle.rtcm_convert.specs.Outcomes.{capped, tally_with}
use Rattle.rtcm_convert.specs.Fed.{AppendsBetween, AppendsPrefixBetween}
use Rattle.rtcm_convert.specs.Filed.{HasFiledEpochs, Settled, HasFiledFrames, HasGathered}
use Rattle.rtcm_convert.specs.declared.file_writer.FileWriter.{FileWriter}
use Rattle.rtcm_convert.specs.declared.report.Report.{Report}

-- ---- a message that is passed, for the first time or again: it is heard by the setup of the gatherer

-- the message was not processed: an epoch is closed first, and then the message must be passed again
abbrev pub IsCloseFirst : Kind → Type 0
IsCloseFirst kind = is_close_first kind ≡ true

-- the outcome of a message that was processed
abbrev pub IsFinalKind : Kind → Type 0
IsFinalKind kind = is_close_first kind ≡ false

-- the epoch that was closed first was written, and the message must be passed again
abbrev pub WritesFirst : FileWriter → FileWriter → Message → Option (List ℕ) → Option (List ℕ) → Type 0
WritesFirst v w m a b = (s : SetupValue) (ms : List Heard) (es : List Closed) → HasFiledEpochs v s ms es None
    → (all : List Closed) × HasFiledEpochs w s ms all (Some (heard_by s.gatherer m))
    × AppendsBetween a b (text_with s es) (text_with s all)

-- the message was processed, and the epoch that it closed was written
abbrev pub TakesMessage : FileWriter → FileWriter → Message → Option (List ℕ) → Option (List ℕ) → Type 0
TakesMessage v w m a b = (s : SetupValue) (ms : List Heard) (es : List Closed) (again : Option Heard)
    → IsAwaited again (heard_by s.gatherer m) → HasFiledEpochs v s ms es again
    → (all : List Closed) × HasFiledEpochs w s (ms ++ heard_by s.gatherer m ∷ []) all None
    × AppendsBetween a b (text_with s es) (text_with s all)

-- a message that is passed again is processed
abbrev pub IsTakenAgain : FileWriter → Message → Kind → Type 0
IsTakenAgain v m kind =
    (s : SetupValue) (ms : List Heard) (es : List Closed) → HasFiledEpochs v s ms es (Some (heard_by s.gatherer m))
    → IsFinalKind kind

-- the outcome of the message
abbrev pub IsKindOf : FileWriter → Message → Kind → Type 0
IsKindOf v m kind = (s : SetupValue) (ms : List Heard) (es : List Closed) (again : Option Heard)
    → IsAwaited again (heard_by s.gatherer m) → HasFiledEpochs v s ms es again
    → kind ≡ kind_of s.gatherer ms (heard_by s.gatherer m)

-- a prefix of what it closes was written
abbrev pub BreaksInMessage : FileWriter → Message → Option (List ℕ) → Option (List ℕ) → Type 0
BreaksInMessage v m a b = (s : SetupValue) (ms : List Heard) (es : List Closed) (again : Option Heard)
    → IsAwaited again (heard_by s.gatherer m) → HasFiledEpochs v s ms es again
    → AppendsPrefixBetween a b (text_with s es) (text_with s (closed_epochs s.gatherer (ms ++ heard_by s.gatherer m ∷ [])))

-- ---- the next message

-- it was processed, and the epochs that it closes were written
abbrev pub TakesNext : FileWriter → FileWriter → Message → Option (List ℕ) → Option (List ℕ) → Type 0
TakesNext v w m a b = (s : SetupValue) (ms : List Heard) → Settled v s ms → Settled w s (ms ++ heard_by s.gatherer m ∷ [])
    × AppendsBetween a b (text_with s (closed_epochs s.gatherer ms))
    (text_with s (closed_epochs s.gatherer (ms ++ heard_by s.gatherer m ∷ [])))

-- the outcome of the message
abbrev pub IsKindOfNext : FileWriter → Message → Kind → Type 0
IsKindOfNext v m kind =
    (s : SetupValue) (ms : List Heard) → Settled v s ms → kind ≡ kind_of s.gatherer ms (heard_by s.gatherer m)

-- a prefix of what it closes was written
abbrev pub BreaksInNext : FileWriter → Message → Option (List ℕ) → Option (List ℕ) → Type 0
BreaksInNext v m a b = (s : SetupValue) (ms : List Heard) → Settled v s ms
    → AppendsPrefixBetween a b (text_with s (closed_epochs s.gatherer ms))
    (text_with s (closed_epochs s.gatherer (ms ++ heard_by s.gatherer m ∷ [])))

-- ---- the next frame, and the end

-- the frame with this outcome was counted
abbrev pub CountsFrame : Report → Report → Option Kind → Type 0
CountsFrame r r' o = (os : List (Option Kind)) → r ≡ tally_with capped os → r' ≡ tally_with capped (os ++ o ∷ [])

-- the rest of the file was written, its epochs were counted, those of the stream if there are none, and all messages of
-- its frames were gathered
abbrev pub EndsFile : FileWriter → FileWriter → Option (List ℕ) → Option (List ℕ) → Type 0
EndsFile v w a b = (s : SetupValue) (fs : List Framed) → HasFiledFrames v s fs
    → AppendsBetween a b (so_far s fs) (file s fs) × (w.epochs ≡ capped (epochs_in s fs))
    × (epochs_in s fs ≡ 0 → w.gatherer.counts ≡ capped_counts (epoch_counts s fs)) × HasGathered w s fs

-- a prefix of the rest of the file was written
abbrev pub BreaksInRest : FileWriter → Option (List ℕ) → Option (List ℕ) → Type 0
BreaksInRest v a b =
    (s : SetupValue) (fs : List Framed) → HasFiledFrames v s fs → AppendsPrefixBetween a b (so_far s fs) (file s fs)
