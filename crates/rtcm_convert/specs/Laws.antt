-- Laws of the files that frames make.
use Rattle.std.specs.Prelude.{◌≡◌, ◌+◌, ℕ, List, [], ◌∷◌, ◌++◌, length, Option}
use Rattle.std.specs.List.{filter_map}
use Rattle.rtcm_scan.specs.Frames.{Framed, frames_of}
use Rattle.rtcm_scan.specs.Decided.{decided_frames}
use Rattle.rtcm_bits.specs.Prefix.{IsPrefix}
use Rattle.gnss_obs.specs.Values.{PlanValue, Closed}
use Rattle.obs_epoch.specs.Choices.{every_epoch}
use Rattle.obs_epoch.specs.GathererHistory.{whole_list}
use Rattle.rinex_file.specs.Texts.{HeaderLists}
use Rattle.rinex_file.specs.File.{file_text, gathered}
use Rattle.rtcm_msg.specs.declared.number.Forms.TheVariants.{FourAndSeven}
use Rattle.obs_epoch.specs.TwoSystems.{PlansTwo, plain_in}
use Rattle.rtcm_convert.specs.Converted.{SetupValue, messages_of, text_of_epochs, text_with, so_far, file}
use Rattle.rtcm_convert.specs.Outcomes.{report_of}
use Rattle.rtcm_convert.specs.SetupValues.{setup_value}
use Rattle.rtcm_convert.specs.declared.setup.Setup.{Setup}
use Rattle.rtcm_convert.specs.declared.report.Report.{Report}

-- what is written of some bytes is a prefix of the file, for every rest of the stream
abbrev pub WrittenStays : Type 0
WrittenStays =
    (s : SetupValue) (b more : List ℕ) → IsPrefix (so_far s (decided_frames b)) (file s (frames_of (b ++ more)))

-- and a prefix of what is written of more bytes
abbrev pub WrittenGrows : Type 0
WrittenGrows =
    (s : SetupValue) (b more : List ℕ) → IsPrefix (so_far s (decided_frames b)) (so_far s (decided_frames (b ++ more)))

-- the same over frames
abbrev pub FiledStays : Type 0
FiledStays = (s : SetupValue) (fs more : List Framed) → IsPrefix (so_far s fs) (file s (fs ++ more))

abbrev pub FiledGrows : Type 0
FiledGrows = (s : SetupValue) (fs more : List Framed) → IsPrefix (so_far s fs) (so_far s (fs ++ more))

-- nothing is written of no bytes
abbrev pub NothingYet : Type 0
NothingYet = (s : SetupValue) → so_far s (decided_frames []) ≡ []

abbrev pub NothingFiled : Type 0
NothingFiled = (s : SetupValue) → so_far s [] ≡ []

-- these frames were counted, and each of them once among the seven kinds
pub record IsCountedOnce (r : Report) (frames : ℕ) : Type 0 where
  pub all : r.frames ≡ frames
  pub once : r.faulty + (r.station + (r.other + (r.ignored + (r.late + (r.past + r.taken))))) ≡ frames

-- this holds for the report of every stream
abbrev pub CountedOnce : Type 0
CountedOnce = (s : SetupValue) (b : List ℕ) → IsCountedOnce (report_of s b) (length (frames_of b))

-- epochs in which a satellite has a value make the text of a file value, with the station values known when the first
-- was closed, and an event before each epoch whose station values differ from those before
abbrev pub IsFileText : Type 0
IsFileText = (texts : HeaderLists) (interval : Option ℕ) (plan : PlanValue) (e : Closed) (es : List Closed)
    → text_of_epochs texts interval plan (e ∷ es) ≡ file_text (gathered texts interval plan e.values (e ∷ es))

-- with the choice of every epoch, the file is that of all epochs
abbrev pub IsFileOfEvery : Type 0
IsFileOfEvery = (s : SetupValue) (fs : List Framed) → s.gatherer.choice ≡ every_epoch
    → file s fs ≡ text_with s (whole_list s.gatherer (messages_of s fs))

-- A conversion whose plan has signals of GPS and Galileo alone, in MSM4 and MSM7, decodes exactly the messages 1005,
-- 1006, 1074, 1077, 1094 and 1097, and reads them without its channels and leap seconds.
abbrev pub AreMessagesPlain : Type 0
AreMessagesPlain = (x : Setup) (fs : List Framed) → PlansTwo x.gatherer.plan → x.forms ≡ FourAndSeven
    → messages_of (setup_value x) fs ≡ filter_map (λ f. plain_in f.message) fs
