-- The file written can be read back: it is the text of a file value, which `rinex_file::read_file` accepts.
use Rattle.std.specs.Prelude.{◌≡◌, ℕ, ◌<◌, ◌⊎◌, List, [], IfSome}
use Rattle.rtcm_scan.specs.Frames.{Framed}
use Rattle.gnss_obs.specs.Intervals.{IsInterval}
use Rattle.gnss_obs.specs.GatheredEpochs.{AreStationValues}
use Rattle.rinex_file.specs.Value.{FileValue}
use Rattle.rinex_file.specs.FileValues.{AreTexts, IsFileValue}
use Rattle.rinex_file.specs.Gathered.{AreSignals}
use Rattle.rinex_file.specs.File.{file_text}
use Rattle.rtcm_convert.specs.Converted.{SetupValue, file, so_far, epochs_in}

-- the text of a file value
abbrev pub HasValue : List ℕ → Type 0
HasValue text = (v : FileValue) × IsFileValue v × (text ≡ file_text v)

-- empty, or the text of a file value
abbrev pub IsReadable : List ℕ → Type 0
IsReadable text = (text ≡ []) ⊎ HasValue text

-- the texts fit their columns, the signals are listed, a message can have the station values, and the interval is one of
-- epochs, as in every setup
pub record AreSound (s : SetupValue) : Type 0 where
  pub texts : AreTexts s.texts
  pub plan : AreSignals s.gatherer.plan
  pub initial : AreStationValues s.gatherer.initial
  pub interval : IfSome s.gatherer.choice.interval IsInterval

-- the file that frames make is readable
abbrev pub FilesAreReadable : Type 0
FilesAreReadable = (s : SetupValue) (fs : List Framed) → AreSound s → IsReadable (file s fs)

-- if the file has an epoch, it is the text of a file value
abbrev pub FilesHaveValues : Type 0
FilesHaveValues = (s : SetupValue) (fs : List Framed) → AreSound s → 0 < epochs_in s fs → HasValue (file s fs)

abbrev pub SoFarIsReadable : Type 0
SoFarIsReadable = (s : SetupValue) (fs : List Framed) → AreSound s → IsReadable (so_far s fs)
