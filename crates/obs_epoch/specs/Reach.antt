-- Bounds of the values in the epochs of decoded messages.
use Rattle.std.specs.Prelude.{ℕ, List, IfSome}
use Rattle.std.specs.List.{AllByRecursion}
use Rattle.rtcm_msg.specs.declared.message.Message.{Message}
use Rattle.rtcm_msg.specs.Encoding.{IsMessage}
use Rattle.rtcm_msg.specs.Bounds.{IsPoint}
use Rattle.gnss_obs.specs.Channels.{AreChannels, ChannelsValue}
use Rattle.gnss_obs.specs.Values.{HasTwelveDigits}
use Rattle.obs_epoch.specs.Heard.{GatherSetup, Heard, heard}
use Rattle.gnss_obs.specs.HeardCells.{HeardCell}
use Rattle.obs_epoch.specs.GathererHistory.{all_epochs}
use Rattle.gnss_obs.specs.GatheredEpochs.{IsStrength, AreStationValues, AreGatheredEpochs}

-- ---- messages

-- The values of a cell of a decoded message are within their bounds.
pub record IsHeardCell (x : HeardCell) : Type 0 where
  pub c : IfSome x.c HasTwelveDigits
  pub l : IfSome x.l HasTwelveDigits
  pub d : IfSome x.d HasTwelveDigits
  pub s : IfSome x.s IsStrength

-- The parts of a decoded message are within their bounds.
pub record IsHeard (m : Heard) : Type 0 where
  pub cells : AllByRecursion IsHeardCell m.cells
  pub point : IfSome m.point IsPoint

-- ---- epochs

-- ---- laws

abbrev pub MessagesAreHeard : Type 0
MessagesAreHeard = (channels : ChannelsValue) (leap : ℕ) (m : Message) → AreChannels channels → IsMessage m
    → IsHeard (heard channels leap m)

abbrev pub EpochsAreGathered : Type 0
EpochsAreGathered = (s : GatherSetup) (ms : List Heard) → AreStationValues s.initial → AllByRecursion IsHeard ms
    → AreGatheredEpochs s.plan (all_epochs s ms)
