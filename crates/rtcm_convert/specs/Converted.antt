-- The file that frames make.
use Rattle.std.specs.Prelude.{ℕ, List, [], ◌∷◌, ◌++◌, length, filter, Option}
use Rattle.std.specs.List.{filter_map}
use Rattle.rtcm_scan.specs.Frames.{Framed}
use Rattle.gnss_obs.specs.Values.{PlanValue, Closed}
use Rattle.rtcm_msg.specs.declared.number.MsmSet.{MsmSet}
use Rattle.obs_epoch.specs.Heard.{Heard, heard_in}
use Rattle.obs_epoch.specs.declared.setup.GatherSetup.{GatherSetup}
use Rattle.obs_epoch.specs.GathererHistory.{all_epochs, closed_epochs, whole_list}
use Rattle.obs_epoch.specs.Thinning.{counts_of_epochs, has_satellite}
use Rattle.obs_epoch.specs.declared.choice.EpochCounts.{EpochCounts}
use Rattle.rinex_file.specs.Texts.{HeaderLists}
use Rattle.rinex_file.specs.File.{header_text, closed_text}

-- the settings of a conversion, and the MSMs that it decodes
pub record SetupValue : Type 0 where
  pub gatherer : GatherSetup
  pub texts : HeaderLists
  pub set : MsmSet

-- the message of a frame, unless it is refused
abbrev pub message_of : SetupValue → Framed → Option Heard
message_of s f = heard_in s.gatherer.plan.channels s.gatherer.leap_seconds s.set f.message

-- the messages of these frames in order, without refused ones
abbrev pub messages_of : SetupValue → List Framed → List Heard
messages_of s fs = filter_map (message_of s) fs

-- the epochs in which a satellite has a value
abbrev pub written_epochs : List Closed → List Closed
written_epochs es = filter has_satellite es

-- a header with the interval, if there is one, the time of the first epoch and the station values known when it was
-- closed, then the epochs, each after an event if the station values known when it was closed differ from those of the
-- epoch before; empty if there is no epoch
unfoldable pub text_of_epochs : HeaderLists → Option ℕ → PlanValue → List Closed → List ℕ
text_of_epochs texts interval plan [] = []
text_of_epochs texts interval plan (e ∷ es) =
    header_text texts interval plan e.values e.epoch.time ++ closed_text plan e.values (e ∷ es)

-- the text of those of these epochs in which a satellite has a value
abbrev pub text_with : SetupValue → List Closed → List ℕ
text_with s es = text_of_epochs s.texts s.gatherer.choice.interval s.gatherer.plan (written_epochs es)

-- the file that these frames make
abbrev pub file : SetupValue → List Framed → List ℕ
file s fs = text_with s (all_epochs s.gatherer (messages_of s fs))

-- the file of the epochs that these frames close
abbrev pub so_far : SetupValue → List Framed → List ℕ
so_far s fs = text_with s (closed_epochs s.gatherer (messages_of s fs))

-- the numbers of all epochs of these frames in which a satellite has a value
abbrev pub epoch_counts : SetupValue → List Framed → EpochCounts
epoch_counts s fs = counts_of_epochs s.gatherer.choice (whole_list s.gatherer (messages_of s fs))

-- the number of epochs in the file
abbrev pub epochs_in : SetupValue → List Framed → ℕ
epochs_in s fs = length (written_epochs (all_epochs s.gatherer (messages_of s fs)))
