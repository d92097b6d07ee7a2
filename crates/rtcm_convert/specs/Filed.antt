-- The content of the file after the epochs of some messages were written.
use Rattle.std.specs.Prelude.{◌≡◌, ℕ, ◌+◌, nat_lt, true, List, [], ◌∷◌, ◌++◌, length, Option, Some, None, if◌then◌else◌}
use Rattle.rtcm_scan.specs.Frames.{Framed}
use Rattle.gnss_obs.specs.Values.{PlanValue, EpochValue, Closed, satellites_written}
use Rattle.gnss_obs.specs.declared.cell.StationValues.{StationValues}
use Rattle.obs_epoch.specs.Heard.{Heard}
use Rattle.obs_epoch.specs.GathererAfter.{GathererValue}
use Rattle.obs_epoch.specs.GathererHistory.{HasGatheredEpochs, closed_epochs, closed_in, plan_in}
use Rattle.rinex_file.specs.Texts.{HeaderLists}
use Rattle.rinex_file.specs.File.{header_text, epoch_text, change_text}
use Rattle.rtcm_convert.specs.Converted.{SetupValue, messages_of, written_epochs}
use Rattle.rtcm_convert.specs.Outcomes.{outcomes, tally_with, capped, AreFew}
use Rattle.rtcm_convert.specs.declared.file_writer.FileWriter.{FileWriter}

-- the text before an epoch if these station values were written last: an event if they have changed, and the header if
-- none were written
abbrev pub opening : HeaderLists → Option ℕ → PlanValue → Option StationValues → EpochValue → StationValues → List ℕ
opening texts interval plan None e values = header_text texts interval plan values e.time
opening texts interval plan (Some before) e values = change_text before values

-- what a closed epoch adds to a file
abbrev pub added : HeaderLists → Option ℕ → PlanValue → Option StationValues → Option EpochValue → StationValues → List ℕ
added texts interval plan before None values = []
added texts interval plan before (Some e) values =
    (if nat_lt 0 (satellites_written e) then opening texts interval plan before e values ++ epoch_text plan e else [])

-- the station values that are then written last
abbrev pub values_after : Option StationValues → Option EpochValue → StationValues → Option StationValues
values_after before None values = before
values_after before (Some e) values = (if nat_lt 0 (satellites_written e) then Some values else before)

-- the number of epochs in the file after that
abbrev pub epochs_after : ℕ → Option EpochValue → ℕ
epochs_after n None = n
epochs_after n (Some e) = (if nat_lt 0 (satellites_written e) then capped (n + 1) else n)

-- the interval of the epochs that a gatherer returns, if there is one
abbrev pub interval_in : GathererValue → Option ℕ
interval_in v = v.clock.setup.choice.interval

-- what the file writer writes before an epoch
abbrev pub opening_of : FileWriter → Closed → List ℕ
opening_of v c = opening v.texts (interval_in v.gatherer) (plan_in v.gatherer) v.values c.epoch c.values

-- what the file writer adds to its file for the epoch that its gatherer closed last
abbrev pub added_by : FileWriter → List ℕ
added_by v =
    added v.texts (interval_in v.gatherer) (plan_in v.gatherer) v.values (closed_in v.gatherer) v.gatherer.values

-- the file writer has counted the epoch that its gatherer closed last, and stores the station values that were written
-- last
abbrev pub HasCountedClosed : FileWriter → FileWriter → Type 0
HasCountedClosed v w = (w.epochs ≡ epochs_after v.epochs (closed_in v.gatherer))
    × (w.values ≡ values_after v.values (closed_in v.gatherer) v.gatherer.values)

-- the station values written last after these epochs, if the given ones were written before them
abbrev pub values_following_closed : StationValues → List Closed → StationValues
values_following_closed v [] = v
values_following_closed v (c ∷ cs) = values_following_closed c.values cs

-- the station values that were written last in a file of these epochs
abbrev pub last_values : List Closed → Option StationValues
last_values [] = None
last_values (c ∷ cs) = Some (values_following_closed c.values cs)

-- the file writer processed these messages and wrote these epochs; if `again` is a message, it must be passed again
pub record HasFiledEpochs (v : FileWriter) (s : SetupValue) (ms : List Heard) (es : List Closed)
    (again : Option Heard) : Type 0 where
  pub texts : v.texts ≡ s.texts
  pub set : v.set ≡ s.set
  pub gatherer : HasGatheredEpochs v.gatherer s.gatherer ms es again
  pub epochs : v.epochs ≡ capped (length (written_epochs es))
  pub values : v.values ≡ last_values (written_epochs es)

-- the file writer processed these messages and wrote the epochs that they close
abbrev pub Settled : FileWriter → SetupValue → List Heard → Type 0
Settled v s ms = HasFiledEpochs v s ms (closed_epochs s.gatherer ms) None

-- the file writer processed the messages of these frames, and was ended
pub record HasGathered (v : FileWriter) (s : SetupValue) (fs : List Framed) : Type 0 where
  pub ended : v.gatherer.has_ended ≡ true
  pub epochs : List Closed
  pub gathers : HasGatheredEpochs v.gatherer s.gatherer (messages_of s fs) epochs None

-- the file writer processed the messages of these frames and wrote the epochs that they close
pub record HasFiledFrames (v : FileWriter) (s : SetupValue) (fs : List Framed) : Type 0 where
  pub settled : Settled v s (messages_of s fs)
  pub tally : v.tally ≡ tally_with capped (outcomes s fs)
  pub few : AreFew (outcomes s fs)
