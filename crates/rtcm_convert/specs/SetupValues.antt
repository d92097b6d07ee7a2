-- The settings of a conversion that its definitions cite.
use Rattle.std.specs.Prelude.{◌≡◌, ◌<◌, ◌⊎◌, ℕ, true}
use Rattle.gnss_obs.specs.Values.{PlanValue}
use Rattle.rtcm_scan.specs.Scan.{most_bytes}
use Rattle.rtcm_msg.specs.declared.number.Forms.TheVariants.{FourAndSeven}
use Rattle.obs_epoch.specs.Kinds.{is_no_station, default_setup as default_gatherer}
use Rattle.obs_epoch.specs.Starts.{is_no_week}
use Rattle.obs_epoch.specs.Sets.{set_of}
use Rattle.gnss_obs.specs.GatheredEpochs.{AreStationValues}
use Rattle.rinex_file.specs.Texts.{HeaderLists}
use Rattle.rtcm_convert.specs.declared.setup.Setup.{Setup}
use Rattle.rtcm_convert.specs.Converted.{SetupValue}

-- the default settings with this plan, these texts and this start week
abbrev pub default_setup : PlanValue → HeaderLists → ℕ → Setup
default_setup plan texts start_week = record {
  gatherer = default_gatherer plan start_week;
  texts = texts;
  forms = FourAndSeven;
  limit = most_bytes;
}

-- the settings with the MSMs that are decoded
abbrev pub setup_value : Setup → SetupValue
setup_value x = record { gatherer = x.gatherer; texts = x.texts; set = set_of x.gatherer.plan x.forms }

-- a week or a station out of range
abbrev pub IsBadStart : Setup → Type 0
IsBadStart x = (is_no_week x.gatherer.start ≡ true) ⊎ (is_no_station x.gatherer.station ≡ true)

-- station values that no message can have, a limit above the largest number of bytes of a stream, or a week or a
-- station out of range
abbrev pub IsBad : Setup → Type 0
IsBad x = (AreStationValues x.gatherer.initial → ⊥) ⊎ ((most_bytes < x.limit) ⊎ IsBadStart x)
