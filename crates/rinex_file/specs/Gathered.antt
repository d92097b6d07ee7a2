-- When epochs that were gathered from messages make a file value.
use Rattle.std.specs.Prelude.{ℕ, ◌≡◌, ◌<◌, List, [], ◌∷◌, length, All, nat_eq, Option, IfSome}
use Rattle.std.specs.List.{AllByRecursion, IsDistinct}
use Rattle.gnss_system.specs.declared.system.System.{System}
use Rattle.gnss_system.specs.declared.system.System.TheVariants.{Glonass}
use Rattle.gnss_system.specs.Signals.{table}
use Rattle.gnss_obs.specs.Channels.{AreChannels, no_channels}
use Rattle.gnss_obs.specs.Values.{PlanValue, Closed, planned_of, satellites_written}
use Rattle.gnss_obs.specs.Intervals.{IsInterval}
use Rattle.gnss_obs.specs.GatheredEpochs.{AreGatheredEpochs}
use Rattle.rinex_file.specs.Texts.{HeaderLists}
use Rattle.rinex_file.specs.FileValues.{AreTexts, IsFileValue}
use Rattle.rinex_file.specs.File.{gathered}

-- listed signals, none of them twice; channels only if a signal of GLONASS is planned
pub record AreSignals (p : PlanValue) : Type 0 where
  pub listed : (system : System) → All (λ i. i < length (table system)) (planned_of system p)
  pub apart : (system : System) → IsDistinct nat_eq (planned_of system p)
  pub channels : AreChannels p.channels
  pub unplanned : planned_of Glonass p ≡ [] → p.channels ≡ no_channels

-- a satellite of the epoch is written
abbrev pub HasSatellite : Closed → Type 0
HasSatellite c = 0 < satellites_written c.epoch

-- with the texts and the interval of a header: epochs from messages that were read, in each of which a satellite is
-- written
abbrev pub IsGatheredFile : Type 0
IsGatheredFile = (texts : HeaderLists) (interval : Option ℕ) (plan : PlanValue) (e : Closed) (es : List Closed)
    → AreTexts texts → IfSome interval IsInterval → AreSignals plan → AreGatheredEpochs plan (e ∷ es) → AllByRecursion HasSatellite (e ∷ es)
    → IsFileValue (gathered texts interval plan e.values (e ∷ es))
