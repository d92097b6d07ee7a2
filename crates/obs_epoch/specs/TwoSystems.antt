-- What a conversion of GPS and Galileo alone reads, by definitions of its own: no channel and no leap second takes part.
use Rattle.std.specs.Prelude.{◌≡◌, ℕ, ◌+◌, List, [], ◌∷◌, filter_map, if◌then◌else◌, is_some}
use Rattle.std.specs.Prelude.{Option, Some, None, option_map, option_and_then, Result, Ok, Err}
use Rattle.gnss_system.specs.declared.system.System.{System}
use Rattle.gnss_system.specs.declared.system.System.TheVariants.{Gps, Galileo}
use Rattle.gnss_system.specs.Satellites.{Satellite, satellite_of_id}
use Rattle.gnss_system.specs.Signals.{SignalAt, hertz_of, signal_of_id}
use Rattle.gnss_obs.specs.Channels.{ChannelsValue}
use Rattle.gnss_obs.specs.HeardCells.{HeardCell}
use Rattle.gnss_obs.specs.LockTimes.{LockTime}
use Rattle.gnss_obs.specs.Observables.{nearest_doppler, nearest_phase, nearest_pseudorange, nearest_strength}
use Rattle.gnss_obs.specs.Values.{PlanValue, planned_of}
use Rattle.rtcm_msg.specs.Entries.{entries_in}
use Rattle.rtcm_msg.specs.Messages.{by_message}
use Rattle.rtcm_msg.specs.Msm.{MsmValue}
use Rattle.rtcm_msg.specs.Sets.{message_by_table}
use Rattle.rtcm_msg.specs.declared.entry.Entry.{Entry}
use Rattle.rtcm_msg.specs.declared.view.Form.{Form}
use Rattle.rtcm_msg.specs.declared.fault.MsgFault.{MsgFault}
use Rattle.rtcm_msg.specs.declared.message.Message.{Message}
use Rattle.rtcm_msg.specs.declared.number.Forms.TheVariants.{FourAndSeven}
use Rattle.obs_epoch.specs.Heard.{Heard, heard_in, heard_other, heard_station, lock_by}
use Rattle.obs_epoch.specs.Sets.{set_of}

-- No signal of another system is planned.
abbrev pub PlansTwo : PlanValue → Type 0
PlansTwo plan = (s : System) → (s ≡ Gps → ⊥) → (s ≡ Galileo → ⊥) → planned_of s plan ≡ []

-- The values of a cell in thousandths, by the carrier of the signal, and its lock.
abbrev pub plain_cell : LockTime → Entry → Satellite → SignalAt → HeardCell
plain_cell lock e satellite signal = record {
  satellite = satellite;
  signal = signal;
  c = option_map nearest_pseudorange e.range;
  l = option_map (nearest_phase (hertz_of signal)) e.phase;
  d = option_map (nearest_doppler (hertz_of signal)) e.rate;
  s = option_map nearest_strength e.strength;
  lock = lock;
  half_cycle = e.half_cycle;
}

-- A cell of a message, if its satellite and its signal are listed.
abbrev pub plain_cell_of : Form → System → Entry → Option HeardCell
plain_cell_of form system e =
    option_and_then
    (λ satellite. option_map (plain_cell (lock_by form e.lock) e satellite) (signal_of_id system e.signal))
    (satellite_of_id system e.satellite)

-- The number of cells of an unlisted satellite or signal.
abbrev pub plain_unlisted : Form → System → List Entry → ℕ
plain_unlisted form system [] = 0
plain_unlisted form system (e ∷ es) =
    (if is_some (plain_cell_of form system e) then 0 else 1) + plain_unlisted form system es

-- The time of week is the epoch time of the message.
abbrev pub plain_msm : Form → MsmValue → List Entry → Heard
plain_msm form m es = record {
  station = Some m.header.station;
  tow = Some m.header.time;
  more = Some m.header.more;
  cells = filter_map (plain_cell_of form m.system) es;
  unlisted = plain_unlisted form m.system es;
  point = None;
}

-- The parts of a message.
abbrev pub plain_heard : Message → Heard
plain_heard v =
    by_message heard_station (λ form m. plain_msm form m (entries_in form m)) heard_other v

-- The parts of a message, or `None` if it was refused.
abbrev pub plain_of : Result Message MsgFault → Option Heard
plain_of (Ok m) = Some (plain_heard m)
plain_of (Err e) = None

-- The parts of the message in these bytes, if exactly 1005, 1006, 1074, 1077, 1094 and 1097 are decoded.
abbrev pub plain_in : List ℕ → Option Heard
plain_in bytes = plain_of (message_by_table bytes)

-- With such a plan and MSM4 and MSM7 a conversion reads that, regardless of its channels and leap seconds.
abbrev pub AreReadPlainly : Type 0
AreReadPlainly = (plan : PlanValue) → PlansTwo plan → (channels : ChannelsValue) (leap : ℕ) (bytes : List ℕ)
    → heard_in channels leap (set_of plan FourAndSeven) bytes ≡ plain_in bytes
