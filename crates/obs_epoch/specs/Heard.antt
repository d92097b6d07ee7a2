-- The parts of a message that it uses.
use Rattle.std.specs.Prelude.{ℕ, ◌==◌, ◌&&◌, Bool, true, false, not, List, [], ◌∷◌, if◌then◌else◌, Option, Some, None}
use Rattle.std.specs.Prelude.{option_map, option_and_then, filter_map, ◌+◌, ◌-◌, ◌*◌, ◌%◌, is_some, Result, Ok, Err}
use Rattle.std.specs.Option.{option_map_or}
use Rattle.gnss_system.specs.declared.system.System.{System}
use Rattle.gnss_system.specs.declared.tables.TimeScale.{TimeScale}
use Rattle.gnss_system.specs.declared.tables.TimeScale.TheVariants.{Gps, Beidou, Glonass}
use Rattle.gnss_system.specs.Satellites.{Satellite, satellite_of_id, time_scale}
use Rattle.gnss_system.specs.Signals.{SignalAt, signal_of_id}
use Rattle.gnss_obs.specs.Channels.{ChannelsValue, hertz_in}
use Rattle.gnss_obs.specs.Observables.{nearest_pseudorange, phase_by, doppler_by, nearest_strength}
use Rattle.gnss_obs.specs.LockTimes.{LockTime, times4, times7}
use Rattle.rtcm_msg.specs.declared.station.StationParts.{StationParts}
use Rattle.rtcm_msg.specs.declared.entry.Entry.{Entry}
use Rattle.rtcm_msg.specs.declared.message.Message.{Message}
use Rattle.rtcm_msg.specs.Msm.{MsmValue, time_of_week, week}
use Rattle.rtcm_msg.specs.declared.view.Form.{Form}
use Rattle.rtcm_msg.specs.declared.summary.Summary.{Summary}
use Rattle.rtcm_msg.specs.declared.fault.MsgFault.{MsgFault}
use Rattle.rtcm_msg.specs.Decoding.{message_at, message_with}
use Rattle.rtcm_msg.specs.declared.number.MsmSet.{MsmSet}
use Rattle.rtcm_msg.specs.Entries.{entries_in}
use Rattle.rtcm_msg.specs.Forms.{is_fine}
use Rattle.rtcm_msg.specs.Messages.{by_message}
use Rattle.gnss_obs.specs.HeardCells.{HeardCell}
pub use Rattle.obs_epoch.specs.declared.setup.GatherSetup.{GatherSetup}
use Rattle.obs_epoch.specs.declared.setup.Gather.{Gather}
use Rattle.obs_epoch.specs.declared.setup.Gather.TheVariants as gathers

-- The multiple message bit may close an epoch.
abbrev pub is_by_bit : Gather → Bool
is_by_bit gathers.Bit = true
is_by_bit gathers.Time = false

-- The parts of a message that a gatherer uses: the station, if the message has one; the time of week, if it has
-- observations; whether more messages of the same time follow, if it contains DF393; its cells of listed satellites and
-- signals in order; the number of its other cells; and its point.
pub record Heard : Type 0 where
  pub station : Option ℕ
  pub tow : Option ℕ
  pub more : Option Bool
  pub cells : List HeardCell
  pub unlisted : ℕ
  pub point : Option StationParts

-- The values of a cell in thousandths, and its lock: a phase and a shift only at a known carrier.
abbrev pub observed : ChannelsValue → LockTime → Entry → Satellite → SignalAt → HeardCell
observed channels lock e satellite signal = record {
  satellite = satellite;
  signal = signal;
  c = option_map nearest_pseudorange e.range;
  l = phase_by (hertz_in channels satellite signal) e.phase;
  d = doppler_by (hertz_in channels satellite signal) e.rate;
  s = option_map nearest_strength e.strength;
  lock = lock;
  half_cycle = e.half_cycle;
}

-- A cell of a message, if its satellite and its signal are listed.
abbrev pub seen_by : ChannelsValue → LockTime → System → Entry → Option HeardCell
seen_by channels lock system e =
    option_and_then (λ satellite. option_map (observed channels lock e satellite) (signal_of_id system e.signal))
    (satellite_of_id system e.satellite)

-- The lock of a lock time indicator, DF402 or DF407.
abbrev pub lock_by : Form → ℕ → LockTime
lock_by form code = if is_fine form then times7 code else times4 code

-- A cell of a message of this lock form and system.
abbrev pub seen_in : ChannelsValue → Form → System → Entry → Option HeardCell
seen_in channels form system e = seen_by channels (lock_by form e.lock) system e

-- The number of cells of an unlisted satellite or signal.
abbrev pub unlisted_in : ChannelsValue → Form → System → List Entry → ℕ
unlisted_in channels form system [] = 0
unlisted_in channels form system (e ∷ es) =
    (if is_some (seen_in channels form system e) then 0 else 1) + unlisted_in channels form system es

-- The time of week in GPS time of one in a time scale, both in milliseconds, with GPS time minus UTC in seconds: BeiDou
-- time is 14 s less than GPS time, and GLONASS time is UTC plus 3 h.
abbrev pub tow_in : TimeScale → ℕ → ℕ → ℕ
tow_in Gps leap time = time
tow_in Beidou leap time = (time + 14_000) % week
tow_in Glonass leap time = (time + (week - 10_800_000) + 1000 * leap) % week

-- That of an epoch time of a system.
abbrev pub tow_of : System → ℕ → ℕ → ℕ
tow_of system leap time = tow_in (time_scale system) leap (time_of_week system time)

abbrev pub heard_msm : ChannelsValue → ℕ → Form → MsmValue → List Entry → Heard
heard_msm channels leap form m es = record {
  station = Some m.header.station;
  tow = Some (tow_of m.system leap m.header.time);
  more = Some m.header.more;
  cells = filter_map (seen_in channels form m.system) es;
  unlisted = unlisted_in channels form m.system es;
  point = None;
}

abbrev pub heard_station : StationParts → Heard
heard_station p =
    record { station = Some p.station; tow = None; more = None; cells = []; unlisted = 0; point = Some p }

abbrev pub heard_other : ℕ → Option (ℕ × Bool) → Heard
heard_other number set = record {
  station = option_map (λ p. p.0) set;
  tow = None;
  more = option_map (λ p. p.1) set;
  cells = [];
  unlisted = 0;
  point = None;
}

-- The parts of a message, with these channels of GLONASS satellites and leap seconds.
abbrev pub heard : ChannelsValue → ℕ → Message → Heard
heard channels leap v =
    by_message heard_station (λ form m. heard_msm channels leap form m (entries_in form m)) heard_other v

-- The same with those of a setup.
abbrev pub heard_by : GatherSetup → Message → Heard
heard_by s m = heard s.plan.channels s.leap_seconds m

-- A message without its cells.
abbrev pub without_cells : Heard → Heard
without_cells m = record m { cells = []; unlisted = 0 }

-- The same, computed from the summary of the message.
abbrev pub heard_summary : Summary → Heard
heard_summary m = record { station = m.station; tow = m.time; more = m.more; cells = []; unlisted = 0; point = m.point }

-- A message of the wanted station.
abbrev pub is_own : GatherSetup → Heard → Bool
is_own s m = option_map_or (λ from. option_map_or (λ wanted. from == wanted) s.station true) m.station false

-- An own message after which no more messages of its time follow, if the multiple message bit is used.
abbrev pub ends_epoch : GatherSetup → Heard → Bool
ends_epoch s m = is_by_bit s.gather && is_own s m && option_map_or not m.more false

-- The parts of a message, or `None` if it was refused.
abbrev pub heard_of : ChannelsValue → ℕ → Result Message MsgFault → Option Heard
heard_of channels leap (Ok m) = Some (heard channels leap m)
heard_of channels leap (Err e) = None

-- The parts of the message in these bytes, if the MSMs of this set are decoded, and if all are.
abbrev pub heard_in : ChannelsValue → ℕ → MsmSet → List ℕ → Option Heard
heard_in channels leap set bytes = heard_of channels leap (message_with set bytes)

abbrev pub heard_at : ChannelsValue → ℕ → List ℕ → Option Heard
heard_at channels leap bytes = heard_of channels leap (message_at bytes)
