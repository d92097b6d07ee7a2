-- The cells of messages.
use Rattle.std.specs.Prelude.{ℕ, ℤ, ◌≡◌, ◌==◌, ◌&&◌, Bool, Option, IfSome}
use Rattle.gnss_system.specs.Satellites.{Satellite, IsSatellite}
use Rattle.gnss_system.specs.Systems.{is_system}
use Rattle.gnss_system.specs.Signals.{SignalAt, IsSignal}
use Rattle.gnss_obs.specs.LockTimes.{LockTime}
use Rattle.gnss_obs.specs.Values.{HasTwelveDigits}
use Rattle.gnss_obs.specs.declared.cell.Cell.{Cell}

-- A cell of a message, of a listed satellite and signal: its values in thousandths, the lock of its phase, and whether
-- the phase may be off by half a cycle (DF420).
pub record HeardCell : Type 0 where
  pub satellite : Satellite
  pub signal : SignalAt
  pub c : Option ℤ
  pub l : Option ℤ
  pub d : Option ℤ
  pub s : Option ℤ
  pub lock : LockTime
  pub half_cycle : Bool

-- A listed satellite and a listed signal of one system.
pub record IsKey (x : HeardCell) : Type 0 where
  pub satellite : IsSatellite x.satellite
  pub signal : IsSignal x.signal
  pub same : x.signal.system ≡ x.satellite.system

-- A cell of a listed satellite and signal of one system, with bounded values.
pub record IsObserved (x : HeardCell) : Type 0 where
  pub key : IsKey x
  pub c : IfSome x.c HasTwelveDigits
  pub l : IfSome x.l HasTwelveDigits
  pub d : IfSome x.d HasTwelveDigits
  pub s : IfSome x.s HasTwelveDigits

-- The kept cell of an epoch with this loss of lock indicator.
abbrev pub kept_cell : HeardCell → ℕ → Cell
kept_cell x lli = record {
  satellite = x.satellite;
  signal = x.signal;
  c = x.c;
  l = x.l;
  d = x.d;
  s = x.s;
  lli = lli;
  lock = x.lock;
  half_cycle = x.half_cycle;
}

-- The cell of a message of which this is the kept cell.
abbrev pub heard_cell : Cell → HeardCell
heard_cell c = record {
  satellite = c.satellite;
  signal = c.signal;
  c = c.c;
  l = c.l;
  d = c.d;
  s = c.s;
  lock = c.lock;
  half_cycle = c.half_cycle;
}

-- The same system, satellite and signal.
abbrev pub same_key : Satellite → SignalAt → Satellite → SignalAt → Bool
same_key satellite signal other_satellite other_signal =
    is_system satellite.system other_satellite.system && (satellite.id == other_satellite.id)
    && (signal.index == other_signal.index)

abbrev pub has_same_key : HeardCell → HeardCell → Bool
has_same_key a b = same_key a.satellite a.signal b.satellite b.signal
