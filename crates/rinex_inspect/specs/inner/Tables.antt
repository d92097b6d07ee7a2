-- The tables of what satellites have, and one step of them.
use Rattle.std.specs.Prelude.{◌≡◌, ℕ, ◌+◌, ◌-◌, ◌^◌, ◌<◌, ◌==◌, Bool, min, is_some, List, [], ◌∷◌, length, get_or, set}
use Rattle.std.specs.Prelude.{if◌then◌else◌}
use Rattle.gnss_system.specs.declared.system.System.{System}
use Rattle.gnss_system.specs.Satellites.{Satellite, satellites}
use Rattle.gnss_system.specs.Signals.{most_signals}
use Rattle.gnss_system.specs.SystemValues.{value_of}
use Rattle.rinex_file.specs.Value.{SatelliteRow, SignalValues, Stamped}
use Rattle.rinex_inspect.specs.CheckOutput.{times_in}
use Rattle.rinex_inspect.specs.QualityOutput.{Contents}
use Rattle.rinex_inspect.specs.Tallies.{from_first, has_line, is_half, is_lost, last_of, no_tally, presence_of}
use Rattle.rinex_inspect.specs.Tallies.{satellite_at, strength_of, tally_of}
use Rattle.rinex_inspect.specs.declared.table.SatelliteRecord.{SatelliteRecord}
use Rattle.rinex_inspect.specs.declared.table.Table.{Table}
use Rattle.rinex_inspect.specs.declared.tally.Presence.{Presence}
use Rattle.rinex_inspect.specs.declared.tally.Tally.{Tally}

-- ---- numbers of some bits, which stop at the greatest one; those of no file are greater

abbrev pub capped : (bits n : ℕ) → ℕ
capped bits n = min n (2 ^ bits - 1)

abbrev pub one_if : Bool → ℕ
one_if b = if b then 1 else 0

abbrev pub capped_tally : Tally → Tally
capped_tally t = record {
  c = capped 32 t.c;
  l = capped 32 t.l;
  d = capped 32 t.d;
  s = capped 32 t.s;
  lost = capped 32 t.lost;
  half = capped 32 t.half;
  strength = capped 64 t.strength;
}

abbrev pub with_values : Tally → SignalValues → Tally
with_values t e = record {
  c = capped 32 (t.c + one_if (is_some e.c));
  l = capped 32 (t.l + one_if (is_some e.l));
  d = capped 32 (t.d + one_if (is_some e.d));
  s = capped 32 (t.s + one_if (is_some e.s));
  lost = capped 32 (t.lost + one_if (is_lost e));
  half = capped 32 (t.half + one_if (is_half e));
  strength = capped 64 (t.strength + strength_of e.s);
}

abbrev pub plus : Tally → Tally → Tally
plus t u = record {
  c = capped 32 (t.c + u.c);
  l = capped 32 (t.l + u.l);
  d = capped 32 (t.d + u.d);
  s = capped 32 (t.s + u.s);
  lost = capped 32 (t.lost + u.lost);
  half = capped 32 (t.half + u.half);
  strength = capped 64 (t.strength + u.strength);
}

-- the values of each signal, added to its tally
abbrev pub added : List Tally → List SignalValues → List Tally
added [] es = []
added (t ∷ ts) [] = t ∷ ts
added (t ∷ ts) (e ∷ es) = with_values t e ∷ added ts es

-- ---- records

-- the number of epochs before the first one of a satellite, after a line in the last of n epochs
abbrev pub before_with : ℕ → SatelliteRecord → ℕ
before_with n r = if r.presence.epochs == 0 then n - 1 else r.before

abbrev pub present_with : (n time : ℕ) → SatelliteRecord → Presence
present_with n time r = record {
  epochs = capped 64 (r.presence.epochs + 1);
  span = n - before_with n r;
  first = if r.presence.epochs == 0 then time else r.presence.first;
  last = time;
}

-- a line with these values was added, in the last of n epochs, which is at this time
pub record HasAdded (n time : ℕ) (es : List SignalValues) (r r' : SatelliteRecord) : Type 0 where
  pub signals : r'.signals ≡ added r.signals es
  pub presence : r'.presence ≡ present_with n time r
  pub before : r'.before ≡ before_with n r

abbrev pub no_presence : Presence
no_presence = record { epochs = 0; span = 0; first = 0; last = 0 }

-- without a line
pub record IsBlankRecord (r : SatelliteRecord) : Type 0 where
  pub size : length r.signals ≡ most_signals
  pub signals : (k : ℕ) → k < most_signals → get_or r.signals k no_tally ≡ no_tally
  pub presence : r.presence ≡ no_presence

-- what a satellite has in epochs
pub record IsRecordOf (r : SatelliteRecord) (s : Satellite) (es : List Stamped) : Type 0 where
  pub size : length r.signals ≡ most_signals
  pub signals : (k : ℕ) → k < most_signals → get_or r.signals k no_tally ≡ capped_tally (tally_of s k es)
  pub presence : r.presence ≡ presence_of s es
  pub before : 0 < r.presence.epochs → r.before + length (from_first (has_line s) es) ≡ length es

-- ---- tables

abbrev pub records_in : Table → System → List SatelliteRecord
records_in t s = (value_of s t.records).items

abbrev pub no_record : SatelliteRecord
no_record = record { signals = []; presence = no_presence; before = 0 }

abbrev pub record_at : Table → System → ℕ → SatelliteRecord
record_at t s i = get_or (records_in t s) i no_record

-- the records have a place for each satellite
abbrev pub HasPlaces : Table → Type 0
HasPlaces t = (s : System) → length (records_in t s) ≡ satellites s

-- the records of a system without a line
pub record AreBlank (s : System) (rs : List SatelliteRecord) : Type 0 where
  pub size : length rs ≡ satellites s
  pub each : (i : ℕ) → i < satellites s → IsBlankRecord (get_or rs i no_record)

-- each record has no line
pub record IsBlankTable (t : Table) : Type 0 where
  pub epochs : t.epochs ≡ 0
  pub time : t.time ≡ 0
  pub records : (s : System) → AreBlank s (records_in t s)

-- the line of a satellite was added
pub record HasAddedRow (row : SatelliteRow) (t t' : Table) : Type 0 where
  pub epochs : t'.epochs ≡ t.epochs
  pub time : t'.time ≡ t.time
  pub other : (s : System) → (s ≡ row.system → ⊥) → records_in t' s ≡ records_in t s
  pub this : (r' : SatelliteRecord)
      × (records_in t' row.system ≡ set (records_in t row.system) (row.row.satellite - 1) r')
      × HasAdded t.epochs t.time row.row.signal_values (record_at t row.system (row.row.satellite - 1)) r'

-- what satellites have in epochs
pub record IsTableOf (t : Table) (es : List Stamped) : Type 0 where
  pub epochs : t.epochs ≡ length es
  pub time : t.time ≡ last_of (times_in es)
  pub size : HasPlaces t
  pub each : (s : System) (i : ℕ) → i < satellites s → IsRecordOf (record_at t s i) (satellite_at s i) es

-- what the records of a table have
abbrev pub contents_in : Table → Contents
contents_in t = record {
  tallies = λ s i k. get_or (record_at t s i).signals k no_tally;
  presences = λ s i. (record_at t s i).presence;
}

-- the tally of the signal at index k in the record at an index
abbrev pub tally_at : List SatelliteRecord → ℕ → ℕ → Tally
tally_at rs k i = get_or (get_or rs i no_record).signals k no_tally

-- an epoch without lines was begun at this time
abbrev pub begun : ℕ → Table → Table
begun time t = record t { epochs = capped 64 (t.epochs + 1); time = time }
