-- The counts of the cells with a value, and of those of a message.
use Rattle.obs_epoch.proofs.Names.{System, Satellite, SignalAt, LockTime, Entry, Heard, seen_in, observed, HeardCell, SignalCountsValue, brings_value, is_of_signal, count_of, AreSignalCounts, cons_option, Form, satellite_of_id, every_channel, hertz_by, hertz_in, number_at, slot_count, IsSatellite, satellites, Glonass, ◌<◌, ◌-◌, None, true, refl, get_or-replicate, most_signals, value_of, ◌≡◌, get_or, replicate, ℕ, ◌≤◌, List, [], ◌++◌, length, arith, Option, Some, filter, is_some, filter_map, unwrap_or, common_steps, length-filter-le, length-filter_map-le, CountsMessage}
use Rattle.rtcm_msg.specs.inner.Presences.{has_value}

-- ---- the cells of a signal

pub few_of : (g : SignalAt) (cells : List HeardCell) → count_of g cells ≤ length cells
few_of g cells = length-filter-le (is_of_signal g) cells

-- ---- the cell of an entry

-- Each satellite has a carrier if each slot has a channel.
pub every_hertz : (system : System) (id : ℕ) (s : Satellite) (g : SignalAt) → satellite_of_id system id ≡ Some s → is_some (hertz_in every_channel s g) ≡ true
every_hertz system id s g h = by s.system s.id g (satellite_is system id s h) where
  satellite_is : (system : System) (id : ℕ) (s : Satellite) → satellite_of_id system id ≡ Some s → IsSatellite s
  satellite_is system id s h = grind (arith, common_steps, h)

  at : (n : ℕ) → n < slot_count → get_or every_channel n None ≡ Some 7
  at n less = get_or-replicate {A = Option ℕ} slot_count n (Some 7) None less

  by : (system : System) (id : ℕ) (g : SignalAt) → (1 ≤ id) × (id ≤ satellites system) → is_some (hertz_by system (number_at every_channel id) g) ≡ true
  by Glonass id g h = rw (at (id - 1) (omega (arith, h.0, h.1))) refl
  by _ id g h = refl

pub value_same : (lock : LockTime) (e : Entry) (s : Satellite) (g : SignalAt) → is_some (hertz_in every_channel s g) ≡ true → brings_value (observed every_channel lock e s g) ≡ has_value e
value_same lock e s g some = grind (arith, common_steps)

-- The cells of one entry and of the entries after it.
pub one_first : (o : Option HeardCell) (xs : List HeardCell) → filter brings_value (cons_option o []) ++ filter brings_value xs ≡ filter brings_value (cons_option o xs)
one_first o xs = grind (arith, common_steps)

-- ---- the cells of a message

-- The wanted station is that of the message.
pub own_counted : {c c' : SignalCountsValue} (wanted : Option ℕ) (station : ℕ) (m : Heard) → m.station ≡ Some station → unwrap_or wanted station ≡ station → CountsMessage c c' None m → CountsMessage c c' wanted m
own_counted wanted station m at is h = grind (arith, common_steps)

pub few_valued : (form : Form) (system : System) (es : List Entry) (cells : List HeardCell) → cells ≡ filter brings_value (filter_map (seen_in every_channel form system) es) → length es ≤ 64 → length cells ≤ 64
few_valued form system es cells is few = grind (arith, common_steps, length-filter-le, length-filter_map-le)

-- Counts that are all 0.
abbrev no_cells : List ℕ
no_cells = replicate most_signals 0

pub none_counted : (c : SignalCountsValue) → ((s : System) → value_of s c ≡ no_cells) → AreSignalCounts c []
none_counted c none = grind arith
