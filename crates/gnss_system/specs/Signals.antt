-- The signals of each system.
use Rattle.std.specs.Prelude.{ℕ, List, [], ◌+◌, Bool, ◌*◌, ◌==◌, ◌<◌, nat_lt, if◌then◌else◌, Option, Some, None, option_map}
use Rattle.std.specs.Prelude.{length, position, slice_get, zero, suc, ◌∷◌, ◌++◌, unwrap_or}
use Rattle.std.specs.Option.{option_map_or}
use Rattle.std.specs.List.{sum_by}
use Rattle.std.specs.Str.{bytes_eq}
use Rattle.gnss_system.specs.Satellites.{satellites}
use Rattle.gnss_system.specs.Systems.{systems, before}
use Rattle.gnss_system.specs.declared.tables.ListedSignal.{ListedSignal}
use Rattle.gnss_system.specs.declared.system.System.{System}
pub use Rattle.gnss_system.specs.SignalTables.{table, carriers, band_of, carrier_of}

-- the largest number of signals in a table
abbrev pub most_signals : ℕ
most_signals = 19

-- a signal: its index in the table of its system, from 0
pub record SignalAt : Type 0 where
  pub system : System
  pub index : ℕ

-- the index is in the table
abbrev pub IsSignal : SignalAt → Type 0
IsSignal s = s.index < length (table s.system)

-- the next index
abbrev pub after : SignalAt → SignalAt
after s = record { system = s.system; index = s.index + 1 }

-- the signal at an index, if there is one
abbrev pub signal_at : System → ℕ → Option SignalAt
signal_at system index =
    if nat_lt index (length (table system))
    then Some (record { system = system; index = index })
    else None

-- the first signal in a system's table that passes a test
abbrev pub signal_where : System → (ListedSignal → Bool) → Option SignalAt
signal_where system test = option_map (λ i. record { system = system; index = i }) (position test (table system))

-- the signal with this ID, if there is one
abbrev pub signal_of_id : System → ℕ → Option SignalAt
signal_of_id system id = signal_where system (λ e. e.id == id)

-- the signal with this code, if there is one
abbrev pub signal_of_code : System → List ℕ → Option SignalAt
signal_of_code system code = signal_where system (λ e. bytes_eq e.code code)

-- the signal mask, DF395, has a bit for each ID
abbrev pub greatest_signal_id : ℕ
greatest_signal_id = 32

-- for each ID from 0 to the greatest one, the index of its signal in a system's table, or `no_row`
abbrev pub no_row : ℕ
no_row = 255

abbrev pub values_below : (ℕ → ℕ) → ℕ → List ℕ
values_below f zero = []
values_below f (suc n) = values_below f n ++ f n ∷ []

abbrev pub rows : System → List ℕ
rows system =
    values_below (λ id. unwrap_or (position (λ e. e.id == id) (table system)) no_row) (greatest_signal_id + 1)

-- the ID of a signal
abbrev pub id_of : SignalAt → ℕ
id_of s = option_map_or (λ e. e.id) (slice_get (table s.system) s.index) 0

-- the code of a signal: the digit of its band and the letter of its attribute
abbrev pub code_of : SignalAt → List ℕ
code_of s = option_map_or (λ e. e.code) (slice_get (table s.system) s.index) []

-- the largest carrier frequency, in hertz: that of channel 6 of GLONASS in band 1
abbrev pub most_hertz : ℕ
most_hertz = 1605375000

-- the carrier frequency of a signal, in hertz, of GLONASS that of channel 0
abbrev pub hertz_of : SignalAt → ℕ
hertz_of s = carrier_of (carriers s.system) (band_of (code_of s))

-- the number of keys of a system: one for each of its satellites with each signal of its table
abbrev pub keys_of : System → ℕ
keys_of system = satellites system * length (table system)

-- the number of keys of all systems, and of those before a system
abbrev pub key_count : ℕ
key_count = sum_by keys_of systems

abbrev pub first_key : System → ℕ
first_key system = sum_by keys_of (before system)
