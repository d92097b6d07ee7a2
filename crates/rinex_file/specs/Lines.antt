-- Epoch records and observation records of RINEX 3.05, table A3.
use Rattle.std.specs.Prelude.{ℕ, ℤ, pos, ◌+◌, ◌*◌, ◌==◌, List, [], ◌∷◌, ◌++◌, flat_map, replicate, decimal, codes}
use Rattle.std.specs.Prelude.{if◌then◌else◌, Option, Some, None}
use Rattle.std.specs.Option.{option_map_or}
use Rattle.gnss_obs.specs.Observables.{strength_digit}
use Rattle.gnss_system.specs.Satellites.{letter, number_of}
use Rattle.gnss_obs.specs.declared.civil.Civil.{Civil}
use Rattle.rinex_columns.specs.Numbers.{joined, right, fixed, padded}
use Rattle.rinex_file.specs.Blanks.{trimmed}
use Rattle.rinex_file.specs.Value.{SignalValues, SatelliteRow}
use Rattle.rinex_columns.specs.Limits.{value_columns}

-- the fields of the first line of an epoch with this number of satellites
abbrev pub epoch_fields : Civil → ℕ → List (List ℕ)
epoch_fields t satellites =
    codes "> " ∷ right 4 (decimal t.year)
    ∷ codes " " ∷ padded 2 t.month
    ∷ codes " " ∷ padded 2 t.day
    ∷ codes " " ∷ padded 2 t.hour
    ∷ codes " " ∷ padded 2 t.minute
    ∷ right 11 (fixed 7 (pos (t.millisecond * 10_000)))
    ∷ codes "  0" ∷ right 3 (decimal satellites)
    ∷ (10 ∷ []) ∷ []

unfoldable pub epoch_line : Civil → ℕ → List ℕ
epoch_line t satellites = joined (epoch_fields t satellites)

-- a value with its LLI and SSI columns; 16 blanks if it is absent
unfoldable pub field : Option ℤ → ℕ → ℕ → List ℕ
field None lost strength = replicate value_columns 32
field (Some v) lost strength = right 14 (fixed 3 v) ++ lost ∷ strength ∷ []

-- the LLI column of a phase
abbrev pub lli_byte : ℕ → ℕ
lli_byte lli = if lli == 0 then 32 else 48 + lli

-- the SSI column
abbrev pub strength_byte : Option ℤ → ℕ
strength_byte s = option_map_or (λ t. 48 + strength_digit t) s 32

-- the 64 columns of a signal
unfoldable pub signal_text : SignalValues → List ℕ
signal_text e =
    field e.c 32 (strength_byte e.s)
    ++ (field e.l (lli_byte e.lli) (strength_byte e.s) ++ (field e.d 32 32 ++ field e.s 32 32))

-- letter and number of a satellite, and the columns of its signals
abbrev pub row_text : ℕ → ℕ → List SignalValues → List ℕ
row_text byte number values = byte ∷ padded 2 number ++ flat_map signal_text values

-- the line of a satellite, without trailing blanks
unfoldable pub satellite_line : SatelliteRow → List ℕ
satellite_line s =
    trimmed (row_text (letter s.system) (number_of s.system s.row.satellite) s.row.signal_values) ++ 10 ∷ []
