-- The forms of multiple signal messages: the fields of a satellite and of a cell, and their meaning.
use Rattle.std.specs.Prelude.{◌≡◌, ℕ, ℤ, negsuc, ◌^◌, ◌-◌, ◌<◌, List, [], ◌∷◌, Bool, true, false, Option, if◌then◌else◌}
use Rattle.rtcm_bits.specs.Bits.{FitsInt}
use Rattle.rtcm_msg.specs.Layout.{Table, Uint, Int, Flag, Contents, widths, ◌▸◌}
use Rattle.rtcm_msg.specs.Fractions.{scaled, range_joined, rate_joined, invalid_rough_rate, invalid_fine_rate}
use Rattle.rtcm_msg.specs.Packed.{packed, unpacked}
use Rattle.rtcm_msg.specs.Msm.{MsmValue, MasksValue, IsValue}
use Rattle.gnss_system.specs.declared.system.System.{System}
use Rattle.rtcm_msg.specs.declared.view.Form.{Form}
use Rattle.rtcm_msg.specs.declared.entry.Entry.{Entry}
use Rattle.rtcm_msg.specs.declared.pairs.Pair.{Pair}
use Rattle.rtcm_msg.specs.declared.data.Satellite.{Satellite}
use Rattle.rtcm_msg.specs.declared.data.Cell.{Cell}
use Rattle.rtcm_msg.specs.declared.header.MsmHeader.{MsmHeader}
use Rattle.rtcm_msg.specs.declared.view.Form.TheVariants as forms
use Rattle.rtcm_msg.specs.Fractions as fractions

-- ---- what differs between the forms

-- Cells have the finer units and the wider fields of MSM6 and MSM7.
abbrev pub is_fine : Form → Bool
is_fine forms.Msm4 = false
is_fine forms.Msm5 = false
is_fine forms.Msm6 = true
is_fine forms.Msm7 = true

-- There are phase range rates, and extended satellite information.
abbrev pub has_rates : Form → Bool
has_rates forms.Msm4 = false
has_rates forms.Msm5 = true
has_rates forms.Msm6 = false
has_rates forms.Msm7 = true

-- ---- the fields

-- The fields of a satellite, without and with rates.
abbrev pub satellite_table_by : Bool → Table
satellite_table_by false =
    (397, Uint 8)  -- rough range, whole ms, 255 invalid
    ∷ (398, Uint 10)  -- rough range below 1 ms, 2^-10 ms
    ∷ []
satellite_table_by true =
    (397, Uint 8)  -- rough range, whole ms, 255 invalid
    ∷ (0, Uint 4)  -- extended satellite information, of GLONASS DF419, which has no number for other systems
    ∷ (398, Uint 10)  -- rough range below 1 ms, 2^-10 ms
    ∷ (399, Int 14)  -- rough phase range rate, m/s, -2^13 invalid
    ∷ []

abbrev pub satellite_table : Form → Table
satellite_table f = satellite_table_by (has_rates f)

-- The widths of the fields of a cell, and their units in 2^-31 ms or 2^-4 dB-Hz.
pub record Precision : Type 0 where
  pub range : ℕ
  pub range_unit : ℕ
  pub phase : ℕ
  pub phase_unit : ℕ
  pub lock : ℕ
  pub strength : ℕ
  pub strength_unit : ℕ

-- The precision of MSM4 and MSM5, and of MSM6 and MSM7.
abbrev pub precision : Bool → Precision
precision false = record { range = 15; range_unit = 128; phase = 22; phase_unit = 4; lock = 4; strength = 6; strength_unit = 16 }
precision true = record { range = 20; range_unit = 4; phase = 24; phase_unit = 1; lock = 10; strength = 10; strength_unit = 1 }

abbrev pub rate_table : Bool → Table
rate_table false = []
rate_table true =
    (404, Int 15)  -- fine phase range rate, 0.0001 m/s, -2^14 invalid
    ∷ []

-- The fields of a cell. The least pseudorange and the least phase range of their widths are invalid.
abbrev pub cell_table_by : (fine rates : Bool) → Table
cell_table_by fine rates =
    (if fine then 405 else 400, Int (precision fine).range)  -- fine pseudorange
    ∷ (if fine then 406 else 401, Int (precision fine).phase)  -- fine phase range
    ∷ (if fine then 407 else 402, Uint (precision fine).lock)  -- lock time indicator
    ∷ (420, Flag)  -- half-cycle ambiguity indicator
    ∷ (if fine then 408 else 403, Uint (precision fine).strength)  -- carrier to noise ratio, 0 not computed
    ∷ rate_table rates

abbrev pub cell_table : Form → Table
cell_table f = cell_table_by (is_fine f) (has_rates f)

abbrev pub satellite_widths : Form → List ℕ
satellite_widths f = widths (satellite_table f)

abbrev pub cell_widths : Form → List ℕ
cell_widths f = widths (cell_table f)

-- ---- their contents

-- A number fits w bits; without a field for it, it has a fixed value.
abbrev pub FitsIf : Bool → ℕ → ℤ → ℤ → Type 0
FitsIf false w none z = z ≡ none
FitsIf true w none z = FitsInt w z

-- The width of the extended satellite information.
abbrev pub extended_width : Bool → ℕ
extended_width false = 0
extended_width true = 4

pub record FitsSatellite (rates : Bool) (s : Satellite) : Type 0 where
  pub whole : s.whole < 2 ^ 8
  pub extended : s.extended < 2 ^ extended_width rates
  pub fraction : s.fraction < 2 ^ 10
  pub rate : FitsIf rates 14 invalid_rough_rate s.rate

pub record FitsCell (fine rates : Bool) (c : Cell) : Type 0 where
  pub range : FitsInt (precision fine).range c.range
  pub phase : FitsInt (precision fine).phase c.phase
  pub lock : c.lock < 2 ^ (precision fine).lock
  pub strength : c.strength < 2 ^ (precision fine).strength
  pub rate : FitsIf rates 15 invalid_fine_rate c.rate

abbrev pub IsSatelliteData : Form → Satellite → Type 0
IsSatelliteData f s = FitsSatellite (has_rates f) s

abbrev pub IsCellData : Form → Cell → Type 0
IsCellData f c = FitsCell (is_fine f) (has_rates f) c

-- The contents of the fields of a satellite and of a cell, and back.
abbrev pub satellite_contents : (rates : Bool) → Satellite → Contents (satellite_table_by rates)
satellite_contents false s = s.whole ▸ s.fraction ▸ tt
satellite_contents true s = s.whole ▸ s.extended ▸ s.fraction ▸ s.rate ▸ tt

abbrev pub satellite_of : (rates : Bool) → Contents (satellite_table_by rates) → Satellite
satellite_of false (whole, (fraction, end)) =
    record { whole = whole; extended = 0; fraction = fraction; rate = invalid_rough_rate }
satellite_of true (whole, (extended, (fraction, (rate, end)))) =
    record { whole = whole; extended = extended; fraction = fraction; rate = rate }

abbrev pub rate_contents : (rates : Bool) → ℤ → Contents (rate_table rates)
rate_contents false z = tt
rate_contents true z = z ▸ tt

abbrev pub rate_in : (rates : Bool) → Contents (rate_table rates) → ℤ
rate_in false end = invalid_fine_rate
rate_in true (rate, end) = rate

abbrev pub cell_contents : (fine rates : Bool) → Cell → Contents (cell_table_by fine rates)
cell_contents fine rates c =
    c.range ▸ c.phase ▸ c.lock ▸ c.half_cycle ▸ c.strength ▸ rate_contents rates c.rate

abbrev pub cell_of : (fine rates : Bool) → Contents (cell_table_by fine rates) → Cell
cell_of fine rates (range, (phase, (lock, (half_cycle, (strength, end))))) =
    record {
      range = range;
      phase = phase;
      lock = lock;
      half_cycle = half_cycle;
      strength = strength;
      rate = rate_in rates end;
    }

-- The same packed in one number, and back.
abbrev pub satellite_number : Form → Satellite → ℕ
satellite_number f s = packed (satellite_table f) (satellite_contents (has_rates f) s)

abbrev pub satellite_data : Form → ℕ → Satellite
satellite_data f p = satellite_of (has_rates f) (unpacked (satellite_table f) p)

abbrev pub cell_number : Form → Cell → ℕ
cell_number f c = packed (cell_table f) (cell_contents (is_fine f) (has_rates f) c)

abbrev pub cell_data : Form → ℕ → Cell
cell_data f p = cell_of (is_fine f) (has_rates f) (unpacked (cell_table f) p)

-- ---- their meaning

-- The least number of w bits, which stands for an invalid one.
abbrev pub least : ℕ → ℤ
least w = negsuc (2 ^ (w - 1) - 1)

-- The fine pseudorange and the fine phase range of a cell in 2^-31 ms.
abbrev pub fine_range : Form → Cell → Option ℤ
fine_range f c = let p = precision (is_fine f) in scaled (least p.range) p.range_unit c.range

abbrev pub fine_phase : Form → Cell → Option ℤ
fine_phase f c = let p = precision (is_fine f) in scaled (least p.phase) p.phase_unit c.phase

-- The pseudorange and the phase range in 2^-31 ms, and the phase range rate in 0.0001 m/s.
abbrev pub range_of : Form → Satellite → Cell → Option ℤ
range_of f s c = range_joined s.whole s.fraction (fine_range f c)

abbrev pub phase_of : Form → Satellite → Cell → Option ℤ
phase_of f s c = range_joined s.whole s.fraction (fine_phase f c)

abbrev pub rate_of : Satellite → Cell → Option ℤ
rate_of s c = rate_joined s.rate c.rate

abbrev pub strength_of : Form → Cell → Option ℕ
strength_of f c = fractions.strength_of c.strength (precision (is_fine f)).strength_unit

-- The entry of a cell of a satellite and a signal.
abbrev pub entry : Form → Pair → Satellite → Cell → Entry
entry f pair s c = record {
  satellite = pair.satellite;
  signal = pair.signal;
  range = range_of f s c;
  phase = phase_of f s c;
  rate = rate_of s c;
  strength = strength_of f c;
  lock = c.lock;
  half_cycle = c.half_cycle;
}

-- The number of lock time indicators, DF402 or DF407.
abbrev pub lock_codes : Form → ℕ
lock_codes f = 2 ^ (precision (is_fine f)).lock

-- ---- messages

-- A multiple signal message of a form.
pub record FormedMsm : Type 0 where
  pub form : Form
  pub msm : MsmValue

-- A message with these parts.
abbrev pub msm_of_parts : Form → System → MsmHeader → MasksValue → List ℕ → List ℕ → FormedMsm
msm_of_parts form system header sets satellites cells = record {
  form = form;
  msm = record { system = system; header = header; sets = sets; satellites = satellites; cells = cells };
}

-- A value whose fields have the widths of its form.
abbrev pub IsMsm : FormedMsm → Type 0
IsMsm v = IsValue (satellite_widths v.form) (cell_widths v.form) v.msm
