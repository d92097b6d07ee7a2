-- The forms of multiple signal messages: the fields of a satellite and of a cell, and their meaning.
use Rattle.std.specs.Prelude.{◌==◌, ℕ, ℤ, ◌^◌, List, [], ◌∷◌, Bool, true, false, not, nat_le, Option, if◌then◌else◌}
use Rattle.std.specs.Ordering.{int_eq}
use Rattle.std.specs.List.{find, list_any}
use Rattle.rtcm_msg.specs.inner.Ranges.{fits_int}
use Rattle.rtcm_msg.specs.Fractions.{invalid_rough_rate, invalid_fine_rate}
use Rattle.rtcm_msg.specs.Packed.{packed, unpacked}
use Rattle.rtcm_msg.specs.declared.fault.Field.{Field}
use Rattle.rtcm_msg.specs.declared.view.Form.{Form}
use Rattle.rtcm_msg.specs.declared.data.Satellite.{Satellite}
use Rattle.rtcm_msg.specs.declared.data.Cell.{Cell}
use Rattle.rtcm_msg.specs.declared.fault.Field.TheVariants as fields
use Rattle.rtcm_msg.specs.declared.view.Form.TheVariants as forms
use Rattle.rtcm_msg.specs.Forms.{is_fine, has_rates, precision, cell_table_by, extended_width, cell_contents, cell_of}
use Rattle.rtcm_msg.specs.Forms.{least}

-- The form whose message numbers end with this digit, MSM7 for any other.
abbrev pub form_as : ℕ → Form
form_as digit =
    if digit == 4 then forms.Msm4 else (if digit == 5 then forms.Msm5 else (if digit == 6 then forms.Msm6 else forms.Msm7))

-- ---- their contents

-- The fields of a cell before the rate, and back.
abbrev pub rateless_number : Bool → Cell → ℕ
rateless_number fine c = packed (cell_table_by fine false) (cell_contents fine false c)

abbrev pub rateless : Bool → ℕ → Cell
rateless fine p = cell_of fine false (unpacked (cell_table_by fine false) p)

-- ---- faults

abbrev pub fits_if : Bool → ℕ → ℤ → ℤ → Bool
fits_if false w none z = int_eq z none
fits_if true w none z = fits_int w z

-- A field of a satellite does not fit its bits; the last one for any field that is not named.
abbrev pub is_bad_satellite : Form → Field → Satellite → Bool
is_bad_satellite f fields.RangeWhole x = nat_le (2 ^ 8) x.whole
is_bad_satellite f fields.Extended x = nat_le (2 ^ extended_width (has_rates f)) x.extended
is_bad_satellite f fields.RangeFraction x = nat_le (2 ^ 10) x.fraction
is_bad_satellite f field x = not (fits_if (has_rates f) 14 invalid_rough_rate x.rate)

-- A field of a cell does not fit its bits; the last one for any field that is not named.
abbrev pub is_bad_cell : Form → Field → Cell → Bool
is_bad_cell f fields.FineRange x = not (fits_int (precision (is_fine f)).range x.range)
is_bad_cell f fields.FinePhase x = not (fits_int (precision (is_fine f)).phase x.phase)
is_bad_cell f fields.Lock x = nat_le (2 ^ (precision (is_fine f)).lock) x.lock
is_bad_cell f fields.Strength x = nat_le (2 ^ (precision (is_fine f)).strength) x.strength
is_bad_cell f field x = not (fits_if (has_rates f) 15 invalid_fine_rate x.rate)

-- The fields of a satellite and of a cell, in the order of the layout.
abbrev pub satellite_fields : List Field
satellite_fields = fields.RangeWhole ∷ fields.Extended ∷ fields.RangeFraction ∷ fields.RoughRate ∷ []

abbrev pub cell_fields : List Field
cell_fields = fields.FineRange ∷ fields.FinePhase ∷ fields.Lock ∷ fields.Strength ∷ fields.FineRate ∷ []

-- The first of them that does not fit its bits in some satellite or cell.
abbrev pub satellite_fault : Form → List Satellite → Option Field
satellite_fault f xs = find (λ field. list_any (is_bad_satellite f field) xs) satellite_fields

abbrev pub cell_fault : Form → List Cell → Option Field
cell_fault f xs = find (λ field. list_any (is_bad_cell f field) xs) cell_fields

-- ---- their meaning

-- The fine pseudorange is valid.
abbrev pub has_range : Form → Cell → Bool
has_range f c = not (int_eq c.range (least (precision (is_fine f)).range))
