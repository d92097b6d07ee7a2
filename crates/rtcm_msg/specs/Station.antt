-- Messages 1005 and 1006.
use Rattle.std.specs.Prelude.{ℕ, ◌==◌, ◌^◌, ◌<◌, if◌then◌else◌, Bool, true, false, List, [], ◌∷◌, ◌++◌, Option, Some, None}
use Rattle.std.specs.Prelude.{Result, Ok, is_some, IfSome}
use Rattle.rtcm_bits.specs.Bits.{signed, FitsInt}
use Rattle.rtcm_bits.specs.Cursors.{Cursor}
use Rattle.rtcm_msg.specs.declared.fault.MsgFault.{MsgFault}
use Rattle.rtcm_msg.specs.declared.station.StationParts.{StationParts}
use Rattle.rtcm_msg.specs.Layout.{Table, Uint, Int, Flag, Reserved, Contents, widths, fields_of, ◌▸◌, number_table}
use Rattle.rtcm_msg.specs.Fields.{field_at, reading, ◌>>=◌}

-- The fields of message 1005 after the message number.
abbrev pub station_table : Table
station_table =
    (3, Uint 12)  -- reference station ID
    ∷ (21, Uint 6)  -- ITRF realization year
    ∷ (22, Flag)  -- GPS indicator
    ∷ (23, Flag)  -- GLONASS indicator
    ∷ (24, Flag)  -- Galileo indicator
    ∷ (141, Flag)  -- reference station indicator
    ∷ (25, Int 38)  -- antenna reference point ECEF-X, 0.0001 m
    ∷ (142, Flag)  -- single receiver oscillator indicator
    ∷ (1, Reserved 1)
    ∷ (26, Int 38)  -- antenna reference point ECEF-Y, 0.0001 m
    ∷ (364, Uint 2)  -- quarter cycle indicator
    ∷ (27, Int 38)  -- antenna reference point ECEF-Z, 0.0001 m
    ∷ []

-- The additional field of message 1006.
abbrev pub height_table : Table
height_table =
    (28, Uint 16)  -- antenna height, 0.0001 m
    ∷ []

-- The widths of the fields after the message number.
abbrev pub field_widths : Bool → List ℕ
field_widths false = widths station_table
field_widths true = widths (station_table ++ height_table)

-- The height in the bits of a message.
abbrev pub height_in : Bool → List Bool → Option ℕ
height_in false bits = None
height_in true bits = Some (field_at bits 152 16)

-- The fields in the bits of a message.
abbrev pub parts_in : Bool → List Bool → StationParts
parts_in has_height bits = record {
  station = field_at bits 12 12;
  realization = field_at bits 24 6;
  gps = field_at bits 30 1 == 1;
  glonass = field_at bits 31 1 == 1;
  galileo = field_at bits 32 1 == 1;
  reference = field_at bits 33 1 == 1;
  x = signed 38 (field_at bits 34 38);
  oscillator = field_at bits 72 1 == 1;
  y = signed 38 (field_at bits 74 38);
  quarter = field_at bits 112 2;
  z = signed 38 (field_at bits 114 38);
  height = height_in has_height bits;
}

-- The contents of the fields of a value, with the reserved bit.
abbrev pub station_contents : StationParts → ℕ → Contents station_table
station_contents s reserved =
    s.station ▸ s.realization ▸ s.gps ▸ s.glonass ▸ s.galileo ▸ s.reference ▸ s.x ▸ s.oscillator ▸ reserved ▸ s.y ▸
    s.quarter ▸ s.z ▸ tt

abbrev pub station_parts : Contents station_table → Option ℕ → StationParts
station_parts (
  station,
  (realization, (gps, (glonass, (galileo, (reference, (x, (oscillator, (reserved, (y, (quarter, (z, end))))))))))),
)
    height =
    record {
      station = station;
      realization = realization;
      gps = gps;
      glonass = glonass;
      galileo = galileo;
      reference = reference;
      x = x;
      oscillator = oscillator;
      y = y;
      quarter = quarter;
      z = z;
      height = height;
    }

abbrev pub height_fields : Option ℕ → List (ℕ × ℕ)
height_fields None = []
height_fields (Some h) = fields_of height_table (h ▸ tt)

-- The fields that both messages have.
abbrev pub common_fields : ℕ → StationParts → ℕ → List (ℕ × ℕ)
common_fields number s reserved =
    fields_of number_table (number ▸ tt) ++ fields_of station_table (station_contents s reserved)

-- The fields in order, with the given reserved bit.
abbrev pub station_fields : StationParts → ℕ → List (ℕ × ℕ)
station_fields s reserved = common_fields (if is_some s.height then 1006 else 1005) s reserved ++ height_fields s.height

-- The parts that make a value.
pub record InRange (s : StationParts) : Type 0 where
  pub station : s.station < 2 ^ 12
  pub realization : s.realization < 2 ^ 6
  pub x : FitsInt 38 s.x
  pub y : FitsInt 38 s.y
  pub quarter : s.quarter < 2 ^ 2
  pub z : FitsInt 38 s.z
  pub height : IfSome s.height (λ h. h < 2 ^ 16)

-- ---- reading, after the message number

abbrev pub height_at : Bool → Cursor → Result (Option ℕ × Cursor) MsgFault
height_at false c = Ok (None, c)
height_at true c = reading height_table c (λ h. Ok (Some h.0.0, h.1))

unfoldable pub station_at : Bool → Cursor → Result (StationParts × Cursor) MsgFault
station_at has_height c =
    reading station_table c (λ s. height_at has_height s.1 >>= λ h. Ok (station_parts s.0 h.0, h.1))
