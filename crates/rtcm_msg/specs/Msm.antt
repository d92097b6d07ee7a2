-- The values of multiple signal messages.
use Rattle.gnss_system.specs.declared.system.System.{System}
use Rattle.gnss_system.specs.declared.tables.TimeScale.{TimeScale}
use Rattle.gnss_system.specs.declared.tables.TimeScale.TheVariants.{Glonass}
use Rattle.gnss_system.specs.Satellites.{time_scale}
use Rattle.std.specs.Prelude.{[], ◌≡◌, ℕ, ◌+◌, ◌==◌, ◌*◌, ◌/◌, ◌%◌, ◌^◌, ◌<◌, ◌≤◌, ◌&&◌, nat_lt, if◌then◌else◌, Bool, List, ◌∷◌}
use Rattle.std.specs.Prelude.{◌++◌, length, Result, Ok, Err, replicate, count_ones, IsTrue}
use Rattle.rtcm_bits.specs.Cursors.{Cursor}
use Rattle.rtcm_msg.specs.declared.fault.MsgFault.{MsgFault}
use Rattle.rtcm_msg.specs.declared.fault.MsgFault.TheVariants.{TooManyCells, BadTime}
use Rattle.rtcm_msg.specs.declared.header.MsmHeader.{MsmHeader}
use Rattle.rtcm_msg.specs.Fields.{field_at, field_bits, reading, ◌>>=◌}
use Rattle.rtcm_msg.specs.Layout.{Table, Uint, Flag, Reserved, Contents, fields_of, ◌▸◌, number_table}
use Rattle.rtcm_msg.specs.Packed.{total_width, columns}
use Rattle.rtcm_msg.specs.Columns.{columns_at, EachBelow}

-- A week in milliseconds.
abbrev pub week : ℕ
week = 604800000

-- A day with a leap second, in milliseconds.
abbrev pub longest_day : ℕ
longest_day = 86401000

-- An epoch time of a system: milliseconds of the week. Of GLONASS the day of the week, DF416, and in the low 27 bits
-- the milliseconds of the day, DF034; day 7 is an unknown one.
abbrev pub is_time_in : TimeScale → ℕ → Bool
is_time_in Glonass time = nat_lt (time / 2 ^ 27) 7 && nat_lt (time % 2 ^ 27) longest_day
is_time_in scale time = nat_lt time week

abbrev pub is_time : System → ℕ → Bool
is_time system time = is_time_in (time_scale system) time

-- The same as milliseconds of the week in the time scale of the system.
abbrev pub time_of_week_in : TimeScale → ℕ → ℕ
time_of_week_in Glonass time = 86400000 * (time / 2 ^ 27) + time % 2 ^ 27
time_of_week_in scale time = time

abbrev pub time_of_week : System → ℕ → ℕ
time_of_week system time = time_of_week_in (time_scale system) time

-- The width of the satellite mask: one bit for each satellite ID, from 1 on.
abbrev pub satellite_mask_bits : ℕ
satellite_mask_bits = 64

-- The width of the signal mask: one bit for each signal ID, from 1 on.
abbrev pub signal_mask_bits : ℕ
signal_mask_bits = 32

-- The largest number of pairs of a satellite and a signal, and so of bits of the cell mask and of cells.
abbrev pub most_pairs : ℕ
most_pairs = 64

-- The satellites, the signals, and the pairs of both that have a cell. The highest bit of the first two is ID 1, and
-- the highest bit of the last is the first pair.
pub record MasksValue : Type 0 where
  pub satellites : ℕ
  pub signals : ℕ
  pub cells : ℕ

-- The number of pairs of a satellite and a signal.
abbrev pub pair_count : ℕ → ℕ → ℕ
pair_count satellites signals = count_ones satellites * count_ones signals

-- A message, with the fields of each satellite and of each cell packed in one number.
pub record MsmValue : Type 0 where
  pub system : System
  pub header : MsmHeader
  pub sets : MasksValue
  pub satellites : List ℕ
  pub cells : List ℕ

pub record IsHeader (system : System) (h : MsmHeader) : Type 0 where
  pub station : h.station < 2 ^ 12
  pub time : IsTrue (is_time system h.time)
  pub iods : h.iods < 2 ^ 3
  pub steering : h.steering < 2 ^ 2
  pub clock : h.clock < 2 ^ 2
  pub interval : h.interval < 2 ^ 3

pub record AreMasks (s : MasksValue) : Type 0 where
  pub satellites : s.satellites < 2 ^ satellite_mask_bits
  pub signals : s.signals < 2 ^ signal_mask_bits
  pub few : pair_count s.satellites s.signals ≤ most_pairs
  pub cells : s.cells < 2 ^ pair_count s.satellites s.signals

-- A value whose fields have these widths.
pub record IsValue (satellite_widths cell_widths : List ℕ) (v : MsmValue) : Type 0 where
  pub header : IsHeader v.system v.header
  pub sets : AreMasks v.sets
  pub satellite_count : length v.satellites ≡ count_ones v.sets.satellites
  pub cell_count : length v.cells ≡ count_ones v.sets.cells
  pub satellites : EachBelow (total_width satellite_widths) v.satellites
  pub cells : EachBelow (total_width cell_widths) v.cells

-- ---- the layout

-- The first fields of a multiple signal message after the message number.
abbrev pub time_table : Table
time_table =
    (3, Uint 12)  -- reference station ID
    ∷ (4, Uint 30)  -- epoch time of GPS and SBAS; of Galileo DF248, GLONASS DF416 and DF034, BeiDou DF427, QZSS DF428
    ∷ []

-- The fields after the epoch time.
abbrev pub header_table : Table
header_table =
    (393, Flag)  -- multiple message bit
    ∷ (409, Uint 3)  -- issue of data station
    ∷ (1, Reserved 7)
    ∷ (411, Uint 2)  -- clock steering indicator
    ∷ (412, Uint 2)  -- external clock indicator
    ∷ (417, Flag)  -- divergence-free smoothing indicator
    ∷ (418, Uint 3)  -- smoothing interval
    ∷ []

-- The header in the bits of a message, with this epoch time.
abbrev pub header_in : List Bool → ℕ → MsmHeader
header_in bits time = record {
  station = field_at bits 12 12;
  time = time;
  more = field_at bits 54 1 == 1;
  iods = field_at bits 55 3;
  steering = field_at bits 65 2;
  clock = field_at bits 67 2;
  smoothing = field_at bits 69 1 == 1;
  interval = field_at bits 70 3;
}

-- The masks; the third has a bit for each pair of a satellite and a signal.
abbrev pub mask_table : Table
mask_table =
    (394, Uint satellite_mask_bits)  -- satellite mask
    ∷ (395, Uint signal_mask_bits)  -- signal mask
    ∷ []

abbrev pub cell_mask_table : ℕ → Table
cell_mask_table width =
    (396, Uint width)  -- cell mask
    ∷ []

-- ---- the bits, for all values of the reserved ones

abbrev pub time_contents : MsmHeader → Contents time_table
time_contents h = h.station ▸ h.time ▸ tt

abbrev pub header_contents : MsmHeader → ℕ → Contents header_table
header_contents h reserved = h.more ▸ h.iods ▸ reserved ▸ h.steering ▸ h.clock ▸ h.smoothing ▸ h.interval ▸ tt

-- The fields before the masks.
abbrev pub header_fields : ℕ → MsmHeader → ℕ → List (ℕ × ℕ)
header_fields number h reserved =
    fields_of number_table (number ▸ tt)
    ++ (fields_of time_table (time_contents h) ++ fields_of header_table (header_contents h reserved))

abbrev pub mask_fields : MasksValue → List (ℕ × ℕ)
mask_fields s = fields_of mask_table (s.satellites ▸ s.signals ▸ tt)
    ++ fields_of (cell_mask_table (pair_count s.satellites s.signals)) (s.cells ▸ tt)

-- All bits of a message with this number: after the masks the data of satellites, then of cells, each field by field.
abbrev pub msm_bits : List ℕ → List ℕ → ℕ → MsmValue → ℕ → List Bool
msm_bits satellite_widths cell_widths number v reserved =
    field_bits (header_fields number v.header reserved)
    ++ (field_bits (mask_fields v.sets) ++ (columns satellite_widths v.satellites ++ columns cell_widths v.cells))

-- ---- reading, after the message number

-- The epoch time is checked as soon as it is read.
abbrev pub checked_time : System → ℕ → Cursor → Result (ℕ × Cursor) MsgFault
checked_time system time c = if is_time system time then Ok (time, c) else Err BadTime

abbrev pub header_of : ℕ → ℕ → Contents header_table → MsmHeader
header_of station time (more, (iods, (reserved, (steering, (clock, (smoothing, (interval, end))))))) =
    record {
      station = station;
      time = time;
      more = more;
      iods = iods;
      steering = steering;
      clock = clock;
      smoothing = smoothing;
      interval = interval;
    }

-- The header with this station and time.
abbrev pub after_time_at : ℕ → ℕ → Cursor → Result (MsmHeader × Cursor) MsgFault
after_time_at station time c = reading header_table c (λ m. Ok (header_of station time m.0, m.1))

unfoldable pub header_at : System → Cursor → Result (MsmHeader × Cursor) MsgFault
header_at system c =
    reading time_table c (λ n. checked_time system n.0.1.0 n.1 >>= λ time. after_time_at n.0.0 time.0 time.1)

-- The number of pairs is checked as soon as both masks are read.
abbrev pub masks_after : ℕ → ℕ → Cursor → Result (MasksValue × Cursor) MsgFault
masks_after satellites signals c =
    if nat_lt most_pairs (pair_count satellites signals) then Err TooManyCells
    else reading (cell_mask_table (pair_count satellites signals)) c
    (λ cells. Ok (record { satellites = satellites; signals = signals; cells = cells.0.0 }, cells.1))

unfoldable pub masks_at : Cursor → Result (MasksValue × Cursor) MsgFault
masks_at c = reading mask_table c (λ m. masks_after m.0.0 m.0.1.0 m.1)

unfoldable pub msm_at : List ℕ → List ℕ → System → Cursor → Result (MsmValue × Cursor) MsgFault
msm_at satellite_widths cell_widths system c = do
  header ← header_at system c
  sets ← masks_at header.1
  satellites ← columns_at satellite_widths (replicate (count_ones sets.0.satellites) 0) sets.1
  cells ← columns_at cell_widths (replicate (count_ones sets.0.cells) 0) satellites.1
  Ok (
    record { system = system; header = header.0; sets = sets.0; satellites = satellites.0; cells = cells.0 },
    cells.1,
  )
