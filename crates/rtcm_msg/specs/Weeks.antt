-- The GPS weeks in ephemerides: messages 1019 (GPS), 1042 (BeiDou), and 1045 and 1046 (Galileo).
use Rattle.std.specs.Prelude.{ℕ, ◌+◌, ◌*◌, ◌==◌, ◌&&◌, nat_le, not, true, false, if◌then◌else◌, List, length}
use Rattle.std.specs.Prelude.{Option, Some, None, option_and_then}
use Rattle.rtcm_bits.specs.Bits.{bits_of}
use Rattle.rtcm_msg.specs.Fields.{field_at}
use Rattle.rtcm_msg.specs.declared.weeks.SentWeek.{SentWeek}
use Rattle.rtcm_msg.specs.declared.weeks.WeekFields.{WeekFields}

-- The fields of a message of this number: its least number of bytes, the bits of the week, which begins at bit 18 in
-- each, the GPS week that is added to it, whether it has no rollover, and the first bit, the number of bits and the unit
-- in seconds of the clock reference time toc.
abbrev pub week_fields : ℕ → Option WeekFields
week_fields number =
    -- DF076 and DF081
    if number == 1019
    then Some (record { bytes = 61; week_bits = 10; added = 0; is_whole = false; clock_place = 56; clock_bits = 16; clock_unit = 16 })
    -- DF489, counted from 2006-01-01, and DF493
    else (if number == 1042
    then Some (record { bytes = 64; week_bits = 13; added = 1_356; is_whole = true; clock_place = 54; clock_bits = 17; clock_unit = 8 })
    -- DF289, counted from 1999-08-22, and DF293
    else (if number == 1045
    then Some (record { bytes = 62; week_bits = 12; added = 1_024; is_whole = true; clock_place = 62; clock_bits = 14; clock_unit = 60 })
    else (if number == 1046
    then Some (record { bytes = 63; week_bits = 12; added = 1_024; is_whole = true; clock_place = 62; clock_bits = 14; clock_unit = 60 })
    else None)))

abbrev pub week_place : ℕ
week_place = 18

-- The week and the clock time of a message with these fields that has all of them, unless its week field is 0.
abbrev pub week_by : List ℕ → WeekFields → Option SentWeek
week_by bytes f =
    if nat_le f.bytes (length bytes) && not (field_at (bits_of bytes) week_place f.week_bits == 0)
    then Some (record {
      week = field_at (bits_of bytes) week_place f.week_bits + f.added;
      is_whole = f.is_whole;
      clock = f.clock_unit * field_at (bits_of bytes) f.clock_place f.clock_bits;
    })
    else None

-- Those of a message.
abbrev pub sent_week : List ℕ → Option SentWeek
sent_week bytes = option_and_then (week_by bytes) (week_fields (field_at (bits_of bytes) 0 12))
