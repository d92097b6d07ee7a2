-- Satellites.
use Rattle.std.specs.Prelude.{ℕ, ◌+◌, ◌-◌, ◌^◌, ◌≤◌, ◌==◌, ◌&&◌, find, nat_le, if◌then◌else◌, Option, Some, None, List, codes}
use Rattle.gnss_system.specs.declared.system.System.{System}
use Rattle.gnss_system.specs.declared.system.System.TheVariants.{Gps, Galileo, Glonass, Beidou, Qzss, Sbas}
use Rattle.gnss_system.specs.declared.tables.TimeScale.{TimeScale}
use Rattle.gnss_system.specs.declared.tables.TimeScale.TheVariants as scales
use Rattle.gnss_system.specs.Systems.{systems}

-- a satellite of a system
pub record Satellite : Type 0 where
  pub system : System
  pub id : ℕ

-- what a system is in RINEX 3.05 and RTCM 10403.3, beside its signals
pub record Row : Type 0 where
  pub name : List ℕ  -- in small letters
  pub letter : ℕ  -- in RINEX, in ASCII
  pub satellites : ℕ  -- their number
  pub first : ℕ  -- the number of the first one in RINEX
  pub tens : ℕ  -- the numbers of its MSMs, DF002, without their last digit
  pub time : TimeScale  -- of the epoch times of its MSMs

abbrev pub row_of : System → Row
row_of Gps =
    record { name = codes "gps"; letter = 71; satellites = 32; first = 1; tens = 107; time = scales.Gps }
row_of Galileo =
    record { name = codes "galileo"; letter = 69; satellites = 36; first = 1; tens = 109; time = scales.Gps }
row_of Glonass =
    record { name = codes "glonass"; letter = 82; satellites = 27; first = 1; tens = 108; time = scales.Glonass }
row_of Beidou =
    record { name = codes "beidou"; letter = 67; satellites = 63; first = 1; tens = 112; time = scales.Beidou }
row_of Qzss =
    record { name = codes "qzss"; letter = 74; satellites = 10; first = 1; tens = 111; time = scales.Gps }
row_of Sbas =
    record { name = codes "sbas"; letter = 83; satellites = 39; first = 20; tens = 110; time = scales.Gps }

-- the number of satellites of a system
abbrev pub satellites : System → ℕ
satellites system = (row_of system).satellites

-- the largest number of satellites of a system
abbrev pub most_satellites : ℕ
most_satellites = 63

-- the satellites of a system as a set, in which the most significant of 64 bits is ID 1
abbrev pub satellite_set : System → ℕ
satellite_set system = 2 ^ 64 - 2 ^ (64 - satellites system)

-- the satellites of a system are numbered from 1
abbrev pub IsSatellite : Satellite → Type 0
IsSatellite s = (1 ≤ s.id) × (s.id ≤ satellites s.system)

-- the satellite with this number, if there is one
abbrev pub satellite_of_id : System → ℕ → Option Satellite
satellite_of_id system id =
    if nat_le 1 id && nat_le id (satellites system)
    then Some (record { system = system; id = id })
    else None

-- the number of the first satellite of a system in RINEX
abbrev pub first_number : System → ℕ
first_number system = (row_of system).first

-- the number of a satellite of a system in RINEX
abbrev pub number_of : System → ℕ → ℕ
number_of system id = id + (first_number system - 1)

-- the name of a system in small letters
abbrev pub name_of : System → List ℕ
name_of system = (row_of system).name

-- the letter of a system in RINEX, in ASCII
abbrev pub letter : System → ℕ
letter system = (row_of system).letter

-- the system with this letter, if there is one
abbrev pub system_of_letter : ℕ → Option System
system_of_letter byte = find (λ s. letter s == byte) systems

-- the numbers of a system's MSMs without their last digit, and the system with these numbers, if there is one
abbrev pub msm_tens : System → ℕ
msm_tens system = (row_of system).tens

abbrev pub system_of_tens : ℕ → Option System
system_of_tens tens = find (λ s. msm_tens s == tens) systems

-- the time scale of the epoch times of a system's MSMs
abbrev pub time_scale : System → TimeScale
time_scale system = (row_of system).time
