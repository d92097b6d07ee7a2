-- The signals of each system, by rising signal ID, those of a band in a line.
-- IDs: the positions in the signal mask, DF395 of RTCM 10403.3, counted from 1 at its most significant bit, by the
-- standard's table of signal IDs of each system. Codes: the observation codes of RINEX 3.05 for each system, without
-- the letter of the observation type.
use Rattle.std.specs.Prelude.{ℕ, List, [], ◌∷◌, ◌-◌, ◌==◌, if◌then◌else◌, codes, map}
use Rattle.gnss_system.specs.declared.system.System.{System}
use Rattle.gnss_system.specs.declared.system.System.TheVariants.{Gps, Galileo, Glonass, Beidou, Qzss, Sbas}
use Rattle.gnss_system.specs.declared.tables.ListedSignal.{ListedSignal}

-- the bands of a system by the digit that a code begins with, each with its carrier in hertz, of GLONASS that of
-- channel 0
abbrev pub carriers : System → List (ℕ × ℕ)
carriers Gps = (1, 1575420000) ∷ (2, 1227600000) ∷ (5, 1176450000) ∷ []
carriers Galileo = (1, 1575420000) ∷ (5, 1176450000) ∷ (6, 1278750000) ∷ (7, 1207140000) ∷ (8, 1191795000) ∷ []
carriers Glonass = (1, 1602000000) ∷ (2, 1246000000) ∷ []
carriers Beidou = (1, 1575420000) ∷ (2, 1561098000) ∷ (5, 1176450000) ∷ (6, 1268520000) ∷ (7, 1207140000) ∷ []
carriers Qzss = (1, 1575420000) ∷ (2, 1227600000) ∷ (5, 1176450000) ∷ (6, 1278750000) ∷ []
carriers Sbas = (1, 1575420000) ∷ (5, 1176450000) ∷ []

-- the band of a code: the number of its digit, which is in ASCII
abbrev pub band_of : List ℕ → ℕ
band_of [] = 0
band_of (digit ∷ rest) = digit - 48

-- the carrier of a band in hertz, 0 if there is none
abbrev pub carrier_of : List (ℕ × ℕ) → ℕ → ℕ
carrier_of [] band = 0
carrier_of (c ∷ others) band = if c.0 == band then c.1 else carrier_of others band

-- IDs and their codes, with the carriers of the codes' bands
abbrev pub signals : List (ℕ × ℕ) → List (ℕ × List ℕ) → List ListedSignal
signals carriers rows =
    map (λ r. record { id = r.0; code = r.1; hertz = carrier_of carriers (band_of r.1) }) rows

-- the signals of a system
abbrev pub table : System → List ListedSignal
table Gps = signals (carriers Gps)
    ((2, codes "1C") ∷ (3, codes "1P") ∷ (4, codes "1W")  -- L1: C/A, P, Z-tracking and similar
    ∷ (8, codes "2C") ∷ (9, codes "2P") ∷ (10, codes "2W")  -- L2: C/A, P, Z-tracking and similar
    ∷ (15, codes "2S") ∷ (16, codes "2L") ∷ (17, codes "2X")  -- L2C: M, L, M+L
    ∷ (22, codes "5I") ∷ (23, codes "5Q") ∷ (24, codes "5X")  -- L5: I, Q, I+Q
    ∷ (30, codes "1S") ∷ (31, codes "1L") ∷ (32, codes "1X") ∷ [])  -- L1C: D, P, D+P
table Galileo = signals (carriers Galileo)
    ((2, codes "1C") ∷ (3, codes "1A") ∷ (4, codes "1B") ∷ (5, codes "1X") ∷ (6, codes "1Z")  -- E1: C, A, B, B+C, A+B+C
    ∷ (8, codes "6C") ∷ (9, codes "6A") ∷ (10, codes "6B") ∷ (11, codes "6X") ∷ (12, codes "6Z")  -- E6: as E1
    ∷ (14, codes "7I") ∷ (15, codes "7Q") ∷ (16, codes "7X")  -- E5b: I, Q, I+Q
    ∷ (18, codes "8I") ∷ (19, codes "8Q") ∷ (20, codes "8X")  -- E5, which is E5a and E5b: I, Q, I+Q
    ∷ (22, codes "5I") ∷ (23, codes "5Q") ∷ (24, codes "5X") ∷ [])  -- E5a: I, Q, I+Q
table Glonass = signals (carriers Glonass)
    ((2, codes "1C") ∷ (3, codes "1P")  -- G1: C/A, P
    ∷ (8, codes "2C") ∷ (9, codes "2P") ∷ [])  -- G2: C/A, P
table Beidou = signals (carriers Beidou)
    ((2, codes "2I") ∷ (3, codes "2Q") ∷ (4, codes "2X")  -- B1: I, Q, I+Q
    ∷ (8, codes "6I") ∷ (9, codes "6Q") ∷ (10, codes "6X")  -- B3: I, Q, I+Q
    ∷ (14, codes "7I") ∷ (15, codes "7Q") ∷ (16, codes "7X")  -- B2: I, Q, I+Q
    ∷ (22, codes "5D") ∷ (23, codes "5P") ∷ (24, codes "5X")  -- B2a: D, P, D+P
    ∷ (25, codes "7D")  -- B2b: D
    ∷ (30, codes "1D") ∷ (31, codes "1P") ∷ (32, codes "1X") ∷ [])  -- B1C: D, P, D+P
table Qzss = signals (carriers Qzss)
    ((2, codes "1C")  -- L1: C/A
    ∷ (9, codes "6S") ∷ (10, codes "6L") ∷ (11, codes "6X")  -- L6: D, P, D+P
    ∷ (15, codes "2S") ∷ (16, codes "2L") ∷ (17, codes "2X")  -- L2C: M, L, M+L
    ∷ (22, codes "5I") ∷ (23, codes "5Q") ∷ (24, codes "5X")  -- L5: I, Q, I+Q
    ∷ (30, codes "1S") ∷ (31, codes "1L") ∷ (32, codes "1X") ∷ [])  -- L1C: D, P, D+P
table Sbas = signals (carriers Sbas)
    ((2, codes "1C")  -- L1: C/A
    ∷ (22, codes "5I") ∷ (23, codes "5Q") ∷ (24, codes "5X") ∷ [])  -- L5: I, Q, I+Q
