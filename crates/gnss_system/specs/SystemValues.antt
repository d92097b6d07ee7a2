-- A value for each satellite system.
use Rattle.std.specs.Borrow.{Lends, Fml, RattleType, MutBor}
use Rattle.gnss_system.specs.declared.system.System.{System}
use Rattle.gnss_system.specs.declared.system.System.TheVariants.{Gps, Galileo, Glonass, Beidou, Qzss, Sbas}
use Rattle.gnss_system.specs.declared.by_system.BySystem.{BySystem}
use Rattle.gnss_system.specs.contracts.by_system.BySystem.{the_row}

-- The value of a system.
abbrev pub value_of : {A : Type 0} → System → BySystem A → A
value_of Gps values = values.gps
value_of Galileo values = values.galileo
value_of Glonass values = values.glonass
value_of Beidou values = values.beidou
value_of Qzss values = values.qzss
value_of Sbas values = values.sbas

-- The values after a change of the value of a system.
abbrev pub with_value_of : {A : Type 0} → System → BySystem A → A → BySystem A
with_value_of Gps values x = record values { gps = x }
with_value_of Galileo values x = record values { galileo = x }
with_value_of Glonass values x = record values { glonass = x }
with_value_of Beidou values x = record values { beidou = x }
with_value_of Qzss values x = record values { qzss = x }
with_value_of Sbas values x = record values { sbas = x }

-- The value that a function has for each system.
abbrev pub tabulate : {A : Type 0} → (System → A) → BySystem A
tabulate f =
    record { gps = f Gps; galileo = f Galileo; glonass = f Glonass; beidou = f Beidou; qzss = f Qzss; sbas = f Sbas }

-- The values of GPS and Galileo, and the same one for each other system.
abbrev pub of_two : {A : Type 0} → A → A → A → BySystem A
of_two gps galileo other = record (tabulate (λ s. other)) { gps = gps; galileo = galileo }

-- The values that a function makes of those of each system.
abbrev pub map_by : {A B : Type 0} → (A → B) → BySystem A → BySystem B
map_by f values = tabulate (λ s. f (value_of s values))

-- A change of what is lent is a change of the value of a system, and nothing else changes.
abbrev pub lends_value_of : (T : RattleType) → System → MutBor (BySystem T.Denot) → MutBor T.Denot → Fml
lends_value_of T system values lent = Lends (the_row T) T values lent (with_value_of system values.now)
