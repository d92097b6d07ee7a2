-- The satellite systems in their order, and their indices.
use Rattle.std.specs.Prelude.{ℕ, List, [], ◌∷◌, ◌+◌, ◌==◌, Bool, take, drop}
use Rattle.gnss_system.specs.declared.system.System.{System}
use Rattle.gnss_system.specs.declared.system.System.TheVariants.{Gps, Galileo, Glonass, Beidou, Qzss, Sbas}

-- All systems, in the order of a file.
abbrev pub systems : List System
systems = Gps ∷ Galileo ∷ Glonass ∷ Beidou ∷ Qzss ∷ Sbas ∷ []

-- The index of a system among all.
abbrev pub index_of : System → ℕ
index_of Gps = 0
index_of Galileo = 1
index_of Glonass = 2
index_of Beidou = 3
index_of Qzss = 4
index_of Sbas = 5

-- Whether two systems are the same.
abbrev pub is_system : System → System → Bool
is_system a b = index_of a == index_of b

-- The systems before and after a system.
abbrev pub before : System → List System
before s = take (index_of s) systems

abbrev pub after : System → List System
after s = drop (index_of s + 1) systems
