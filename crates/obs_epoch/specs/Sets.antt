-- The MSMs that a conversion decodes.
use Rattle.std.specs.Prelude.{Bool, nat_lt, length, ◌||◌}
use Rattle.gnss_system.specs.declared.system.System.{System}
use Rattle.gnss_system.specs.declared.system.System.TheVariants.{Gps, Galileo}
use Rattle.gnss_system.specs.Systems.{is_system}
use Rattle.gnss_system.specs.SystemValues.{tabulate}
use Rattle.gnss_obs.specs.Values.{PlanValue, planned_of}
use Rattle.rtcm_msg.specs.declared.number.Forms.{Forms}
use Rattle.rtcm_msg.specs.declared.number.MsmSet.{MsmSet}

-- Under every plan those of GPS and Galileo.
abbrev pub is_always_decoded : System → Bool
is_always_decoded s = is_system s Gps || is_system s Galileo

-- Those, and those of each other system of which a signal is planned.
abbrev pub is_decoded : PlanValue → System → Bool
is_decoded plan s = is_always_decoded s || nat_lt 0 (length (planned_of s plan))

abbrev pub set_of : PlanValue → Forms → MsmSet
set_of plan forms = record { systems = tabulate (is_decoded plan); forms = forms }
