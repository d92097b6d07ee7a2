use Rattle.rtcm_msg.proofs.Names.{ℤ, None, true, lt-leb, ◌≡◌, arith, refl, FitsInt, StationParts, fits_int, station_fault, InRange}
use Rattle.rtcm_msg.proofs.station.Station.new.Goals as goal

fits : (z : ℤ) → FitsInt 38 z → fits_int 38 z ≡ true
fits z h = grind arith

no_fault : (s : StationParts) → InRange s → station_fault s ≡ None
no_fault s h = rw (lt-leb _ s.station h.station, lt-leb _ s.realization h.realization, fits s.x h.x, fits s.y h.y, lt-leb _ s.quarter h.quarter, fits s.z h.z) refl

pub returns-in-Some-clause-accepted : goal.returns-in-Some-clause-accepted
returns-in-Some-clause-accepted c = λ h. let none = no_fault c.args.parts h in absurd (cc (none, c.in-Some.ensures.first))
