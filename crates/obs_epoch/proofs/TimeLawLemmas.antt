-- The times of GLONASS in GPS time, and the next time with a time of week.
use Rattle.obs_epoch.proofs.Names.{arith}
use Rattle.obs_epoch.specs.TimeLaws.{IsGlonassTime, IsNextTime}

pub glonass_time : IsGlonassTime
glonass_time leap time = (omega arith, omega arith)

pub next_time : IsNextTime
next_time t tow small = (omega arith, omega (arith, small))
