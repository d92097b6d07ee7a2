-- The week of the first observations.
use Rattle.obs_epoch.proofs.Names.{arith, refl, IsGivenWeek, IsNearestFirst, IsWeekOfWeeks, first_week}

pub given : IsGivenWeek
unfolding first_week
given n tow = refl

pub nearest : IsNearestFirst
unfolding first_week
nearest noon tow = grind arith

pub of_weeks : IsWeekOfWeeks
unfolding first_week
of_weeks = grind arith
