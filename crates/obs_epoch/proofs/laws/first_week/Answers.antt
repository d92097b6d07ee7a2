use Rattle.obs_epoch.proofs.StartLaws.{given, nearest, of_weeks}
use Rattle.obs_epoch.proofs.laws.first_week.Goals as goal

pub returns : goal.returns
returns c = record { given = given; near = nearest; weeks = of_weeks }
