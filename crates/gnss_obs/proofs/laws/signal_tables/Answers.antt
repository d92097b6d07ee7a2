use Rattle.gnss_obs.proofs.TableLaws.{ids_rise}
use Rattle.gnss_obs.proofs.laws.signal_tables.Goals as goal

pub returns-clause-rising : goal.returns-clause-rising
returns-clause-rising c = ids_rise
