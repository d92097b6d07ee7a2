use Rattle.obs_epoch.proofs.ChoiceLemmas.{apart, every, join, near_multiples, none, thinned, whole}
use Rattle.obs_epoch.proofs.laws.choices.Goals as goal

pub returns-clause-every : goal.returns-clause-every
returns-clause-every c = every

pub returns-clause-windows : goal.returns-clause-windows
returns-clause-windows c = join

pub returns-clause-apart : goal.returns-clause-apart
returns-clause-apart c = apart

pub returns-clause-whole : goal.returns-clause-whole
returns-clause-whole c = whole

pub returns-clause-thinned : goal.returns-clause-thinned
returns-clause-thinned c = thinned

pub returns-clause-none : goal.returns-clause-none
returns-clause-none c = none

pub returns-clause-grid : goal.returns-clause-grid
returns-clause-grid c = near_multiples
