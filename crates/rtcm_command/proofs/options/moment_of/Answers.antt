use Rattle.rtcm_command.proofs.OptionLemmas.{given_so}
use Rattle.rtcm_command.proofs.Names.{IsTimeBy, IsTimeOf, List, rules, subst, ℕ}
use Rattle.rtcm_command.proofs.options.moment_of.Goals as goal

pub returns : goal.returns
returns c = given_so c.if_given.ensures (λ t x read. subst (λ (s : List ℕ). IsTimeBy IsTimeOf s x) read.2 (search rules))
