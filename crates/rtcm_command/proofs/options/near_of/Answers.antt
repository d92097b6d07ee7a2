use Rattle.rtcm_command.proofs.OptionLemmas.{given_so}
use Rattle.rtcm_command.proofs.Names.{IsHourOf, IsTimeBy, List, rules, subst, ℕ}
use Rattle.rtcm_command.proofs.options.near_of.Goals as goal

pub returns : goal.returns
returns c = given_so c.if_given.ensures (λ t x read. subst (λ (s : List ℕ). IsTimeBy (IsHourOf 12) s x) read.2 (search rules))
