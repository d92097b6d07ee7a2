use Rattle.rtcm_inspect.proofs.Names.{is_tabulated, None, rules}
use Rattle.rtcm_inspect.proofs.TowLemmas.{no_tows}
use Rattle.rtcm_inspect.proofs.first_tows.FirstTows.new.Goals as goal

pub returns : goal.returns
returns c = λ wanted. no_tows wanted c.each.result
    (is_tabulated c.each.result (λ s. record { four_and_seven = None; all = None }) (λ s. let given = c.each.ensures s in search rules))
