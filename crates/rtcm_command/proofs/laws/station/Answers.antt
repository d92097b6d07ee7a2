use Rattle.rtcm_command.proofs.Names.{◌∙◌, ℕ, List, ap, codes, text_set, values_in}
use Rattle.rtcm_command.proofs.laws.station.Goals as goal

pub returns-clause-zero : goal.returns-clause-zero
returns-clause-zero c = λ options position height.
    ap (λ (t : List ℕ). values_in t (text_set options (codes "antenna-height"))) position ∙ ap (values_in (codes "0,0,0")) height
