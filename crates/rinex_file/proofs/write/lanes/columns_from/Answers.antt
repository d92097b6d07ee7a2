use Rattle.rinex_file.proofs.Fields.Templates.{added, sign_before, value_columns}
use Rattle.rinex_file.proofs.Names.{zip2, ◌∙◌, sym, ap, ap₂, subst, ℕ, ◌≤◌, take, leading, template}
use Rattle.rinex_file.proofs.write.lanes.columns_from.Goals as goal

pub returns : goal.returns
returns c v fits sign are zeros =
    let first = zeros ∙ ap (λ l. leading (take 9 l)) are in
    ap₂ (zip2 added) are (c.template.ensures.text c.requires (λ is. subst (λ (n : ℕ). 1 ≤ n) (sym first) (sign_before v fits (sign ∙ is))) ∙ ap₂ (λ b n. template b 9 n) (sym sign) first) ∙ value_columns v 0 0 fits
