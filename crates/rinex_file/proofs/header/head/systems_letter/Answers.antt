use Rattle.rinex_file.proofs.HeaderRows.Letters.{same_flags}
use Rattle.rinex_file.proofs.Names.{value_of, rules, ◌∙◌, is_planned}
use Rattle.rinex_file.proofs.header.head.systems_letter.Goals as goal

pub returns : goal.returns
returns c = c.flagged_letter.ensures ∙ same_flags (λ s. value_of s c.each.result) (is_planned c.args.plan.now) (λ s. let given = c.each.ensures s in search rules)
