use Rattle.rinex_file.proofs.HeaderRows.Letters.{same_flags}
use Rattle.rinex_file.proofs.Names.{value_of, arith, rules, ◌∙◌, is_chosen}
use Rattle.rinex_file.proofs.read.head_so_far.HeadSoFar.fits.Goals as goal

pub returns-then-flagged_letter-self : goal.returns-then-flagged_letter-self
returns-then-flagged_letter-self c =
    let e = c.flagged_letter.ensures ∙ same_flags (λ s. value_of s c.each-chosen.result) (is_chosen c.args.self.now c.args.place) (λ s. let given = c.each-chosen.ensures s in search rules) in
    grind (arith, e, (c.self.view_is), (c.if-flagged_letter-self.true))

pub returns-else-flagged_letter-self : goal.returns-else-flagged_letter-self
returns-else-flagged_letter-self c =
    let e = c.flagged_letter.ensures ∙ same_flags (λ s. value_of s c.each-chosen.result) (is_chosen c.args.self.now c.args.place) (λ s. let given = c.each-chosen.ensures s in search rules) in
    grind (arith, e, (c.self.view_is), (c.if-flagged_letter-self.false))
