use Rattle.command_faults.specs.declared.fault.DateOption.TheVariants as dated
use Rattle.command_faults.proofs.Names.{arith, ◌∙◌, ◌∷◌, words_in_one, codes, DateOption, date_words}
use Rattle.command_faults.proofs.error_lines.add_date_error.Goals as goal

pub returns-in-Week : goal.returns-in-Week
returns-in-Week c = record { text = c.add_word.ensures.text ∙ words_in_one (λ (o : DateOption). codes "BadDate" ∷ date_words o) c.args.line.now c.args.option dated.Week c.in-Week.is; short = omega arith }

pub returns-in-Near : goal.returns-in-Near
returns-in-Near c = record { text = c.add_word-in-Near.ensures.text ∙ words_in_one (λ (o : DateOption). codes "BadDate" ∷ date_words o) c.args.line.now c.args.option dated.Near c.in-Near.is; short = omega arith }

pub returns-in-From : goal.returns-in-From
returns-in-From c = record { text = c.add_word-in-From.ensures.text ∙ words_in_one (λ (o : DateOption). codes "BadDate" ∷ date_words o) c.args.line.now c.args.option dated.From c.in-From.is; short = omega arith }

pub returns-in-Until : goal.returns-in-Until
returns-in-Until c = record { text = c.add_word-in-Until.ensures.text ∙ words_in_one (λ (o : DateOption). codes "BadDate" ∷ date_words o) c.args.line.now c.args.option dated.Until c.in-Until.is; short = omega arith }
