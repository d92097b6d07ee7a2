use Rattle.command_faults.specs.declared.fault.CommandFault.TheVariants as faults
use Rattle.command_faults.proofs.Names.{arith, ◌∙◌, error_words, words_in_one}
use Rattle.command_faults.proofs.error_lines.add_error.Goals as goal

pub returns-in-OneOf : goal.returns-in-OneOf
returns-in-OneOf c = record { text = c.add_word-in-OneOf.ensures.text ∙ words_in_one error_words c.args.line.now c.args.fault faults.OneOf c.in-OneOf.is; short = omega arith }

pub returns-in-BadPosition : goal.returns-in-BadPosition
returns-in-BadPosition c = record { text = c.add_word-in-BadPosition.ensures.text ∙ words_in_one error_words c.args.line.now c.args.fault faults.BadPosition c.in-BadPosition.is; short = omega arith }

pub returns-in-BadHeight : goal.returns-in-BadHeight
returns-in-BadHeight c = record { text = c.add_word-in-BadHeight.ensures.text ∙ words_in_one error_words c.args.line.now c.args.fault faults.BadHeight c.in-BadHeight.is; short = omega arith }

pub returns-in-BadChannels : goal.returns-in-BadChannels
returns-in-BadChannels c = record { text = c.add_word-in-BadChannels.ensures.text ∙ words_in_one error_words c.args.line.now c.args.fault faults.BadChannels c.in-BadChannels.is; short = omega arith }

pub returns-in-BadGaps : goal.returns-in-BadGaps
returns-in-BadGaps c = record { text = c.add_word-in-BadGaps.ensures.text ∙ words_in_one error_words c.args.line.now c.args.fault faults.BadGaps c.in-BadGaps.is; short = omega arith }

pub returns-in-BadWindow : goal.returns-in-BadWindow
returns-in-BadWindow c = record { text = c.add_word-in-BadWindow.ensures.text ∙ words_in_one error_words c.args.line.now c.args.fault faults.BadWindow c.in-BadWindow.is; short = omega arith }

pub returns-in-BadInterval : goal.returns-in-BadInterval
returns-in-BadInterval c = record { text = c.add_word-in-BadInterval.ensures.text ∙ words_in_one error_words c.args.line.now c.args.fault faults.BadInterval c.in-BadInterval.is; short = omega arith }

pub returns-in-BadTolerance : goal.returns-in-BadTolerance
returns-in-BadTolerance c = record { text = c.add_word-in-BadTolerance.ensures.text ∙ words_in_one error_words c.args.line.now c.args.fault faults.BadTolerance c.in-BadTolerance.is; short = omega arith }

pub returns-in-AllOf : goal.returns-in-AllOf
returns-in-AllOf c = record { text = c.add_word-in-AllOf.ensures.text ∙ words_in_one error_words c.args.line.now c.args.fault faults.AllOf c.in-AllOf.is; short = omega arith }

pub returns-in-BadGapsWindow : goal.returns-in-BadGapsWindow
returns-in-BadGapsWindow c = record { text = c.add_word-in-BadGapsWindow.ensures.text ∙ words_in_one error_words c.args.line.now c.args.fault faults.BadGapsWindow c.in-BadGapsWindow.is; short = omega arith }
