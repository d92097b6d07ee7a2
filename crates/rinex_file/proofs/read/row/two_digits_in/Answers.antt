use Rattle.rinex_file.proofs.Names.{arith, ◌∙◌, sym, ◌≤◌, common_steps}
use Rattle.rinex_file.proofs.OneReading.{number_once}
use Rattle.rinex_file.proofs.Rows.Written.{digits_shown, number_shown}
use Rattle.rinex_file.proofs.read.row.two_digits_in.Goals as goal

pub returns-then-not-is_ascii_digit : goal.returns-then-not-is_ascii_digit
returns-then-not-is_ascii_digit c = grind (arith, common_steps, digits_shown)

pub returns : goal.returns
returns c =
    let tens : (48 ≤ c.args.tens) × (c.args.tens ≤ 57) = (grind arith, grind arith) in
    let ones : (48 ≤ c.args.ones) × (c.args.ones ≤ 57) = (grind arith, grind arith) in
    let shown = number_shown c.args.tens c.args.ones tens.0 tens.1 ones.0 ones.1 in
    (omega (arith, tens, ones), sym shown, λ v h e. number_once v _ h (omega (arith, tens, ones)) (sym e ∙ sym shown))
