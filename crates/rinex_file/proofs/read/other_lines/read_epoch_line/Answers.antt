use Rattle.rinex_file.proofs.Reading.Dates.{epoch_shown, has_columns}
use Rattle.rinex_file.proofs.Names.{exactly, arith, rules, ◌≡◌, ◌∙◌, ◌≤◌, ◌<◌, ◌^◌, ap, sym, refl, suc, ℕ, none-some, same_Some, civil_of, IsTime, epoch_line, digits_in}
use Rattle.rinex_file.proofs.read.other_lines.read_epoch_line.Goals.{After-is_same}
use Rattle.rinex_file.proofs.read.other_lines.read_epoch_line.Goals as goal

same_pair : (w : ℕ × ℕ) (t n : ℕ) → w.0 ≡ t → n ≡ w.1 → w ≡ (t, n)
same_pair (a, b) t n e f = cc

-- a number of at most three digits
small : (n k : ℕ) → n ≤ 3 → k < 10 ^ n → k ≤ 999
small (suc (suc (suc (suc n)))) k few less = absurd (omega (arith, few))
small n k few less = omega (arith, less)

counted : (c : After-is_same) (t n : ℕ) → IsTime t → n ≤ 999 → c.args.line.now ≡ epoch_line (civil_of t) n → c.digits_in-count.result ≡ n
counted c t n is few e =
    c.digits_in-count.ensures.value ∙ ap digits_in c.columns.ensures.value
    ∙ (epoch_shown (civil_of t) n c.args.line.now (has_columns t (c.calendar.ensures.civil t is) (c.calendar.ensures.small t is)) (omega (arith, few)) e).1

pub returns-in_err-time : goal.returns-in_err-time
returns-in_err-time c = rw c.from_residual.ensures (λ v is e. none-some v.0 (sym c.in_err-time.was ∙ c.time_in.ensures.epoch v.0 v.1 is.0 is.1 refl refl e))

pub returns : goal.returns
returns c =
    exactly (λ (e : ℕ × ℕ). IsTime e.0 × e.1 ≤ 999) (λ (e : ℕ × ℕ). epoch_line (civil_of e.0) e.1) (c.in_ok-time.time, c.digits_in-count.result)
    c.then_some.ensures (search rules, small _ _ c.columns.ensures.bound c.digits_in-count.ensures.digits)
    (λ w is e. same_pair w c.in_ok-time.time c.digits_in-count.result
    (same_Some w.0 c.in_ok-time.time (sym (c.time_in.ensures.epoch w.0 w.1 is.0 is.1 refl refl e) ∙ c.in_ok-time.was))
    (counted ((goal.at.returns c).After-is_same) w.0 w.1 is.0 is.1 e))
    (c.as_slice.ensures.value ∙ c.epoch_line.ensures) c.is_same.ensures
