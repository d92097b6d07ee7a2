use Rattle.rinex_file.proofs.HeaderRows.Agree.{at_most_a_day, interval-back}
use Rattle.rinex_file.proofs.Names.{exactly, IsSome, IfSome, ◌↔◌, Some, rules, arith, ◌≡◌, ◌∙◌, sym, ap, ℕ, List, take, drop, Option, IsInterval, Interval, line_with, interval_content, digits_in, min, none-some, same_Some}
use Rattle.rinex_file.proofs.read.other_lines.read_interval.Goals as goal

-- the first columns of the line of an interval contain the interval
there : (line : List ℕ) (n : ℕ) → IsInterval n → line ≡ line_with Interval (interval_content n) → digits_in (take 10 (drop 0 line)) ≡ n
there line n is e = ap (λ l. digits_in (take 10 (drop 0 l))) e ∙ interval-back n (at_most_a_day n is)

-- an interval isn't limited
same_min : (n limited m : ℕ) → limited ≡ min n 4_294_967_295 → n ≡ m → IsInterval m → limited ≡ m
same_min n limited m is same fits = let less = at_most_a_day m fits in omega (arith, is, same, less)

-- what is made of the number of an interval
is_made : (r : Option ℕ) (n m : ℕ) → IsSome r ↔ IsInterval n → IfSome r (λ i. i ≡ n) → n ≡ m → IsInterval m → r ≡ Some m
is_made r n m some value same fits = grind (arith, same)

pub returns-in_err-interval : goal.returns-in_err-interval
returns-in_err-interval c = rw c.from_residual.ensures (λ m fits e. none-some m (sym c.in_err-interval.was ∙ is_made _ _ m c.new.ensures.some c.new.ensures.value (same_min _ _ m c.min-milliseconds.ensures (c.digits_in.ensures.value ∙ ap digits_in c.columns.ensures.value ∙ there c.args.line.now m fits e) fits) fits))

pub returns : goal.returns
returns c =
    exactly IsInterval (λ n. line_with Interval (interval_content n)) c.in_ok-interval.interval c.then_some.ensures (search rules)
    (λ m fits e. same_Some m c.in_ok-interval.interval (sym (is_made _ _ m c.new.ensures.some c.new.ensures.value (same_min _ _ m c.min-milliseconds.ensures (c.digits_in.ensures.value ∙ ap digits_in c.columns.ensures.value ∙ there c.args.line.now m fits e) fits) fits) ∙ c.in_ok-interval.was))
    (c.as_slice.ensures.value ∙ c.interval_line.ensures) c.is_same.ensures
