use Rattle.rinex_file.proofs.HeaderRows.Letters.{letter_next}
use Rattle.rinex_file.proofs.Names.{arith, ◌≡◌, ◌∙◌, ◌==◌, ◌+◌, sym, ap, if◌then◌else◌, nat_tests, filter, index_of, letter, letter_of, systems, take, true, value_of, Bool, System, ℕ, common_steps}
use Rattle.rinex_file.proofs.header.lines.flagged_letter.Goals as goal

abbrev joined : Bool → ℕ → ℕ → ℕ
joined flag old own = if flag then (if old == 0 then own else 77) else old

-- with the next system
next : (f : System → Bool) (n : ℕ) (s : System) (old : ℕ) → index_of s ≡ n → old ≡ letter_of (filter f (take n systems)) → letter_of (filter f (take (n + 1) systems)) ≡ joined (f s) old (letter s)
next f n s old at e = letter_next f n s at ∙ ap (λ (m : ℕ). joined (f s) m (letter s)) (sym e)

is_later : (flag : Bool) (old own : ℕ) → flag ≡ true → (old ≡ 0 → ⊥) → joined flag old own ≡ 77
is_later flag old own e f = grind (arith, nat_tests, e, f)

pub loop-i-preserved : goal.loop-i-preserved
loop-i-preserved c =
    let s = c.at-system.result in
    let old = c.loop-i.letter in
    let step = next (λ s. value_of s c.args.flags.now) c.loop-i.i s old c.at-system.ensures c.loop-i.invariant.letter in
    grind (arith, common_steps, c.loop-i-test.true, c.if-of.branch, is_later)
