use Rattle.rinex_file.proofs.Names.{◌≡◌, ap₂, ℕ, [], ◌∷◌, ◌+◌, ◌*◌, ◌/◌, ◌%◌, ◌<◌, get_or, eqb, true, refl, agree_below_at, eqb-true, PAIRS}
use Rattle.rinex_file.proofs.write.lanes.pair.Goals as goal

tens : (i : ℕ) → i < 100 → get_or PAIRS (2 * i) 0 ≡ 48 + i / 10
tens i h = eqb-true _ _ (agree_below_at (λ k. eqb (get_or PAIRS (2 * k) 0) (48 + k / 10)) (λ k. true) 100 i refl h)

ones : (i : ℕ) → i < 100 → get_or PAIRS (2 * i + 1) 0 ≡ 48 + i % 10
ones i h = eqb-true _ _ (agree_below_at (λ k. eqb (get_or PAIRS (2 * k + 1) 0) (48 + k % 10)) (λ k. true) 100 i refl h)

pub returns : goal.returns
returns c = ap₂ (λ (a b : ℕ). a ∷ b ∷ []) (tens c.args.number c.requires) (ones c.args.number c.requires)
