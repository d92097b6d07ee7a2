use Rattle.rinex_file.proofs.Digits.Lanes.{ends, flags, first_flag, few_flags}
use Rattle.rinex_file.proofs.Fields.Templates.{leading-le}
use Rattle.rinex_file.proofs.Names.{arith, ◌≡◌, ◌∙◌, ap, ℕ, ◌<◌, ◌%◌, ◌^◌, List, [], ◌∷◌, get_or, length, take, length-take, leading, common_steps}
use lib.Count.{count_trailing_zeros}
use Rattle.rinex_file.proofs.write.lanes.columns_with.Goals as goal

zeros_are : (ds : List ℕ) → length ds ≡ 16 → get_or ds 9 0 < 10 → count_trailing_zeros 64 (flags ds (ends 9 (255 ∷ 255 ∷ 255 ∷ 255 ∷ 255 ∷ 255 ∷ [])) % 2 ^ 64) ≡ leading (take 9 ds)
zeros_are ds size small =
    let rest : List ℕ = 255 ∷ 255 ∷ 255 ∷ 255 ∷ 255 ∷ 255 ∷ [] in
    ap (count_trailing_zeros 64) (few_flags ds (ends 9 rest) size (omega (arith, size))) ∙ first_flag 9 54 ds rest (omega (arith, size)) (omega (arith, small))

pub columns_from-requires : goal.columns_from-requires
columns_from-requires c = grind (arith, common_steps, leading-le, length-take, zeros_are c.args.digits c.fits-digits.0 c.requires)

pub returns : goal.returns
returns c v fits sign are = c.columns_from.ensures v fits sign are (zeros_are c.args.digits c.fits-digits.0 c.requires)
