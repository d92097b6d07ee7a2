use Rattle.rinex_file.proofs.HeaderRows.Agree.{height-back}
use Rattle.rinex_file.proofs.Names.{exactly, arith, ◌≡◌, ◌∙◌, ap, w64, to_z, ◌<◌, ◌^◌, ℕ, List, take, drop, pos, min, Delta, line_with, lengths, height_line, digits_in}
use Rattle.rinex_file.proofs.read.other_lines.read_delta.Goals as goal

-- the first columns of the line of a height contain the height
there : (line : List ℕ) (h : ℕ) → h < 2 ^ 16 → line ≡ height_line h → digits_in (take 14 (drop 0 line)) ≡ h
there line h small e = ap (λ l. digits_in (take 14 (drop 0 l))) e ∙ height-back h small

widened : (h : ℕ) → h < 2 ^ 16 → line_with Delta (lengths (to_z w64 h) (pos 0) (pos 0)) ≡ height_line h
widened h small = grind arith

small_min : (n height : ℕ) → height ≡ min n 65535 → height < 2 ^ 16
small_min n height is = omega (arith, is)

same_min : (n height h : ℕ) → height ≡ min n 65535 → n ≡ h → h < 2 ^ 16 → h ≡ height
same_min n height h is same small = omega (arith, is, same, small)

pub returns : goal.returns
returns c =
    let small = small_min _ c.min-height.result c.min-height.ensures in
    exactly (λ h. h < 2 ^ 16) height_line c.min-height.result c.then_some.ensures small
    (λ h fits e. same_min _ _ h c.min-height.ensures (c.digits_in.ensures.value ∙ ap digits_in c.columns.ensures.value ∙ there c.args.line.now h fits e) fits)
    (c.as_slice.ensures.value ∙ c.three_lengths-again.ensures ∙ widened c.min-height.result small) c.is_same.ensures
