use Rattle.rinex_file.proofs.Reading.Lines.{no_feed}
use Rattle.rinex_file.proofs.Names.{arith, ◌∙◌, sym, ap, ℕ, ◌+◌, ◌≤◌, take, length, List, [], ◌∷◌, ◌++◌, Some, min-le_left, eqb-true, take_more, take-take, length-take-le, IsFirstByte, is_byte, IsLine, common_steps}
use Rattle.rinex_file.proofs.read.lines.Block.line_size.Goals as goal

-- the bytes up to the first line feed
line_at : (held : List ℕ) (room n : ℕ) → room ≤ length held → IsFirstByte (is_byte 10) (take room held) (Some n) → IsLine (take (n + 1) held)
line_at held room n within (none, feed) =
    let near = take room held in
    let size = length-take-le room held within in (
      take n near,
      sym (take-take (n + 1) room held (omega (arith, none.high, size))) ∙ take_more near n 0 none.high ∙ ap (λ (b : ℕ). take n near ++ b ∷ []) (eqb-true _ _ feed),
      no_feed near n (λ k less. none.before k (omega arith) less) (omega (arith, none.high)),
    )

pub returns-in-Some-clause-whole : goal.returns-in-Some-clause-whole
returns-in-Some-clause-whole c = grind (arith, common_steps, min-le_left, line_at)
