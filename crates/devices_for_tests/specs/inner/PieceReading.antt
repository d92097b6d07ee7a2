-- A reader of known bytes.
use Rattle.std.specs.Prelude.{ℕ, List}

-- rest: the bytes that it still has; left: the number of them in the current piece; asked: the size of
-- the last buffer of a read
pub record PieceReading : Type 0 where
  pub rest : List ℕ
  pub left : ℕ
  pub asked : ℕ
