-- The largest number of types in a line of a header, and of bytes of a file that are read ahead.
use Rattle.std.specs.Prelude.{ℕ}

-- the largest number of observation types in a header line
abbrev pub types_in_line : ℕ
types_in_line = 13

-- the bytes of a file that are read ahead, at most
abbrev pub block_bytes : ℕ
block_bytes = 65536
