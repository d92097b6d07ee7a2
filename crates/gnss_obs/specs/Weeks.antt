-- Units of time in milliseconds, and the number of weeks.
use Rattle.std.specs.Prelude.{ℕ}

-- A week in milliseconds.
abbrev pub week : ℕ
week = 604_800_000

-- The number of weeks, numbered from 0.
abbrev pub weeks : ℕ
weeks = 100_000

-- A day in milliseconds.
abbrev pub day : ℕ
day = 86_400_000
