-- The most bytes of parts of the line of an error.
use Rattle.std.specs.Prelude.{ℕ}

-- the most bytes before the words of an error, and of these words, each after a blank
abbrev pub longest_start : ℕ
longest_start = 100

abbrev pub longest_error : ℕ
longest_error = 120

-- the most bytes of the name of a fault, and of the field or the code in which it is, each after a blank
abbrev pub longest_fault_name : ℕ
longest_fault_name = 20

abbrev pub longest_fault_place : ℕ
longest_fault_place = 40
