use Rattle.rinex_file.proofs.Names.{◌≡◌, ◌≤◌, filter, length, letter_of, systems, take, value_of}
use Rattle.rinex_file.proofs.header.lines.flagged_letter.Given as goal

-- the letter of the systems so far that have a flag
abbrev pub invariant-loop-i : goal.invariant-loop-i
invariant-loop-i l = record {
  range : l.i ≤ length systems;
  letter : l.letter ≡ letter_of (filter (λ s. value_of s l.flags) (take l.i systems));
}
