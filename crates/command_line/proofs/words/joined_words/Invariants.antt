use Rattle.std.proofs.Common.{◌≡◌, ◌-◌, ◌≤◌, ◌++◌, drop, length, map, string_bytes}
use Rattle.command_line.proofs.Names.{joined}
use Rattle.command_line.proofs.words.joined_words.Given as goal

-- the words so far, and the others
abbrev pub invariant-loop-i : goal.invariant-loop-i
invariant-loop-i l = record {
  text : map string_bytes l.joined.items ++ joined (drop l.i (map string_bytes l.words)) ≡ joined (map string_bytes l.words);
  end : l.i ≤ length l.words;
}

abbrev pub decreases-loop-i : goal.decreases-loop-i
decreases-loop-i l = length l.words - l.i
