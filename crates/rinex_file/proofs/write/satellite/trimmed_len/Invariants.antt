use Rattle.rinex_file.proofs.Names.{◌≡◌, ◌≤◌, ◌<◌, length, slice_index, take, trimmed}
use Rattle.rinex_file.proofs.write.satellite.trimmed_len.Given as goal

-- the bytes from `end` on are trailing blanks
abbrev pub invariant-loop-end : goal.invariant-loop-end
invariant-loop-end l = record {
  within : l.end ≤ length l.text;
  same : trimmed (take l.end l.text) ≡ trimmed l.text;
  blank : l.end < length l.text → slice_index l.text l.end ≡ 32;
}

abbrev pub decreases-loop-end : goal.decreases-loop-end
decreases-loop-end l = l.end
