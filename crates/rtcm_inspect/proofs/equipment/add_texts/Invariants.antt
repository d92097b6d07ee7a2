use Rattle.rtcm_inspect.proofs.Names.{◌≡◌, ◌+◌, ◌*◌, ◌≤◌, length, map, take, with_words, quoted, longest_head, longest_quoted}
use Rattle.rtcm_inspect.proofs.equipment.add_texts.Given as goal

-- the texts so far
abbrev pub invariant-loop-i : goal.invariant-loop-i
invariant-loop-i l = record {
  text : l.text.items ≡ with_words l.fn.text.items (map quoted (map (λ t. t.now) (take l.i l.texts)));
  short : length l.text.items ≤ longest_head + l.i * longest_quoted;
  end : l.i ≤ length l.texts;
}
