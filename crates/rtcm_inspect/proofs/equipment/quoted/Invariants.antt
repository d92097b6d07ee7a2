use Rattle.rtcm_inspect.proofs.Names.{◌≡◌, ◌+◌, ◌*◌, ◌≤◌, ◌∷◌, length, take, flat_map, escaped}
use Rattle.rtcm_inspect.proofs.equipment.quoted.Given as goal

-- the bytes so far
abbrev pub invariant-loop-i : goal.invariant-loop-i
invariant-loop-i l = record {
  text : l.line ≡ 0x20 ∷ 0x22 ∷ flat_map escaped (take l.i l.text);
  short : length l.line ≤ 2 + 4 * l.i;
  end : l.i ≤ length l.text;
}
