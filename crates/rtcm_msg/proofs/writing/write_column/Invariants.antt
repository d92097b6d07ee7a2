use Rattle.rtcm_msg.proofs.Names.{◌≡◌, ◌++◌, ◌+◌, ◌*◌, ◌/◌, ◌^◌, drop, length, flat_map, uint}
use Rattle.rtcm_msg.proofs.writing.write_column.Given as goal

abbrev pub invariant-loop-number : goal.invariant-loop-number
invariant-loop-number l = record {
  bits : l.writer ++ flat_map (λ p. uint l.width (p / 2 ^ l.shift)) (drop l.number-index l.numbers) ≡ l.initial.writer ++ flat_map (λ p. uint l.width (p / 2 ^ l.shift)) l.numbers;
  len : length l.writer ≡ length l.initial.writer + l.width * l.number-index;
}
