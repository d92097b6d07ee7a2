use Rattle.rtcm_inspect.proofs.Names.{◌≡◌, ◌*◌, ◌≤◌, List, length, flat_map, table, AreSignalCounts, HeardCell, count_lines, take, sum_by, systems}
use Rattle.rtcm_inspect.proofs.signals.system_lines.Given as goal

abbrev pub invariant-loop-i : goal.invariant-loop-i
invariant-loop-i l =
    record {
      text : (cells : List HeardCell) → AreSignalCounts l.signal_counts cells → l.text.items ≡ flat_map (count_lines cells) (take l.i systems);
      short : length l.text.items ≤ 26 * sum_by (λ s. length (table s)) (take l.i systems);
    }
