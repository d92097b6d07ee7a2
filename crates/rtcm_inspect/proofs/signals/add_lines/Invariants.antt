use Rattle.rtcm_inspect.proofs.Names.{◌≡◌, ◌+◌, ◌*◌, ◌≤◌, ◌++◌, List, length, lines_below, AreSignalCounts, HeardCell}
use Rattle.rtcm_inspect.proofs.signals.add_lines.Given as goal

abbrev pub invariant-loop-index : goal.invariant-loop-index
invariant-loop-index l =
    record {
      text : (cells : List HeardCell) → AreSignalCounts l.signal_counts cells → l.text.items ≡ l.fn.text.items ++ lines_below cells l.system l.index;
      short : length l.text.items ≤ length l.fn.text.items + 26 * l.index;
    }
