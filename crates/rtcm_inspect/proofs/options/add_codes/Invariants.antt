use Rattle.rtcm_inspect.proofs.SignalLemmas.{IsPartly}
use Rattle.rtcm_inspect.proofs.Names.{◌+◌, ◌*◌, ◌≤◌, List, length, had_below, AreSignalCounts, HeardCell}
use Rattle.rtcm_inspect.proofs.options.add_codes.Given as goal

abbrev pub invariant-loop-index : goal.invariant-loop-index
invariant-loop-index l =
    record {
      text : (cells : List HeardCell) → AreSignalCounts l.signal_counts cells → IsPartly l.fn.line l.line l.separator l.system (had_below cells l.system l.index);
      short : length l.line ≤ length l.fn.line + 3 * l.index;
    }
