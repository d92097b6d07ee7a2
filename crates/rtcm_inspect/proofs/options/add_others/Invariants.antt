use Rattle.rtcm_inspect.proofs.Names.{◌≡◌, ◌+◌, ◌*◌, ◌≤◌, List, length, flat_map, take, HeardCell, AreSignalCounts, plan_had, with_words, systems, other_words, longest_line, longest_plan}
use Rattle.rtcm_inspect.proofs.options.add_others.Given as goal

abbrev pub invariant-loop-i : goal.invariant-loop-i
invariant-loop-i l = record {
  text : (cells : List HeardCell) → AreSignalCounts l.signals.signal_counts cells
      → l.text.items ≡ with_words l.fn.text.items (flat_map (other_words l.leap (plan_had cells l.signals.channels)) (take l.i systems));
  short : length l.text.items ≤ longest_line + longest_plan * l.i;
}
