use Rattle.rinex_inspect.proofs.Names.{◌≡◌, ◌<◌, ℕ, get_or, length, IsBlankRecord, no_record}
use Rattle.rinex_inspect.proofs.table.clear_records.Given as goal

abbrev pub invariant-loop-i : goal.invariant-loop-i
invariant-loop-i l = record {
  size : length l.records ≡ length l.fn.records;
  blank : (j : ℕ) → j < l.i → IsBlankRecord (get_or l.records j no_record);
}
