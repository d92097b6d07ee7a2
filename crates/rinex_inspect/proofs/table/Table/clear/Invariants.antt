use Rattle.rinex_inspect.proofs.Names.{◌<◌, System, index_of, AreBlank, HasPlaces, records_in}
use Rattle.rinex_inspect.proofs.table.Table.clear.Given as goal

abbrev pub invariant-loop-i : goal.invariant-loop-i
invariant-loop-i l = record {
  places : HasPlaces l.self;
  blank : (s : System) → index_of s < l.i → AreBlank s (records_in l.self s);
}
