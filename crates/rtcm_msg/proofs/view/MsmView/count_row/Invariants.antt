use Rattle.rtcm_msg.proofs.Names.{◌≡◌, ◌<◌, entries_left, AreCells, AreAtMost, AddsCounts}
use Rattle.rtcm_msg.proofs.view.MsmView.count_row.Given as goal

abbrev pub invariant-loop-cells : goal.invariant-loop-cells
invariant-loop-cells g l = record {
  counts : AddsCounts l.listed l.fn.counts l.counts (entries_left l.self l.fn.cells) (entries_left l.self l.cells);
  cells : AreCells l.self l.cells;
  small : AreAtMost l.cells.next l.counts;
  index : l.cells.pairs.index ≡ l.fn.cells.pairs.index;
  satellite : l.cells.pairs.satellites ≡ l.fn.cells.pairs.satellites;
  fewer : l.cells.left < l.fn.cells.left;
}

abbrev pub decreases-loop-cells : goal.decreases-loop-cells
decreases-loop-cells g l = l.cells.left
