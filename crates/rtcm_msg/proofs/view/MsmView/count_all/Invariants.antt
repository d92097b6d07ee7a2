use Rattle.rtcm_msg.proofs.Names.{◌≡◌, ◌<◌, ℕ, ◌+◌, slice_index, entries, entries_left, value_count, AreCells, AreAtMost}
use Rattle.rtcm_msg.specs.declared.message.Message.TheVariants as messages
use Rattle.rtcm_msg.proofs.view.MsmView.count_all.Given as goal

abbrev pub invariant-loop-cells : goal.invariant-loop-cells
invariant-loop-cells g l = record {
  counts : (i : ℕ) → i < 32 → value_count l.listed (i + 1) (entries (messages.Msm l.self)) ≡ slice_index l.counts i + value_count l.listed (i + 1) (entries_left l.self l.cells);
  cells : AreCells l.self l.cells;
  small : AreAtMost l.cells.next l.counts;
}

abbrev pub decreases-loop-cells : goal.decreases-loop-cells
decreases-loop-cells g l = l.cells.left
