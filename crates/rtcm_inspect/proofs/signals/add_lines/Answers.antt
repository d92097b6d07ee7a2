use Rattle.rtcm_inspect.proofs.SignalLemmas.{IsCount, lines_one, lines_none}
use Rattle.rtcm_inspect.proofs.signals.add_lines.Goals.{then-count-gt0, else-count-gt0}
use Rattle.rtcm_inspect.proofs.Names.{common_steps, ◌∙◌, ◌<◌, arith, ℕ, List, length, table, of_ok}
use Rattle.rtcm_inspect.proofs.signals.add_lines.Goals as goal

pub loop-index-preserved : goal.loop-index-preserved
loop-index-preserved c =
    let system = c.args.system in
    let i : ℕ = c.loop-index.index in
    let start : List ℕ = c.args.text.now.items in
    let there : i < length (table system) = omega (arith, c.loop-index-test.true, c.signals-index-end.ensures.value) in
    record {
      text = λ cells h. (let count : IsCount c.args.signal_counts.now cells system i c.count-count.result = record { counts = h; within = there; is = c.count-count.ensures } in elim c.if-count-gt0.branch [
        | then-count-gt0 w ↦ rw w.text-is (lines_one start count w.if-count-gt0.true (c.loop-index.invariant.text cells h) (of_ok w.unwrap.ensures w.try_extend_from_slice.ensures.ok)
            (w.as_bytes.ensures.text ∙ w.count_line-line.ensures.text))
        | else-count-gt0 w ↦ rw w.text-is (lines_none start count w.if-count-gt0.false (c.loop-index.invariant.text cells h))
      ]);
      short = grind (arith, common_steps, then-count-gt0, lines_one, of_ok, else-count-gt0, lines_none);
    }
