use Rattle.rtcm_msg.proofs.Names.{common_steps, ◌∙◌, arith, sym, pairs_left}
use Rattle.rtcm_msg.proofs.PairLaws.{found, passed, over, one_less, first_index}
use Rattle.rtcm_msg.proofs.pairs.split_cells.Goals as goal

pub returns-then-cells-left-eq1-clause-some : goal.returns-then-cells-left-eq1-clause-some
returns-then-cells-left-eq1-clause-some c = grind (arith, common_steps, found, one_less)

pub returns-then-cells-left-eq1-clause-indices : goal.returns-then-cells-left-eq1-clause-indices
returns-then-cells-left-eq1-clause-indices c = λ n h. first_index n (pairs_left c.loop-left.pairs) (pairs_left c.split_signal.result.1) c.split_signal.result.0 (sym c.with_signals.ensures.same ∙ c.split_signal.ensures.first) (c.loop-left.invariant.indices n h)

pub loop-left-preserved : goal.loop-left-preserved
loop-left-preserved c =
    let first = sym c.with_signals.ensures.same ∙ c.split_signal.ensures.first in
    record {
      same = c.loop-left.invariant.same ∙ passed c.loop-left.left c.args.cells (pairs_left c.loop-left.pairs) (pairs_left c.split_signal.result.1) c.split_signal.result.0 c.loop-left.invariant.count first c.if-cells-left-eq1.false;
      count = one_less c.loop-left.left (pairs_left c.loop-left.pairs) (pairs_left c.split_signal.result.1) c.split_signal.result.0 c.loop-left.invariant.count first;
      few = omega (arith, c.loop-left.invariant.few);
      in_range = c.split_signal.ensures.in_range;
      indices = λ n h. (first_index n (pairs_left c.loop-left.pairs) (pairs_left c.split_signal.result.1) c.split_signal.result.0 first (c.loop-left.invariant.indices n h)).1;
    }

pub returns-clause-none : goal.returns-clause-none
returns-clause-none c = over c.loop-left.left c.args.cells _ (pairs_left c.loop-left.pairs) (omega (arith, c.loop-left-test.false)) c.loop-left.invariant.same
