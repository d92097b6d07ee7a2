use Rattle.rtcm_inspect.proofs.SignalLemmas.{IsCount, partly_more, had_one, had_none}
use Rattle.rtcm_inspect.proofs.options.add_codes.Goals.{then-count-gt0, else-count-gt0}
use Rattle.rtcm_inspect.proofs.Names.{common_steps, ◌∙◌, ◌<◌, ◌∷◌, ◌++◌, ap, arith, ℕ, List, length, table, had_below}
use Rattle.rtcm_inspect.proofs.options.add_codes.Goals as goal

pub loop-index-preserved : goal.loop-index-preserved
loop-index-preserved c =
    let system = c.args.system in
    let i : ℕ = c.loop-index.index in
    let start : List ℕ = c.args.line.now in
    let there : i < length (table system) = omega (arith, c.loop-index-test.true, c.signals-index-end.ensures.value) in
    record {
      text = λ cells h. (let count : IsCount c.args.signal_counts.now cells system i c.count.result = record { counts = h; within = there; is = c.count.ensures } in elim c.if-count-gt0.branch [
        | then-count-gt0 w ↦ (let more = partly_more start c.loop-index.line c.loop-index.separator system (had_below cells system i) i (c.loop-index.invariant.text cells h)
            (w.add_part.ensures.text ∙ ap (λ (l : List ℕ). c.loop-index.line ++ c.loop-index.separator ∷ l) (w.as_slice.ensures ∙ w.code_at.ensures)) in
            rw (w.line-is, w.separator-is, had_one count w.if-count-gt0.true) more)
        | else-count-gt0 w ↦ rw (w.line-is, w.separator-is, had_none count w.if-count-gt0.false) (c.loop-index.invariant.text cells h)
      ]);
      short = grind (arith, common_steps, then-count-gt0, partly_more, had_one, else-count-gt0, had_none);
    }
