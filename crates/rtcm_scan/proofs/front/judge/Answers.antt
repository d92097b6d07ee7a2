use Rattle.rtcm_scan.proofs.Names.{arith, ◌∙◌, ap, sym, if_missing}
use Rattle.rtcm_scan.proofs.JudgeLemmas.{whole, judge_missing, judge_found, judge_wrong, judge_none}
use Rattle.rtcm_scan.proofs.front.judge.Goals.{else-candidate-gt1-via-then-candidate-gt1+else-value-eq0, else-candidate-gt1-via-else-candidate-gt1}
use Rattle.rtcm_scan.proofs.front.judge.Goals as goal

pub returns-then-has_ended : goal.returns-then-has_ended
returns-then-has_ended c = λ s l b t a. sym (ap if_missing c.if-has_ended.true) ∙ judge_missing c.args.candidate.now c.args.has_ended s l t a c.if-candidate.true

pub returns-else-has_ended : goal.returns-else-has_ended
returns-else-has_ended c = λ s l b t a. sym (ap if_missing c.if-has_ended.false) ∙ judge_missing c.args.candidate.now c.args.has_ended s l t a c.if-candidate.true

pub returns-then-value-eq0 : goal.returns-then-value-eq0
returns-then-value-eq0 c = λ s l b t a. judge_found c.residue.ensures c.args.has_ended s b (whole c.args.candidate.now s t a (λ h. omega (arith, h, c.if-candidate.false))) c.if-candidate-gt1.true (sym c.value.ensures.value ∙ c.if-value-eq0.true)

pub returns-else-candidate-gt1 : goal.returns-else-candidate-gt1
returns-else-candidate-gt1 c = λ s l b t a. elim c.else-candidate-gt1.branch [
  | else-candidate-gt1-via-then-candidate-gt1+else-value-eq0 w ↦ judge_wrong c.residue.ensures c.args.has_ended s b (whole c.args.candidate.now s t a (λ h. omega (arith, h, c.if-candidate.false))) w.if-candidate-gt1.true (λ r. w.if-value-eq0.false (w.value.ensures.value ∙ r))
  | else-candidate-gt1-via-else-candidate-gt1 w ↦ judge_none c.args.candidate.now c.args.has_ended s t a (λ h. omega (arith, h, c.if-candidate.false)) (λ h. omega (arith, h, w.if-candidate-gt1.false))
]
