use Rattle.rinex_inspect.proofs.MissingLemmas.{gap_is}
use Rattle.rinex_inspect.proofs.Names.{codes, ◌≡◌, ◌∙◌, ◌+◌, [], ◌∷◌, ◌++◌, ℕ, List, ap, arith, length, length-append}
use Rattle.rinex_inspect.proofs.check.add_gap.Goals as goal

size : {new : List ℕ} (old part : List ℕ) → new ≡ old ++ part → length new ≡ length old + length part
size old part e = ap length e ∙ length-append old part

pub add_instant-requires-then-missing-gt0 : goal.add_instant-requires-then-missing-gt0
add_instant-requires-then-missing-gt0 c = omega (arith, size c.args.text.now (codes "gap") c.put.ensures, c.requires, c.add_instant.ensures.short)

pub finish-requires : goal.finish-requires
finish-requires c = omega (arith, size c.args.text.now (codes "gap") c.put.ensures, c.requires, c.add_instant.ensures.short, c.add_instant-then-missing-gt0.ensures.short)

pub returns-then-missing-gt0-clause-text : goal.returns-then-missing-gt0-clause-text
returns-then-missing-gt0-clause-text c = record {
  text = gap_is c.args.text.now c.args.last c.args.next (omega (arith, c.if-missing-gt0.true, c.saturating_sub-missing.ensures, c.saturating_sub.ensures)) c.put.ensures c.add_instant.ensures.text c.add_instant-then-missing-gt0.ensures.text c.finish.ensures;
  short = omega (arith, size c.args.text.now (codes "gap") c.put.ensures, size c.add_instant-then-missing-gt0.new.text (0x0A ∷ []) c.finish.ensures, c.add_instant.ensures.short, c.add_instant-then-missing-gt0.ensures.short);
}
