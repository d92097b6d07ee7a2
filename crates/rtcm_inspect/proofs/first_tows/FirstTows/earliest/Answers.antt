use Rattle.rtcm_inspect.proofs.TowLemmas.{one_more}
use Rattle.rtcm_inspect.proofs.Names.{systems, BySystem, earliest, MsmTow, SystemTows, ◌≡◌, ◌∙◌, ◌≤◌, ℕ, Option, ap, arith, drop, MsmSet}
use Rattle.rtcm_inspect.proofs.first_tows.FirstTows.earliest.Goals as goal

pub loop-i-preserved : goal.loop-i-preserved
loop-i-preserved c = record {
  few = omega (arith, c.loop-i.invariant.few);
  first = one_more c.args.set.now c.args.self.now.tows _ c.loop-i.i c.at.result c.at.ensures (omega (arith, c.loop-i-test.true)) c.first_of_system.ensures c.loop-i.invariant.first c.earlier_of-first.ensures;
}

at_end : {n : ℕ} {first : Option MsmTow} (set : MsmSet) (tows : BySystem SystemTows) → n ≤ 0 → first ≡ earliest set tows (drop n systems) → first ≡ earliest set tows systems
at_end {n} set tows none is = let end : n ≡ 0 = omega (arith, none) in is ∙ ap (λ (k : ℕ). earliest set tows (drop k systems)) end

pub returns : goal.returns
returns c = at_end c.args.set.now c.args.self.now.tows c.loop-i-test.false c.loop-i.invariant.first
