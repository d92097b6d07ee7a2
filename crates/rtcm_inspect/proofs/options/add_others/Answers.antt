use Rattle.rtcm_inspect.proofs.Names.{common_steps, take, ◌∙◌, ℕ, List, ap, arith, flat_map, sym, plan_had, with_words, take_all, systems, systems_taken, other_words}
use Rattle.rtcm_inspect.proofs.OptionLemmas.{others_more}
use Rattle.rtcm_inspect.proofs.options.add_others.Goals as goal

pub loop-i-preserved : goal.loop-i-preserved
loop-i-preserved c =
    let n : ℕ = c.loop-i.i in
    let old = c.args.text.now.items in
    let e = systems_taken n c.at.result c.at.ensures in
    record {
      text = λ cells h. (let p = plan_had cells c.args.signals.now.channels in
          c.add_other.ensures.text cells h ∙ ap (λ (l : List ℕ). with_words l (other_words c.args.leap p c.at.result)) (c.loop-i.invariant.text cells h)
          ∙ others_more c.args.leap p old (take n systems) c.at.result ∙ ap (λ ss. with_words old (flat_map (other_words c.args.leap p) ss)) (sym e));
      short = let s = c.add_other.ensures.short in let b = c.loop-i.invariant.short in omega (arith, s, b);
    }

pub returns-clause-text : goal.returns-clause-text
returns-clause-text c = λ cells h. grind (arith, common_steps, take_all)
