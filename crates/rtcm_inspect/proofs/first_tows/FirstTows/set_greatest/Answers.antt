use Rattle.rtcm_inspect.proofs.Names.{is_tabulated, value_of, tows_with_greatest, refl, rules}
use Rattle.rtcm_inspect.proofs.first_tows.FirstTows.set_greatest.Goals as goal

pub returns : goal.returns
returns c = record {
  msms = refl;
  greatest = refl;
  tows = is_tabulated c.each-self.result (λ s. tows_with_greatest c.args.time (value_of s c.args.self.now.tows)) (λ s. let given = c.each-self.ensures s in search rules);
}
