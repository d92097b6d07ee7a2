use Rattle.rtcm_command.proofs.OptionLemmas.{text_is}
use Rattle.rtcm_command.proofs.Names.{◌≡◌, ◌∙◌, ap, refl, ℕ, List, [], Option, Some, None, Bor, option_map, unwrap_or, found_of}
use Rattle.rtcm_command.proofs.options.text.Goals as goal

unwrapped : (r : Option (Bor (List ℕ))) (d v : Bor (List ℕ)) → v ≡ unwrap_or r d → d.now ≡ [] → v.now ≡ unwrap_or (option_map (λ s. s.now) r) []
unwrapped None d v is empty = ap (λ (s : Bor (List ℕ)). s.now) is ∙ empty
unwrapped (Some x) d v is empty = ap (λ (s : Bor (List ℕ)). s.now) is

pub returns : goal.returns
returns c = unwrapped c.get_str.result _ _ c.unwrap_or.ensures refl ∙ text_is (found_of c.args.options.now) c.args.name.now _ _ c.get_str.ensures refl
