use Rattle.gnss_obs.proofs.Names.{◌≡◌, [], length, indices, IsOf, signals_after, between_commas}
use denote.Shadow.{shadow}
use denote.Text.{Utf8}
use Rattle.gnss_obs.proofs.PlanLaws.{IsFirstRead}
use Rattle.gnss_obs.proofs.plan.read_codes.Given as goal

-- The rest of the codes gives what all codes do.
abbrev pub invariant-loop-code : goal.invariant-loop-code
invariant-loop-code l =
    shadow (Utf8 l.rest) × (signals_after l.system (indices l.signals) (between_commas l.rest) ≡ signals_after l.system [] (between_commas l.text)) × IsOf l.system l.signals
    × IsFirstRead l.system (between_commas l.text) (between_commas l.rest)

abbrev pub decreases-loop-code : goal.decreases-loop-code
decreases-loop-code l = length l.rest
