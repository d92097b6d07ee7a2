-- A conversion of GPS and Galileo alone.
use Rattle.rtcm_convert.proofs.Names.{arith, common_steps, ◌≡◌, refl, ℕ, List, [], ◌∷◌, filter_map, Framed, heard_in, SetupValue, messages_of, AreMessagesPlain}
use Rattle.obs_epoch.specs.TwoSystems.{AreReadPlainly, plain_in}

-- the same of each frame, so of all
same_messages : (s : SetupValue) → ((bytes : List ℕ) → heard_in s.gatherer.plan.channels s.gatherer.leap_seconds s.set bytes ≡ plain_in bytes) → (fs : List Framed)
    → messages_of s fs ≡ filter_map (λ f. plain_in f.message) fs
same_messages s same [] = refl
same_messages s same (f ∷ fs) = grind (arith, common_steps, same_messages s same fs)

pub messages_plain : AreReadPlainly → AreMessagesPlain
messages_plain read x fs two forms = grind (arith, common_steps, same_messages)
