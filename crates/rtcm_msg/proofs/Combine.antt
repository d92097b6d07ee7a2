-- Chains of fields: the bits that were read, reading encoded fields, and the fault.
use Rattle.rtcm_msg.proofs.Names.{common_steps, ℕ, ◌≡◌, ◌+◌, ◌^◌, ◌<◌, ◌≤◌, Bool, List, ◌∷◌, ◌++◌, Ok, Some, arith, length-append, uint, Cursor, number_at, first_past, length-uint, number_of-uint}
use Rattle.rtcm_msg.proofs.Binds.{number_there}

-- ---- the fault

pub past_here : (w : ℕ) (ws : List ℕ) (len place : ℕ) → len < place + w → first_past len place (w ∷ ws) ≡ Some place
unfolding first_past
past_here w ws len place h = grind arith

pub past_next : (w : ℕ) (ws : List ℕ) (len place : ℕ) → place + w ≤ len → first_past len place (w ∷ ws) ≡ first_past len (place + w) ws
unfolding first_past
past_next w ws len place h = grind arith

-- ---- reading encoded fields

abbrev pub cursor : ℕ → List Bool → Cursor
cursor place rest = record { place = place; rest = rest }

pub number_again : (w n place : ℕ) (rest : List Bool) → n < 2 ^ w → number_at w (cursor place (uint w n ++ rest)) ≡ Ok (n, cursor (place + w) rest)
number_again w n place rest h = grind (arith, common_steps, length-uint, length-append {A = ℕ}, number_there, number_of-uint)
