-- Texts of the equipment that follow each other.
use Rattle.rtcm_msg.proofs.Names.{arith, ℕ, ◌≡◌, ◌+◌, ◌∷◌, ◌++◌, [], List, length, Result, Ok, Err, suc, refl, append_assoc, text_at, texts_at, EquipmentFault}

-- what was read before, and then this
abbrev pub followed : List (List ℕ) → Result (List (List ℕ)) EquipmentFault → Result (List (List ℕ)) EquipmentFault
followed done (Ok ts) = Ok (done ++ ts)
followed done (Err e) = Err e

-- one more text
pub one_more : (bytes : List ℕ) (at n : ℕ) (t : List ℕ) (done : List (List ℕ)) → text_at bytes at ≡ Ok t
    → followed done (texts_at bytes at (suc n)) ≡ followed (done ++ t ∷ []) (texts_at bytes (at + (1 + length t)) n)
one_more bytes at n t done e = grind (arith, append_assoc)

-- or its fault
pub none_more : (bytes : List ℕ) (at n : ℕ) (f : EquipmentFault) (done : List (List ℕ)) → text_at bytes at ≡ Err f
    → followed done (texts_at bytes at (suc n)) ≡ Err f
none_more bytes at n f done e = rw e refl
