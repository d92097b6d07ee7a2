-- A text to which parts were appended.
use Rattle.rinex_file.proofs.Names.{◌≡◌, ◌∙◌, sym, ap, ℕ, List, [], ◌∷◌, ◌++◌, append_assoc, append-nil, joined}

-- y is x with these parts after it, one after the other
abbrev pub Grows : List ℕ → List (List ℕ) → List ℕ → Type 0
Grows x [] y = y ≡ x
Grows x (p ∷ ps) y = (w : List ℕ) × (w ≡ x ++ p) × Grows w ps y

pub grown : (x : List ℕ) (ps : List (List ℕ)) (y : List ℕ) → Grows x ps y → y ≡ x ++ joined ps
grown x [] y e = e ∙ sym (append-nil x)
grown x (p ∷ ps) y (w, e, rest) = grown w ps y rest ∙ ap (λ l. l ++ joined ps) e ∙ append_assoc x p (joined ps)

-- the same from nothing on
pub grown_whole : (x : List ℕ) (ps : List (List ℕ)) (y : List ℕ) → x ≡ [] → Grows x ps y → y ≡ joined ps
grown_whole x ps y none more = grown x ps y more ∙ ap (λ l. l ++ joined ps) none
