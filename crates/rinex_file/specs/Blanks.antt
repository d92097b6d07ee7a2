-- Texts without trailing blanks.
use Rattle.std.specs.Prelude.{◌≡◌, ℕ, ◌-◌, ◌<◌, List, [], ◌∷◌, ◌++◌, ◌==◌, if◌then◌else◌, length, replicate}

-- a byte before a text; a blank is left out if nothing follows it
abbrev pub before_cut : ℕ → List ℕ → List ℕ
before_cut b [] = if b == 32 then [] else b ∷ []
before_cut b (c ∷ cs) = b ∷ c ∷ cs

-- a text without trailing blanks
unfoldable pub trimmed : List ℕ → List ℕ
trimmed [] = []
trimmed (b ∷ bs) = before_cut b (trimmed bs)

-- a line feed after a text without trailing blanks, which isn't empty
abbrev pub IsEnded : List ℕ → Type 0
IsEnded line = (text : List ℕ) × (line ≡ text ++ 10 ∷ []) × (0 < length text) × (trimmed text ≡ text)

-- a text that is padded with blanks to a width
abbrev pub filled_to : ℕ → List ℕ → List ℕ
filled_to width text = text ++ replicate (width - length text) 32
