-- Lines of text.
use Rattle.std.specs.Prelude.{◌≡◌, ◌≤◌, ℕ, ◌+◌, ◌*◌, List, [], ◌∷◌, ◌++◌, length}
use Rattle.std.specs.List.{join_with_byte}

-- the most digits of a number of 64 bits
abbrev pub longest_number : ℕ
longest_number = 20

-- Room for a line. The longest is the report of a conversion: 15 names of 105 letters in all, 15 numbers, 29 blanks and
-- a line feed. The last 2 are spare.
abbrev pub longest_line : ℕ
longest_line = 105 + 15 * longest_number + 29 + 1 + 2

-- the words with single blanks between them and a line feed after the last
abbrev pub line : List (List ℕ) → List ℕ
line words = join_with_byte 0x20 words ++ 0x0A ∷ []

-- a text followed by these words, each after a blank
abbrev pub with_words : List ℕ → List (List ℕ) → List ℕ
with_words text [] = text
with_words text (w ∷ ws) = with_words (text ++ 0x20 ∷ w) ws

-- these bytes are the whole text, and at most this number of bytes
pub record IsTextWithin (bytes whole : List ℕ) (most : ℕ) : Type 0 where
  pub text : bytes ≡ whole
  pub short : length bytes ≤ most

-- a line with these words added, each after a blank, and at most this number of bytes more
abbrev pub AddsWords : (old new : List ℕ) → List (List ℕ) → ℕ → Type 0
AddsWords old new words most = IsTextWithin new (with_words old words) (length old + most)
