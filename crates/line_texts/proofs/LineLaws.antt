-- Lines that are built word by word, and texts between commas.
use Rattle.line_texts.proofs.Names.{◌≡◌, ◌==◌, ℕ, Bool, false, List, [], ◌∷◌, ◌++◌, ◌∙◌, ap, refl, sym, append_assoc, between_commas, join_with_byte, line, list_any, onto_first, or_parts, with_words, append-nil, arith}

joined : (x w : List ℕ) (ws : List (List ℕ)) → join_with_byte 0x20 ((x ++ 0x20 ∷ w) ∷ ws) ≡ join_with_byte 0x20 (x ∷ w ∷ ws)
joined x w ws = grind (arith, append_assoc)

joined_after : (x w : List ℕ) (ws : List (List ℕ)) → join_with_byte 0x20 ((x ++ w) ∷ ws) ≡ x ++ join_with_byte 0x20 (w ∷ ws)
joined_after x w ws = grind (arith, append_assoc)

words_joined : (x : List ℕ) (ws : List (List ℕ)) → with_words x ws ≡ join_with_byte 0x20 (x ∷ ws)
words_joined x [] = refl
words_joined x (w ∷ ws) = words_joined (x ++ 0x20 ∷ w) ws ∙ joined x w ws

-- a text before the words
pub words_after : (text start : List ℕ) (words : List (List ℕ)) → text ++ with_words start words ≡ with_words (text ++ start) words
words_after text start [] = refl
words_after text start (w ∷ ws) = words_after text (start ++ 0x20 ∷ w) ws ∙ ap (λ (t : List ℕ). with_words t ws) (sym (append_assoc text start (0x20 ∷ w)))

-- known words, added in one text
pub words_in_one : {A : Type 0} (words : A → List (List ℕ)) (text : List ℕ) (x known : A) → x ≡ known → text ++ with_words [] (words known) ≡ with_words text (words x)
words_in_one {A} words text x known is = grind (arith, words_after, append-nil)

-- one more word
pub add_word : {old new text word same : List ℕ} → new ≡ old ++ 0x20 ∷ word → old ≡ text → word ≡ same → new ≡ text ++ 0x20 ∷ same
add_word {old} {new} {text} {word} {same} e f g = e ∙ ap (λ (l : List ℕ). l ++ 0x20 ∷ word) f ∙ ap (λ (l : List ℕ). text ++ 0x20 ∷ l) g

-- the line feed, after a start and the words of a line
pub end_line : (start first : List ℕ) (words : List (List ℕ)) {text all : List ℕ} → all ≡ text ++ 0x0A ∷ [] → text ≡ with_words (start ++ first) words → all ≡ start ++ line (first ∷ words)
end_line start first words {text} {all} e f = grind (arith, words_joined, joined_after, append_assoc)

-- one more text
pub add_text : {old new text part same : List ℕ} → new ≡ old ++ part → old ≡ text → part ≡ same → new ≡ text ++ same
add_text {old} {new} {text} {part} {same} e f g = e ∙ ap (λ (l : List ℕ). l ++ part) f ∙ ap (λ (l : List ℕ). text ++ l) g

-- ---- texts between commas

abbrev pub is_comma : ℕ → Bool
is_comma b = b == 44

pub last_code : (code : List ℕ) → list_any is_comma code ≡ false → between_commas code ≡ code ∷ []
last_code [] h = refl
last_code (b ∷ bs) h = let n = or_parts (b == 44) _ h in rw n.0 (ap (onto_first b) (last_code bs n.1))

pub first_code : (code rest : List ℕ) → list_any is_comma code ≡ false → between_commas (code ++ 44 ∷ rest) ≡ code ∷ between_commas rest
first_code [] rest h = refl
first_code (b ∷ bs) rest h = let n = or_parts (b == 44) _ h in rw n.0 (ap (onto_first b) (first_code bs rest n.1))

pub join-push : (x : List ℕ) (xs : List (List ℕ)) (y : List ℕ) → join_with_byte 0x2C (x ∷ xs ++ y ∷ []) ≡ join_with_byte 0x2C (x ∷ xs) ++ 0x2C ∷ y
join-push x [] y = refl
join-push x (z ∷ xs) y = ap (λ (l : List ℕ). x ++ 0x2C ∷ l) (join-push z xs y) ∙ sym (append_assoc x (0x2C ∷ join_with_byte 0x2C (z ∷ xs)) (0x2C ∷ y))
