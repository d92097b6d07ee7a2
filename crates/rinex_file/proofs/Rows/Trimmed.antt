-- A text whose trailing blanks were cut is restored by padding it.
use Rattle.rinex_file.proofs.Names.{common_steps, arith, ◌≡◌, ℕ, suc, ◌+◌, ◌-◌, ◌<◌, ◌≤◌, List, [], ◌∷◌, ◌++◌, length, replicate, take, get_or, refl, sym, ap, ◌∙◌, true, false, length-append, ◌==◌, if◌then◌else◌, length-replicate, take_more, eqb-true, trimmed, before_cut}

-- some blanks make the text whole
abbrev FilledTo : List ℕ → List ℕ → Type 0
FilledTo part text = (k : ℕ) × (part ++ replicate k 32 ≡ text)

one_more : (b : ℕ) (part bs : List ℕ) → FilledTo part bs → FilledTo (before_cut b part) (b ∷ bs)
one_more b [] bs (k, e) =
    elim (b == 32) as (λ t. (b == 32) ≡ t → FilledTo (if t then [] else b ∷ []) (b ∷ bs)) [
      | true ↦ λ is. let same = eqb-true b 32 is in (suc k, ap (λ c. c ∷ replicate k 32) (sym same) ∙ ap (λ l. b ∷ l) e)
      | false ↦ λ isnt. (k, ap (λ l. b ∷ l) e)
    ] refl
one_more b (c ∷ cs) bs (k, e) = (k, ap (λ l. b ∷ l) e)

pub filled : (text : List ℕ) → FilledTo (trimmed text) text
unfolding trimmed
filled [] = (0, refl)
filled (b ∷ bs) = one_more b (trimmed bs) bs (filled bs)

same_fill : (part text : List ℕ) → FilledTo part text → part ++ replicate (length text - length part) 32 ≡ text
same_fill part text (k, e) = grind (arith, length-append, length-replicate)

-- padded to its whole width, the text is restored
pub fill-trimmed : (width : ℕ) (text : List ℕ) → length text ≡ width → trimmed text ++ replicate (width - length (trimmed text)) 32 ≡ text
fill-trimmed width text e = ap (λ w. trimmed text ++ replicate (w - length (trimmed text)) 32) (sym e) ∙ same_fill (trimmed text) text (filled text)

pub length-trimmed : (text : List ℕ) → length (trimmed text) ≤ length text
length-trimmed text =
    let f = filled text in
    let l : length text ≡ length (trimmed text) + f.0 = ap length (sym f.1) ∙ simp (length-append, length-replicate) in
    omega (arith, l)

-- a trailing blank is cut
pub trimmed-blank : (text : List ℕ) → trimmed (text ++ 32 ∷ []) ≡ trimmed text
unfolding trimmed
trimmed-blank [] = refl
trimmed-blank (b ∷ bs) = ap (before_cut b) (trimmed-blank bs)

before_cut-other : (b : ℕ) → (b ≡ 32 → ⊥) → before_cut b [] ≡ b ∷ []
before_cut-other b other = grind arith

-- another byte at the end is kept
pub trimmed-other : (text : List ℕ) (b : ℕ) → (b ≡ 32 → ⊥) → trimmed (text ++ b ∷ []) ≡ text ++ b ∷ []
unfolding trimmed
trimmed-other [] b other = before_cut-other b other
trimmed-other (x ∷ xs) b other = ap (before_cut x) (trimmed-other xs b other) ∙ (grind (arith, common_steps))

-- the steps of a cut from the end
pub cut_more : (text : List ℕ) (n : ℕ) → n < length text → get_or text n 0 ≡ 32 → trimmed (take (n + 1) text) ≡ trimmed (take n text)
cut_more text n h e = ap trimmed (take_more text n 0 h ∙ ap (λ b. take n text ++ b ∷ []) e) ∙ trimmed-blank (take n text)

pub cut_enough : (text : List ℕ) (n : ℕ) → n < length text → (get_or text n 0 ≡ 32 → ⊥) → take (n + 1) text ≡ trimmed (take (n + 1) text)
cut_enough text n h other = take_more text n 0 h ∙ sym (trimmed-other (take n text) (get_or text n 0) other) ∙ ap trimmed (sym (take_more text n 0 h))

-- a first byte other than a blank is kept
pub trimmed-front : (b : ℕ) (bs : List ℕ) → (b ≡ 32 → ⊥) → trimmed (b ∷ bs) ≡ b ∷ trimmed bs
unfolding trimmed
trimmed-front b bs other = grind (arith, before_cut-other)
