-- A number that is read from eight bytes at once.
use Rattle.rtcm_bits.proofs.Names.{◌≡◌, ℕ, ◌+◌, ◌-◌, ◌*◌, ◌/◌, ◌%◌, ◌^◌, ◌<◌, ◌≤◌, Bool, List, [], ◌∷◌, ◌++◌, length, take, drop, get_or, refl, sym, ap, ◌∙◌, arith, take-append-drop, length-drop, lit<, from_be_bytes, w64, field_of, shl-shr, shr-shr, take-take, drop-take, drop-drop, length-take-le, get_or-take, get_or-drop, take_at, drop_at, uint, number, number_from, bits_of, length-bits_of, bits_of-append, number-uint, uint-number}
use Rattle.rtcm_bits.proofs.BitLemmas.{number-append}
use Rattle.rtcm_bits.proofs.PartLemmas.{part-uint, Next, next_part}
use Rattle.rtcm_bits.proofs.ListLaws.{eight_of}

-- the part of a word that two shifts leave
pub part_of_a_word : (word skip width : ℕ) → skip + width ≤ 64 → word * 2 ^ skip % 2 ^ 64 / 2 ^ (64 - width) ≡ number (take width (drop skip (uint 64 word)))
part_of_a_word word skip width h =
    let k : ℕ = 64 - skip - width in
    let e : skip + (width + (64 - skip - width)) ≡ 64 = omega arith in
    let f : width + (64 - width) ≡ 64 = omega arith in
    let g : 64 - width ≡ skip + (64 - skip - width) = omega arith in
    let p = part-uint skip width (64 - skip - width) word in
    ap (λ (n : ℕ). word * 2 ^ skip % 2 ^ n / 2 ^ (64 - width)) (sym f) ∙ field_of (word * 2 ^ skip) width (64 - width)
    ∙ ap (λ (n : ℕ). word * 2 ^ skip / 2 ^ n % 2 ^ width) g ∙ ap (λ (n : ℕ). n % 2 ^ width) (sym (shr-shr (word * 2 ^ skip) skip k) ∙ ap (λ (n : ℕ). n / 2 ^ k) (shl-shr word skip))
    ∙ sym (rw e at p)

-- the bits of a byte after those of a number
byte_after : (a x : ℕ) (rest : List Bool) → x < 256 → number_from a (uint 8 x ++ rest) ≡ number_from (a * 256 + x) rest
byte_after a x rest h = number-append (uint 8 x) rest a ∙ ap (λ (n : ℕ). number_from n rest) (number-uint 8 a x ∙ omega (arith, h))

nothing_after : (a : ℕ) → number_from a [] ≡ a
unfolding number_from
nothing_after a = refl

number_of_eight : {a b c d e f g h : ℕ} → a < 256 → b < 256 → c < 256 → d < 256 → e < 256 → f < 256 → g < 256 → h < 256
    → number (bits_of (a ∷ b ∷ c ∷ d ∷ e ∷ f ∷ g ∷ h ∷ [])) ≡ from_be_bytes w64 (a ∷ b ∷ c ∷ d ∷ e ∷ f ∷ g ∷ h ∷ [])
unfolding bits_of
number_of_eight i j k l m n o p = omega (arith, byte_after, nothing_after)

-- eight bytes, as one number
word_bits : (xs : List ℕ) (n : ℕ) → length xs ≡ 8 → ((i : ℕ) → i < 8 → get_or xs i 0 < 256)
    → n ≡ from_be_bytes w64 (get_or xs 0 0 ∷ get_or xs 1 0 ∷ get_or xs 2 0 ∷ get_or xs 3 0 ∷ get_or xs 4 0 ∷ get_or xs 5 0 ∷ get_or xs 6 0 ∷ get_or xs 7 0 ∷ []) → uint 64 n ≡ bits_of xs
word_bits xs n h b e =
    let l : length (bits_of xs) ≡ 64 = omega (arith, length-bits_of xs, h) in
    let v : number (bits_of xs) ≡ n =
    ap (λ (t : List ℕ). number (bits_of t)) (eight_of xs h)
    ∙ number_of_eight (b 0 (lit< tt)) (b 1 (lit< tt)) (b 2 (lit< tt)) (b 3 (lit< tt)) (b 4 (lit< tt)) (b 5 (lit< tt)) (b 6 (lit< tt)) (b 7 (lit< tt))
    ∙ sym e in
    ap (uint 64) (sym v) ∙ ap (λ (k : ℕ). uint k (number (bits_of xs))) (sym l) ∙ uint-number (bits_of xs) 0

-- the bits of the first m bytes, and of the others
bits_of-cut : (xs : List ℕ) (m : ℕ) → m ≤ length xs → (take (8 * m) (bits_of xs) ≡ bits_of (take m xs)) × (drop (8 * m) (bits_of xs) ≡ bits_of (drop m xs))
bits_of-cut xs m h =
    let l : length (bits_of (take m xs)) ≡ 8 * m = omega (arith, length-bits_of (take m xs), length-take-le m xs h) in
    let e : bits_of xs ≡ bits_of (take m xs) ++ bits_of (drop m xs) = ap bits_of (sym (take-append-drop m xs)) ∙ bits_of-append (take m xs) (drop m xs) in
    (ap (take (8 * m)) e ∙ take_at _ _ (8 * m) l, ap (drop (8 * m)) e ∙ drop_at _ _ (8 * m) l)

-- eight bytes from one of them on
pub word_of_range : (xs : List ℕ) (first m n : ℕ) → m ≡ 8 → first + 8 ≤ length xs → ((i : ℕ) → get_or xs i 0 < 256)
    → n ≡ from_be_bytes w64 (get_or (take m (drop first xs)) 0 0 ∷ get_or (take m (drop first xs)) 1 0 ∷ get_or (take m (drop first xs)) 2 0 ∷ get_or (take m (drop first xs)) 3 0
    ∷ get_or (take m (drop first xs)) 4 0 ∷ get_or (take m (drop first xs)) 5 0 ∷ get_or (take m (drop first xs)) 6 0 ∷ get_or (take m (drop first xs)) 7 0 ∷ [])
    → uint 64 n ≡ take 64 (drop (8 * first) (bits_of xs))
word_of_range xs first m n k h b e =
    let d : length (drop first xs) ≡ length xs - first = length-drop first xs in
    let l : length (take m (drop first xs)) ≡ 8 = rw k (length-take-le 8 (drop first xs) (omega (arith, d, h))) in
    let c : (i : ℕ) → i < 8 → get_or (take m (drop first xs)) i 0 < 256 =
    λ i j. let f : get_or (take m (drop first xs)) i 0 ≡ get_or xs (first + i) 0 = ap (λ (q : ℕ). get_or (take q (drop first xs)) i 0) k ∙ get_or-take 8 (drop first xs) i 0 j ∙ get_or-drop first xs i 0 in rw f (b (first + i)) in
    word_bits (take m (drop first xs)) n l c e ∙ ap (λ (q : ℕ). bits_of (take q (drop first xs))) k ∙ sym (bits_of-cut (drop first xs) 8 (omega (arith, d, h))).0
    ∙ ap (take 64) (sym (bits_of-cut xs first (omega (arith, h))).1)

-- bits among those of a word
pub within_word : (l : List Bool) (at skip width place : ℕ) → skip + width ≤ 64 → place ≡ at + skip → take width (drop skip (take 64 (drop at l))) ≡ take width (drop place l)
within_word l at skip width place h e =
    let f : skip + (64 - skip) ≡ 64 = omega arith in
    ap (λ (n : ℕ). take width (drop skip (take n (drop at l)))) (sym f) ∙ ap (take width) (drop-take skip (64 - skip) (drop at l))
    ∙ take-take width (64 - skip) (drop skip (drop at l)) (omega arith) ∙ ap (take width) (drop-drop skip at l) ∙ ap (λ (n : ℕ). take width (drop n l)) (sym e)

-- bits of nine bytes: those of a word, and the rest in the byte after it
pub in_nine : {skip width high low : ℕ} (xs : List ℕ) (first : ℕ) → skip < 8 → 64 < skip + width → width ≤ 64 → 8 * first + (skip + width) ≤ 8 * length xs
    → high ≡ number (take (64 - skip) (drop skip (take 64 (drop (8 * first) (bits_of xs))))) → low ≡ number (take (skip + width - 64) (drop 0 (uint 8 (get_or xs (first + 8) 0))))
    → Next xs (8 * first + skip) (8 * first + 64) (skip + width - 64) high low
in_nine {skip} {width} {high} {low} xs first h i j k f g =
    let l : List Bool = bits_of xs in
    let rest : ℕ = skip + width - 64 in
    let place : ℕ = 8 * first + skip in
    let at : ℕ = 8 * first + 64 in
    let m : at % 8 ≡ 0 = omega arith in
    let d : at / 8 ≡ first + 8 = omega arith in
    let v : high ≡ number (take (at - place) (drop place l)) =
    f ∙ ap number (within_word l (8 * first) skip (64 - skip) place (omega arith) refl)
    ∙ ap (λ (n : ℕ). number (take n (drop place l))) (sym (omega arith)) in
    let p : low ≡ number (take rest (drop (at % 8) (uint 8 (get_or xs (at / 8) 0)))) = rw (m, d) g in
    next_part {place = place} {at = at} xs rest (omega arith) (omega arith) (omega arith) (omega arith) v p
