-- Several bytes at once: the register is added to the first three of them; each byte has its own table, whose entries
-- are the CRCs of that byte followed by zeros.
use Rattle.rtcm_bits.proofs.Names.{◌≡◌, ℕ, ◌+◌, ◌-◌, ◌*◌, ◌/◌, ◌%◌, ◌^◌, ◌<◌, ◌≤◌, Bool, false, List, [], ◌∷◌, ◌++◌, length, drop, take, map, get_or, replicate, refl, sym, ap, ◌∙◌, arith, suc, zero, bit_and, bit_xor, length-append, lit<, lit≤, xor_zero_r, xor_comm, drop_more, length-drop, get_or-drop, get_or-map, get_or-take, length-take-le, replicate-append-replicate, xor_lt, and_mask, uint, bits_of, add_front, remainder, bits_remainder, crc, after_bits, ProcessesBits, TABLES, length-uint}
use Rattle.rtcm_bits.proofs.RegisterBits.{uint-xor, uint-split}
use Rattle.rtcm_bits.proofs.CheckLemmas.{divide_all, length-add_front}
use Rattle.rtcm_bits.proofs.ResidueLemmas.{add_front-append}
use Rattle.rtcm_bits.proofs.RegisterLemmas.{check_is, check_below, check_push}
use Rattle.rtcm_bits.proofs.TableLemmas.{add_split, table_right, table_step}
use Rattle.rtcm_bits.proofs.SumLemmas.{split_check}

-- the register is added to the first bits
into_front : (r m : List Bool) → length r ≡ 24 → 24 ≤ length m → after_bits r m ≡ bits_remainder (add_front r m)
unfolding bits_remainder
into_front r m h k =
    sym (divide_all r m h) ∙ ap (remainder (length m)) (add_front-append r m (replicate 24 false) (omega (arith, h, k)))
    ∙ ap (λ (n : ℕ). remainder n (add_front r m ++ replicate 24 false)) (sym (length-add_front r m))

-- the register is added to the first three bytes
three_bytes : (h m l : ℕ) → m < 256 → l < 256 → uint 24 (h * 65536 + (m * 256 + l)) ≡ uint 8 h ++ (uint 8 m ++ uint 8 l)
three_bytes h m l j k = uint-split 8 16 h (m * 256 + l) (omega (arith, j, k)) ∙ ap (λ (t : List Bool). uint 8 h ++ t) (uint-split 8 8 m l k)

taken_in : (h m l a b c : ℕ) (rest : List Bool) → add_front (uint 8 h ++ (uint 8 m ++ uint 8 l)) (uint 8 a ++ (uint 8 b ++ (uint 8 c ++ rest)))
    ≡ uint 8 (bit_xor h a) ++ (uint 8 (bit_xor m b) ++ (uint 8 (bit_xor l c) ++ rest))
taken_in h m l a b c rest = grind (arith, length-uint, add_split, uint-xor, add_front-append)

pub into_bytes : (x h a b c : ℕ) (rest : List ℕ) → x ≡ h * 65536 + (x / 256 % 256 * 256 + x % 256)
    → after_bits (uint 24 x) (bits_of (a ∷ b ∷ c ∷ rest)) ≡ uint 24 (crc (bit_xor h a ∷ bit_xor (x / 256 % 256) b ∷ bit_xor (x % 256) c ∷ rest))
unfolding bits_of
into_bytes x h a b c rest e = grind (arith, three_bytes, length-uint, length-append, into_front, taken_in, check_is)

-- each table is the one before it, with eight bits of 0 more
abbrev pub next_entry : ℕ → ℕ
next_entry x = bit_xor (bit_and x 65535 * 256) (get_or TABLES (x / 65536) 0)

tables_go_on : drop 256 TABLES ≡ map next_entry (take 3840 TABLES)
tables_go_on = refl

entry_after : (j : ℕ) → j < 3840 → get_or TABLES (256 + j) 0 ≡ next_entry (get_or TABLES j 0)
entry_after j h =
    sym (get_or-drop 256 TABLES j 0) ∙ ap (λ (t : List ℕ). get_or t j 0) tables_go_on ∙ get_or-map next_entry (take 3840 TABLES) j 0 0 (omega (arith, h, length-take-le 3840 TABLES (lit≤ tt)))
    ∙ ap next_entry (get_or-take 3840 TABLES j 0 h)

pub next_right : (x : ℕ) → x < 2 ^ 24 → ProcessesBits (uint 8 0) x (next_entry x)
next_right x b =
    let i : x / 65536 < 256 = omega (arith, b) in
    let e : get_or TABLES (x / 65536) 0 ≡ crc (bit_xor (x / 65536) 0 ∷ []) = table_right (x / 65536) i ∙ ap (λ (n : ℕ). crc (n ∷ [])) (sym (xor_zero_r (x / 65536))) in
    let l : bit_and x 65535 * 256 < 2 ^ 24 = omega (arith, and_mask x 16) in
    let r : get_or TABLES (x / 65536) 0 < 2 ^ 24 = rw e (check_below (bit_xor (x / 65536) 0 ∷ [])) in
    record {
      bound = xor_lt 24 (bit_and x 65535 * 256) (get_or TABLES (x / 65536) 0) l r;
      steps = table_step x (next_entry x) 0 (get_or TABLES (x / 65536) 0) b (lit< tt) e refl;
    }

pub zero_after : (m : List ℕ) → next_entry (crc m) ≡ crc (m ++ 0 ∷ [])
zero_after m = check_push m (crc m) (next_entry (crc m)) 0 refl (next_right (crc m) (check_below m))

pub entry_right : (k i : ℕ) → i < 256 → k < 16 → get_or TABLES (k * 256 + i) 0 ≡ crc (i ∷ replicate k 0)
entry_right zero i h l = let z : 0 * 256 + i ≡ i = omega arith in ap (λ (n : ℕ). get_or TABLES n 0) z ∙ table_right i h
entry_right (suc k) i h l =
    let z : suc k * 256 + i ≡ 256 + (k * 256 + i) = omega arith in
    let y : k + 1 ≡ suc k = omega arith in
    ap (λ (n : ℕ). get_or TABLES n 0) z ∙ entry_after (k * 256 + i) (omega (arith, h, l)) ∙ ap next_entry (entry_right k i h (omega (arith, l))) ∙ zero_after (i ∷ replicate k 0)
    ∙ ap (λ (t : List ℕ). crc (i ∷ t)) (replicate-append-replicate k 1 0 ∙ ap (λ (n : ℕ). replicate n 0) y)

-- the sum of the entries
front_sum : (c n s e : ℕ) (rest : List ℕ) → n ≡ length rest → s ≡ crc rest → e ≡ crc (c ∷ replicate n 0) → bit_xor s e ≡ crc (c ∷ rest)
front_sum c n s e rest h p q = rw (p, q, h) (xor_comm (crc rest) (crc (c ∷ replicate (length rest) 0)) ∙ sym (split_check (c ∷ []) rest))

pub entry_more : (xs : List ℕ) (k s e : ℕ) → k < length xs → s ≡ crc (drop (length xs - k) xs) → e ≡ crc (get_or xs (length xs - 1 - k) 0 ∷ replicate k 0)
    → bit_xor s e ≡ crc (drop (length xs - (k + 1)) xs)
entry_more xs k s e h p q = grind (arith, length-drop, front_sum, drop_more)

pub some_right : {x k s u v w : ℕ} (xs : List ℕ) → x < 2 ^ 24 → 3 ≤ length xs → k ≡ length xs - 3 → s ≡ crc (drop (length xs - k) xs)
    → u ≡ crc (bit_xor (x % 256) (get_or xs 2 0) ∷ replicate (length xs - 3) 0) → v ≡ crc (bit_xor (x / 256 % 256) (get_or xs 1 0) ∷ replicate (length xs - 2) 0)
    → w ≡ crc (bit_xor (x / 65536) (get_or xs 0 0) ∷ replicate (length xs - 1) 0)
    → ProcessesBits (bits_of xs) x (bit_xor (bit_xor (bit_xor s u) v) w)
some_right [] h l i p q r t = absurd (omega (arith, l))
some_right (a ∷ []) h l i p q r t = absurd (omega (arith, l))
some_right (a ∷ b ∷ []) h l i p q r t = absurd (omega (arith, l))
some_right {x} {k} {s} {u} {v} {w} (a ∷ b ∷ c ∷ rest) h l i p q r t =
    let n : ℕ = length (a ∷ b ∷ c ∷ rest) in
    let d : length (a ∷ b ∷ c ∷ rest) - k ≡ 3 = omega (arith, i) in
    let hi : ℕ = bit_xor (x / 65536) a in
    let mid : ℕ = bit_xor (x / 256 % 256) b in
    let low : ℕ = bit_xor (x % 256) c in
    let g : bit_xor (bit_xor (bit_xor s u) v) w ≡ crc (hi ∷ mid ∷ low ∷ rest) =
    front_sum hi (n - 1) _ w (mid ∷ low ∷ rest) (omega arith) (front_sum mid (n - 2) _ v (low ∷ rest) (omega arith)
    (front_sum low (n - 3) s u rest (omega arith) (p ∙ ap (λ (m : ℕ). crc (drop m (a ∷ b ∷ c ∷ rest))) d) q) r) t in
    record {
      bound = rw g (check_below (hi ∷ mid ∷ low ∷ rest));
      steps = ap (uint 24) g ∙ sym (into_bytes x (x / 65536) a b c rest (omega arith));
    }
