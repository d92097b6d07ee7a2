-- The steps of the code that folds a long message.
use Rattle.rtcm_bits.proofs.Names.{◌≡◌, ℕ, ◌+◌, ◌-◌, ◌≤◌, List, [], ◌∷◌, ◌++◌, length, drop, take, replicate, sym, ap, ◌∙◌, arith, length-drop, length-take-le, drop-drop, take-append-drop, take_all, uint, bits_of, crc, after_bits, add_bytes, fold_into}
use Rattle.rtcm_bits.proofs.SumLemmas.{take-add_bytes}
use Rattle.rtcm_bits.proofs.FoldLemmas.{offsets, fold_at, fold_step, last_step, last_end}

-- what is folded to the first bytes does not depend on the others
first_sum : (k : ℕ) (d x y : List ℕ) → take k x ≡ take k y → take k (add_bytes d x) ≡ take k (add_bytes d y)
first_sum k d x y h = take-add_bytes k d x ∙ ap (add_bytes (take k d)) h ∙ sym (take-add_bytes k d y)

folded_first : (os w x y : List ℕ) → take 16 x ≡ take 16 y → take 16 (fold_at os w x) ≡ take 16 (fold_at os w y)
folded_first [] w x y h = h
folded_first (o ∷ os) w x y h = first_sum 16 (drop o w) (fold_at os w x) (fold_at os w y) (folded_first os w x y h)

first_folded : (w m : List ℕ) → 16 ≤ length m → take 16 (fold_into w (take 16 m)) ≡ take 16 (fold_into w m)
unfolding fold_into
first_folded w m h = folded_first offsets w (take 16 m) m (take_all 16 (take 16 m) (omega (arith, length-take-le 16 m h)))

next_is : (w bytes v : List ℕ) (t n : ℕ) → t + 16 ≤ length bytes → n ≡ 16 → v ≡ take 16 (fold_into w (take n (drop t bytes))) → v ≡ take 16 (fold_into w (drop t bytes))
next_is w bytes v t n h k e = grind (arith, first_folded, length-drop)

-- the next sixteen bytes v from t on, with all that was folded to them, after which `last` takes the place of the earliest of w
pub record IsStep (w bytes v next last : List ℕ) (t n : ℕ) : Type 0 where
  pub whole : length w ≡ 96
  pub size : n ≡ 16
  pub added : v ≡ take 16 (fold_into w (take n (drop t bytes)))
  pub moved : next ≡ drop 16 w ++ last

pub long_step : {v next : List ℕ} {n : ℕ} (w bytes : List ℕ) (t : ℕ) → t + 112 ≤ length bytes → IsStep w bytes v next v t n
    → crc (fold_into w (drop t bytes)) ≡ crc (fold_into next (drop (t + 16) bytes))
long_step {v} {next} {n} w bytes t k h =
    let m : List ℕ = drop t bytes in
    let l : length (drop t bytes) ≡ length bytes - t = length-drop t bytes in
    let s : take 16 m ++ drop 16 m ≡ m = take-append-drop 16 m in
    let r : drop 16 m ≡ drop (t + 16) bytes = drop-drop 16 t bytes in
    let f : crc (fold_into w (take 16 m ++ drop 16 m)) ≡ crc (fold_into (drop 16 w ++ take 16 (fold_into w (take 16 m ++ drop 16 m))) (drop 16 m)) =
    fold_step w (take 16 m) (drop 16 m) (length bytes - t - 112) h.whole (length-take-le 16 m (omega (arith, l, k))) (length-drop 16 m ∙ omega (arith, l, k)) in
    let g : crc (fold_into w m) ≡ crc (fold_into (drop 16 w ++ take 16 (fold_into w m)) (drop 16 m)) =
    ap (λ (x : List ℕ). crc (fold_into w x)) (sym s) ∙ f ∙ ap (λ (x : List ℕ). crc (fold_into (drop 16 w ++ take 16 (fold_into w x)) (drop 16 m))) s in
    g ∙ ap (λ (x : List ℕ). crc (fold_into (drop 16 w ++ x) (drop 16 m))) (sym (next_is w bytes v t n (omega (arith, k)) h.size h.added))
    ∙ ap (λ (x : List ℕ). crc (fold_into x (drop 16 m))) (sym h.moved) ∙ ap (λ (x : List ℕ). crc (fold_into next x)) r

pub last_more : {v next : List ℕ} {n : ℕ} (w bytes : List ℕ) (t x y : ℕ) → t + 16 ≤ length bytes → IsStep w bytes v next (replicate 16 0) t n
    → uint 24 y ≡ after_bits (uint 24 x) (bits_of v)
    → after_bits (uint 24 x) (bits_of (fold_into w (drop t bytes))) ≡ after_bits (uint 24 y) (bits_of (fold_into next (drop (t + 16) bytes)))
last_more {v} {next} {n} w bytes t x y k h s =
    last_step w (drop t bytes) x y h.whole (s ∙ ap (λ (l : List ℕ). after_bits (uint 24 x) (bits_of l)) (next_is w bytes v t n k h.size h.added))
    ∙ ap (λ (l : List ℕ). after_bits (uint 24 y) (bits_of (fold_into l (drop 16 (drop t bytes))))) (sym h.moved)
    ∙ ap (λ (l : List ℕ). after_bits (uint 24 y) (bits_of (fold_into next l))) (drop-drop 16 t bytes)

-- after six steps nothing is added to the bytes that are left
pub last_left : {w rest : List ℕ} {t : ℕ} (start bytes : List ℕ) → t ≡ 96 → length start ≡ 96 → w ≡ drop t start ++ replicate t 0 → rest ≡ drop 96 bytes → rest ≡ fold_into w (drop t bytes)
last_left {t} start bytes e h p d =
    d ∙ sym (ap (λ (l : List ℕ). fold_into l (drop t bytes)) (p ∙ ap (λ (n : ℕ). drop n start ++ replicate n 0) e) ∙ ap (λ (n : ℕ). fold_into (drop 96 start ++ replicate 96 0) (drop n bytes)) e ∙ last_end start (drop 96 bytes) h)
