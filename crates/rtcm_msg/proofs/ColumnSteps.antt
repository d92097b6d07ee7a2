-- Bounds of the numbers in columns.
use Rattle.rtcm_msg.proofs.Names.{common_steps, [], ℕ, zero, suc, subst, ◌≡◌, ◌+◌, ◌*◌, ◌^◌, ◌<◌, List, ◌∷◌, length, drop, get_or, Ok, refl, ap, arith, add-one, add-zero, zero-add, add_assoc, replicate, drop-cons, pow-add, pow_pos, Cursor, number_at, total_width, column_at, columns_at, EachBelow}
use Rattle.rtcm_msg.proofs.Binds.{bind_ok, ok_inj, number_consumed}

-- One more field in each.
column_below : (w a : ℕ) (ps : List ℕ) (c : Cursor) (x : List ℕ × Cursor) → column_at w ps c ≡ Ok x → EachBelow a ps → EachBelow (a + w) x.0
unfolding column_at
column_below w a [] c x e h = let is : [] ≡ x.0 = ap (λ (y : List ℕ × Cursor). y.0) (ok_inj ([], c) x (column_at w [] c) refl e) in subst (EachBelow (a + w)) is (λ k. pow_pos (a + w))
column_below w a (p ∷ ps) c x e h =
    let here = bind_ok (number_at w c) _ x e in
    let others = bind_ok (column_at w ps here.0.1) _ x here.2 in
    let is : ((p * 2 ^ w + here.0.0) ∷ others.0.0) ≡ x.0 = ap (λ (y : List ℕ × Cursor). y.0) (ok_inj _ x _ refl others.2) in
    let consumed = number_consumed w c here.0 here.1 in
    let tail = column_below w a ps here.0.1 others.0 others.1 (λ k. h (suc k)) in
    subst (EachBelow (a + w)) is (each _ _ _ (rw (pow-add 2 a w) (below p here.0.0 (2 ^ a) (2 ^ w) (h 0) consumed.fits)) tail)
  where
    below : (p n q r : ℕ) → p < q → n < r → p * r + n < q * r
    below p n q r a b = grind arith

    each : (b n : ℕ) (ns : List ℕ) → n < 2 ^ b → EachBelow b ns → EachBelow b (n ∷ ns)
    each b n ns h1 h2 = grind arith

pub total-drop : (i : ℕ) (ws : List ℕ) → i < length ws → total_width (drop i ws) ≡ get_or ws i 0 + total_width (drop (i + 1) ws)
total-drop i ws h = rw (add-one i, drop-cons ws i 0 h) refl

pub columns_below : (ws : List ℕ) (a : ℕ) (ps : List ℕ) (c : Cursor) (x : List ℕ × Cursor) → columns_at ws ps c ≡ Ok x → EachBelow a ps → EachBelow (a + total_width ws) x.0
unfolding columns_at
columns_below [] a ps c x e h = grind (arith, common_steps, ok_inj, add-zero)
columns_below (w ∷ ws) a ps c x e h = grind (arith, bind_ok, column_below, add_assoc, columns_below ws (a + w))

-- Zeros are below every bound.
pub zeros_below : (a n : ℕ) → EachBelow a (replicate n 0)
zeros_below a zero k = pow_pos a
zeros_below a (suc n) zero = pow_pos a
zeros_below a (suc n) (suc k) = zeros_below a n k

pub columns_fit : (ws : List ℕ) (n : ℕ) (c : Cursor) (x : List ℕ × Cursor) → columns_at ws (replicate n 0) c ≡ Ok x → EachBelow (total_width ws) x.0
columns_fit ws n c x e = let P : ℕ → Type 0 = λ m. EachBelow m x.0 in subst P (zero-add (total_width ws)) (columns_below ws 0 (replicate n 0) c x e (zeros_below 0 n))
