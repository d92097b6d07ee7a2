-- Reading columns: the bits of the columns that were read, reading encoded columns, and the fault.
use Rattle.rtcm_msg.proofs.Names.{common_steps, ℕ, zero, suc, ◌≡◌, ◌+◌, ◌*◌, ◌/◌, ◌%◌, ◌^◌, Bool, List, [], ◌∷◌, ◌++◌, length, map, Ok, refl, sym, ap, subst, ◌∙◌, arith, append_assoc, replicate, add_comm, flat_map, length-map, map-id, map-map, div-eq_of_lt, div-one, shr_high, shr-shr, div-add-mod', mod_below, pow_pos, uint, Cursor, number_at, total_width, columns, column_at, columns_at, EachBelow, uint-low, flat_map-map}
use Rattle.rtcm_msg.proofs.Binds.{bind_ok, ok_inj, number_consumed, Consumed}
use Rattle.rtcm_msg.proofs.Combine.{cursor, number_again}

-- ---- what was read

-- The high parts of numbers.
abbrev pub highs : ℕ → List ℕ → List ℕ
highs w ns = map (λ n. n / 2 ^ w) ns

pub record ColumnConsumed (w : ℕ) (ps : List ℕ) (c : Cursor) (x : List ℕ × Cursor) : Type 0 where
  pub bits : c.rest ≡ flat_map (uint w) x.0 ++ x.1.rest
  pub high : highs w x.0 ≡ ps

pub column_consumed : (w : ℕ) (ps : List ℕ) (c : Cursor) (x : List ℕ × Cursor) → column_at w ps c ≡ Ok x → ColumnConsumed w ps c x
unfolding column_at
column_consumed w [] c x e = subst (ColumnConsumed w [] c) (ok_inj ([], c) x (column_at w [] c) refl e) (record { bits = refl; high = refl })
column_consumed w (p ∷ ps) c x e =
    let here = bind_ok (number_at w c) _ x e in
    let others = bind_ok (column_at w ps here.0.1) _ x here.2 in
    let consumed = number_consumed w c here.0 here.1 in
    let rest = column_consumed w ps here.0.1 others.0 others.1 in
    subst (ColumnConsumed w (p ∷ ps) c) (ok_inj _ x _ refl others.2) (join w p ps c here.0 others.0 consumed rest)
  where
    join : (w p : ℕ) (ps : List ℕ) (c : Cursor) (h : ℕ × Cursor) (o : List ℕ × Cursor) → Consumed w c h → ColumnConsumed w ps h.1 o → ColumnConsumed w (p ∷ ps) c ((p * 2 ^ w + h.0) ∷ o.0, o.1)
    join w p ps c h o h1 h2 = grind (arith, common_steps, uint-low, shr_high)

-- The bits begin with the columns that were read.
pub record ColumnsConsumed (ws ps : List ℕ) (c : Cursor) (x : List ℕ × Cursor) : Type 0 where
  pub bits : c.rest ≡ columns ws x.0 ++ x.1.rest
  pub high : highs (total_width ws) x.0 ≡ ps

highs_highs : (w t : ℕ) (ns : List ℕ) → highs w (highs t ns) ≡ highs (w + t) ns
highs_highs w t ns = simp (map-map, shr-shr, add_comm t w)

highs_none : (ns : List ℕ) → highs 0 ns ≡ ns
highs_none ns = simp (div-one, map-id)

pub columns_consumed : (ws ps : List ℕ) (c : Cursor) (x : List ℕ × Cursor) → columns_at ws ps c ≡ Ok x → ColumnsConsumed ws ps c x
unfolding columns_at columns
columns_consumed [] ps c x e = subst (ColumnsConsumed [] ps c) (ok_inj (ps, c) x (columns_at [] ps c) refl e) (record { bits = refl; high = highs_none ps })
columns_consumed (w ∷ ws) ps c x e =
    let first = bind_ok (column_at w ps c) _ x e in
    let here = column_consumed w ps c first.0 first.1 in
    let rest = columns_consumed ws first.0.0 first.0.1 x first.2 in
    join w ws ps c first.0 x here rest
  where
    join : (w : ℕ) (ws ps : List ℕ) (c : Cursor) (q x : List ℕ × Cursor) → ColumnConsumed w ps c q → ColumnsConsumed ws q.0 q.1 x → ColumnsConsumed (w ∷ ws) ps c x
    join w ws ps c q x h1 h2 = grind (arith, common_steps, flat_map-map, highs_highs)

-- ---- reading encoded columns

pub column_again : (w : ℕ) (ns : List ℕ) (place : ℕ) (rest : List Bool) → column_at w (highs w ns) (cursor place (flat_map (uint w) ns ++ rest)) ≡ Ok (ns, cursor (place + w * length ns) rest)
unfolding column_at
column_again w [] place rest = let e : place + w * 0 ≡ place = omega arith in rw e refl
column_again w (n ∷ ns) place rest =
    let low : uint w n ≡ uint w (n % 2 ^ w) = ap (uint w) (sym (div-add-mod' n (2 ^ w))) ∙ uint-low w (n / 2 ^ w) (n % 2 ^ w) in
    let here = number_again w (n % 2 ^ w) place (flat_map (uint w) ns ++ rest) (mod_below n (2 ^ w) (pow_pos w)) in
    let others = column_again w ns (place + w) rest in
    let whole : n / 2 ^ w * 2 ^ w + n % 2 ^ w ≡ n = div-add-mod' n (2 ^ w) in
    let places : place + w + w * length ns ≡ place + w * suc (length ns) = omega arith in
    rw (append_assoc (uint w n) (flat_map (uint w) ns) rest, low, here, others, whole, places) refl

pub columns_again : (ws ns : List ℕ) (place : ℕ) (rest : List Bool) → columns_at ws (highs (total_width ws) ns) (cursor place (columns ws ns ++ rest)) ≡ Ok (ns, cursor (place + total_width ws * length ns) rest)
unfolding columns_at columns
columns_again [] ns place rest = let e : place + 0 * length ns ≡ place = omega arith in rw (e, highs_none ns) refl
columns_again (w ∷ ws) ns place rest =
    let here = column_again w (highs (total_width ws) ns) place (columns ws ns ++ rest) in
    let others = columns_again ws ns (place + w * length (highs (total_width ws) ns)) rest in
    let places : place + w * length (highs (total_width ws) ns) + total_width ws * length ns ≡ place + (w + total_width ws) * length ns =
    rw (length-map ns (λ n. n / 2 ^ total_width ws)) (omega arith) in
    rw (append_assoc (flat_map (λ p. uint w (p / 2 ^ total_width ws)) ns) (columns ws ns) rest, ← flat_map-map (uint w) (λ n. n / 2 ^ total_width ws) ns, ← highs_highs w (total_width ws) ns, here, others, places) refl

-- Numbers below the width have high parts of 0.
pub highs_zero : (t : ℕ) (ns : List ℕ) → EachBelow t ns → highs t ns ≡ replicate (length ns) 0
highs_zero t [] h = refl
highs_zero t (n ∷ ns) h = let e : n / 2 ^ t ≡ 0 = div-eq_of_lt (h zero) in rw (e, highs_zero t ns (λ k. h (suc k))) refl
