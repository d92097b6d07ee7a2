-- The loops that write fields and columns.
use Rattle.rtcm_msg.proofs.Names.{ℕ, suc, ◌≡◌, ◌+◌, ◌*◌, ◌/◌, ◌%◌, ◌^◌, ◌<◌, ◌≤◌, Bool, List, [], ◌∷◌, ◌++◌, length, drop, get_or, refl, sym, ap, ◌∙◌, arith, append_assoc, add-one, drop-cons, one_shl, div-add-mod', flat_map, uint, field_bits, fields_width, columns, total_width, uint-low}

pub field_bits-append : (fs gs : List (ℕ × ℕ)) → field_bits (fs ++ gs) ≡ field_bits fs ++ field_bits gs
unfolding field_bits
field_bits-append [] gs = refl
field_bits-append (f ∷ fs) gs = rw (field_bits-append fs gs, append_assoc (uint f.0 f.1) (field_bits fs) (field_bits gs)) refl

pub fields_next : (fs : List (ℕ × ℕ)) (i : ℕ) (old new whole : List Bool) → i < length fs → new ≡ old ++ uint (get_or fs i (0, 0)).0 (get_or fs i (0, 0)).1 → old ++ field_bits (drop i fs) ≡ whole → new ++ field_bits (drop (i + 1) fs) ≡ whole
unfolding field_bits
fields_next fs i old new whole h put inv = grind (arith, drop-cons, append_assoc)

pub width_next : (fs : List (ℕ × ℕ)) (i : ℕ) → i < length fs → fields_width (drop i fs) ≡ (get_or fs i (0, 0)).0 + fields_width (drop (i + 1) fs)
width_next fs i h = rw (add-one i, drop-cons fs i (0, 0) h) refl

-- ---- columns
pub column_put : (old new : List Bool) (w s n : ℕ) → w ≤ 64 → s < 128 → new ≡ old ++ uint w (n / ((1 * 2 ^ s) % 2 ^ 128) % ((1 * 2 ^ w) % 2 ^ 128)) → new ≡ old ++ uint w (n / 2 ^ s)
column_put old new w s n few h put = rw (one_shl s 128 h, one_shl w 128 (omega arith), sym (uint-low w (n / 2 ^ s / 2 ^ w) (n / 2 ^ s % 2 ^ w)) ∙ ap (uint w) (div-add-mod' (n / 2 ^ s) (2 ^ w))) at put

pub columns_next : (ws ns : List ℕ) (i : ℕ) (old : List Bool) {new whole : List Bool} → i < length ws → new ≡ old ++ flat_map (λ p. uint (get_or ws i 0) (p / 2 ^ total_width (drop (i + 1) ws))) ns → old ++ columns (drop i ws) ns ≡ whole → new ++ columns (drop (i + 1) ws) ns ≡ whole
unfolding columns
columns_next ws ns i old h put inv =
    let here = rw (drop-cons ws i 0 h) at inv in
    rw (put, add-one i, append_assoc old (flat_map (λ p. uint (get_or ws i 0) (p / 2 ^ total_width (drop (suc i) ws))) ns) (columns (drop (suc i) ws) ns)) here
