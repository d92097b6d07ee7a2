-- Each meaning is that of a value.
use Rattle.rtcm_msg.proofs.Names.{arith, ℕ, ◌≡◌, ◌+◌, ◌^◌, ◌<◌, ◌≤◌, Bool, List, [], ◌∷◌, ◌++◌, length, map, refl, sym, ap, subst, ◌∙◌, count_ones, ◌⊎◌, inl, inr, flat_map, zip, enumerate_from, length-map, map-append, map-map, pow_pos, uint, number, Pair, MsmValue, MasksValue, AreMasks, IsValue, pair_count, ids, chosen, pair, all_pairs, cell_pairs, Rising, Meaning, meaning, ids_of, pair_number, cell_ids, IsMeaning, IsIn, Each, keys, data_of, uint-number, number-fits}
use Rattle.rtcm_msg.proofs.IdLaws.{ids_all, pick, picked}
use Rattle.rtcm_msg.proofs.CountLaws.{ids_count, pairs_count, cell_pairs_count}
use Rattle.rtcm_msg.proofs.MeaningLaws.{all_rising}

-- The pairs of two lists.
abbrev cross : List ℕ → List ℕ → List (ℕ × ℕ)
cross xs gs = flat_map (λ a. map (λ g. (a, g)) gs) xs

all_are_cross : (k : ℕ) (xs gs : List ℕ) → map ids_of (flat_map (λ x. map (pair x) gs) (enumerate_from k xs)) ≡ cross xs gs
all_are_cross k [] gs = refl
all_are_cross k (x ∷ xs) gs = map-append ids_of (map (pair (k, x)) gs) (flat_map (λ y. map (pair y) gs) (enumerate_from (k + 1) xs)) ∙ rw (map-map ids_of (pair (k, x)) gs, all_are_cross (k + 1) xs gs) refl

chosen-map : (bits : List Bool) (xs : List Pair) → map ids_of (chosen bits xs) ≡ chosen bits (map ids_of xs)
unfolding chosen
chosen-map [] xs = refl
chosen-map (b ∷ bits) [] = refl
chosen-map (b ∷ bits) (x ∷ xs) = grind (arith, chosen-map bits xs)

-- ---- the pairs of the lists are among all pairs

in_append : (y : ℕ × ℕ) (xs ys : List (ℕ × ℕ)) → IsIn y xs ⊎ IsIn y ys → IsIn y (xs ++ ys)
in_append y [] ys h = grind arith
in_append y (x ∷ xs) ys h = grind (arith, in_append y xs ys)

in_row : (a b g : ℕ) (gs : List ℕ) → a ≡ b → IsIn g gs → IsIn {A = ℕ × ℕ} (a, g) (map (λ h. (b, h)) gs)
in_row a b g [] e i = absurd i
in_row a b g (h ∷ gs) e i = grind (arith, in_row a b g gs e)

in_cross : (p : ℕ × ℕ) (xs gs : List ℕ) → IsIn p.0 xs → IsIn p.1 gs → IsIn p (cross xs gs)
in_cross p [] gs i j = absurd i
in_cross p (x ∷ xs) gs (inl e) j = in_append p (map (λ g. (x, g)) gs) (cross xs gs) (inl (in_row p.0 x p.1 gs e j))
in_cross p (x ∷ xs) gs (inr i) j = in_append p (map (λ g. (x, g)) gs) (cross xs gs) (inr (in_cross p xs gs i j))

each_cross : (xs gs : List ℕ) (ps : List (ℕ × ℕ)) → Each (λ p. IsIn p.0 xs × IsIn p.1 gs) ps → Each (λ p. IsIn p (cross xs gs)) ps
each_cross xs gs [] h = tt
each_cross xs gs (p ∷ ps) h = (in_cross p xs gs h.0.0 h.0.1, each_cross xs gs ps h.1)

-- ---- the value

zip_back : {A : Type 0} (xs : List (A × ℕ)) → zip (keys xs) (data_of xs) ≡ xs
zip_back [] = refl
zip_back (x ∷ xs) = ap (λ t. x ∷ t) (zip_back xs)

-- The cell mask of these pairs, for two masks.
pub record Masked (a g : ℕ) (ps : List (ℕ × ℕ)) : Type 0 where
  pub cells : ℕ
  pub fits : cells < 2 ^ pair_count a g
  pub are : cell_ids (record { satellites = a; signals = g; cells = cells }) ≡ ps

masked : (a g : ℕ) (ps : List (ℕ × ℕ)) → a < 2 ^ 64 → g < 2 ^ 32 → pair_count a g ≤ 64 → Rising 65 4128 (map pair_number ps) → Each (λ p. IsIn p (cross (ids 64 a) (ids 32 g))) ps → Masked a g ps
masked a g ps fa fg few s h =
    let all = cross (ids 64 a) (ids 32 g) in
    let t : MasksValue = record { satellites = a; signals = g; cells = 0 } in
    let is_all : map ids_of (all_pairs t) ≡ all = all_are_cross 0 (ids 64 a) (ids 32 g) in
    let r : Rising 65 4128 (map pair_number all) = rw is_all at (rw (← map-map pair_number ids_of (all_pairs t)) at (all_rising t)) in
    let p = picked pair_number 65 4128 65 all ps r s h in
    let bits = pick pair_number all ps in
    let count : length bits ≡ pair_count a g = p.len ∙ (ap length (sym is_all) ∙ (length-map (all_pairs t) ids_of ∙ pairs_count t (record { satellites = fa; signals = fg; few = few; cells = pow_pos (pair_count a g) }))) in
    let P : ℕ → Type 0 = λ n. number bits < 2 ^ n in
    let Q : ℕ → Type 0 = λ n. uint n (number bits) ≡ bits in
    let encoded : uint (pair_count a g) (number bits) ≡ bits = subst Q count (uint-number bits 0) in
    record {
      cells = number bits;
      fits = subst P count (number-fits bits);
      are = chosen-map (uint (pair_count a g) (number bits)) (all_pairs t) ∙ (rw (encoded, is_all) p.back);
    }

pub value_all : (sw cw : List ℕ) (m : Meaning) → IsMeaning sw cw m → (v : MsmValue) × IsValue sw cw v × (meaning v ≡ m)
value_all sw cw m h =
    let one = ids_all 64 (keys m.satellites) h.satellites in
    let two = ids_all 32 m.signals h.signals in
    let a = one.0 in
    let g = two.0 in
    let some : count_ones a ≡ length (keys m.satellites) = sym (ids_count 64 a one.1) ∙ ap length one.2 in
    let more : count_ones g ≡ length m.signals = sym (ids_count 32 g two.1) ∙ ap length two.2 in
    let few : pair_count a g ≤ 64 = rw (some, more) h.few in
    let each = each_cross (ids 64 a) (ids 32 g) (keys m.cells) (rw (one.2, two.2) h.pairs) in
    let k = masked a g (keys m.cells) one.1 two.1 few h.cells each in
    let s : MasksValue = record { satellites = a; signals = g; cells = k.cells } in
    let are : AreMasks s = record { satellites = one.1; signals = two.1; few = few; cells = k.fits } in
    let v : MsmValue = record { system = m.system; header = m.header; sets = s; satellites = data_of m.satellites; cells = data_of m.cells } in
    let value : IsValue sw cw v = record {
      header = h.header;
      sets = are;
      satellite_count = length-map m.satellites (λ x. x.1) ∙ (sym (length-map m.satellites (λ x. x.0)) ∙ sym some);
      cell_count = length-map m.cells (λ x. x.1) ∙ (sym (length-map m.cells (λ x. x.0)) ∙ (ap length (sym k.are) ∙ (length-map (cell_pairs s) ids_of ∙ cell_pairs_count s are)));
      satellites = h.satellite_data;
      cells = h.cell_data;
    } in
    let x : zip (ids 64 a) (data_of m.satellites) ≡ m.satellites = ap (λ (xs : List ℕ). zip xs (data_of m.satellites)) one.2 ∙ zip_back m.satellites in
    let y : zip (cell_ids s) (data_of m.cells) ≡ m.cells = ap (λ (ps : List (ℕ × ℕ)). zip ps (data_of m.cells)) k.are ∙ zip_back m.cells in
    (v, value, meant m (zip (ids 64 a) (data_of m.satellites)) (ids 32 g) (zip (cell_ids s) (data_of m.cells)) x two.2 y)
  where
    meant : (m : Meaning) (xs : List (ℕ × ℕ)) (gs : List ℕ) (cs : List ((ℕ × ℕ) × ℕ)) → xs ≡ m.satellites → gs ≡ m.signals → cs ≡ m.cells → Path Meaning (record { system = m.system; header = m.header; satellites = xs; signals = gs; cells = cs }) m
    meant m xs gs cs x y z = rw (x, y, z) refl
