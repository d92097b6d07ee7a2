-- A value and its meaning correspond one to one.
use Rattle.rtcm_msg.proofs.Names.{ℕ, ◌≡◌, ◌+◌, ◌*◌, ◌≤◌, List, [], ◌∷◌, ◌++◌, length, map, refl, sym, ap, ◌∙◌, arith, flat_map, zip, enumerate_from, length-map, map-append, map-map, uint, number, Pair, MsmValue, MasksValue, AreMasks, IsValue, pair_count, ids, pair, all_pairs, cell_pairs, Rising, Meaning, meaning, ids_of, pair_number, cell_ids, length-uint, number_of-uint, firsts-zip, seconds-zip}
use Rattle.rtcm_msg.proofs.IdLaws.{weaken, ids_rising, ids_one, chosen_rising, chosen_one}
use Rattle.rtcm_msg.proofs.CountLaws.{ids_count, pairs_count, cell_pairs_count}

-- ---- the pairs rise

abbrev pub key : Pair → ℕ
key x = pair_number (ids_of x)

-- A rising list before one that begins above it.
rising-append : (low middle high : ℕ) (xs ys : List ℕ) → (low ≤ middle + 1) × (middle ≤ high) → Rising low middle xs → Rising (middle + 1) high ys → Rising low high (xs ++ ys)
rising-append low middle high [] ys h r s = weaken low (middle + 1) high ys h.0 s
rising-append low middle high (x ∷ xs) ys h r s = (r.0, omega (arith, h.1, r.1), rising-append (x + 1) middle high xs ys (omega (arith, r.1), h.1) r.2 s)

-- The pairs of one satellite.
row_rising : (x : ℕ × ℕ) (low : ℕ) (gs : List ℕ) → Rising low 32 gs → Rising (64 * x.1 + low) (64 * x.1 + 32) (map key (map (pair x) gs))
row_rising x low [] r = tt
row_rising x low (g ∷ gs) r = grind (arith, (row_rising x (g + 1) gs r.2))

rows_rising : (gs : List ℕ) (k low : ℕ) (xs : List ℕ) → Rising 1 32 gs → low ≤ 65 → Rising low 64 xs → Rising (64 * low + 1) (64 * 64 + 32) (map key (flat_map (λ x. map (pair x) gs) (enumerate_from k xs)))
rows_rising gs k low [] g h r = tt
rows_rising gs k low (x ∷ xs) g h r =
    let others = rows_rising gs (k + 1) (x + 1) xs g (omega (arith, r.1)) r.2 in
    let here = weaken (64 * low + 1) (64 * x + 1) (64 * x + 32) (map key (map (pair (k, x)) gs)) (omega (arith, r.0)) (row_rising (k, x) 1 gs g) in
    let above = weaken (64 * x + 32 + 1) (64 * (x + 1) + 1) (64 * 64 + 32) (map key (flat_map (λ y. map (pair y) gs) (enumerate_from (k + 1) xs))) (omega arith) others in
    rw (map-append key (map (pair (k, x)) gs) (flat_map (λ y. map (pair y) gs) (enumerate_from (k + 1) xs)))
    (rising-append (64 * low + 1) (64 * x + 32) (64 * 64 + 32) _ _ (omega (arith, r.0), omega (arith, r.1)) here above)

pub all_rising : (s : MasksValue) → Rising (64 * 1 + 1) (64 * 64 + 32) (map key (all_pairs s))
all_rising s = rows_rising (ids 32 s.signals) 0 1 (ids 64 s.satellites) (ids_rising 32 s.signals) (omega arith) (ids_rising 64 s.satellites)

pub pairs_rising : (s : MasksValue) → Rising 65 4128 (map pair_number (cell_ids s))
pairs_rising s =
    rw (map-map pair_number ids_of (cell_pairs s)) (chosen_rising key 65 4128 (uint (pair_count s.satellites s.signals) s.cells) (all_pairs s) (all_rising s))

-- Masks with the same satellites, signals and pairs.
cells_same : (a g m n : ℕ) → AreMasks (record { satellites = a; signals = g; cells = m }) → AreMasks (record { satellites = a; signals = g; cells = n })
    → cell_ids (record { satellites = a; signals = g; cells = m }) ≡ cell_ids (record { satellites = a; signals = g; cells = n }) → m ≡ n
cells_same a g m n h k e =
    let p = pair_count a g in
    let s : MasksValue = record { satellites = a; signals = g; cells = m } in
    let t : MasksValue = record { satellites = a; signals = g; cells = n } in
    let count = pairs_count s h in
    let keys : map key (cell_pairs s) ≡ map key (cell_pairs t) = sym (map-map pair_number ids_of (cell_pairs s)) ∙ (ap (map pair_number) e ∙ map-map pair_number ids_of (cell_pairs t)) in
    let bits = chosen_one key 65 4128 (uint p m) (uint p n) (all_pairs s) (length-uint p m ∙ sym count) (length-uint p n ∙ sym count) (all_rising s) keys in
    sym (number_of-uint p m h.cells) ∙ (ap number bits ∙ number_of-uint p n k.cells)

pub sets_one : (s t : MasksValue) → AreMasks s → AreMasks t → ids 64 s.satellites ≡ ids 64 t.satellites → ids 32 s.signals ≡ ids 32 t.signals → cell_ids s ≡ cell_ids t → s ≡ t
sets_one s t h k a g e =
    let sat : s.satellites ≡ t.satellites = ids_one 64 s.satellites t.satellites h.satellites k.satellites a in
    let sig : s.signals ≡ t.signals = ids_one 32 s.signals t.signals h.signals k.signals g in
    join sat sig h k e
  where
    join : {a b g f m n : ℕ} → a ≡ b → g ≡ f → AreMasks (record { satellites = a; signals = g; cells = m }) → AreMasks (record { satellites = b; signals = f; cells = n })
        → cell_ids (record { satellites = a; signals = g; cells = m }) ≡ cell_ids (record { satellites = b; signals = f; cells = n }) → Path MasksValue (record { satellites = a; signals = g; cells = m }) (record { satellites = b; signals = f; cells = n })
    join {a} {b} {g} {f} {m} {n} h1 h2 h3 h4 h5 = grind (arith, cells_same)

-- ---- maps

zip_one : {A : Type 0} (xs ys : List A) (ms ns : List ℕ) → length xs ≡ length ms → length ys ≡ length ns → zip xs ms ≡ zip ys ns → (xs ≡ ys) × (ms ≡ ns)
zip_one xs ys ms ns a b e = (
  sym (firsts-zip xs ms (sym a)) ∙ (ap (map (λ x. x.0)) e ∙ firsts-zip ys ns (sym b)),
  sym (seconds-zip xs ms (sym a)) ∙ (ap (map (λ x. x.1)) e ∙ seconds-zip ys ns (sym b)),
)

satellites_count : (sw cw : List ℕ) (v : MsmValue) → IsValue sw cw v → length (ids 64 v.sets.satellites) ≡ length v.satellites
satellites_count sw cw v h = ids_count 64 v.sets.satellites h.sets.satellites ∙ sym h.satellite_count

cells_count : (sw cw : List ℕ) (v : MsmValue) → IsValue sw cw v → length (cell_ids v.sets) ≡ length v.cells
cells_count sw cw v h = length-map (cell_pairs v.sets) ids_of ∙ (cell_pairs_count v.sets h.sets ∙ sym h.cell_count)

pub satellite_keys : (sw cw : List ℕ) (v : MsmValue) → IsValue sw cw v → map (λ x. x.0) (meaning v).satellites ≡ ids 64 v.sets.satellites
satellite_keys sw cw v h = firsts-zip (ids 64 v.sets.satellites) v.satellites (sym (satellites_count sw cw v h))

pub cell_keys : (sw cw : List ℕ) (v : MsmValue) → IsValue sw cw v → map (λ x. x.0) (meaning v).cells ≡ cell_ids v.sets
cell_keys sw cw v h = firsts-zip (cell_ids v.sets) v.cells (sym (cells_count sw cw v h))

pub value_one : (sw cw : List ℕ) (v w : MsmValue) → IsValue sw cw v → IsValue sw cw w → meaning v ≡ meaning w → v ≡ w
value_one sw cw v w h k e =
    let system : v.system ≡ w.system = ap (λ (m : Meaning). m.system) e in
    let header = ap (λ (m : Meaning). m.header) e in
    let one = zip_one (ids 64 v.sets.satellites) (ids 64 w.sets.satellites) v.satellites w.satellites (satellites_count sw cw v h) (satellites_count sw cw w k) (ap (λ (m : Meaning). m.satellites) e) in
    let two = zip_one (cell_ids v.sets) (cell_ids w.sets) v.cells w.cells (cells_count sw cw v h) (cells_count sw cw w k) (ap (λ (m : Meaning). m.cells) e) in
    let sets = sets_one v.sets w.sets h.sets k.sets one.0 (ap (λ (m : Meaning). m.signals) e) two.0 in
    rw (system, header, sets, one.1, two.1) refl
