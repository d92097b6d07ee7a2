-- A satellite's cells, each stored at its signal's index in the plan.
use Rattle.rinex_file.proofs.Rows.Sizes.{if_fits, length-room}
use Rattle.rinex_file.proofs.Names.{common_steps, arith, ◌≡◌, ◌∙◌, sym, ap, ap₂, refl, ℕ, zero, suc, ◌+◌, ◌*◌, ◌<◌, ◌≤◌, List, [], ◌∷◌, ◌++◌, map, take, drop, length, replicate, get_or, append_assoc, length-append, false, ◌==◌, Some, None, slice_set, ◌≢◌, nat_eq, find, flat_map, position, All, if◌then◌else◌, option_map_or, IsDistinct, take_at, drop_at, length-take-le, replicate-append-replicate, cond_both, and_from, and_right, eq-eqb, ne_eqb, eqb-true, eqb-false, position-Some, All-from_recursion, All-head, All-tail, fails_before_first, System, Cell, IsHeld, SignalValues, signal_values_of, no_signal_values, signal_values_at, is_of_key, HaveRoom, field, signal_text, take-append-add, drop-append-add}

-- ---- what a cell before others changes

-- a cell changes the values of its own signal alone
pub others_stay : (c : Cell) (rest : List Cell) (id other : ℕ) → other ≢ c.signal.index → signal_values_at (c ∷ rest) id other ≡ signal_values_at rest id other
others_stay c rest id other apart = grind (arith, and_right, ne_eqb)

-- a cell of another satellite changes none
pub other_stays : (c : Cell) (rest : List Cell) (id : ℕ) (signals : List ℕ) → (c.satellite.id == id) ≡ false → map (signal_values_at (c ∷ rest) id) signals ≡ map (signal_values_at rest id) signals
other_stays c rest id signals other = grind arith

-- ---- if the signal is planned, and if it isn't

map_same : (f g : ℕ → SignalValues) (signals : List ℕ) → All (λ s. f s ≡ g s) signals → map f signals ≡ map g signals
map_same f g [] all = refl
map_same f g (s ∷ signals) all = ap₂ (λ a l. a ∷ l) (All-head (λ s. f s ≡ g s) s signals all) (map_same f g signals (All-tail (λ s. f s ≡ g s) s signals all))

pub no_place : (index : ℕ) (signals : List ℕ) (f g : ℕ → SignalValues) → position (λ i. i == index) signals ≡ None → ((other : ℕ) → other ≢ index → f other ≡ g other)
    → map f signals ≡ map g signals
no_place index signals f g e same = grind (arith, map_same, eqb-false, fails_before_first)

-- a list of values with the one at a signal's index replaced
set_place : (p : ℕ) {index : ℕ} (signals : List ℕ) {f g : ℕ → SignalValues} → p < length signals → get_or signals p 0 ≡ index → IsDistinct nat_eq signals → ((other : ℕ) → other ≢ index → f other ≡ g other)
    → slice_set (map g signals) p (f index) ≡ map f signals
unfolding IsDistinct
set_place p [] within here apart same = absurd (omega (arith, within))
set_place zero (s ∷ signals) {f} {g} within here apart same = grind (arith, map_same, eqb-false, All-from_recursion)
set_place (suc p) {index} (s ∷ signals) {f} {g} within here apart same = grind (arith, All-from_recursion, eqb-false, (set_place p signals (omega (arith, within)) here apart.1 same))

-- ---- a satellite's cells

-- no cell is stored yet
pub none_put : (id : ℕ) (signals : List ℕ) → map (signal_values_at [] id) signals ≡ replicate (length signals) no_signal_values
none_put id [] = refl
none_put id (s ∷ signals) = ap (λ l. no_signal_values ∷ l) (none_put id signals)

-- a cell was stored at its index
pub cell_put : (signals : List ℕ) (id p : ℕ) (c : Cell) (rest : List Cell) → IsDistinct nat_eq signals → position (λ i. i == c.signal.index) signals ≡ Some p → c.satellite.id ≡ id
    → slice_set (map (signal_values_at rest id) signals) p (signal_values_of c) ≡ map (signal_values_at (c ∷ rest) id) signals
cell_put signals id p c rest apart is own =
    let (within, here, none) = position-Some (λ i. i == c.signal.index) signals p 0 is in
    let key = and_from (c.satellite.id == id) (c.signal.index == c.signal.index) (eq-eqb c.satellite.id id own) (eq-eqb c.signal.index c.signal.index refl) in
    ap (λ b. slice_set (map (signal_values_at rest id) signals) p (option_map_or signal_values_of (if b then Some c else find (is_of_key id c.signal.index) rest) no_signal_values)) (sym key)
    ∙ set_place p signals within (eqb-true (get_or signals p 0) c.signal.index here) apart (others_stay c rest id)

-- the values of cells fit their columns
pub none_fit : HaveRoom no_signal_values
none_fit = record { c = tt; l = tt; d = tt; s = tt; lli = omega arith }

-- what holds of the values of each cell, and if there is none, holds of those at a signal
pub found_as : (P : Cell → Type 0) (Q : SignalValues → Type 0) (id index : ℕ) → ((c : Cell) → P c → Q (signal_values_of c)) → Q no_signal_values → (cells : List Cell) → All P cells → Q (signal_values_at cells id index)
found_as P Q id index each none [] all = none
found_as P Q id index each none (c ∷ cells) all = grind (arith, cond_both, All-head, All-tail, (found_as P Q id index each none cells (All-tail P c cells all)))

pub held_fits : (system : System) (c : Cell) → IsHeld system c → HaveRoom (signal_values_of c)
held_fits system c h = record { c = if_fits c.c h.c; l = if_fits c.l h.l; d = if_fits c.d h.d; s = if_fits c.s h.s; lli = h.lli }

-- ---- the signals of a line

-- the columns of a signal are replaced
pub replaced : (values : List SignalValues) (p : ℕ) (v : SignalValues) → All HaveRoom values → p < length values
    → take (64 * p) (flat_map signal_text values) ++ (signal_text v ++ drop 64 (drop (64 * p) (flat_map signal_text values))) ≡ flat_map signal_text (slice_set values p v)
replaced [] p v all h = absurd (omega (arith, h))
replaced (x ∷ values) zero v all h = ap (λ t. signal_text v ++ t) (drop_at (signal_text x) (flat_map signal_text values) 64 (length-room x (All-head HaveRoom x values all)))
replaced (x ∷ values) (suc p) v all h =
    let l = length-room x (All-head HaveRoom x values all) in
    let size : 64 * suc p ≡ length (signal_text x) + 64 * p = omega (arith, l) in
    grind (arith, common_steps, take-append-add, drop-append-add, All-tail, (replaced values p v (All-tail HaveRoom x values all) (omega (arith, h))))

-- ---- the beginning of a line

pub none_text : (n : ℕ) → flat_map signal_text (replicate n no_signal_values) ≡ replicate (64 * n) 32
unfolding signal_text field
none_text zero = refl
none_text (suc n) =
    let size : 64 + 64 * n ≡ 64 * suc n = omega arith in
    ap (λ b. replicate 64 32 ++ b) (none_text n) ∙ replicate-append-replicate {A = ℕ} 64 (64 * n) 32 ∙ ap (λ k. replicate {A = ℕ} k 32) size

-- a signal is written after others
pub signal_after : (row text : List ℕ) {front more : List ℕ} (n : ℕ) {k : ℕ} → length text ≡ 64 → k ≡ 64 → n + 64 ≤ length row → take n row ≡ front → more ≡ take n row ++ (text ++ drop k (drop n row)) → take (n + 64) more ≡ front ++ text
signal_after row text n size width within is put = grind (arith, length-take-le, length-append, append_assoc, take_at)

-- the first three columns are written
pub three_set : (row : List ℕ) (a b c : ℕ) → 3 ≤ length row → take 3 (slice_set (slice_set (slice_set row 0 a) 1 b) 2 c) ≡ a ∷ b ∷ c ∷ []
three_set (x ∷ y ∷ z ∷ row) a b c h = refl
three_set row a b c h = absurd (omega (arith, h))

pub three_dropped : (row : List ℕ) (a b c : ℕ) → drop 3 (slice_set (slice_set (slice_set row 0 a) 1 b) 2 c) ≡ drop 3 row
three_dropped row a b c = grind arith
