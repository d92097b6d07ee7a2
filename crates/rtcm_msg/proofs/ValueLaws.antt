-- Cells with a value are counted by signal.
use Rattle.rtcm_msg.proofs.Names.{ℕ, zero, suc, ◌≡◌, ◌≢◌, ◌+◌, ◌-◌, ◌/◌, ◌%◌, ◌==◌, ◌&&◌, ◌||◌, ◌^◌, ◌<◌, ◌≤◌, Bool, true, false, List, [], ◌∷◌, length, get_or, set, map, drop, filter, drop-cons, replicate, refl, sym, ap, ◌∙◌, subst, arith, count_ones, cond, zip, flat_map, list_any, and_right, common_steps, uint, Entry, Pair, Pairs, CellsLeft, Form, MasksValue, MsmValue, ids, chosen, Rising, entries, pair, all_pairs, cell_pairs, pairs_from, pairs_left, cell_pairs_left, ArePairs, AreAll, HasFirst, IndicesAreBelow, entry_in, FormedMsm, has_listed_value, value_count, has_id, entries_left, AreCells, list_any-append}
use Rattle.rtcm_msg.specs.declared.message.Message.TheVariants as messages
use Rattle.rtcm_msg.proofs.NextLaws.{no_more}
use Rattle.rtcm_msg.proofs.IdLaws.{ids_rising}
use Rattle.rtcm_msg.proofs.PairLaws.{found, passed, top_of, ids_split}

-- ---- pairs

pub id_within : (w m n x : ℕ) → ids w m ≡ x ∷ ids w n → (1 ≤ x) × (x ≤ w)
id_within w m n x e = let r : Rising 1 w (x ∷ ids w n) = subst (Rising 1 w) e (ids_rising w m) in (r.0, r.1)

-- The first pair has a cell.
pub cell_there : (s : MasksValue) {n l : ℕ} (p q : Pairs) {x : Pair} → n ≡ s.cells → pairs_left p ≡ x ∷ pairs_left q → length (pairs_left p) ≡ l → n / 2 ^ (l - 1) % 2 ≡ 1
    → cell_pairs_left l s p ≡ x ∷ cell_pairs_left (l - 1) s q
cell_there s {n} {l} p q {x} is first count bit = grind (arith, found)

-- The first pair has no cell.
pub cell_none : (s : MasksValue) {n l : ℕ} (p q : Pairs) {x : Pair} → n ≡ s.cells → pairs_left p ≡ x ∷ pairs_left q → length (pairs_left p) ≡ l → n / 2 ^ (l - 1) % 2 ≢ 1
    → cell_pairs_left l s p ≡ cell_pairs_left (l - 1) s q
cell_none s {n} {l} p q {x} is first count bit = grind (arith, passed)

-- ---- the cells that are left

pub next_there : (next n : ℕ) (ps qs : List Pair) (x : Pair) → ps ≡ x ∷ qs → length ps + next ≡ n → next < n
next_there next n ps qs x e h = omega (arith, ap length e)

-- The cells that are left after the first pair, with the number of cells before them.
after_pair : {v : FormedMsm} {c : CellsLeft} {q : Pairs} {x : Pair} {n : ℕ} → AreCells v c → pairs_left c.pairs ≡ x ∷ pairs_left q → ArePairs q → length (cell_pairs_left (c.left - 1) v.msm.sets q) + n ≡ length v.msm.cells
    → AreCells v (record { pairs = q; left = c.left - 1; next = n })
after_pair {v} {c} {q} {x} cells first in_range next = grind arith

pub after_cell : (v : FormedMsm) (c : CellsLeft) (q : Pairs) (x : Pair) → AreCells v c → pairs_left c.pairs ≡ x ∷ pairs_left q → ArePairs q → cell_pairs_left c.left v.msm.sets c.pairs ≡ x ∷ cell_pairs_left (c.left - 1) v.msm.sets q
    → AreCells v (record { pairs = q; left = c.left - 1; next = c.next + 1 })
after_cell v c q x cells first in_range there = after_pair cells first in_range (omega (arith, cells.next, ap length there))

pub after_none : (v : FormedMsm) (c : CellsLeft) (q : Pairs) (x : Pair) → AreCells v c → pairs_left c.pairs ≡ x ∷ pairs_left q → ArePairs q → cell_pairs_left c.left v.msm.sets c.pairs ≡ cell_pairs_left (c.left - 1) v.msm.sets q
    → AreCells v (record { pairs = q; left = c.left - 1; next = c.next })
after_none v c q x cells first in_range there = after_pair cells first in_range (omega (arith, cells.next, ap length there))

row_index : (n k : ℕ) {xs gs : List ℕ} (all : List ℕ) {x y : ℕ} {ys hs : List ℕ} → xs ≡ x ∷ ys → gs ≡ y ∷ hs → IndicesAreBelow n (pairs_from k xs gs all) → k < n
row_index n k {xs} {gs} all {x} {y} {ys} {hs} e f h = grind arith

-- The first satellite of the pairs that are left is one of the message's.
pub first_below : (n m : ℕ) (p : Pairs) → HasFirst p → ArePairs p → IndicesAreBelow n (pairs_left p) → n ≡ m → p.index < m
first_below n m p some fits h same =
    let t = top_of 64 p.satellites some.0 fits.satellites (omega arith) in
    let u = top_of 32 p.signals some.1 fits.signals (omega arith) in
    rw (← same) (row_index n p.index (ids 32 p.all) (ids_split 64 p.satellites _ t) (ids_split 32 p.signals _ u) h)

-- ---- entries

pub none_left : (v : FormedMsm) (c : CellsLeft) → c.left ≡ 0 → entries_left v c ≡ []
unfolding chosen uint
none_left v c e = rw e refl

-- The entries of a message, from the pairs that have a cell.
entries_are : (v : FormedMsm) (ps : List Pair) → ps ≡ cell_pairs v.msm.sets → entries (messages.Msm v) ≡ map (entry_in v.form v.msm) (zip ps v.msm.cells)
entries_are v ps e = grind arith

pub few_entries : (v : FormedMsm) (n : ℕ) → n ≡ length v.msm.cells → n ≤ 64 → length (entries (messages.Msm v)) ≤ 64
few_entries v n same few = rw (entries_are v _ refl) (let h = no_more (entry_in v.form v.msm) (cell_pairs v.msm.sets) v.msm.cells in omega (arith, same, few, h))

-- Before the first cell all are left.
pub all_entries : (v : FormedMsm) (c : CellsLeft) → AreAll v.msm.sets c.left c.pairs → c.next ≡ 0 → entries_left v c ≡ entries (messages.Msm v)
all_entries v c all none = rw none (sym (entries_are v _ all.cells))

pub all_cells : (v : FormedMsm) (c : CellsLeft) (n : ℕ) → AreAll v.msm.sets c.left c.pairs → c.next ≡ 0 → n ≡ length v.msm.cells → n ≡ count_ones v.msm.sets.cells → AreCells v c
all_cells v c n all none count set = record { left = all.left; next = omega (arith, ap length all.cells, all.count, none, count, set) }

pub zeros : (n i : ℕ) → get_or (replicate n zero) i zero ≡ zero
zeros n i = grind (arith, common_steps)

pub entries_first : (f : Pair × ℕ → Entry) (ps qs : List Pair) (x : Pair) (cells : List ℕ) (next : ℕ) → ps ≡ x ∷ qs → next < length cells
    → map f (zip ps (drop next cells)) ≡ f (x, get_or cells next 0) ∷ map f (zip qs (drop (next + 1) cells))
entries_first f ps qs x cells next e h = let s : next + 1 ≡ suc next = omega arith in rw (e, drop-cons cells next 0 h, s) refl

-- ---- counts

pub count_first : (p : Entry → Bool) (e : Entry) (es : List Entry) → length (filter p (e ∷ es)) ≡ cond (p e) 1 0 + length (filter p es)
count_first p e es = grind arith

pub counted : (listed : ℕ) {sig : ℕ} (i : ℕ) (old : List ℕ) {e : Entry} {all left : List Entry} → all ≡ e ∷ left → e.signal ≡ sig → 1 ≤ sig → sig ≤ length old → has_listed_value listed e ≡ true
    → get_or old i 0 + value_count listed (i + 1) all ≡ get_or (set old (sig - 1) (get_or old (sig - 1) 0 + 1)) i 0 + value_count listed (i + 1) left
counted listed {sig} i old {e} {all} {left} is signal low high value = grind (arith, common_steps, count_first)

pub not_counted : (listed i : ℕ) (old : List ℕ) (e : Entry) (all left : List Entry) → all ≡ e ∷ left → has_listed_value listed e ≡ false
    → get_or old i 0 + value_count listed (i + 1) all ≡ get_or old i 0 + value_count listed (i + 1) left
not_counted listed i old e all left is value = rw (is, count_first (λ e. has_listed_value listed e && (e.signal == i + 1)) e left, value) (omega arith)

pub entries_same : (listed i n : ℕ) (v : FormedMsm) (ps qs : List Pair) (next : ℕ) → ps ≡ qs
    → n + value_count listed (i + 1) (map (entry_in v.form v.msm) (zip ps (drop next v.msm.cells))) ≡ n + value_count listed (i + 1) (map (entry_in v.form v.msm) (zip qs (drop next v.msm.cells)))
entries_same listed i n v ps qs next e = rw e refl

-- ---- signals without cells

abbrev is_of : ℕ → Pair → Bool
is_of g x = x.signal == g

chosen_none : (q : Pair → Bool) (bits : List Bool) (xs : List Pair) → list_any q xs ≡ false → list_any q (chosen bits xs) ≡ false
unfolding chosen
chosen_none q [] xs h = refl
chosen_none q (b ∷ bits) [] h = refl
chosen_none q (b ∷ bits) (x ∷ xs) h = grind (arith, chosen_none q bits xs)

row_none : (g : ℕ) (x : ℕ × ℕ) (gs : List ℕ) → list_any (is_of g) (map (pair x) gs) ≡ has_id g gs
row_none g x [] = refl
row_none g x (h ∷ gs) = ap (λ (b : Bool). (h == g) || b) (row_none g x gs)

rows_none : (g : ℕ) (gs : List ℕ) (xs : List (ℕ × ℕ)) → has_id g gs ≡ false → list_any (is_of g) (flat_map (λ x. map (pair x) gs) xs) ≡ false
rows_none g gs [] h = refl
rows_none g gs (x ∷ xs) h = list_any-append (is_of g) (map (pair x) gs) (flat_map (λ x. map (pair x) gs) xs) ∙ rw (row_none g x gs, h, rows_none g gs xs h) refl

none_of : (listed g : ℕ) (form : Form) (v : MsmValue) (xs : List Pair) (cells : List ℕ) → list_any (is_of g) xs ≡ false → value_count listed g (map (entry_in form v) (zip xs cells)) ≡ zero
none_of listed g form v [] cells h = refl
none_of listed g form v (x ∷ xs) [] h = refl
none_of listed g form v (x ∷ xs) (n ∷ cells) h = grind (arith, common_steps, count_first, and_right, none_of listed g form v xs cells)

-- A signal that is not in the message has no cell.
pub no_cells : (listed g : ℕ) (v : FormedMsm) → has_id g (ids 32 v.msm.sets.signals) ≡ false → value_count listed g (entries (messages.Msm v)) ≡ zero
no_cells listed g v h = rw (entries_are v _ refl) (none_of listed g v.form v.msm _ v.msm.cells (chosen_none (is_of g) _ (all_pairs v.msm.sets) (rows_none g (ids 32 v.msm.sets.signals) _ h)))

-- ---- IDs

above : (x low high : ℕ) (xs : List ℕ) → x < low → Rising low high xs → has_id x xs ≡ false
above x low high [] h r = refl
above x low high (y ∷ ys) h r = grind (arith, (above x (y + 1) high ys (omega (arith, h, r.0)) r.2))

-- The first ID is not among the others.
pub id_once : (w m n x : ℕ) → ids w m ≡ x ∷ ids w n → has_id x (ids w n) ≡ false
id_once w m n x e = let r : Rising 1 w (x ∷ ids w n) = subst (Rising 1 w) e (ids_rising w m) in above x (x + 1) w (ids w n) (omega arith) r.2
