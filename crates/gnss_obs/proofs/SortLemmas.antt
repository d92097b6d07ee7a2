-- Cells sorted by numbers, and cells that are in order.
use Rattle.gnss_obs.proofs.Names.{◌≡◌, ℕ, zero, suc, ◌+◌, ◌*◌, ◌<◌, ◌≤◌, ◌==◌, Bool, true, false, ◌||◌, List, [], ◌∷◌, ◌++◌, map, drop, refl, sym, ap, ap₂, ◌∙◌, subst, arith, length, get_or, Option, Some, All, nat_eq, is_some, fold, nat_lt, position, append_assoc, append-nil, get_or-append-add, get_or-map, length-append, All-append, All-cons, All-get_or, All-head, All-nil, All-push, All-tail, All-weaker, position-Some, All-permutation, IsPermutation-sym, length_permutation, apart_from_distinct, IsDistinct-head, IsDistinct-tail, Rise, RiseTo, AreBelow, AreHeld, AreKept, AreOrderedBy, IsPlanned, Cell, IsHeld, IsOf, IsSignal, SignalAt, System, has_slot, indices, IsDistinct, slot, table, place_in, SortKey, is_before, SortKeysRise, insert_by, cell_sort_key, sorted_cells, cell_number, option_map_or, AllByRecursion, common_steps, recursion_from_All, All-from_recursion}
use Rattle.gnss_obs.proofs.HeldLemmas.{low_index}
use Rattle.gnss_obs.proofs.OrderLaws.{Before, Differ, none_each, sort_moves, sorted_rise}
use Rattle.gnss_obs.proofs.PlanLaws.{few_signals, length_indices}

-- ---- numbers of cells

pub place_less : (o : Option ℕ) (p : ℕ → Bool) (planned : List ℕ) → position p planned ≡ o → length planned ≤ 64 → option_map_or (λ k. k) o 0 < 64
place_less o p planned e few = grind (arith, position-Some)

pub table_few : (system : System) → length (table system) ≤ 64
table_few system = grind (arith, common_steps)

-- ---- the sorted cells, one key after another

rest_of : {X : Type 0} (P : X → Type 0) (xs ys : List X) → All P (xs ++ ys) → All P ys
rest_of P xs ys h = λ i d less. rw (get_or-append-add xs ys i d) at (h (length xs + i) d (omega (arith, length-append xs ys, less)))

-- What is true of each sorted cell is true of each cell, and the other way round.
of_sorted : (P : Cell → Type 0) (planned : List ℕ) (cells : List Cell) → All P (sorted_cells planned cells) → All P cells
of_sorted P planned cells h = All-permutation P (sorted_cells planned cells) cells (IsPermutation-sym cells (sorted_cells planned cells) (sort_moves (cell_sort_key planned) cells)) h

to_sorted : (P : Cell → Type 0) (planned : List ℕ) (cells : List Cell) → All P cells → All P (sorted_cells planned cells)
to_sorted P planned cells h = All-permutation P cells (sorted_cells planned cells) (sort_moves (cell_sort_key planned) cells) h

rise_rest : (planned : List ℕ) (xs ys : List Cell) → SortKeysRise (map (cell_sort_key planned) (xs ++ ys)) → SortKeysRise (map (cell_sort_key planned) ys)
rise_rest planned [] ys h = h
rise_rest planned (x ∷ xs) ys h = rise_rest planned xs ys h.1

-- Its number is n or more.
abbrev pub IsFrom : List ℕ → ℕ → Cell → Type 0
IsFrom planned n c = n ≤ cell_number planned c

after_first : (planned : List ℕ) (y : Cell) (ys : List Cell) → length planned ≤ 64 → AllByRecursion (λ t. is_before (cell_sort_key planned y) t ≡ true) (map (cell_sort_key planned) ys)
    → All (IsFrom planned (cell_number planned y + 1)) ys
after_first planned y [] few h = All-nil (IsFrom planned (cell_number planned y + 1))
after_first planned y (z ∷ ys) few h = grind (arith, common_steps, after_first planned y ys few h.1)

-- The only cell of number k, if there is one, is the first of the rest.
abbrev IsNext : List ℕ → ℕ → List Cell → Cell → Type 0
IsNext planned k rest c = cell_number planned c ≡ k → rest ≡ c ∷ drop 1 rest

next_rest : (planned : List ℕ) (k : ℕ) (rest : List Cell) → length planned ≤ 64 → SortKeysRise (map (cell_sort_key planned) rest) → All (IsFrom planned k) rest → All (IsNext planned k rest) rest
next_rest planned k [] few rise later = All-nil (IsNext planned k [])
next_rest planned k (y ∷ ys) few rise later =
    let own = All-head (IsFrom planned k) y ys later in
    All-cons (IsNext planned k (y ∷ ys)) y ys (λ e. refl)
    (All-weaker (IsFrom planned (cell_number planned y + 1)) (IsNext planned k (y ∷ ys)) (λ z far e. absurd (omega (arith, own, far, e))) ys (after_first planned y ys few rise.0))

-- The cell of number k comes next.
below_found : {planned : List ℕ} {k : ℕ} {cells first : List Cell} (at : ℕ) {x : Cell} → length planned ≤ 64 → SortKeysRise (map (cell_sort_key planned) (sorted_cells planned cells))
    → at < length cells → get_or cells at x ≡ x → cell_number planned x ≡ k → AreBelow planned k cells first
    → (length first < length cells) × AreBelow planned (k + 1) cells (first ++ x ∷ [])
below_found {planned} {k} {cells} {first} at {x} few rise less is number b = (
  room,
  record {
    rest = drop 1 b.rest;
    split = split ∙ sym (append_assoc first (x ∷ []) (drop 1 b.rest));
    earlier = All-push (λ c. cell_number planned c < k + 1) first x (All-weaker (λ c. cell_number planned c < k) (λ c. cell_number planned c < k + 1) (λ c lower. omega (arith, lower)) first b.earlier) (omega (arith, number));
    later = subst (λ n. All (IsFrom planned (n + 1)) (drop 1 b.rest)) number (after_first planned x (drop 1 b.rest) few (rising (x ∷ drop 1 b.rest) split).0);
  },
) where
  rising : (rest : List Cell) → sorted_cells planned cells ≡ first ++ rest → SortKeysRise (map (cell_sort_key planned) rest)
  rising rest e = rise_rest planned first rest (subst (λ l. SortKeysRise (map (cell_sort_key planned) l)) e rise)

  all : All (IsNext planned k b.rest) (first ++ b.rest)
  all =
      All-append (IsNext planned k b.rest) first b.rest (All-weaker (λ c. cell_number planned c < k) (IsNext planned k b.rest) (λ c lower e. absurd (omega (arith, lower, e))) first b.earlier)
      (next_rest planned k b.rest few (rising b.rest b.split) b.later)

  next : b.rest ≡ x ∷ drop 1 b.rest
  next =
      let each = of_sorted (IsNext planned k b.rest) planned cells (subst (All (IsNext planned k b.rest)) (sym b.split) all) in
      subst (IsNext planned k b.rest) is (All-get_or (IsNext planned k b.rest) cells at x less each) number

  split : sorted_cells planned cells ≡ first ++ x ∷ drop 1 b.rest
  split = b.split ∙ ap (λ l. first ++ l) next

  room : length first < length cells
  room =
      let n = length_permutation cells (sorted_cells planned cells) (sort_moves (cell_sort_key planned) cells) in
      let m = ap length split ∙ length-append first (x ∷ drop 1 b.rest) in
      omega (arith, n, m)

-- A cell of a number from k on has one from n on.
abbrev pub Gap : List ℕ → ℕ → ℕ → Cell → Type 0
Gap planned k n c = k ≤ cell_number planned c → n ≤ cell_number planned c

pub below_skip : (planned : List ℕ) (k n : ℕ) (cells first : List Cell) → k ≤ n → All (Gap planned k n) cells → AreBelow planned k cells first → AreBelow planned n cells first
below_skip planned k n cells first le none b = record {
  rest = b.rest;
  split = b.split;
  earlier = All-weaker (λ c. cell_number planned c < k) (λ c. cell_number planned c < n) (λ c lower. omega (arith, lower, le)) first b.earlier;
  later = λ i d less. rest_of (Gap planned k n) first b.rest (subst (All (Gap planned k n)) b.split (to_sorted (Gap planned k n) planned cells none)) i d less (b.later i d less);
}

-- ---- cells of a system and a plan

-- A cell of a planned signal: its index is that of the plan.
abbrev IsPlaced : List ℕ → Cell → ℕ → Type 0
IsPlaced planned c p = (place_in c.signal planned ≡ Some p) × (p < length planned) × (get_or planned p 0 ≡ c.signal.index)

placed : (planned : List ℕ) (c : Cell) → is_some (place_in c.signal planned) ≡ true → (p : ℕ) × IsPlaced planned c p
placed planned c h = grind (arith, common_steps, position-Some)

number_is : (planned : List ℕ) (c : Cell) (p : ℕ) → place_in c.signal planned ≡ Some p → cell_number planned c ≡ 64 * c.satellite.id + p
number_is planned c p e = ap (λ o. 64 * c.satellite.id + option_map_or (λ n. n) o 0) e

same_place : (planned : List ℕ) (i p : ℕ) {a : ℕ} → IsDistinct nat_eq planned → i < length planned → p < length planned → get_or planned i 0 ≡ a → get_or planned p 0 ≡ a → p ≡ i
same_place planned i p apart h k e f = grind (arith, apart_from_distinct nat_eq planned i p 0 apart, apart_from_distinct nat_eq planned p i 0 apart)

-- Cells of the same sort key have the same slot.
same_slot : (planned : List ℕ) (c d : Cell) → IsPlanned planned c → IsPlanned planned d → cell_sort_key planned c ≡ cell_sort_key planned d → slot c ≡ slot d
same_slot planned c d h k same = grind (arith, common_steps, placed)

differ : (planned : List ℕ) (cells : List Cell) → All (IsPlanned planned) cells → IsDistinct nat_eq (map slot cells) → Differ (cell_sort_key planned) cells
differ planned [] h apart = tt
differ planned (c ∷ cells) h apart =
    (each cells (All-tail (IsPlanned planned) c cells h) (IsDistinct-head nat_eq (slot c) (map slot cells) apart), differ planned cells (All-tail (IsPlanned planned) c cells h) (IsDistinct-tail nat_eq (slot c) (map slot cells) apart)) where
      own : IsPlanned planned c
      own = All-head (IsPlanned planned) c cells h

      each : (ds : List Cell) → All (IsPlanned planned) ds → AllByRecursion (λ s. nat_eq (slot c) s ≡ false) (map slot ds) → AllByRecursion (λ (d : Cell). cell_sort_key planned c ≡ cell_sort_key planned d → ⊥) ds
      each [] all other = tt
      each (d ∷ ds) all other =
          (λ same. let is = same_slot planned c d own (All-head (IsPlanned planned) d ds all) same in let unlike = other.0 in absurd (grind (arith, is, unlike)), each ds (All-tail (IsPlanned planned) d ds all) other.1)

-- Sorted cells are in the order of the plan.
pub cells_rise : (system : System) (planned : List ℕ) (cells : List Cell) → AreKept system cells → All (IsPlanned planned) cells → AreOrderedBy planned (sorted_cells planned cells)
cells_rise system planned cells kept all = sorted_rise (cell_sort_key planned) cells (differ planned cells all kept.apart)

pub below_first : (planned : List ℕ) (n : ℕ) (cells : List Cell) → All (IsFrom planned n) cells → AreBelow planned n cells []
below_first planned n cells from = record { rest = sorted_cells planned cells; split = refl; earlier = All-nil (λ c. cell_number planned c < n); later = to_sorted (IsFrom planned n) planned cells from }

abbrev IsBelow : List ℕ → ℕ → Cell → Type 0
IsBelow planned n c = cell_number planned c < n

-- All cells are among the first ones if none has a greater number.
pub below_all : (planned : List ℕ) (n : ℕ) (cells first : List Cell) → All (IsBelow planned n) cells → AreBelow planned n cells first → first ≡ sorted_cells planned cells
below_all planned n cells first lower b = sym (b.split ∙ ap (λ l. first ++ l) (none b.rest b.later (rest_of (IsBelow planned n) first b.rest (subst (All (IsBelow planned n)) b.split (to_sorted (IsBelow planned n) planned cells lower)))) ∙ append-nil first) where
  none : (rest : List Cell) → All (IsFrom planned n) rest → All (IsBelow planned n) rest → rest ≡ []
  none [] later low = refl
  none (c ∷ rest) later low = let from = All-head (IsFrom planned n) c rest later in let less = All-head (IsBelow planned n) c rest low in absurd (omega (arith, from, less))

-- ---- the entries of a satellite

pub few_planned : (system : System) (signals : List SignalAt) → IsOf system signals → length (indices signals) ≤ 64
few_planned system signals of = let n = few_signals system signals of in let m = length_indices signals in let few = table_few system in omega (arith, n, m, few)

index_of : (signals : List SignalAt) (i : ℕ) (s : SignalAt) → i < length signals → s ≡ get_or signals i s → get_or (indices signals) i 0 ≡ s.index
index_of signals i s less at = get_or-map (λ (r : SignalAt). r.index) signals i s 0 less ∙ ap (λ (r : SignalAt). r.index) (sym at)

-- The kept cells of a system, for its planned signals.
pub record AreCellsOf (system : System) (signals : List SignalAt) (cells : List Cell) : Type 0 where
  pub plan : IsOf system signals
  pub kept : AreKept system cells
  pub planned : All (IsPlanned (indices signals)) cells

-- Signal i of the planned ones.
pub record IsEntry (signals : List SignalAt) (i : ℕ) (s : SignalAt) : Type 0 where
  pub less : i < length signals
  pub is : s ≡ get_or signals i s
  pub listed : IsSignal s

-- The cell of an entry has the number of its satellite and its signal's index in the plan.
number_at : {system : System} {signals : List SignalAt} {i : ℕ} {s : SignalAt} (id : ℕ) (x : Cell) → IsOf system signals → IsEntry signals i s → IsPlanned (indices signals) x
    → x.signal.index < 32 → slot x ≡ 32 * id + s.index → cell_number (indices signals) x ≡ 64 * id + i
number_at {signals = signals} {i} {s} id x of e some small is = grind (arith, placed, length_indices, low_index, number_is, same_place, index_of)

-- Without a cell of an entry, no cell has the number of its satellite and signal.
none_at : {system : System} {signals : List SignalAt} {i : ℕ} {s : SignalAt} (id : ℕ) (cells : List Cell) → IsOf system signals → IsEntry signals i s → All (IsPlanned (indices signals)) cells
    → has_slot (32 * id + s.index) (map slot cells) ≡ false → All (Gap (indices signals) (64 * id + i) (64 * id + (i + 1))) cells
none_at {signals = signals} {i} id [] of e all none = All-nil (Gap (indices signals) (64 * id + i) (64 * id + (i + 1)))
none_at {system} {signals} {i} {s} id (c ∷ cells) of e all none =
    by (slot c == 32 * id + s.index) refl none (none_at id cells of e (All-tail (IsPlanned planned) c cells all)) where
      planned : List ℕ
      planned = indices signals

      at_plan : (p : ℕ) × IsPlaced planned c p
      at_plan = placed planned c (All-head (IsPlanned planned) c cells all)

      few : length planned ≤ 64
      few = few_planned system signals of

      small : i < 64
      small = let n = length_indices signals in let less = e.less in omega (arith, n, less, few)

      other : (b p : ℕ) {a : ℕ} → p < 64 → a ≡ 64 * b + p → (p ≡ i → b ≡ id → ⊥) → 64 * id + i ≤ a → 64 * id + (i + 1) ≤ a
      other b p {a} h is differ le = step (nat_eq a (64 * id + i)) refl where
        step : (t : Bool) → nat_eq a (64 * id + i) ≡ t → 64 * id + (i + 1) ≤ a
        step t h0 = grind (arith, differ, small)

      by : (b : Bool) → (slot c == 32 * id + s.index) ≡ b → (b || has_slot (32 * id + s.index) (map slot cells)) ≡ false
          → (has_slot (32 * id + s.index) (map slot cells) ≡ false → All (Gap planned (64 * id + i) (64 * id + (i + 1))) cells)
          → All (Gap planned (64 * id + i) (64 * id + (i + 1))) (c ∷ cells)
      by true t f more = cc
      by false t f more =
          All-cons (Gap planned (64 * id + i) (64 * id + (i + 1))) c cells
          (let within = at_plan.1.1 in
          other c.satellite.id at_plan.0 (omega (arith, within, few)) (number_is planned c at_plan.0 at_plan.1.0) (λ place satellite.
          let is = ap₂ (λ u v. 32 * u + v) satellite (sym at_plan.1.2 ∙ ap (λ n. get_or planned n 0) place ∙ index_of signals i s e.less e.is) in absurd (grind (arith, t, is))))
          (more f)

pub entry_found : {system : System} {signals : List SignalAt} {i : ℕ} {s : SignalAt} {x : Cell} {cells first : List Cell} (id at : ℕ) → AreCellsOf system signals cells → IsEntry signals i s
    → (at < length cells) × ((d : Cell) → slot (get_or cells at d) ≡ 32 * id + s.index) → x ≡ get_or cells at x → AreBelow (indices signals) (64 * id + i) cells first
    → (length first < length cells) × AreBelow (indices signals) (64 * id + (i + 1)) cells (first ++ x ∷ [])
entry_found {system} {signals} {i} {x = x} {cells} {first} id at of e found here b =
    let planned = indices signals in
    let some = subst (IsPlanned planned) (sym here) (All-get_or (IsPlanned planned) cells at x found.0 of.planned) in
    let own = subst (IsHeld system) (sym here) (All-get_or (IsHeld system) cells at x found.0 of.kept.held.each) in
    let number = number_at id x of.plan e some (low_index x.signal own.place) (ap slot here ∙ found.1 x) in
    let next = below_found at (few_planned system signals of.plan) (cells_rise system planned cells of.kept of.planned) found.0 (sym here) number b in
    let end : 64 * id + i + 1 ≡ 64 * id + (i + 1) = omega arith in
    (next.0, subst (λ n. AreBelow planned n cells (first ++ x ∷ [])) end next.1)

pub entry_none : {system : System} {signals : List SignalAt} {i : ℕ} {s : SignalAt} {cells first : List Cell} (id : ℕ) → AreCellsOf system signals cells → IsEntry signals i s
    → has_slot (32 * id + s.index) (map slot cells) ≡ false → AreBelow (indices signals) (64 * id + i) cells first → AreBelow (indices signals) (64 * id + (i + 1)) cells first
entry_none {system} {signals} {i} {cells = cells} {first} id of e none b = grind (arith, below_skip, none_at id cells of.plan e of.planned none)

-- No cell is of a place after the plan's.
pub entries_end : {system : System} {signals : List SignalAt} {n : ℕ} {cells first : List Cell} (id : ℕ) → AreCellsOf system signals cells → n ≡ length signals
    → AreBelow (indices signals) (64 * id + n) cells first → AreBelow (indices signals) (64 * (id + 1)) cells first
entries_end {system} {signals} {n} {cells} {first} id of end b = grind (arith, below_skip, length_indices signals, few_planned system signals of.plan)

-- ---- cells in order

-- An item that isn't before any goes to the end.
insert_last : {X : Type 0} (at : X → SortKey) (x : X) (ys : List X) → AllByRecursion (λ y. is_before (at x) (at y) ≡ false) ys → insert_by at x ys ≡ ys ++ x ∷ []
insert_last at x [] all = refl
insert_last at x (y ∷ ys) all = grind (arith, common_steps, insert_last at x ys all.1)

abbrev Last : {X : Type 0} → (X → SortKey) → List X → X → Type 0
Last at ys x = AllByRecursion (λ y. is_before (at x) (at y) ≡ false) ys

not_after : (a b : SortKey) → is_before a b ≡ true → is_before b a ≡ false
not_after a b h = grind (arith, h)

all_push : {X : Type 0} (P : X → Type 0) (xs : List X) (x : X) → AllByRecursion P xs → P x → AllByRecursion P (xs ++ x ∷ [])
all_push P xs x all h = recursion_from_All P (xs ++ x ∷ []) (All-push P xs x (All-from_recursion P xs all) h)

last_all : {X : Type 0} (at : X → SortKey) (ys : List X) (x : X) (zs : List X) → AllByRecursion (Last at ys) zs → AllByRecursion (λ t. is_before (at x) t ≡ true) (map at zs) → AllByRecursion (Last at (ys ++ x ∷ [])) zs
last_all at ys x [] all h = tt
last_all at ys x (z ∷ zs) all h = (all_push (λ y. is_before (at z) (at y) ≡ false) ys x all.0 (not_after (at x) (at z) h.0), last_all at ys x zs all.1 h.1)

rise_onto : {X : Type 0} (at : X → SortKey) (ys xs : List X) → AllByRecursion (Last at ys) xs → SortKeysRise (map at xs) → fold (λ zs x. insert_by at x zs) ys xs ≡ ys ++ xs
rise_onto at ys [] all rise = sym (append-nil ys)
rise_onto at ys (x ∷ xs) all rise = grind (arith, insert_last, last_all, append_assoc, rise_onto at (ys ++ x ∷ []) xs (last_all at ys x xs all.1 rise.0) rise.1)

-- Cells in order are their own sorted list.
pub sorted_same : (planned : List ℕ) (cells : List Cell) → SortKeysRise (map (cell_sort_key planned) cells) → sorted_cells planned cells ≡ cells
sorted_same planned cells rise = rise_onto (cell_sort_key planned) [] cells (none_each cells) rise

-- A list of fewer than two cells is sorted.
pub few_sorted : (planned : List ℕ) (cells : List Cell) → length cells < 2 → sorted_cells planned cells ≡ cells
few_sorted planned [] h = refl
few_sorted planned (c ∷ []) h = refl
few_sorted planned (c ∷ d ∷ cells) h = absurd (omega (arith, h))

-- ---- cells in the order of their slots

-- One more number, of at least the bound.
pub rise_push : (bound x : ℕ) (ns : List ℕ) → bound ≤ x → RiseTo bound ns → RiseTo (x + 1) (ns ++ x ∷ [])
rise_push bound x [] h r = (omega arith, tt, tt)
rise_push bound x (n ∷ ns) h r = let l = r.0 in (omega (arith, h, l), all_push (λ m. n < m) ns x r.1 (omega (arith, h, l)), rise_push bound x ns h r.2)

rise_at : (bound : ℕ) (ns : List ℕ) (i j : ℕ) → RiseTo bound ns → i < j → j < length ns → get_or ns i 0 < get_or ns j 0
rise_at bound [] i j r h k = absurd (omega (arith, k))
rise_at bound (n ∷ ns) i zero r h k = absurd (omega (arith, h))
rise_at bound (n ∷ ns) zero (suc j) r h k = All-get_or (λ m. n < m) ns j 0 (omega (arith, k)) (All-from_recursion (λ m. n < m) ns r.1)
rise_at bound (n ∷ ns) (suc i) (suc j) r h k = rise_at bound ns i j r.2 (omega (arith, h)) (omega (arith, k))

abbrev IsPlannedCell : List ℕ → Cell → Type 0
IsPlannedCell planned c = IsPlanned planned c × (c.signal.index < 32)

-- If the planned signals are in the order of their indices, the sort keys compare as the slots do.
before_slot : (bound : ℕ) (planned : List ℕ) (c d : Cell) → RiseTo bound planned → IsPlannedCell planned c → IsPlannedCell planned d → slot c < slot d
    → is_before (cell_sort_key planned c) (cell_sort_key planned d) ≡ true
before_slot bound planned c d r h k less =
    let p = placed planned c h.0 in
    let q = placed planned d k.0 in
    ap₂ (λ o u. is_before (record { satellite = c.satellite.id; place = option_map_or (λ n. n) o 0 }) (record { satellite = d.satellite.id; place = option_map_or (λ n. n) u 0 })) p.1.0 q.1.0
    ∙ compare p.0 q.0 (places p.0 q.0 p.1 q.1) where
      places : (p q : ℕ) → IsPlaced planned c p → IsPlaced planned d q → c.signal.index < d.signal.index → p < q
      places p q at bt l = by (nat_lt p q) (nat_lt q p) refl refl where
        by : (e f : Bool) → nat_lt p q ≡ e → nat_lt q p ≡ f → p < q
        by true f x y = grind (arith, x)
        by false true x y = let back = rise_at bound planned q p r (grind (arith, y)) at.1 in absurd (omega (arith, back, at.2, bt.2, l))
        by false false x y = let same : p ≡ q = grind (arith, x, y) in let e = ap (λ n. get_or planned n 0) same in absurd (omega (arith, e, at.2, bt.2, l))

      compare : (p q : ℕ) → (c.signal.index < d.signal.index → p < q) → is_before (record { satellite = c.satellite.id; place = p }) (record { satellite = d.satellite.id; place = q }) ≡ true
      compare p q more = grind arith

slots_first : (bound : ℕ) (planned : List ℕ) (c : Cell) (cells : List Cell) → RiseTo bound planned → IsPlannedCell planned c → All (IsPlannedCell planned) cells
    → AllByRecursion (λ n. slot c < n) (map slot cells) → Before (cell_sort_key planned c) (map (cell_sort_key planned) cells)
slots_first bound planned c [] r h all less = tt
slots_first bound planned c (d ∷ cells) r h all less = grind (arith, before_slot, All-head, All-tail, slots_first bound planned c cells r h (All-tail (IsPlannedCell planned) d cells all) less.1)

slots_rise : (bound top : ℕ) (planned : List ℕ) (cells : List Cell) → RiseTo bound planned → All (IsPlannedCell planned) cells → RiseTo top (map slot cells) → SortKeysRise (map (cell_sort_key planned) cells)
slots_rise bound top planned [] r all s = tt
slots_rise bound top planned (c ∷ cells) r all s =
    let rest = All-tail (IsPlannedCell planned) c cells all in
    (slots_first bound planned c cells r (All-head (IsPlannedCell planned) c cells all) rest s.1, slots_rise bound top planned cells r rest s.2)

pub slots_sorted : (system : System) (planned : List ℕ) (cells : List Cell) → AreHeld system cells → All (IsPlanned planned) cells → Rise planned → Rise (map slot cells)
    → sorted_cells planned cells ≡ cells
slots_sorted system planned cells held all r s =
    sorted_same planned cells (slots_rise r.0 s.0 planned cells r.1 (λ i d less. (all i d less, low_index (get_or cells i d).signal (held.each i d less).place)) s.1)
