-- The cells of one more message, kept one by one, are the kept cells of the longer list.
use Rattle.obs_epoch.proofs.Names.{[], ◌≡◌, ℕ, Bool, true, false, ◌||◌, List, ◌∷◌, ◌++◌, filter, refl, sym, ap, ap₂, ◌∙◌, arith, length, append_assoc, append-nil, Option, nat_le, if◌then◌else◌, cond, System, CellOutcome, Crowded, Kept, Repeated, Skipped, count_in, lookup, outcome_of, is_held, GatherSetup, HeardCell, kept_cell, is_among, kept, is_planned, lacks_channel, has_same_key, lli_with, GathererValue, with_more, outcome_in, hold, hold_by, load, PlanValue, planned_of, most_cells, EpochValue, cells_of, insert_by, sort_key_of, sorted, cell_sort_key, Cell, KnownLock, CellCounts, tabulate, system_same, system_self, common_steps, map, length-map}
use Rattle.obs_epoch.proofs.CellsLemmas.{kept-add}
use Rattle.obs_epoch.proofs.OrderLemmas.{among-sorted, length-sorted}

-- Cells with their loss of lock indicators, from the earlier locks of their keys.
abbrev pub with_lli_by : (HeardCell → Option KnownLock) → ℕ → List HeardCell → List Cell
with_lli_by f t xs = map (λ x. kept_cell x (lli_with t x (f x))) xs

with_lli_by-insert : (planned : List ℕ) (f : HeardCell → Option KnownLock) (t : ℕ) (xs : List HeardCell) (x : HeardCell)
    → with_lli_by f t (insert_by (sort_key_of planned) x xs) ≡ insert_by (cell_sort_key planned) (kept_cell x (lli_with t x (f x))) (with_lli_by f t xs)
with_lli_by-insert planned f t [] x = refl
with_lli_by-insert planned f t (y ∷ xs) x = grind (arith, common_steps, with_lli_by-insert planned f t xs x)

-- A kept cell is inserted at its index in the order.
with_lli_by-push : (planned : List ℕ) (f : HeardCell → Option KnownLock) (t : ℕ) (xs : List HeardCell) (x : HeardCell)
    → with_lli_by f t (sorted planned (xs ++ x ∷ [])) ≡ insert_by (cell_sort_key planned) (kept_cell x (lli_with t x (f x))) (with_lli_by f t (sorted planned xs))
with_lli_by-push planned f t xs x = ap (with_lli_by f t) (grind (arith, common_steps)) ∙ with_lli_by-insert planned f t (sorted planned xs) x

with_lli_by-held : (f : HeardCell → Option KnownLock) (t : ℕ) (xs : List HeardCell) (y : HeardCell) → is_held (with_lli_by f t xs) y ≡ is_among xs y
with_lli_by-held f t [] y = refl
with_lli_by-held f t (x ∷ xs) y = ap (λ b. has_same_key y x || b) (with_lli_by-held f t xs y)

-- The epoch of time t after these cells.
abbrev pub epoch_of : PlanValue → (HeardCell → Option KnownLock) → ℕ → List HeardCell → EpochValue
epoch_of p f t xs = record { time = t; cells = tabulate (λ system. with_lli_by f t (sorted (planned_of system p) (kept system xs))) }

-- The outcome of a cell after these cells.
abbrev pub outcome_after : GatherSetup → List HeardCell → HeardCell → CellOutcome
outcome_after s xs x =
    if is_planned s x then (if is_among (kept x.satellite.system xs) x then Repeated else (if nat_le most_cells (length (kept x.satellite.system xs)) then Crowded else Kept)) else Skipped

abbrev pub planned_one : GatherSetup → HeardCell → List HeardCell
planned_one s x = if is_planned s x then x ∷ [] else []

pub outcome_is : (s : GatherSetup) (f : HeardCell → Option KnownLock) (t : ℕ) (xs : List HeardCell) (x : HeardCell) → outcome_of s (cells_of x.satellite.system (epoch_of s.plan f t xs)) x ≡ outcome_after s xs x
outcome_is s f t xs x = grind (arith, with_lli_by-held, among-sorted, length-map, length-sorted)

abbrev pub epoch_by : PlanValue → CellOutcome → (HeardCell → Option KnownLock) → EpochValue → HeardCell → EpochValue
epoch_by p Kept f e x = with_more p e (kept_cell x (lli_with e.time x (f x)))
epoch_by p _ f e x = e

-- The same kept cells give the same epoch.
same_epoch : (p : PlanValue) (f : HeardCell → Option KnownLock) (t : ℕ) (xs ys : List HeardCell) → ((system : System) → kept system xs ≡ kept system ys) → epoch_of p f t xs ≡ epoch_of p f t ys
same_epoch p f t xs ys same = grind (arith, common_steps)

-- A cell that isn't kept changes no system's kept cells.
kept_same : (xs : List HeardCell) (x : HeardCell) → (is_among (kept x.satellite.system xs) x || nat_le most_cells (length (kept x.satellite.system xs))) ≡ true → (system : System) → kept system xs ≡ kept system (xs ++ x ∷ [])
kept_same xs x full system = grind (arith, common_steps, kept-add, system_same, system_self)

-- After one more cell, the pending epoch is that of the longer list.
one_more : (s : GatherSetup) (f : HeardCell → Option KnownLock) (t : ℕ) (xs : List HeardCell) (x : HeardCell)
    → epoch_by s.plan (outcome_after s xs x) f (epoch_of s.plan f t xs) x ≡ epoch_of s.plan f t (xs ++ planned_one s x)
one_more s f t xs x = by (is_planned s x) (is_among (kept x.satellite.system xs) x) (nat_le most_cells (length (kept x.satellite.system xs))) refl refl where
  by : (p a n : Bool) → is_among (kept x.satellite.system xs) x ≡ a → nat_le most_cells (length (kept x.satellite.system xs)) ≡ n
      → epoch_by s.plan (if p then (if a then Repeated else (if n then Crowded else Kept)) else Skipped) f (epoch_of s.plan f t xs) x ≡ epoch_of s.plan f t (xs ++ (if p then x ∷ [] else []))
  by false a n h k = ap (epoch_of s.plan f t) (sym (append-nil xs))
  by true true n h k = same_epoch s.plan f t xs (xs ++ x ∷ []) (kept_same xs x (ap (λ b. b || nat_le most_cells (length (kept x.satellite.system xs))) h))
  by true false true h k = same_epoch s.plan f t xs (xs ++ x ∷ []) (kept_same xs x (ap₂ (λ a b. a || b) h k))
  by true false false h k = grind (arith, with_lli_by-push, kept-add)

-- The counts after these cells, one by one.
abbrev pub counts_after : GatherSetup → List HeardCell → CellCounts → List HeardCell → CellCounts
counts_after s xs n [] = n
counts_after s xs n (y ∷ ys) = counts_after s (xs ++ planned_one s y) (count_in (lacks_channel s y) (outcome_after s xs y) n) ys

pub hold_is : (k : CellOutcome) (g : GathererValue) (x : HeardCell) → hold_by k g x ≡ record g { epoch = epoch_by g.clock.setup.plan k (lookup g.locks) g.epoch x }
hold_is k g x = grind (arith, common_steps)

-- The cells of a message, kept one by one.
pub load_is : (g : GathererValue) (n : CellCounts) (t : ℕ) (xs ys : List HeardCell) → g.epoch ≡ epoch_of g.clock.setup.plan (lookup g.locks) t xs
    → load (record { state = g; counts = n }) ys
    ≡ record { state = record g { epoch = epoch_of g.clock.setup.plan (lookup g.locks) t (xs ++ filter (is_planned g.clock.setup) ys) }; counts = counts_after g.clock.setup xs n ys }
load_is g n t xs [] h = ap (λ e. record { state = record g { epoch = e }; counts = n }) (h ∙ ap (epoch_of g.clock.setup.plan (lookup g.locks) t) (sym (append-nil xs)))
load_is g n t xs (y ∷ ys) h =
    let s = g.clock.setup in
    let f = lookup g.locks in
    let outcome : outcome_in g y ≡ outcome_after s xs y = ap (λ e. outcome_of s (cells_of y.satellite.system e) y) h ∙ outcome_is s f t xs y in
    let after : hold g y ≡ record g { epoch = epoch_of s.plan f t (xs ++ planned_one s y) } =
    ap (λ k. hold_by k g y) outcome ∙ hold_is (outcome_after s xs y) g y
    ∙ ap (λ e. record g { epoch = e }) (ap (λ e. epoch_by s.plan (outcome_after s xs y) f e y) h ∙ one_more s f t xs y) in
    ap₂ (λ v k. load (record { state = v; counts = count_in (lacks_channel s y) k n }) ys) after outcome
    ∙ load_is (record g { epoch = epoch_of s.plan f t (xs ++ planned_one s y) }) (count_in (lacks_channel s y) (outcome_after s xs y) n) t (xs ++ planned_one s y) ys refl
    ∙ ap (λ l. record { state = record g { epoch = epoch_of s.plan f t l }; counts = counts_after s (xs ++ planned_one s y) (count_in (lacks_channel s y) (outcome_after s xs y) n) ys })
    (append_assoc xs (planned_one s y) (filter (is_planned s) ys) ∙ ap (λ l. xs ++ l) (split (is_planned s y) y (filter (is_planned s) ys))) where
      split : (b : Bool) (y : HeardCell) (l : List HeardCell) → (if b then y ∷ [] else []) ++ l ≡ cond b (y ∷ l) l
      split b y l = grind (arith, common_steps)
