-- The text of the signals of a stream, signal by signal.
use Rattle.rtcm_inspect.proofs.Names.{le-ltb, lt-ltb, ltb-false, ltb-true, ◌≡◌, ℕ, zero, suc, ◌+◌, ◌<◌, ◌≤◌, ◌||◌, All, Bool, true, false, List, [], ◌∷◌, ◌++◌, length, get_or, refl, ap, ◌∙◌, arith, filter, append-nil, flat_map-append, cond, nat_lt, list_any, All-head, filter-append, length-filter, count_by-le-length, System, table, code_of, below, SignalCountsValue, AreSignalCounts, common_steps, counted, signal_counts, has_any, signal_in, count_of, is_of_signal, had_below, had, code_list, count_line, lines_below, IsKey, HeardCell, list_any-append, has_counted, systems, none_any, some_system, join-push}

below-more : (i : ℕ) → below (i + 1) ≡ below i ++ i ∷ []
below-more i = let e : i + 1 ≡ suc i = omega arith in rw e refl

-- the number of cells of a signal of the table
pub record IsCount (c : SignalCountsValue) (cells : List HeardCell) (system : System) (i n : ℕ) : Type 0 where
  pub counts : AreSignalCounts c cells
  pub within : i < length (table system)
  pub is : n ≡ counted c system i

-- one more signal of the table: it is in the list if it has cells
had_more : {c : SignalCountsValue} {cells : List HeardCell} {system : System} {i n : ℕ} → IsCount c cells system i n
    → had_below cells system (i + 1) ≡ had_below cells system i ++ cond (nat_lt 0 n) (i ∷ []) []
had_more {cells = cells} {system} {i} {n} h = grind (arith, common_steps, below-more, filter-append)

pub had_one : {c : SignalCountsValue} {cells : List HeardCell} {system : System} {i n : ℕ} → IsCount c cells system i n → 0 < n → had_below cells system (i + 1) ≡ had_below cells system i ++ i ∷ []
had_one {cells = cells} {system} {i} {n} h some = had_more h ∙ ap (λ (b : Bool). had_below cells system i ++ cond b (i ∷ []) []) (lt-ltb 0 n some)

pub had_none : {c : SignalCountsValue} {cells : List HeardCell} {system : System} {i n : ℕ} → IsCount c cells system i n → n ≤ 0 → had_below cells system (i + 1) ≡ had_below cells system i
had_none h none = grind (arith, common_steps, had_more, le-ltb)

-- ---- the codes of a system

-- after a start: nothing, or a blank and codes separated by commas
abbrev pub IsPartly : (start text : List ℕ) (separator : ℕ) (system : System) → List ℕ → Type 0
IsPartly start text separator system [] = (text ≡ start) × (separator ≡ 0x20)
IsPartly start text separator system (i ∷ is) = (text ≡ start ++ 0x20 ∷ code_list system (i ∷ is)) × (separator ≡ 0x2C)

codes-push : (system : System) (i : ℕ) (is : List ℕ) (j : ℕ) → code_list system (i ∷ is ++ j ∷ []) ≡ code_list system (i ∷ is) ++ 0x2C ∷ code_of (signal_in system j)
codes-push system i is j = grind (arith, common_steps, join-push)

-- one more code
pub partly_more : {more : List ℕ} (start text : List ℕ) (separator : ℕ) (system : System) (is : List ℕ) (j : ℕ) → IsPartly start text separator system is → more ≡ text ++ separator ∷ code_of (signal_in system j)
    → IsPartly start more 0x2C system (is ++ j ∷ [])
partly_more start text separator system is j h e = grind (arith, common_steps, codes-push)

-- ---- a line for each signal

pub lines_one : {c : SignalCountsValue} {cells : List HeardCell} {system : System} {i n : ℕ} {text more line : List ℕ} (start : List ℕ) → IsCount c cells system i n → 0 < n
    → text ≡ start ++ lines_below cells system i → more ≡ text ++ line → line ≡ count_line (signal_in system i) n → more ≡ start ++ lines_below cells system (i + 1)
lines_one {cells = cells} {system} {i} {line = line} start h some before e same = grind (arith, common_steps, append-nil, flat_map-append, had_one)

pub lines_none : {c : SignalCountsValue} {cells : List HeardCell} {system : System} {i n : ℕ} {text : List ℕ} (start : List ℕ) → IsCount c cells system i n → n ≤ 0
    → text ≡ start ++ lines_below cells system i → text ≡ start ++ lines_below cells system (i + 1)
lines_none start h none before = grind (arith, had_none)

-- ---- whether there is a cell of any signal

any_some : (xs : List ℕ) → list_any (λ n. nat_lt 0 n) xs ≡ true → (i : ℕ) × (i < length xs) × (0 < get_or xs i 0)
any_some [] h = absurd (grind (arith, h))
any_some (x ∷ xs) h = by (nat_lt 0 x) refl h (any_some xs) where
  by : (b : Bool) → nat_lt 0 x ≡ b → (b || list_any (λ n. nat_lt 0 n) xs) ≡ true → (list_any (λ n. nat_lt 0 n) xs ≡ true → (i : ℕ) × (i < length xs) × (0 < get_or xs i 0))
      → (i : ℕ) × (i < length (x ∷ xs)) × (0 < get_or (x ∷ xs) i 0)
  by true t h more = (0, omega arith, grind (arith, t))
  by false t h more = (let m = more h in (suc m.0, omega (arith, m.1), m.2))

any_none : (xs : List ℕ) → list_any (λ n. nat_lt 0 n) xs ≡ false → (i : ℕ) → get_or xs i 0 ≡ 0
any_none [] h i = refl
any_none (x ∷ xs) h i = by (nat_lt 0 x) refl h (λ rest i. any_none xs rest i) i where
  by : (b : Bool) → nat_lt 0 x ≡ b → (b || list_any (λ n. nat_lt 0 n) xs) ≡ false → (list_any (λ n. nat_lt 0 n) xs ≡ false → (i : ℕ) → get_or xs i 0 ≡ 0) → (i : ℕ) → get_or (x ∷ xs) i 0 ≡ 0
  by b h1 h2 h3 i = grind (arith, zero)

-- if some signal has a cell, there is a cell
pub some_cells : (c : SignalCountsValue) (cells : List HeardCell) → AreSignalCounts c cells → has_any c ≡ true → 0 < length cells
some_cells c cells h any =
    let m = some_system (λ s. list_any (λ n. nat_lt 0 n) (signal_counts s c)) systems any in
    let n = any_some (signal_counts m.0 c) m.1 in
    by m.0 n.0 n.2 (nat_lt n.0 (length (table m.0))) refl
  where
    by : (s : System) (i : ℕ) → 0 < counted c s i → (b : Bool) → nat_lt i (length (table s)) ≡ b → 0 < length cells
    by s i h1 b h2 = grind (arith, ltb-true, length-filter, count_by-le-length, ltb-false)

pub own_signal : (x : HeardCell) → is_of_signal x.signal x ≡ true
own_signal x = grind arith

-- if no signal has a cell, there is no cell
pub no_cells : (c : SignalCountsValue) (cells : List HeardCell) → AreSignalCounts c cells → All IsKey cells → has_any c ≡ false → cells ≡ []
no_cells c [] h keys none = refl
no_cells c (x ∷ xs) h keys none = absurd (omega (arith, h.each x.signal.system x.signal.index key.signal, counts, zero)) where
  key : IsKey x
  key = All-head IsKey x xs keys

  counts : count_of x.signal (x ∷ xs) ≡ suc (count_of x.signal xs)
  counts = ap (λ (b : Bool). length (cond b (x ∷ filter (is_of_signal x.signal) xs) (filter (is_of_signal x.signal) xs))) (own_signal x)

  zero : counted c x.signal.system x.signal.index ≡ 0
  zero = any_none (signal_counts x.signal.system c) (none_any (λ s. list_any (λ n. nat_lt 0 n) (signal_counts s c)) none x.signal.system) x.signal.index

-- ---- whether a system has a cell, by the counts of its signals

pub any_filter : {X : Type 0} (p : X → Bool) (xs : List X) → list_any p xs ≡ nat_lt 0 (length (filter p xs))
any_filter p [] = refl
any_filter p (x ∷ xs) = grind (arith, (any_filter p xs))

same_below : (p q : ℕ → Bool) (n : ℕ) → ((i : ℕ) → i < n → p i ≡ q i) → list_any p (below n) ≡ list_any q (below n)
same_below p q zero same = refl
same_below p q (suc n) same = grind (arith, below-more, list_any-append, (same_below p q n (λ i less. same i (omega (arith, less)))))

pub decodes_had : (c : SignalCountsValue) (cells : List HeardCell) → AreSignalCounts c cells → (system : System) → has_counted c system ≡ nat_lt 0 (length (had cells system))
decodes_had c cells h system =
    same_below (λ i. nat_lt 0 (counted c system i)) (λ i. nat_lt 0 (count_of (signal_in system i) cells)) (length (table system)) (λ i less. ap (nat_lt 0) (h.each system i less))
    ∙ any_filter (λ i. nat_lt 0 (count_of (signal_in system i) cells)) (below (length (table system)))
