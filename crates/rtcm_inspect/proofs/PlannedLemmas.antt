-- The plan of the signals of a stream has a column for each of its values, and their line is parsed as that plan.
use Rattle.rtcm_inspect.proofs.Names.{first_code, is_comma, last_code, lt-ltb, ltb-true, ◌≡◌, ℕ, zero, suc, ◌+◌, ◌<◌, ◌≤◌, ◌==◌, ◌&&◌, ◌||◌, Bool, true, false, not, List, [], ◌∷◌, ◌++◌, length, refl, sym, ap, ap₂, ◌∙◌, arith, filter, map, All, Some, Result, Ok, Err, nat_eq, get_or, append-nil, append_assoc, is_some, AllPass-from_list_all, common_steps, nat_tests, slice_get-get_or, cond, nat_lt, position, list_any, position_or_len, bytes_eq, filter-append, list_any-append, System, SignalAt, IsSignal, table, code_of, signal_of_code, PlanFault, RepeatedCode, is_planned, has_listed_key, GatherSetup, HeardCell, IsKey, below, place_in, between_commas, one_signal_more, signals_after, signals_of, plan_of, planned_of, is_of_signal, count_of, signal_in, had, plan_had, plan_with, ChannelsValue, code_list, codes_word, list_any_at, tabulate, not_all, tabulated_same, value_tabulated, plan_by, signals_in}
use Rattle.rtcm_inspect.proofs.SignalLemmas.{any_filter, own_signal}

-- ---- rising indices

-- rising indices from low on and below n
abbrev Climbs : ℕ → ℕ → List ℕ → Type 0
Climbs low n [] = Unit {0}
Climbs low n (i ∷ is) = (low ≤ i) × (i < n) × Climbs (i + 1) n is

climbs-push : (low n : ℕ) (is : List ℕ) → low ≤ n → Climbs low n is → Climbs low (suc n) (is ++ n ∷ [])
climbs-push low n [] le h = (le, omega arith, tt)
climbs-push low n (i ∷ is) le h = (h.0, omega (arith, h.1), climbs-push (i + 1) n is (omega (arith, h.1)) h.2)

climbs-more : (low n : ℕ) (is : List ℕ) → Climbs low n is → Climbs low (suc n) is
climbs-more low n [] h = tt
climbs-more low n (i ∷ is) h = (h.0, omega (arith, h.1), climbs-more (i + 1) n is h.2)

filter-climbs : (p : ℕ → Bool) (n : ℕ) → Climbs 0 n (filter p (below n))
filter-climbs p zero = tt
filter-climbs p (suc n) = grind (arith, common_steps, filter-append, climbs-push, append-nil, climbs-more, filter-climbs p n)

-- ---- codes between commas

-- the text begins with a digit or a smaller byte
abbrev starts_low : List ℕ → Bool
starts_low [] = false
starts_low (b ∷ bs) = nat_lt b 58

abbrev is_plain : List ℕ → Bool
is_plain code = not (list_any is_comma code) && starts_low code

abbrev code_at : System → ℕ → List ℕ
code_at system i = code_of (signal_in system i)

plain_at : (system : System) (i : ℕ) → i < length (table system) → is_plain (code_at system i) ≡ true
plain_at system i within = grind (arith, slice_get-get_or, AllPass-from_list_all)

no_comma : (system : System) (i : ℕ) → i < length (table system) → list_any is_comma (code_at system i) ≡ false
no_comma system i within = let h = plain_at system i within in grind (arith, h)

codes_apart : (system : System) (low i : ℕ) (is : List ℕ) → Climbs low (length (table system)) (i ∷ is) → between_commas (code_list system (i ∷ is)) ≡ map (code_at system) (i ∷ is)
codes_apart system low i [] h = last_code (code_at system i) (no_comma system i h.1)
codes_apart system low i (j ∷ is) h = grind (arith, first_code, no_comma, (codes_apart system (i + 1) j is h.2))

-- ---- the signals that codes name

-- each signal is read back from its code
abbrev pub CodesReadBack : Type 0
CodesReadBack = (s : SignalAt) → IsSignal s → signal_of_code s.system (code_of s) ≡ Some s

codes_read : CodesReadBack → (system : System) (earlier : List ℕ) (low : ℕ) (is : List ℕ) → Climbs low (length (table system)) is → ((j : ℕ) → low ≤ j → list_any (nat_eq j) earlier ≡ false)
    → signals_after system earlier (map (code_at system) is) ≡ Ok (earlier ++ is)
codes_read law system earlier low [] h new = ap Ok (sym (append-nil earlier))
codes_read law system earlier low (i ∷ is) h new =
    let after : List ℕ → Result (List ℕ) PlanFault = λ signals. signals_after system signals (map (code_at system) is) in
    ap (λ o. one_signal_more system earlier o after) (law (signal_in system i) h.1)
    ∙ ap (λ (b : Bool). cond b (Err (RepeatedCode system (length earlier))) (after (earlier ++ i ∷ []))) (new i h.0)
    ∙ codes_read law system (earlier ++ i ∷ []) (i + 1) is h.2 (λ j le. newer j le) ∙ ap Ok (append_assoc earlier (i ∷ []) is)
  where
    unlike : (a b : ℕ) → b + 1 ≤ a → nat_eq a b ≡ false
    unlike a b e = grind (arith, e)

    newer : (j : ℕ) → i + 1 ≤ j → list_any (nat_eq j) (earlier ++ i ∷ []) ≡ false
    newer j le = list_any-append (nat_eq j) earlier (i ∷ []) ∙ ap₂ (λ a b. a || (b || false)) (new j (omega (arith, le, h.0))) (unlike j i le)

list_low : (system : System) (low i : ℕ) (is : List ℕ) → Climbs low (length (table system)) (i ∷ is) → starts_low (code_list system (i ∷ is)) ≡ true
list_low system low i is h = grind arith

no_word : (text : List ℕ) (first : ℕ) (rest : List ℕ) → starts_low text ≡ true → 58 ≤ first → bytes_eq text (first ∷ rest) ≡ false
no_word text first rest h le = grind arith

word_read : CodesReadBack → (system : System) (is : List ℕ) → Climbs 0 (length (table system)) is → signals_of system (codes_word system is) ≡ Ok is
word_read law system [] h = refl
word_read law system (i ∷ is) h =
    let text : List ℕ = code_list system (i ∷ is) in
    let all : List ℕ = below (length (table system)) in
    let read : Result (List ℕ) PlanFault = signals_after system [] (between_commas text) in
    ap₂ (λ (a b : Bool). cond a (Ok all) (cond b (Ok []) read)) (no_word text 97 (108 ∷ 108 ∷ []) (list_low system 0 i is h) (omega arith)) (no_word text 110 (111 ∷ 110 ∷ 101 ∷ []) (list_low system 0 i is h) (omega arith))
    ∙ ap (signals_after system []) (codes_apart system 0 i is h) ∙ codes_read law system [] 0 (i ∷ is) h (λ j le. refl)

-- ---- the plan has the signal of each cell

count_in : (g : SignalAt) (cells : List HeardCell) (i : ℕ) (d : HeardCell) → i < length cells → is_of_signal g (get_or cells i d) ≡ true → 0 < count_of g cells
count_in g cells i d within is = ltb-true 0 (count_of g cells) (sym (any_filter (is_of_signal g) cells) ∙ list_any_at (is_of_signal g) cells i d within is)

among_filter : (p : ℕ → Bool) (n k : ℕ) → k < n → p k ≡ true → list_any (λ i. i == k) (filter p (below n)) ≡ true
among_filter p zero k within is = absurd (omega (arith, within))
among_filter p (suc n) k within is =
    ap (list_any (λ i. i == k)) (filter-append p (below n) (n ∷ [])) ∙ list_any-append (λ i. i == k) (filter p (below n)) (filter p (n ∷ [])) ∙ by (n == k) refl (λ lt. among_filter p n k lt is)
  where
    by : (b : Bool) → (n == k) ≡ b → (k < n → list_any (λ i. i == k) (filter p (below n)) ≡ true) → (list_any (λ i. i == k) (filter p (below n)) || list_any (λ i. i == k) (filter p (n ∷ []))) ≡ true
    by b h1 h2 = grind arith

-- a signal that has cells is in the list of those that have
own_among : (cells : List HeardCell) (g : SignalAt) → IsSignal g → 0 < count_of g cells → list_any (λ i. i == g.index) (had cells g.system) ≡ true
own_among cells g listed some = among_filter (λ i. nat_lt 0 (count_of (signal_in g.system i) cells)) (length (table g.system)) g.index listed (lt-ltb 0 (count_of g cells) some)

has_place : (test : ℕ → Bool) (xs : List ℕ) → nat_lt (position_or_len test xs) (length xs) ≡ list_any test xs
has_place test [] = refl
has_place test (x ∷ xs) = grind (arith, common_steps, nat_tests, (has_place test xs))

some_place : (test : ℕ → Bool) (xs : List ℕ) → list_any test xs ≡ true → is_some (position test xs) ≡ true
some_place test xs h = rw (has_place test xs, h) refl

key_listed : (x : HeardCell) → IsKey x → has_listed_key x ≡ true
key_listed x key = grind arith

had_in : (cells : List HeardCell) (channels : ChannelsValue) (system : System) → planned_of system (plan_had cells channels) ≡ had cells system
had_in cells channels system = value_tabulated system (had cells)

planned_one : (channels : ChannelsValue) (s : GatherSetup) (cells : List HeardCell) (x : HeardCell) → s.plan ≡ plan_had cells channels → IsKey x → 0 < count_of x.signal cells → is_planned s x ≡ true
planned_one channels s cells x plan key some =
    let same : planned_of x.satellite.system s.plan ≡ had cells x.signal.system = ap (planned_of x.satellite.system) plan ∙ had_in cells channels x.satellite.system ∙ ap (had cells) (sym key.same) in
    let place : is_some (place_in x.signal (planned_of x.satellite.system s.plan)) ≡ true =
    ap (λ (l : List ℕ). is_some (place_in x.signal l)) same ∙ some_place (λ i. i == x.signal.index) (had cells x.signal.system) (own_among cells x.signal key.signal some) in
    ap₂ (λ a b. a && b) (key_listed x key) place

pub all_planned : (channels : ChannelsValue) (s : GatherSetup) (cells : List HeardCell) → s.plan ≡ plan_had cells channels → All IsKey cells → All (λ x. is_planned s x ≡ true) cells
all_planned channels s cells plan keys = λ k d within. planned_one channels s cells (get_or cells k d) plan (keys k d within) (count_in (get_or cells k d).signal cells k d within (own_signal (get_or cells k d)))

-- ---- the line is read as the plan

some_had : (xs : List ℕ) (k : ℕ) → list_any (λ i. i == k) xs ≡ true → xs ≡ [] → ⊥
some_had xs k h e = grind arith

plan_from : (f : System → Result (List ℕ) PlanFault) (g : System → List ℕ) → ((s : System) → f s ≡ Ok (g s)) → (s : System) → (g s ≡ [] → ⊥) → plan_by f ≡ Ok (plan_with (tabulate g))
plan_from f g each s some = grind (arith, tabulated_same, not_all, value_tabulated)

pub plan_read : CodesReadBack → (cells : List HeardCell) → 0 < length cells → All IsKey cells → plan_of (tabulate (λ s. codes_word s (had cells s))) ≡ Ok (plan_with (tabulate (had cells)))
plan_read law [] some keys = absurd (omega (arith, some))
plan_read law (x ∷ xs) some keys =
    let cells : List HeardCell = x ∷ xs in
    let key : IsKey x = keys 0 x (omega arith) in
    let among = own_among cells x.signal key.signal (count_in x.signal cells 0 x (omega arith) (own_signal x)) in
    plan_from (signals_in (tabulate (λ s. codes_word s (had cells s)))) (had cells) (λ s. ap (signals_of s) (value_tabulated s (λ s. codes_word s (had cells s)))
    ∙ word_read law s (had cells s) (filter-climbs (λ i. nat_lt 0 (count_of (signal_in s i) cells)) (length (table s)))) x.signal.system (some_had (had cells x.signal.system) x.signal.index among)
