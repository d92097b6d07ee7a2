-- The signal tables: their IDs rise row by row, each ID and each code has one row, and each ID the row that is listed
-- for it.
use Rattle.gnss_obs.proofs.Names.{ℕ, ◌≡◌, ◌+◌, ◌-◌, ◌<◌, ◌≤◌, ◌==◌, ◌&&◌, Bool, true, false, nat_lt, length, position, List, Option, Some, None, Bor, slice_index_or, refl, ap, ◌∙◌, arith, slice_get, unwrap_or, option_copied, option_map, option_map_or, is_some, IfSome, slice_get_past, slice_get_read, list_all, systems, each_system, System, SignalAt, IsSignal, after, greatest_signal_id, id_of, signal_of_id, table, rows, common_steps, passes_at, passes_below, and_parts, ltb-true, eqb-true, ne_eqb}
use Rattle.gnss_obs.proofs.SortLemmas.{table_few}

-- the ID of a row is below the next one
abbrev rises_at : System → ℕ → Bool
rises_at system i = nat_lt (id_of (record { system = system; index = i })) (id_of (record { system = system; index = i + 1 }))

-- a test passes at each number below a bound of the system
abbrev passes : (System → ℕ → Bool) → (System → ℕ) → Bool
passes test bound = list_all (λ system. passes_below (test system) (bound system)) systems

below_each : (test : System → ℕ → Bool) (bound : System → ℕ) → passes test bound ≡ true → (system : System) (i : ℕ) → i < bound system → test system i ≡ true
below_each test bound all system i below = passes_at (test system) (bound system) i (each_system (λ system. passes_below (test system) (bound system)) system all) below

pub ids_rise : (s : SignalAt) → IsSignal (after s) → id_of s < id_of (after s)
ids_rise s listed = ltb-true _ _ (below_each rises_at (λ system. length (table system) - 1) refl s.system s.index (omega (arith, listed)))

-- a test passes at each row
at_each : (test : System → ℕ → Bool) → passes test (λ system. length (table system)) ≡ true → (system : System) (i : ℕ) → i < length (table system) → test system i ≡ true
at_each test all system i listed = below_each test (λ system. length (table system)) all system i listed

abbrev signal : System → ℕ → SignalAt
signal system i = record { system = system; index = i }

pub ids_within : (s : SignalAt) → IsSignal s → (1 ≤ id_of s) × (id_of s ≤ greatest_signal_id)
ids_within s listed = grind (arith, common_steps)

-- the first row that passes a test
from_at : (o : Option ℕ) (i : ℕ) → option_map_or (λ j. j == i) o false ≡ true → o ≡ Some i
from_at o i h = grind (arith, eqb-true)

abbrev has_first_id : System → ℕ → Bool
has_first_id system i = option_map_or (λ j. j == i) (position (λ e. e.id == id_of (signal system i)) (table system)) false

pub id_back : (s : SignalAt) → IsSignal s → signal_of_id s.system (id_of s) ≡ Some s
id_back s listed = ap (option_map (signal s.system)) (from_at _ s.index (at_each has_first_id refl s.system s.index listed))

-- a listed row is the first one with the ID
is_row : ℕ → Option ℕ → ℕ → Bool
is_row n None row = row == 255
is_row n (Some i) row = nat_lt i n && (row == i)

row_at : System → ℕ → Bool
row_at system id = is_row (length (table system)) (position (λ e. e.id == id) (table system)) (unwrap_or (slice_get (rows system) id) 255)

rows_fit : (system : System) (id : ℕ) → id < 256 → row_at system id ≡ true
unfolding row_at is_row
rows_fit system id below = below_each row_at (λ system. 256) refl system id below

same_row : (n : ℕ) (o : Option ℕ) (row : ℕ) → is_row n o row ≡ true → (row == 255) ≡ false → (Some row ≡ o) × (row < n)
unfolding is_row
same_row n o row h other = grind (arith, eqb-true, and_parts, ltb-true)

no_row : (n : ℕ) (o : Option ℕ) (row : ℕ) → is_row n o row ≡ true → row ≡ 255 → n ≤ 64 → o ≡ None
unfolding is_row
no_row n o row h none few = grind arith

-- the row at an ID
read_at : (xs : List ℕ) (id : ℕ) (o : Option (Bor ℕ)) → is_some o ≡ nat_lt id (length xs) → IfSome o (λ x. x.now ≡ slice_index_or xs id x.now)
    → unwrap_or (option_copied o) 255 ≡ unwrap_or (slice_get xs id) 255
read_at xs id o some h = grind (arith, slice_get_past, slice_get_read, ltb-true)

pub row_is : (system : System) (id : ℕ) (o : Option (Bor ℕ)) → id < 256 → is_some o ≡ nat_lt id (length (rows system)) → IfSome o (λ x. x.now ≡ slice_index_or (rows system) id x.now)
    → (row : ℕ) → row ≡ unwrap_or (option_copied o) 255
    → (row ≡ 255 → position (λ e. e.id == id) (table system) ≡ None) × ((row ≡ 255 → ⊥) → (Some row ≡ position (λ e. e.id == id) (table system)) × (row < length (table system)))
unfolding row_at
row_is system id o below some here row is =
    let fits = rw (← (is ∙ read_at (rows system) id o some here)) at (rows_fit system id below) in
    (λ none. no_row (length (table system)) _ row fits none (table_few system), λ other. same_row (length (table system)) _ row fits (ne_eqb row 255 other))
