-- Epochs that were gathered from messages make a file value.
use Rattle.rinex_file.proofs.HeaderRows.End.{all_same}
use Rattle.rinex_file.proofs.Rows.Sizes.{few_satellites, if_fits}
use Rattle.rinex_file.proofs.Rows.Cells.{found_as}
use Rattle.rinex_file.proofs.FewRows.{rise-tail}
use Rattle.rinex_file.proofs.Writing.Sent.{length-rows}
use Rattle.rinex_file.proofs.Names.{systems, index_of, satellites_in, index_back, system_at, systems_taken, common_steps, ◌≡◌, ℕ, zero, suc, ◌+◌, ◌*◌, ◌<◌, ◌≤◌, ◌==◌, Bool, true, false, ◌||◌, ◌&&◌, List, [], ◌∷◌, ◌++◌, map, length, get_or, refl, sym, ap, ◌∙◌, subst, arith, Option, Some, None, is_some, inl, inr, if◌then◌else◌, find, IsTrue, Any, All, option_map_or, AllByRecursion, IsDistinct, IsStrictlyIncreasing, and_parts, eqb-true, cases_Bool, map-append, flat_map-append, append-nil, flat_map, take, get_or-map, length-map, All-from_recursion, All-nil, All-cons, All-head, All-tail, All-append, All-push, All-map, All-weaker, All-filter, All-replicate, filter_passes, IsStrictlyIncreasing-filter, map-map, position-Some, System, Gps, Cell, PlanValue, EpochValue, Closed, same_values, cells_of, planned_of, has_value, is_written, place_in, IsGathered, AreGathered, IsGatheredEpoch, AreGatheredEpochs, TimesRise, AreStationValues, same_place, Decides-int_eq, StationValues, HeaderLists, numbers, written_satellites, no_signal_values, signal_values_of, is_of_key, signal_values_at, row_of, row_among, row_in_epoch, rows_of, change_from, stamped_after, all_stamped, AreTexts, has_some_value, AreSignalValues, IsRow, planned_in, rank_of, IsSatelliteRow, IsStamped, IsChange, AreChanges, changed_by, time_stamped, IsFileValue, gathered, AreSignals, HasSatellite, IsInterval, IfSome}

-- ---- numbers in ascending order

-- numbers below one after which all others come
below_all : (m : ℕ) (xs ys : List ℕ) → All (λ x. x < m) xs → All (λ y. m ≤ y) ys → IsStrictlyIncreasing xs → IsStrictlyIncreasing ys → IsStrictlyIncreasing (xs ++ ys)
below_all m [] ys h k r s i less = s i less
below_all m (x ∷ []) ys h k r s zero less = let low = All-head (λ x. x < m) x [] h in let high = k 0 0 (omega (arith, less)) in omega (arith, low, high)
below_all m (x ∷ []) ys h k r s (suc j) less = grind (arith, (s j (omega (arith, less))))
below_all m (x ∷ y ∷ xs) ys h k r s zero less = r 0 (omega arith)
below_all m (x ∷ y ∷ xs) ys h k r s (suc j) less = grind (arith, common_steps, All-tail, rise-tail, (below_all m (y ∷ xs) ys (All-tail (λ x. x < m) x (y ∷ xs) h) k (rise-tail x (y ∷ xs) r) s j (omega (arith, less))))

-- ---- the numbers of satellites

abbrev IsUpTo : ℕ → ℕ → Type 0
IsUpTo most i = (1 ≤ i) × (i ≤ most)

numbers_within : (n : ℕ) → All (IsUpTo n) (numbers n)
numbers_within zero = All-nil (IsUpTo 0)
numbers_within (suc n) = grind (arith, common_steps, All-push, All-weaker, (numbers_within n))

numbers_rise : (n : ℕ) → IsStrictlyIncreasing (numbers n)
numbers_rise zero = λ k less. absurd (omega (arith, less))
numbers_rise (suc n) = grind (arith, common_steps, below_all, All-weaker, numbers_within, All-replicate, (numbers_rise n))

-- ---- entries

cell_entry : (system : System) (signals : List ℕ) (c : Cell) → IsGathered system signals c → AreSignalValues (signal_values_of c)
cell_entry system signals c h = grind (arith, if_fits)

-- ---- a cell with a value is the one that its entry is made of

record IsFoundIn (P : Cell → Type 0) (cells : List Cell) (id : ℕ) : Type 0 where
  cell : Cell
  own : (cell.satellite.id == id) ≡ true
  says : has_value cell ≡ true
  is : P cell
  found : find (is_of_key id cell.signal.index) cells ≡ Some cell

speaker : (P : Cell → Type 0) (cells : List Cell) (id : ℕ) → All P cells → IsDistinct same_place cells → is_written cells id ≡ true → IsFoundIn P cells id
unfolding IsDistinct
speaker P [] id h d e = cc
speaker P (c ∷ cells) id h d e =
    let apart = All-from_recursion (λ x. same_place c x ≡ false) cells d.0 in
    let next = speaker (λ x. P x × (same_place c x ≡ false)) cells id (λ k x less. (All-tail P c cells h k x less, apart k x less)) d.1 in
    elim (cases_Bool ((c.satellite.id == id) && has_value c)) [
      | inl f ↦ grind (arith, and_parts, All-head P c cells h)
      | inr f ↦ grind (arith, eqb-true, next (sym (ap (λ b. b || is_written cells id) f) ∙ e))
    ]

-- ---- rows

some_at : (o : Option ℕ) → is_some o ≡ true → (k : ℕ) × (o ≡ Some k)
some_at o h = grind (arith, common_steps)

one_says : (signals : List ℕ) (cells : List Cell) (id : ℕ) (c : Cell) → is_some (place_in c.signal signals) ≡ true → has_value c ≡ true
    → find (is_of_key id c.signal.index) cells ≡ Some c → Any (λ e. IsTrue (has_some_value e)) (map (signal_values_at cells id) signals)
one_says signals cells id c planned value found =
    let at = some_at (place_in c.signal signals) planned in
    let (within, here, none) = position-Some (λ i. i == c.signal.index) signals at.0 0 at.1 in
    let is : get_or (map (signal_values_at cells id) signals) at.0 (signal_values_of c) ≡ signal_values_of c =
    get_or-map (signal_values_at cells id) signals at.0 0 (signal_values_of c) within ∙ ap (signal_values_at cells id) (eqb-true _ _ here) ∙ ap (λ o. option_map_or signal_values_of o no_signal_values) found in
    (at.0, signal_values_of c, rw length-map within, is, value)

-- a written satellite
abbrev IsNumber : List Cell → ℕ → ℕ → Type 0
IsNumber cells most id = IsUpTo most id × (is_written cells id ≡ true)

row_is : (system : System) (signals : List ℕ) (cells : List Cell) (id : ℕ) → AreGathered system signals cells → IsNumber cells (satellites_in system) id
    → (0 < length signals) × IsRow (satellites_in system) (length signals) (row_of signals cells id)
row_is system signals cells id h n =
    let each = All-from_recursion (IsGathered system signals) cells h.each in
    let s = speaker (IsGathered system signals) cells id each h.apart n.1 in
    let none : AreSignalValues no_signal_values = record { c = tt; l = tt; d = tt; s = tt; lli = omega arith; without_phase = λ e. refl } in (
      (grind (arith, some_at, position-Some, s.is.planned)),
      record {
        satellite = n.0;
        signal_values = All-map AreSignalValues (signal_values_at cells id) signals (λ k d less. found_as (IsGathered system signals) AreSignalValues id (get_or signals k d) (cell_entry system signals) none cells each);
        whole = length-map signals (signal_values_at cells id);
        some = one_says signals cells id s.cell s.is.planned s.says s.found;
      },
    )

row_seen : (plan : PlanValue) (system : System) (cells : List Cell) (id : ℕ) → AreGathered system (planned_of system plan) cells → IsNumber cells (satellites_in system) id
    → IsSatelliteRow (planned_in plan) (row_among plan system cells id)
row_seen plan system cells id h n = let r = row_is system (planned_of system plan) cells id h n in record { planned = r.0; row = r.1 }

numbers_of : (cells : List Cell) (most : ℕ) → All (IsNumber cells most) (written_satellites cells most)
numbers_of cells most k d less =
    (All-filter (is_written cells) (IsUpTo most) (numbers most) (numbers_within most) k d less, filter_passes (is_written cells) (numbers most) k d less)

rows_seen : (plan : PlanValue) (e : EpochValue) (system : System) → AreGathered system (planned_of system plan) (cells_of system e) → All (IsSatelliteRow (planned_in plan)) (rows_of plan e system)
rows_seen plan e system h =
    let cells = cells_of system e in
    All-map (IsSatelliteRow (planned_in plan)) (row_in_epoch plan e system) (written_satellites cells (satellites_in system))
    (λ k d less. row_seen plan system cells (get_or (written_satellites cells (satellites_in system)) k d) h (numbers_of cells (satellites_in system) k d less))

all_seen : (plan : PlanValue) (c : Closed) → IsGatheredEpoch plan c → (ss : List System) → All (IsSatelliteRow (planned_in plan)) (flat_map (rows_of plan c.epoch) ss)
all_seen plan c h [] = All-nil (IsSatelliteRow (planned_in plan))
all_seen plan c h (s ∷ ss) = All-append (IsSatelliteRow (planned_in plan)) (rows_of plan c.epoch s) (flat_map (rows_of plan c.epoch) ss) (rows_seen plan c.epoch s (h.cells s)) (all_seen plan c h ss)

-- ---- ranks

rise_higher : (base : ℕ) (ids : List ℕ) → IsStrictlyIncreasing ids → IsStrictlyIncreasing (map (λ id. base + id) ids)
rise_higher base ids h k less =
    let size : length (map (λ id. base + id) ids) ≡ length ids = length-map ids (λ id. base + id) in
    let high = get_or-map (λ id. base + id) ids (k + 1) 0 0 (omega (arith, size, less)) in
    let more = h k (omega (arith, size, less)) in
    omega (arith, get_or-map (λ id. base + id) ids k 0 0 (omega (arith, size, less)), high, more)

abbrev ranks : PlanValue → EpochValue → List System → List ℕ
ranks plan e ss = map rank_of (flat_map (rows_of plan e) ss)

-- the ranks of one more system
ranks_next : (plan : PlanValue) (e : EpochValue) (n : ℕ) (s : System) → index_of s ≡ n
    → ranks plan e (take (suc n) systems) ≡ ranks plan e (take n systems) ++ map (λ id. 100 * n + id) (written_satellites (cells_of s e) (satellites_in s))
ranks_next plan e n s at =
    let next : n + 1 ≡ suc n = omega arith in
    let ids = written_satellites (cells_of s e) (satellites_in s) in
    ap (ranks plan e) (subst (λ m. take m systems ≡ take n systems ++ s ∷ []) next (systems_taken n s at))
    ∙ ap (map rank_of) (flat_map-append (rows_of plan e) (take n systems) (s ∷ []) ∙ ap (λ l. flat_map (rows_of plan e) (take n systems) ++ l) (append-nil (rows_of plan e s)))
    ∙ map-append rank_of (flat_map (rows_of plan e) (take n systems)) (rows_of plan e s)
    ∙ ap (λ l. ranks plan e (take n systems) ++ l) (map-map rank_of (row_in_epoch plan e s) ids ∙ ap (λ (m : ℕ). map (λ id. 100 * m + id) ids) at)

-- the ranks of the first systems rise, below that of each later one
ranks_below : (plan : PlanValue) (e : EpochValue) (n : ℕ) → n ≤ length systems
    → All (λ x. x < 100 * n + 1) (ranks plan e (take n systems)) × IsStrictlyIncreasing (ranks plan e (take n systems))
ranks_below plan e zero few = (All-nil (λ x. x < 1), λ k less. absurd (omega (arith, less)))
ranks_below plan e (suc n) few =
    let less : n < length systems = omega (arith, few) in
    let s = system_at n in
    let cells = cells_of s e in
    let ids = written_satellites cells (satellites_in s) in
    let before = ranks_below plan e n (omega (arith, few)) in
    let number = numbers_of cells (satellites_in s) in
    let most = few_satellites s in
    let is = sym (ranks_next plan e n s (index_back n less)) in (
      subst (All (λ x. x < 100 * suc n + 1)) is (All-append (λ x. x < 100 * suc n + 1) (ranks plan e (take n systems)) (map (λ id. 100 * n + id) ids)
          (All-weaker (λ x. x < 100 * n + 1) (λ x. x < 100 * suc n + 1) (λ x h. omega (arith, h)) (ranks plan e (take n systems)) before.0)
          (All-map (λ x. x < 100 * suc n + 1) (λ id. 100 * n + id) ids (λ k d h. let last = (number k d h).0.1 in omega (arith, last, most)))),
      subst IsStrictlyIncreasing is (below_all (100 * n + 1) (ranks plan e (take n systems)) (map (λ id. 100 * n + id) ids) before.0
          (All-map (λ y. 100 * n + 1 ≤ y) (λ id. 100 * n + id) ids (λ k d h. let first = (number k d h).0.0 in omega (arith, first))) before.1 (rise_higher (100 * n) ids (IsStrictlyIncreasing-filter (is_written cells) (numbers (satellites_in s)) (numbers_rise (satellites_in s))))),
    )

-- ---- epochs

epoch_is : (plan : PlanValue) (v : StationValues) (c : Closed) → IsGatheredEpoch plan c → HasSatellite c → IsStamped (planned_in plan) (stamped_after plan v c)
epoch_is plan v c h some = record {
  time = h.time;
  rows = record { each = all_seen plan c h systems; rise = (ranks_below plan c.epoch (length systems) (omega arith)).1 };
  some = subst (λ n. 0 < n) (sym (length-rows plan c.epoch)) some;
}

epochs_are : (plan : PlanValue) (v : StationValues) (es : List Closed) → AllByRecursion (IsGatheredEpoch plan) es → AllByRecursion HasSatellite es
    → All (IsStamped (planned_in plan)) (all_stamped plan v es)
epochs_are plan v [] h k = All-nil (IsStamped (planned_in plan))
epochs_are plan v (e ∷ es) h k =
    All-cons (IsStamped (planned_in plan)) (stamped_after plan v e) (all_stamped plan e.values es) (epoch_is plan v e h.0 k.0) (epochs_are plan e.values es h.1 k.1)

times_rise : (plan : PlanValue) (v : StationValues) (es : List Closed) → TimesRise es → IsStrictlyIncreasing (map time_stamped (all_stamped plan v es))
times_rise plan v (e ∷ f ∷ es) h zero less = h.0.0
times_rise plan v (e ∷ f ∷ es) h (suc k) less = grind (arith, (times_rise plan e.values (f ∷ es) h.1 k (omega (arith, less))))
times_rise plan v es h k less = absurd (omega (arith, less))

-- ---- station values

same_self : (v : StationValues) → same_values v v ≡ true
same_self v = grind (arith, Decides-int_eq)

changes : (v w : StationValues) → AreStationValues w → IsChange v (change_from v w) × (changed_by v (change_from v w) ≡ w)
changes v w h = by (same_values v w) refl where
  by : (b : Bool) → same_values v w ≡ b → IsChange v (if b then None else Some w) × (changed_by v (if b then None else Some w) ≡ w)
  by true e = (tt, grind (arith, and_parts, all_same, Decides-int_eq, eqb-true))
  by false e = ((h, λ same. absurd (let is : same_values v w ≡ true = ap (same_values v) same ∙ same_self v in grind (arith, is, e))), refl)

changes_are : (plan : PlanValue) (v : StationValues) (es : List Closed) → AllByRecursion (IsGatheredEpoch plan) es → AreChanges v (all_stamped plan v es)
changes_are plan v [] h = tt
changes_are plan v (e ∷ es) h = grind (arith, changes, (changes_are plan e.values es h.1))

pub gathered_file : (texts : HeaderLists) (interval : Option ℕ) (plan : PlanValue) (e : Closed) (es : List Closed) → AreTexts texts → IfSome interval IsInterval → AreSignals plan → AreGatheredEpochs plan (e ∷ es)
    → AllByRecursion HasSatellite (e ∷ es) → IsFileValue (gathered texts interval plan e.values (e ∷ es))
gathered_file texts interval plan e es x i p h some =
    let seen = all_seen plan e h.each.0 systems 0 (row_in_epoch plan e.epoch Gps 0) (subst (λ n. 0 < n) (sym (length-rows plan e.epoch)) some.0) in
    record {
      texts = x;
      interval = i;
      plan = record { listed = p.listed; apart = p.apart; some = (_, seen.planned); channels = p.channels; unplanned = p.unplanned };
      values = h.each.0.values;
      some = omega arith;
      epochs = epochs_are plan e.values (e ∷ es) h.each some;
      rising = times_rise plan e.values (e ∷ es) h.rise;
      first = ap (λ (b : Bool). if b then None else Some e.values) (same_self e.values);
      changes = changes_are plan e.values (e ∷ es) h.each;
    }
