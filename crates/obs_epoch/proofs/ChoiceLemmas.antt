-- Laws of the choice of epochs.
use Rattle.obs_epoch.proofs.Names.{◌≡◌, ◌∙◌, ◌*◌, ◌-◌, ◌/◌, ◌%◌, Option, Some, subst, ℕ, zero, suc, ◌+◌, length, map, ◌<◌, ◌≤◌, Bool, true, false, ◌&&◌, List, [], ◌∷◌, ◌++◌, filter, refl, sym, ap, ap₂, arith, None, nat_le, nat_lt, not, cond, if◌then◌else◌, AllByRecursion, common_steps, TimesRise, Choice, every_epoch, in_window, on_grid, closed_list_at, Cell, Closed, GatherSetup, Heard, counts_among, has_satellite, is_left_out, mark_if, thin, thin_after, is_written, written_among, value_tabulated, all_filter}
use Rattle.std.specs.Option.{option_map_or}
use Rattle.std.proofs.Math.Nat.{mod-le, mul-add-mod_self_right}
use Rattle.std.proofs.lemmas.Bool.{le-leb}
use Rattle.std.proofs.lemmas.Nat.{div-add-mod'}
use Rattle.obs_epoch.specs.Laws.{IsNearMultiple, IsOnGridNearMultiples, IsThinnedByChoice, IsWholeByEvery, NoneReturned, ReturnsEvery, WindowsAreApart, WindowsJoin, with_window}
use Rattle.obs_epoch.proofs.ReachLemmas.{IsWithin, all_within}
use Rattle.obs_epoch.proofs.ThinLemmas.{marks_none, none_lost}

-- ---- every epoch

every_after : (c : Choice) (earlier es : List Closed) → c.interval ≡ None → AllByRecursion (λ e. in_window c e.epoch.time ≡ true) es → thin_after c earlier es ≡ es
every_after c earlier [] whole h = refl
every_after c earlier (e ∷ es) whole h = grind (arith, marks_none, none_lost, every_after c (earlier ++ e ∷ []) es whole h.1)

pub every : ReturnsEvery
every c es whole h = every_after c [] es whole h

-- ---- windows that meet

-- From a time on, no epoch is in a window that has ended.
none_left : (c : Choice) (from until : ℕ) (earlier es : List Closed) → AllByRecursion (λ e. until ≤ e.epoch.time + c.tolerance) es → thin_after (with_window from until c) earlier es ≡ []
none_left c from until earlier [] h = refl
none_left c from until earlier (e ∷ es) h = grind (arith, none_left c from until (earlier ++ e ∷ []) es h.1)

later_left : (c : Choice) (until : ℕ) (e : Closed) (es : List Closed) → until ≤ e.epoch.time + c.tolerance → AllByRecursion (λ (f : Closed). e.epoch.time < f.epoch.time) es → AllByRecursion (λ f. until ≤ f.epoch.time + c.tolerance) es
later_left c until e [] le h = tt
later_left c until e (f ∷ es) le h = (omega (arith, le, h.0), later_left c until e es le h.1)

-- Whether a time is in a window and in its two parts.
early : (from middle until n : ℕ) → middle ≤ until → n < middle → ((nat_le from n && nat_lt n until) ≡ (nat_le from n && nat_lt n middle)) × ((nat_le middle n && nat_lt n until) ≡ false)
early from middle until n le less = grind (arith, common_steps, le, less)

late : (from middle until n : ℕ) → from ≤ middle → middle ≤ n → ((nat_le from n && nat_lt n until) ≡ (nat_le middle n && nat_lt n until)) × ((nat_le from n && nat_lt n middle) ≡ false)
late from middle until n le less = grind (arith, common_steps, le, less)

join_after : (c : Choice) (from middle until : ℕ) (earlier es : List Closed) → from ≤ middle → middle ≤ until → TimesRise es
    → thin_after (with_window from until c) earlier es ≡ thin_after (with_window from middle c) earlier es ++ thin_after (with_window middle until c) earlier es
join_after c from middle until earlier [] p q h = refl
join_after c from middle until earlier (e ∷ es) p q h = grind (arith, common_steps, none_left, later_left, join_after c from middle until (earlier ++ e ∷ []) es p q h.1)

pub join : WindowsJoin
join c from middle until es p q h = join_after c from middle until [] es p q h

pub apart : WindowsAreApart
apart c from middle until t h = grind arith

-- ---- the grid

-- a quotient and a rest
module _ (n m : ℕ) where
  parts : n / m * m + n % m ≡ n
  parts = div-add-mod' n m

  rest_less : (k : ℕ) → k * m ≤ n → n % m ≤ n - k * m
  rest_less k le =
      let rest : (k * m + (n - k * m)) % m ≡ (n - k * m) % m = mul-add-mod_self_right k m (n - k * m) in
      let whole : k * m + (n - k * m) ≡ n = omega (arith, le) in
      subst (λ (r : ℕ). r ≤ n - k * m) (sym (ap (λ (x : ℕ). x % m) (sym whole) ∙ rest)) (mod-le (n - k * m) m)

near_if : (c : Choice) (interval t : ℕ) → nat_le ((t + c.tolerance) % interval) (2 * c.tolerance) ≡ true → IsNearMultiple interval c.tolerance t
near_if c interval t is =
    let p = parts (t + c.tolerance) interval in
    let le : (t + c.tolerance) % interval ≤ 2 * c.tolerance = grind (arith, is) in
    ((t + c.tolerance) / interval, omega (arith, p), omega (arith, p, le))

if_near : (c : Choice) (interval t : ℕ) → IsNearMultiple interval c.tolerance t → nat_le ((t + c.tolerance) % interval) (2 * c.tolerance) ≡ true
if_near c interval t (k, before, after) = le-leb ((t + c.tolerance) % interval) (2 * c.tolerance) (let rest = rest_less (t + c.tolerance) interval k before in omega (arith, rest, before, after))

grid_of : (c : Choice) (interval t : ℕ) → c.interval ≡ Some interval → on_grid c t ≡ nat_le ((t + c.tolerance) % interval) (2 * c.tolerance)
grid_of c interval t is = ap (λ (o : Option ℕ). option_map_or (λ (i : ℕ). nat_le ((t + c.tolerance) % i) (2 * c.tolerance)) o true) is

pub near_multiples : IsOnGridNearMultiples
near_multiples c interval t is = (λ on. near_if c interval t (sym (grid_of c interval t is) ∙ on), λ near. grid_of c interval t is ∙ if_near c interval t near)

-- ---- the default

list_within : (s : GatherSetup) (ms : List Heard) (ts : List ℕ) → AllByRecursion IsWithin ts → AllByRecursion (λ e. in_window every_epoch e.epoch.time ≡ true) (closed_list_at s ms ts)
list_within s ms [] h = tt
list_within s ms (t ∷ ts) h = (grind (arith, h.0), list_within s ms ts h.1)

pub whole : IsWholeByEvery
whole s ms = grind (arith, all_within, every, list_within, all_filter)

pub thinned : IsThinnedByChoice
thinned s ms = record { all = ap (thin s.choice) (sym (whole s ms).all); closed = ap (thin s.choice) (sym (whole s ms).closed) }

-- ---- no epoch with a value is returned

-- A mark leaves the values of a satellite.
marks_written : (lost : Cell → Bool) (xs : List Cell) (id : ℕ) → is_written (map (mark_if lost) xs) id ≡ is_written xs id
marks_written lost [] id = refl
marks_written lost (x ∷ xs) id = grind (arith, marks_written lost xs id)

marks_among : (lost : Cell → Bool) (xs : List Cell) (n : ℕ) → written_among (map (mark_if lost) xs) n ≡ written_among xs n
unfolding written_among
marks_among lost xs zero = refl
marks_among lost xs (suc n) = ap₂ (λ (a : ℕ) (b : Bool). a + (if b then 1 else 0)) (marks_among lost xs n) (marks_written lost xs (suc n))

-- One more epoch, by whether it is chosen, whether it has a value, and whether it has one when it is marked.
one_more : (chosen valued marked : Bool) (e m : Closed) (kept left all : List Closed) → marked ≡ valued → (length kept ≡ 0 → left ≡ all)
    → length ((if chosen then cond marked (m ∷ []) [] else []) ++ kept) ≡ 0 → cond (not chosen && valued) (e ∷ left) left ≡ cond valued (e ∷ all) all
one_more chosen valued marked e m kept left all same more h = grind arith

none_after : (c : Choice) (earlier es : List Closed) → length (filter has_satellite (thin_after c earlier es)) ≡ 0 → filter (is_left_out c) es ≡ filter has_satellite es
none_after c earlier [] h = refl
none_after c earlier (e ∷ es) h = grind (arith, one_more, value_tabulated, marks_among, none_after c (earlier ++ e ∷ []) es)

pub none : NoneReturned
none c es h = ap (counts_among c) (none_after c [] es h)
