-- Cells are counted signal by signal.
use Rattle.obs_epoch.proofs.Names.{◌≡◌, ℕ, zero, suc, ◌+◌, ◌-◌, ◌<◌, ◌≤◌, ◌^◌, ◌==◌, ◌&&◌, ◌||◌, not, List, ◌∷◌, ◌++◌, length, get_or, filter, Bool, true, false, Option, Some, None, refl, sym, ap, ◌∙◌, subst, arith, is_some, inl, inr, position, if◌then◌else◌, cond, filter_map, option_map, option_and_then, slice_get, cases_lt, not-true, eqb-true, common_steps, System, ListedSignal, Satellite, is_system, satellite_of_id, SignalAt, IsSignal, id_of, table, signal_of_id, HeardCell, Entry, has_id, is_in, has_listed_value, value_count, seen_in, lock_by, observed, SignalCountsValue, signal_counts, counted, signal_in, counted_more, satellite_set, brings_value, is_of_signal, count_of, cons_option, option_map_or, Form, id_back, ids_within, system_self, each_system, system_same, short_table, listed_of, odd, ◌/◌, most_signals, hertz_in, every_channel, and_parts, eq-eqb, [], IfSome, nat_lt, AreSignalCounts, lt-ltb, ltb-true, ltb-false, ap₂, FormedMsm, Msm, entries, heard, valued}
use Rattle.std.proofs.lemmas.List.Quantifiers.{position-Some}
use Rattle.gnss_system.proofs.CheckedLaws.{passes_at, passes_below}
use Rattle.rtcm_msg.proofs.ValueLaws.{count_first}
use Rattle.obs_epoch.proofs.SignalCountsLemmas.{every_hertz, value_same, one_first, few_of}

-- ---- signals and their IDs

one_way : (a b : Bool) → (a ≡ true → b ≡ true) → (b ≡ true → a ≡ true) → a ≡ b
one_way a b there back = grind arith

some_same : {X : Type 0} (x y : X) (o : Option X) → o ≡ Some x → o ≡ Some y → x ≡ y
some_same x y o e f = cc

get_is : (xs : List ListedSignal) (i id : ℕ) → i < length xs → ((get_or xs i (record { id = 0; code = []; hertz = 0 })).id == id) ≡ true → option_map_or (λ (e : ListedSignal). e.id) (slice_get xs i) 0 ≡ id
get_is [] i id below is = absurd (omega (arith, below))
get_is (x ∷ xs) zero id below is = grind (arith, common_steps)
get_is (x ∷ xs) (suc i) id below is = get_is xs i id (omega (arith, below)) is

-- The ID of the signal with an ID.
id_forth : (system : System) (id : ℕ) (g : SignalAt) → signal_of_id system id ≡ Some g → id_of g ≡ id
id_forth system id g h = by (position (λ (e : ListedSignal). e.id == id) (table system)) refl h where
  by : (o : Option ℕ) → o ≡ position (λ (e : ListedSignal). e.id == id) (table system) → option_map (signal_in system) o ≡ Some g → id_of g ≡ id
  by None e h = absurd (grind (arith, refl, h))
  by (Some i) e h =
      let p = position-Some (λ (e : ListedSignal). e.id == id) (table system) i (record { id = 0; code = []; hertz = 0 }) (sym e) in
      subst (λ (x : SignalAt). id_of x ≡ id) (some_same (signal_in system i) g (Some (signal_in system i)) refl h) (get_is (table system) i id p.0 p.1)

-- The signal with an ID is g, or not.
no_signal : (system : System) (id : ℕ) (g : SignalAt) → IsSignal g → signal_of_id system id ≡ None → (is_system system g.system && (id == id_of g)) ≡ false
no_signal system id g listed none = grind (arith, common_steps)

the_signal : (system : System) (id : ℕ) (g s : SignalAt) → IsSignal g → signal_of_id system id ≡ Some s → (is_system system g.system && (id == id_of g)) ≡ (is_system g.system s.system && (s.index == g.index))
the_signal system id g s listed some = one_way _ _ there back where
  there : (is_system system g.system && (id == id_of g)) ≡ true → (is_system g.system s.system && (s.index == g.index)) ≡ true
  there h = grind (arith, and_parts, system_same, eqb-true, id_back, some_same, system_self, eq-eqb)

  back : (is_system g.system s.system && (s.index == g.index)) ≡ true → (is_system system g.system && (id == id_of g)) ≡ true
  back h =
      let both = and_parts (is_system g.system s.system) (s.index == g.index) h in
      let of : s.system ≡ system = (listed_of system id s some).0 in
      let e : g.system ≡ s.system = system_same g.system s.system both.0 in
      let i : s.index ≡ g.index = eqb-true s.index g.index both.1 in
      let same : id_of s ≡ id_of g = alike s g (sym e) i in
      rw (system_self system g.system (sym of ∙ sym e), eq-eqb id (id_of g) (sym (id_forth system id s some) ∙ same)) refl
    where
      alike : (a b : SignalAt) → a.system ≡ b.system → a.index ≡ b.index → id_of a ≡ id_of b
      alike a b e f = rw (e, f) refl

-- ---- satellites

same : Bool → Bool → Bool
same true b = b
same false b = not b

from_same : (a b : Bool) → same a b ≡ true → a ≡ b
unfolding same
from_same a b h = grind arith

abbrev is_right : System → ℕ → Bool
is_right system id = same (is_in (satellite_set system) id) (is_some (satellite_of_id system id))

in_set : (system : System) (id : ℕ) → is_in (satellite_set system) id ≡ is_some (satellite_of_id system id)
unfolding same
in_set system id = elim (cases_lt id 65) [
  | inl below ↦ from_same _ _ (passes_at (is_right system) 65 id (each_system (λ s. passes_below (is_right s) 65) system refl) below)
  | inr above ↦ past system id above (64 - id) (omega (arith, above))
] where
  past : (system : System) (id : ℕ) → 65 ≤ id → (n : ℕ) → n ≡ 0 → odd (satellite_set system / 2 ^ n) ≡ is_some (satellite_of_id system id)
  past system id above n e = grind (arith, each_system, not-true)

-- ---- the entries of a signal

in_middle : (a b c : Bool) → (a && (b && c)) ≡ (b && (a && c))
in_middle a b c = grind (arith, common_steps)

abbrev is_for : System → SignalAt → Entry → Bool
is_for system g e = is_system system g.system && (has_listed_value (satellite_set system) e && (e.signal == id_of g))

one_cell : (p q : HeardCell → Bool) (y : HeardCell) → length (filter p (filter q (y ∷ []))) ≡ cond (q y && p y) 1 0
one_cell p q y = grind (arith, common_steps)

one_entry : (form : Form) (system : System) (e : Entry) (g : SignalAt) → IsSignal g → count_of g (filter brings_value (cons_option (seen_in every_channel form system e) [])) ≡ cond (is_for system g e) 1 0
one_entry form system e g listed =
    rw (in_set system e.satellite)
    (by (satellite_of_id system e.satellite) (signal_of_id system e.signal) (λ s x. every_hertz system e.satellite s x) (no_signal system e.signal g listed) (λ s. the_signal system e.signal g s listed))
  where
    by : (s : Option Satellite) (o : Option SignalAt) → ((t : Satellite) (x : SignalAt) → s ≡ Some t → is_some (hertz_in every_channel t x) ≡ true) → (o ≡ None → (is_system system g.system && (e.signal == id_of g)) ≡ false)
        → ((x : SignalAt) → o ≡ Some x → (is_system system g.system && (e.signal == id_of g)) ≡ (is_system g.system x.system && (x.index == g.index)))
        → count_of g (filter brings_value (cons_option (option_and_then (λ s. option_map (observed every_channel (lock_by form e.lock) e s) o) s) [])) ≡ cond (is_system system g.system && ((is_some s && (is_some e.range || (is_some e.phase || is_some e.rate || is_some e.strength))) && (e.signal == id_of g))) 1 0
    by None o at none some = grind (arith, common_steps, refl)
    by (Some s) None at none some =
        rw (in_middle (is_system system g.system) (is_some e.range || (is_some e.phase || is_some e.rate || is_some e.strength)) (e.signal == id_of g)) (grind (arith, common_steps, (none refl)))
    by (Some s) (Some x) at none some =
        one_cell (is_of_signal g) brings_value (observed every_channel (lock_by form e.lock) e s x)
        ∙ rw (value_same (lock_by form e.lock) e s x (at s x refl), in_middle (is_system system g.system) (is_some e.range || (is_some e.phase || is_some e.rate || is_some e.strength)) (e.signal == id_of g), some x refl) refl

count_append : (g : SignalAt) (xs ys : List HeardCell) → count_of g (xs ++ ys) ≡ count_of g xs + count_of g ys
count_append g xs ys = grind (arith, common_steps)

pub all_entries : (form : Form) (system : System) (es : List Entry) (g : SignalAt) → IsSignal g
    → count_of g (filter brings_value (filter_map (seen_in every_channel form system) es)) ≡ (if is_system system g.system then value_count (satellite_set system) (id_of g) es else 0)
all_entries form system [] g listed = grind arith
all_entries form system (e ∷ es) g listed =
    ap (count_of g) (sym (one_first (seen_in every_channel form system e) (filter_map (seen_in every_channel form system) es)))
    ∙ (count_append g (filter brings_value (cons_option (seen_in every_channel form system e) [])) (filter brings_value (filter_map (seen_in every_channel form system) es))
    ∙ rw (one_entry form system e g listed, all_entries form system es g listed)
    (joined (is_system system g.system) (has_listed_value (satellite_set system) e && (e.signal == id_of g)) (value_count (satellite_set system) (id_of g) es) (value_count (satellite_set system) (id_of g) (e ∷ es))
    (count_first (λ e. has_listed_value (satellite_set system) e && (e.signal == id_of g)) e es)))
  where
    joined : (b p : Bool) (n m : ℕ) → m ≡ cond p 1 0 + n → cond (b && p) 1 0 + (if b then n else 0) ≡ (if b then m else 0)
    joined b p n m h = grind (arith, common_steps, h)

-- ---- numbers

-- The number of cells of a signal, if it is none of the signals that are left.
abbrev pub number : System → List ℕ → List ℕ → SignalAt → ℕ
number system left counts g = if is_system system g.system && not (has_id (id_of g) left) then get_or counts (id_of g - 1) 0 else 0

-- From c to c' the numbers of the signals were added that are not left, unless a count is very large.
pub record Adds (c c' : SignalCountsValue) (system : System) (left counts : List ℕ) : Type 0 where
  pub size : (s : System) → length (signal_counts s c') ≡ length (signal_counts s c)
  pub each : (s : System) (i : ℕ) → i < length (table s) → length (signal_counts s c) ≡ most_signals
      → counted c s i < 2 ^ 63 → counted c' s i ≡ counted c s i + number system left counts (signal_in s i)
  pub past : (s : System) (i : ℕ) → length (table s) ≤ i → counted c' s i ≡ counted c s i

-- At the beginning a signal whose ID isn't among those left has no cell.
pub number_none : (b h : Bool) (m : ℕ) → (h ≡ false → m ≡ 0) → (if b && not h then m else 0) ≡ 0
number_none b h m f = grind arith

-- ---- one number more

more_at : (g : SignalAt) (n : ℕ) (c : SignalCountsValue) (s : System) (i : ℕ) → i < length (signal_counts s c) → counted c s i + n ≤ 2 ^ 64 - 1
    → counted (counted_more g n c) s i ≡ counted c s i + (if is_system s g.system && (g.index == i) then n else 0)
more_at g n c s i within few = grind (arith, common_steps)

number_few : (b : Bool) (m : ℕ) → m ≤ 64 → (if b then m else 0) ≤ 64
number_few b m h = grind (arith, common_steps, h)

-- The first of the signals that are left is no longer left.
first_number : (system : System) (left counts : List ℕ) (x n : ℕ) (g : SignalAt) → n ≡ get_or counts (x - 1) 0 → has_id x left ≡ false
    → number system left counts g ≡ number system (x ∷ left) counts g + (if is_system system g.system && (x == id_of g) then n else 0)
first_number system left counts x n g is once = grind (arith, common_steps)

join : {a b : ℕ} (c d e : ℕ) {f : ℕ} → a ≡ b + d → b ≡ c + e → f ≡ e + d → a ≡ c + f
join c d e x y z = omega (arith, x, y, z)

room : (b c e n : ℕ) → b ≡ c + e → c < 2 ^ 63 → e ≤ 64 → n ≤ 64 → b + n ≤ 2 ^ 64 - 1
room b c e n x y z w = omega (arith, x, y, z, w)

pub adds_some : {c c' after : SignalCountsValue} {system : System} {all left counts : List ℕ} {x n : ℕ} {g : SignalAt} → Adds c c' system all counts → all ≡ x ∷ left → signal_of_id system x ≡ Some g → n ≡ get_or counts (x - 1) 0 → ((i : ℕ) → get_or counts i 0 ≤ 64)
    → has_id x left ≡ false → after ≡ counted_more g n c' → Adds c after system left counts
adds_some {c} {c'} {system} {left} {counts} {x} {n} {g} a split some is few once made = rw made (record {
  size = λ s. (grind (arith, common_steps)) ∙ a.size s;
  past = λ s i out. (grind (arith, common_steps)) ∙ a.past s i out;
  each = λ s i listed len small.
      let r = signal_in s i in
      let before : counted c' s i ≡ counted c s i + number system (x ∷ left) counts r = subst (λ (l : List ℕ). counted c' s i ≡ counted c s i + number system l counts r) split (a.each s i listed len small) in
      let within : i < length (signal_counts s c') = omega (arith, listed, len, short_table s, a.size s) in
      let same = the_signal system x r g listed some in
      let step : number system left counts r ≡ number system (x ∷ left) counts r + (if is_system s g.system && (g.index == i) then n else 0) = first_number system left counts x n r is once ∙ rw same refl in
      join _ _ _ (more_at g n c' s i within (room _ _ _ n before small (number_few _ _ (few (id_of r - 1))) (omega (arith, is, few (x - 1))))) before step;
})

pub adds_none : {c c' : SignalCountsValue} {system : System} {all left counts : List ℕ} {x n : ℕ} → Adds c c' system all counts → all ≡ x ∷ left → signal_of_id system x ≡ None → n ≡ get_or counts (x - 1) 0 → has_id x left ≡ false → Adds c c' system left counts
adds_none {c} {c'} {system} {left} {counts} {x} {n} a split none is once = record {
  size = a.size;
  past = a.past;
  each = λ s i listed len small.
      let r = signal_in s i in
      let before : counted c' s i ≡ counted c s i + number system (x ∷ left) counts r = subst (λ (l : List ℕ). counted c' s i ≡ counted c s i + number system l counts r) split (a.each s i listed len small) in
      let step : number system left counts r ≡ number system (x ∷ left) counts r + 0 = first_number system left counts x n r is once ∙ rw (no_signal system x r listed none) refl in
      omega (arith, before, step);
}

-- ---- whether there is a cell

-- Whether one of the signals that aren't left has a cell.
abbrev pub IsAny : System → (left counts : List ℕ) → (any : Bool) → Type 0
IsAny system left counts true = (g : SignalAt) × IsSignal g × (0 < number system left counts g)
IsAny system left counts false = (g : SignalAt) → IsSignal g → number system left counts g ≡ 0

pub any_some : (system : System) (counts : List ℕ) (any : Bool) {all left : List ℕ} {x n : ℕ} {g : SignalAt} → IsAny system all counts any → all ≡ x ∷ left → signal_of_id system x ≡ Some g → n ≡ get_or counts (x - 1) 0 → has_id x left ≡ false
    → IsAny system left counts (any || nat_lt 0 n)
any_some system counts any {left = left} {x} {n} {g} a split some is once = by any (subst (λ (l : List ℕ). IsAny system l counts any) split a) (nat_lt 0 n) refl where
  step : (r : SignalAt) → number system left counts r ≡ number system (x ∷ left) counts r + (if is_system system r.system && (x == id_of r) then n else 0)
  step r = first_number system left counts x n r is once

  listed : IsSignal g
  listed = (listed_of system x g some).1

  own : number system left counts g ≡ number system (x ∷ left) counts g + n
  own = step g ∙ rw (the_signal system x g g listed some, system_self g.system g.system refl, eq-eqb g.index g.index refl) refl

  by : (any : Bool) → IsAny system (x ∷ left) counts any → (more : Bool) → nat_lt 0 n ≡ more → IsAny system left counts (any || more)
  by true m more e = (m.0, m.1, omega (arith, m.2, step m.0))
  by false none true e = (g, listed, omega (arith, own, ltb-true 0 n e))
  by false none false e = λ r is. step r ∙ (let zero = none r is in grind (arith, ltb-false))

pub any_same : (system : System) (counts : List ℕ) (any : Bool) {all left : List ℕ} {x n : ℕ} → IsAny system all counts any → all ≡ x ∷ left → signal_of_id system x ≡ None → n ≡ get_or counts (x - 1) 0 → has_id x left ≡ false → IsAny system left counts any
any_same system counts any {left = left} {x} {n} a split none is once = by any (subst (λ (l : List ℕ). IsAny system l counts any) split a) where
  same : (r : SignalAt) → IsSignal r → number system left counts r ≡ number system (x ∷ left) counts r + 0
  same r listed = first_number system left counts x n r is once ∙ rw (no_signal system x r listed none) refl

  by : (any : Bool) → IsAny system (x ∷ left) counts any → IsAny system left counts any
  by true m = (m.0, m.1, omega (arith, m.2, same m.0 m.1))
  by false none = λ r listed. omega (arith, same r listed, none r listed)

-- ---- all numbers

abbrev pub listed_cells : Form → System → List Entry → List HeardCell
listed_cells form system es = filter brings_value (filter_map (seen_in every_channel form system) es)

-- Those of an MSM.
pub valued_msm : (v : FormedMsm) {system : System} → system ≡ v.msm.system → valued None (heard every_channel 0 (Msm v)) ≡ listed_cells v.form system (entries (Msm v))
valued_msm v is = ap (λ (s : System). listed_cells v.form s (entries (Msm v))) (sym is)

-- Each cell is of a signal.
no_front : (o : Option HeardCell) → IfSome o (λ y. IsSignal y.signal) → ((g : SignalAt) → IsSignal g → count_of g (filter brings_value (cons_option o [])) ≡ 0) → filter brings_value (cons_option o []) ≡ []
no_front None listed none = refl
no_front (Some y) listed none = grind arith

seen_signal : (form : Form) (system : System) (e : Entry) → IfSome (seen_in every_channel form system e) (λ y. IsSignal y.signal)
seen_signal form system e = grind (arith, common_steps, listed_of)

no_listed : (form : Form) (system : System) (es : List Entry) → ((g : SignalAt) → IsSignal g → count_of g (listed_cells form system es) ≡ 0) → listed_cells form system es ≡ []
no_listed form system [] none = refl
no_listed form system (e ∷ es) none =
    let o = seen_in every_channel form system e in
    let parts : (g : SignalAt) → IsSignal g → count_of g (filter brings_value (cons_option o [])) + count_of g (listed_cells form system es) ≡ 0 = λ g listed.
    sym (count_append g (filter brings_value (cons_option o [])) (listed_cells form system es)) ∙ ap (count_of g) (one_first o (filter_map (seen_in every_channel form system) es)) ∙ none g listed in
    sym (one_first o (filter_map (seen_in every_channel form system) es))
    ∙ ap₂ (λ (a b : List HeardCell). a ++ b) (no_front o (seen_signal form system e) (λ g listed. omega (arith, parts g listed))) (no_listed form system es (λ g listed. omega (arith, parts g listed)))

-- The numbers of all signals.
module _ (system : System) (left counts : List ℕ) (form : Form) (es : List Entry) (none : left ≡ []) (numbers : (i : ℕ) → i < 32 → get_or counts i 0 ≡ value_count (satellite_set system) (i + 1) es) where
  total : (r : SignalAt) → IsSignal r → count_of r (listed_cells form system es) ≡ number system left counts r
  total r listed = all_entries form system es r listed ∙ sym (rw none (last (is_system system r.system))) where
    last : (b : Bool) → (if b && true then get_or counts (id_of r - 1) 0 else 0) ≡ (if b then value_count (satellite_set system) (id_of r) es else 0)
    last true =
        let within = ids_within r listed in
        numbers (id_of r - 1) (omega (arith, within.0, within.1)) ∙ ap (λ (k : ℕ). value_count (satellite_set system) k es) (omega (arith, within.0))
    last false = refl

  pub all_any : (any : Bool) → IsAny system left counts any → any ≡ nat_lt 0 (length (listed_cells form system es))
  all_any true m = sym (lt-ltb 0 (length (listed_cells form system es)) (omega (arith, m.2, total m.0 m.1, few_of m.0 (listed_cells form system es))))
  all_any false zeros = sym (ap (λ (l : List HeardCell). nat_lt 0 (length l)) (no_listed form system es (λ g listed. total g listed ∙ zeros g listed)))

  pub finished : {c c' : SignalCountsValue} → Adds c c' system left counts → (cells : List HeardCell) → length cells + length es < 2 ^ 63 → AreSignalCounts c cells → AreSignalCounts c' (cells ++ listed_cells form system es)
  finished {c} {c'} a cells few h = record {
    size = λ s. a.size s ∙ h.size s;
    past = λ s i out. a.past s i out ∙ h.past s i out;
    each = λ s i listed.
        let r = signal_in s i in
        let start : counted c s i ≡ count_of r cells = h.each s i listed in
        let small : counted c s i < 2 ^ 63 = omega (arith, start, few_of r cells, few) in
        omega (arith, a.each s i listed (h.size s) small, start, count_append r cells (listed_cells form system es), total r listed);
  }
