-- The systems by their indices, and the values of one system after a change of another's.
use Rattle.std.proofs.Common.{ℕ, ◌≡◌, ◌+◌, ◌<◌, ◌==◌, Bool, true, false, true≢false, List, [], ◌∷◌, ◌++◌, length, get_or, refl, sym, ap, ◌∙◌, arith}
use Rattle.std.specs.List.{list_all, list_any, sum_by}
use Rattle.std.specs.Option.{option_map_or}
use Rattle.std.specs.Prelude.{suc, ◌≤◌, find, Option, Some, take, nat_lt, if◌then◌else◌}
use Rattle.std.proofs.lemmas.List.Sums.{sum_by-cons, sum_by-le-sum_by}
use Rattle.gnss_system.proofs.CheckedLaws.{passes_at}
use Rattle.std.proofs.lemmas.Grind.{common_steps}
use Rattle.gnss_system.specs.declared.system.System.{System}
use Rattle.gnss_system.specs.declared.system.System.TheVariants.{Gps, Galileo, Glonass, Beidou, Qzss, Sbas}
use Rattle.gnss_system.specs.declared.by_system.BySystem.{BySystem}
use Rattle.gnss_system.specs.Satellites.{letter, system_of_letter}
use Rattle.gnss_system.specs.Systems.{systems, index_of, is_system, before, after}
use Rattle.gnss_system.specs.SystemValues.{value_of, with_value_of, tabulate, map_by}
use Rattle.std.proofs.lemmas.Bool.{eqb-true}
use Rattle.gnss_system.specs.Signals.{SignalAt, IsSignal, most_signals, signal_of_id, table}

-- ---- indices

-- The system at an index, GPS past the last.
abbrev pub system_at : ℕ → System
system_at i = get_or systems i Gps

pub system_back : (s : System) → system_at (index_of s) ≡ s
system_back s = grind (arith, common_steps)

pub index_less : (s : System) → index_of s < length systems
index_less s = grind (arith, common_steps)

pub equal_indices : (a b : System) → index_of a ≡ index_of b → a ≡ b
equal_indices a b e = sym (system_back a) ∙ ap system_at e ∙ system_back b

pub system_same : (a b : System) → is_system a b ≡ true → a ≡ b
system_same a b h = equal_indices a b (grind (arith, h))

pub system_self : (a b : System) → a ≡ b → is_system a b ≡ true
system_self a b e = grind (arith, common_steps)

pub each_system : (p : System → Bool) (s : System) → list_all p systems ≡ true → p s ≡ true
each_system p s h = grind (arith, common_steps, h)

-- A search finds a system if its outcome is that system for each of them.
pub found_same : (o : Option System) (s : System) → option_map_or (λ t. is_system t s) o false ≡ true → o ≡ Some s
found_same o s h = grind (arith, system_same)

pub letter_back : (s : System) → system_of_letter (letter s) ≡ Some s
letter_back s = found_same _ s (each_system (λ s. option_map_or (λ t. is_system t s) (system_of_letter (letter s)) false) s refl)

found_passes : (p : System → Bool) (ss : List System) (s : System) → find p ss ≡ Some s → p s ≡ true
found_passes p [] s h = cc
found_passes p (t ∷ ss) s h = grind (arith, common_steps, found_passes p ss s)

pub letter_found : (byte : ℕ) (s : System) → system_of_letter byte ≡ Some s → letter s ≡ byte
letter_found byte s h = eqb-true _ _ (found_passes (λ s. letter s == byte) systems s h)

-- ---- what is true of all

pub one_any : (p : System → Bool) (s : System) → p s ≡ true → list_any p systems ≡ true
one_any p s h = grind (arith, common_steps, h)

pub none_any : (p : System → Bool) → list_any p systems ≡ false → (s : System) → p s ≡ false
none_any p none s = grind (arith, common_steps)

pub any_none : (p : System → Bool) → ((s : System) → p s ≡ false) → (ss : List System) → list_any p ss ≡ false
any_none p each [] = refl
any_none p each (s ∷ ss) = rw (each s, any_none p each ss) refl

pub some_system : (p : System → Bool) (ss : List System) → list_any p ss ≡ true → (s : System) × (p s ≡ true)
some_system p [] h = absurd (true≢false (sym h))
some_system p (s ∷ ss) h = grind (arith, common_steps, some_system p ss)

-- ---- values

pub value_after : {A : Type 0} (s : System) (values : BySystem A) (x : A) → value_of s (with_value_of s values x) ≡ x
value_after s values x = grind (arith, common_steps)

pub value_of_other : {A : Type 0} (s t : System) (values : BySystem A) (x : A) → is_system s t ≡ false → value_of t (with_value_of s values x) ≡ value_of t values
value_of_other s t values x h = grind (arith, common_steps)

pub value_tabulated : {A : Type 0} (s : System) (f : System → A) → value_of s (tabulate f) ≡ f s
value_tabulated s f = grind (arith, common_steps)

-- Equal for each system.
pub equal_values : {A : Type 0} (a b : BySystem A) → ((s : System) → value_of s a ≡ value_of s b) → a ≡ b
equal_values a b h = λ i. record { gps = h Gps i; galileo = h Galileo i; glonass = h Glonass i; beidou = h Beidou i; qzss = h Qzss i; sbas = h Sbas i }

pub is_tabulated : {A : Type 0} (values : BySystem A) (f : System → A) → ((s : System) → value_of s values ≡ f s) → values ≡ tabulate f
is_tabulated values f each = equal_values values (tabulate f) (λ s. each s ∙ sym (value_tabulated s f))

pub tabulated_same : {A : Type 0} (f g : System → A) → ((s : System) → f s ≡ g s) → tabulate f ≡ tabulate g
tabulated_same f g same = is_tabulated (tabulate f) g (λ s. value_tabulated s f ∙ same s)

pub value_mapped : {A B : Type 0} (s : System) (f : A → B) (values : BySystem A) → value_of s (map_by f values) ≡ f (value_of s values)
value_mapped s f values = value_tabulated s (λ t. f (value_of t values))

-- The values mapped after a change.
pub mapped_after : {A B : Type 0} (f : A → B) (s : System) (values : BySystem A) (x : A) → map_by f (with_value_of s values x) ≡ with_value_of s (map_by f values) (f x)
mapped_after f s values x = grind (arith, common_steps)

-- ---- the systems split at one

pub systems_split : (s : System) → systems ≡ before s ++ s ∷ after s
systems_split s = grind (arith, common_steps)

pub systems_taken : (n : ℕ) (s : System) → index_of s ≡ n → take (n + 1) systems ≡ take n systems ++ s ∷ []
systems_taken n s at = grind (arith, common_steps)

-- Setting a value to what it is changes nothing.
pub with_same : {A : Type 0} (s : System) (values : BySystem A) → with_value_of s values (value_of s values) ≡ values
with_same s values = grind (arith, common_steps)

-- ---- a change of the value of a system

pub each_after : {A : Type 0} (P : System → A → Type 0) (s : System) (values : BySystem A) (x : A) → ((t : System) → P t (value_of t values)) → P s x → (t : System) → P t (value_of t (with_value_of s values x))
each_after P s values x each own t = grind (arith, common_steps)

-- ---- what is true of the systems below an index

abbrev pub Below : (System → Type 0) → ℕ → Type 0
Below P n = (t : System) → index_of t < n → P t

pub below_next : (P : System → Type 0) (n : ℕ) (s : System) → index_of s ≡ n → Below P n → P s → Below P (n + 1)
below_next P n s at below own t less = grind (arith, common_steps)

pub below_all : (P : System → Type 0) (n : ℕ) → length systems ≤ n → Below P n → (t : System) → P t
below_all P n enough below t = let less = index_less t in below t (omega (arith, less, enough))

pub index_back : (n : ℕ) → n < length systems → index_of (system_at n) ≡ n
index_back n less = eqb-true _ _ (passes_at (λ n. index_of (system_at n) == n) (length systems) n refl less)

pub not_all : (p : System → Bool) (s : System) → p s ≡ false → list_all p systems ≡ false
not_all p s not_own = grind (arith, common_steps)

-- ---- a loop over the systems that changes the value of each: P of those passed, Q of the others

abbrev pub Passed : {A : Type 0} → (System → A → Type 0) → (System → A → Type 0) → BySystem A → ℕ → Type 0
Passed P Q values n = ((t : System) → index_of t < n → P t (value_of t values)) × ((t : System) → n ≤ index_of t → Q t (value_of t values))

pub passed_all : {A : Type 0} (P Q : System → A → Type 0) (values : BySystem A) (n : ℕ) → length systems ≤ n → Passed P Q values n → (t : System) → P t (value_of t values)
passed_all P Q values n enough h t = let less = index_less t in h.0 t (omega (arith, less, enough))

-- ---- sums

pub sum_none : (f : System → ℕ) → ((t : System) → f t ≡ 0) → nat_lt 0 (sum_by f systems) ≡ false
sum_none f each = grind (arith, common_steps)

pub sum_some : (f : System → ℕ) (s : System) → nat_lt 0 (f s) ≡ true → nat_lt 0 (sum_by f systems) ≡ true
sum_some f s some = grind (arith, common_steps)

sum_parts : (f g h : System → ℕ) → ((t : System) → g t ≡ f t + h t) → (ss : List System) → sum_by g ss ≡ sum_by f ss + sum_by h ss
sum_parts f g h each [] = refl
sum_parts f g h each (t ∷ ss) = grind (arith, common_steps, sum_by-cons, sum_parts f g h each ss)

one_of_all : (s : System) (d : ℕ) → sum_by (λ t. if is_system s t then d else 0) systems ≡ d
one_of_all s d = grind (arith, common_steps)

-- A sum after the part of one system has grown.
pub sum_grown : (f g : System → ℕ) (s : System) (d : ℕ) → ((t : System) → g t ≡ f t + (if is_system s t then d else 0)) → sum_by g systems ≡ sum_by f systems + d
sum_grown f g s d each = sum_parts f g (λ t. if is_system s t then d else 0) each systems ∙ ap (λ n. sum_by f systems + n) (one_of_all s d)

pub sum_at_most : (f g : System → ℕ) → ((t : System) → f t ≤ g t) → (ss : List System) → sum_by f ss ≤ sum_by g ss
sum_at_most f g each ss = sum_by-le-sum_by f g ss each

-- A sum is smaller if no part is greater, and that of one system is smaller.
pub sum_less : (f g : System → ℕ) (s : System) → ((t : System) → f t + (if is_system s t then 1 else 0) ≤ g t) → suc (sum_by f systems) ≤ sum_by g systems
sum_less f g s each = grind (arith, common_steps)

pub any_system : (s : System) → list_any (is_system s) systems ≡ true
any_system s = grind (arith, common_steps)

-- ---- tables of signals

pub short_table : (system : System) → length (table system) ≤ most_signals
short_table system = grind (arith, common_steps)

pub listed_of : (system : System) (id : ℕ) (g : SignalAt) → signal_of_id system id ≡ Some g → (g.system ≡ system) × IsSignal g
listed_of system id g h = grind (arith, common_steps)
