-- Bounds of the values of epochs.
use Rattle.obs_epoch.proofs.Names.{System, Satellite, satellite_of_id, SignalAt, signal_of_id, nearest_pseudorange, nearest_phase, nearest_doppler, nearest_strength, Entry, Message, Station, Msm, Other, IsMessage, IsMeasured, EntriesAreMeasured, PointsAreInRange, entries, StationValues, weeks, Closed, cells_of, planned_of, most_cells, GatherSetup, Heard, heard, observed, seen_in, lock_by, HeardCell, kept_cell, Timed, timed, timed_after, taken_at, is_of_system, is_planned, offered, firsts_after, firsts, cells_at, has_same_key, times, lli_with, lli_of, has_lost, cells_with_lli, epoch_at, values_after_message, open_after, before_closing, closed_at, closed_list_at, all_epochs, IsHeardCell, IsHeard, IsGathered, same_place, AreGathered, AreStationValues, IsGatheredEpoch, TimesRise, AreGatheredEpochs, KnownLock, Form, ◌≡◌, ℕ, ℤ, pos, ◌+◌, ◌*◌, ◌^◌, ◌<◌, ◌≤◌, ◌≤ℤ◌, Bool, true, false, List, [], ◌∷◌, ◌++◌, filter, ap, arith, Option, Some, None, nat_lt, is_some, unsigned_abs, if◌then◌else◌, flat_map, filter_map, option_map, option_and_then, IfSome, fold, AllByRecursion, IsDistinct, week, most_hertz, AreChannels, ChannelsValue, hertz_in, common_steps, value_tabulated, ◌&&◌, map, subst, sym, with_mark, Choice, Cell, PlanValue, has_phase, mark_if, marked_after, thin_after, all_append, all_filter, all_passed}
use Rattle.std.proofs.ByRecursion.{All-map, All-take, All-weaker}
use Rattle.obs_epoch.proofs.OrderLemmas.{all-sorted, distinct-sorted}
use Rattle.obs_epoch.proofs.NotingLemmas.{kept_distinct}
use Rattle.obs_epoch.proofs.TimesLemmas.{next}

-- ---- properties of each item

-- Each item of a filtered list passes the test.
all_both : {X : Type 0} (P : X → Type 0) (p : X → Bool) (xs : List X) → AllByRecursion P xs → AllByRecursion (λ x. P x × (p x ≡ true)) (filter p xs)
all_both P p [] h = tt
all_both P p (x ∷ xs) h = grind (arith, common_steps, all_both P p xs h.1)

-- ---- the parts of a message

-- The values of measured cells are within their bounds.
pub record AreSizes : Type 0 where
  pub metres : (r : ℤ) → unsigned_abs r ≤ 2 ^ 40 → unsigned_abs (nearest_pseudorange r) < 10 ^ 12
  pub carriers : (channels : ChannelsValue) (satellite : Satellite) (s : SignalAt) → AreChannels channels → IfSome (hertz_in channels satellite s) (λ h. h ≤ most_hertz)
  pub cycles : (h : ℕ) (p : ℤ) → h ≤ most_hertz → unsigned_abs p ≤ 2 ^ 39 → unsigned_abs (nearest_phase h p) < 10 ^ 12
  pub shift : (h : ℕ) (v : ℤ) → h ≤ most_hertz → unsigned_abs v ≤ 10 ^ 8 → unsigned_abs (nearest_doppler h v) < 10 ^ 12
  pub decibels : (s : ℕ) → 0 < s → s < 1024 → (pos 1 ≤ℤ nearest_strength s) × (nearest_strength s ≤ℤ pos 99_999)

mapped : {A B : Type 0} (f : A → B) (P : A → Type 0) (Q : B → Type 0) → ((x : A) → P x → Q (f x)) → (o : Option A) → IfSome o P → IfSome (option_map f o) Q
mapped f P Q h o k = grind arith

seen_given : AreSizes → (channels : ChannelsValue) (form : Form) (system : System) (e : Entry) → AreChannels channels → IsMeasured e → IfSome (seen_in channels form system e) IsHeardCell
seen_given z channels form system e valid h = by (satellite_of_id system e.satellite) (signal_of_id system e.signal) where
  by : (a : Option Satellite) (b : Option SignalAt) → IfSome (option_and_then (λ satellite. option_map (observed channels (lock_by form e.lock) e satellite) b) a) IsHeardCell
  by None b = tt
  by (Some satellite) None = tt
  by (Some satellite) (Some signal) = grind (arith, common_steps, mapped)

cells_given : AreSizes → (channels : ChannelsValue) (form : Form) (system : System) (es : List Entry) → AreChannels channels → AllByRecursion IsMeasured es
    → AllByRecursion IsHeardCell (filter_map (seen_in channels form system) es)
cells_given z channels form system [] valid h = tt
cells_given z channels form system (e ∷ es) valid h = grind (arith, seen_given z channels form system e valid h.0, cells_given z channels form system es valid h.1)

pub message_heard : AreSizes → EntriesAreMeasured → PointsAreInRange → (channels : ChannelsValue) (leap : ℕ) (m : Message) → AreChannels channels → IsMessage m → IsHeard (heard channels leap m)
message_heard z all points channels leap (Station p) v h = record { cells = tt; point = points p h }
message_heard z all points channels leap (Msm m) v h = record { cells = cells_given z channels m.form _ (entries (Msm m)) v (all (Msm m)); point = tt }
message_heard z all points channels leap (Other n set) v h = record { cells = tt; point = tt }

-- ---- times

abbrev pub IsWithin : ℕ → Type 0
IsWithin t = t < weeks * week

-- A decoded message, and one whose time is within the weeks if it was accepted.
abbrev IsTimed : Timed → Type 0
IsTimed x = IsHeard x.message

abbrev IsInTime : Timed → Type 0
IsInTime x = IfSome x.time IsWithin

taken_within : (s : GatherSetup) (earlier : List Timed) (m : Heard) → IfSome (taken_at s earlier m) IsWithin
taken_within s earlier m = grind (arith, common_steps)

timed_more : (s : GatherSetup) (earlier : List Timed) (ms : List Heard) → AllByRecursion IsTimed earlier → AllByRecursion IsHeard ms → AllByRecursion IsTimed (timed_after s earlier ms)
timed_more s earlier [] h k = h
timed_more s earlier (m ∷ ms) h k = timed_more s (earlier ++ next s earlier m ∷ []) ms (all_append IsTimed earlier (next s earlier m ∷ []) h (k.0, tt)) k.1

timed_within : (s : GatherSetup) (earlier : List Timed) (ms : List Heard) → AllByRecursion IsInTime earlier → AllByRecursion IsInTime (timed_after s earlier ms)
timed_within s earlier [] h = h
timed_within s earlier (m ∷ ms) h = grind (arith, timed_within s (earlier ++ next s earlier m ∷ []) ms (all_append IsInTime earlier (next s earlier m ∷ []) h (taken_within s earlier m, tt)))

-- Each is less than all after it.
abbrev Rise : List ℕ → Type 0
Rise [] = Unit {0}
Rise (t ∷ ts) = AllByRecursion (λ u. t < u) ts × Rise ts

rise_filter : (p : ℕ → Bool) (ts : List ℕ) → Rise ts → Rise (filter p ts)
rise_filter p [] h = tt
rise_filter p (t ∷ ts) h = grind (arith, common_steps, all_filter, rise_filter p ts h.1)

all_less : (t : ℕ) (ts : List ℕ) → AllByRecursion (λ u. t < u) (filter (λ u. nat_lt t u) ts)
all_less t ts = all_passed (λ u. t < u) (λ u. nat_lt t u) (λ u e. grind (arith, common_steps, e)) ts

times_rise : (xs : List Timed) → Rise (times xs)
times_rise [] = tt
times_rise (x ∷ xs) = grind (arith, common_steps, all_less, rise_filter, times_rise xs)

times_within : (xs : List Timed) → AllByRecursion IsInTime xs → AllByRecursion IsWithin (times xs)
times_within [] h = tt
times_within (x ∷ xs) h = grind (arith, common_steps, all_filter, times_within xs h.1)

pub all_within : (s : GatherSetup) (ms : List Heard) → AllByRecursion IsWithin (times (timed s ms))
all_within s ms = times_within (timed s ms) (timed_within s [] ms tt)

-- ---- cells

-- A planned cell of a decoded message.
abbrev IsOffered : GatherSetup → HeardCell → Type 0
IsOffered s x = IsHeardCell x × (is_planned s x ≡ true)

all_offered : (s : GatherSetup) (xs : List Timed) → AllByRecursion IsTimed xs → AllByRecursion (IsOffered s) (flat_map (λ (x : Timed). filter (is_planned s) x.message.cells) xs)
all_offered s [] h = tt
all_offered s (x ∷ xs) h = all_append (IsOffered s) (filter (is_planned s) x.message.cells) _ (all_both IsHeardCell (is_planned s) x.message.cells h.0.cells) (all_offered s xs h.1)

all_firsts : (P : HeardCell → Type 0) (earlier xs : List HeardCell) → AllByRecursion P xs → AllByRecursion P (firsts_after earlier xs)
all_firsts P earlier [] h = tt
all_firsts P earlier (x ∷ xs) h = grind (arith, common_steps, all_firsts P (earlier ++ x ∷ []) xs h.1)

-- The same, of a system.
abbrev IsKept : GatherSetup → System → HeardCell → Type 0
IsKept s system x = IsOffered s x × (is_of_system system x ≡ true)

all_kept : (s : GatherSetup) (t : ℕ) (xs : List Timed) (system : System) → AllByRecursion IsTimed xs → AllByRecursion (IsKept s system) (cells_at s t xs system)
all_kept s t xs system h = grind (arith, all-sorted, All-take, all_both, all_firsts, all_offered, all_filter, All-take (IsKept s system) most_cells (filter (is_of_system system) (firsts (offered s t xs))))

small_lli : (t : ℕ) (x : HeardCell) (before : Option KnownLock) → lli_with t x before < 4
small_lli t x before = grind (arith, common_steps)

no_lli : (t : ℕ) (x : HeardCell) (before : Option KnownLock) → x.l ≡ None → lli_with t x before ≡ 0
no_lli t x before e = ap (λ (o : Option ℤ). if is_some o then (if has_lost t x before then 1 else 0) + (if x.half_cycle then 2 else 0) else 0) e

gathered : (s : GatherSetup) (system : System) (x : HeardCell) (lli : ℕ) → IsKept s system x → lli < 4 → (x.l ≡ None → lli ≡ 0)
    → IsGathered system (planned_of system s.plan) (kept_cell x lli)
gathered s system x lli h few none = grind (arith, common_steps)

each_gathered : (s : GatherSetup) (xs : List Timed) (t : ℕ) (system : System) (cs : List HeardCell) → AllByRecursion (IsKept s system) cs
    → AllByRecursion (IsGathered system (planned_of system s.plan)) ((cells_with_lli s xs t cs))
each_gathered s xs t system [] h = tt
each_gathered s xs t system (c ∷ cs) h = grind (arith, common_steps, gathered, small_lli, no_lli, each_gathered s xs t system cs h.1)

places_apart : (s : GatherSetup) (xs : List Timed) (t : ℕ) (system : System) (cs : List HeardCell) → AllByRecursion (IsKept s system) cs → IsDistinct has_same_key cs
    → IsDistinct same_place ((cells_with_lli s xs t cs))
unfolding IsDistinct
places_apart s xs t system [] h d = tt
places_apart s xs t system (c ∷ cs) h d = (all_other cs h.1 d.0, places_apart s xs t system cs h.1 d.1) where
  all_other : (ys : List HeardCell) → AllByRecursion (IsKept s system) ys → AllByRecursion (λ y. has_same_key c y ≡ false) ys
      → AllByRecursion (λ y. same_place (kept_cell c (lli_of s xs t c)) y ≡ false) (cells_with_lli s xs t ys)
  all_other [] k other = tt
  all_other (y ∷ ys) k other = (grind (arith, common_steps), all_other ys k.1 other.1)

cells_gathered : (s : GatherSetup) (xs : List Timed) (t : ℕ) (system : System) → AllByRecursion IsTimed xs
    → AreGathered system (planned_of system s.plan) ((cells_with_lli s xs t (cells_at s t xs system)))
cells_gathered s xs t system h = grind (arith, common_steps, all_kept, each_gathered, places_apart, distinct-sorted, kept_distinct)

gathered_at : (s : GatherSetup) (xs : List Timed) (t : ℕ) → AllByRecursion IsTimed xs → (system : System) → AreGathered system (planned_of system s.plan) (cells_of system ((epoch_at s xs t)))
gathered_at s xs t h system = subst (AreGathered system (planned_of system s.plan)) (sym (value_tabulated system (λ c. cells_with_lli s xs t (cells_at s t xs c)))) (cells_gathered s xs t system h)

-- ---- station values

values_in_range : (s : GatherSetup) (v : StationValues) (m : Heard) → IsHeard m → AreStationValues v → AreStationValues (values_after_message s v m)
values_in_range s v m k h = grind (arith, common_steps)

values_from : (s : GatherSetup) (v : StationValues) (ms : List Heard) → AllByRecursion IsHeard ms → AreStationValues v → AreStationValues (fold (values_after_message s) v ms)
values_from s v [] k h = h
values_from s v (m ∷ ms) k h = values_from s (values_after_message s v m) ms k.1 (values_in_range s v m k.0 h)

open_heard : (s : GatherSetup) (t : ℕ) (earlier ms : List Heard) → AllByRecursion IsHeard earlier → AllByRecursion IsHeard ms → AllByRecursion IsHeard (open_after s t earlier ms)
open_heard s t earlier [] h k = h
open_heard s t earlier (m ∷ ms) h k = grind (arith, open_heard s t (earlier ++ m ∷ []) ms (all_append IsHeard earlier (m ∷ []) h (k.0, tt)) k.1)

-- ---- epochs

each_epoch : (s : GatherSetup) (ms : List Heard) (ts : List ℕ) → AreStationValues s.initial → AllByRecursion IsHeard ms → AllByRecursion IsWithin ts → AllByRecursion (IsGatheredEpoch s.plan) (closed_list_at s ms ts)
each_epoch s ms [] v h w = tt
each_epoch s ms (t ∷ ts) v h w = grind (arith, gathered_at s (timed s ms) t (timed_more s [] ms tt h), values_from s s.initial (before_closing s t ms) (open_heard s t [] ms tt h) v, each_epoch s ms ts v h w.1)

epochs_rise : (s : GatherSetup) (ms : List Heard) (ts : List ℕ) → Rise ts → TimesRise (closed_list_at s ms ts)
epochs_rise s ms [] h = tt
epochs_rise s ms (t ∷ ts) h = (All-map (λ (f : Closed). t < f.epoch.time) (closed_at s ms) ts h.0, epochs_rise s ms ts h.1)

-- ---- the chosen ones, marked

mark_gathered : (lost : Cell → Bool) (system : System) (signals : List ℕ) (x : Cell) → IsGathered system signals x → IsGathered system signals (mark_if lost x)
mark_gathered lost system signals x h = grind arith

marks_gathered : (lost : Cell → Bool) (system : System) (signals : List ℕ) (xs : List Cell) → AllByRecursion (IsGathered system signals) xs → AllByRecursion (IsGathered system signals) (map (mark_if lost) xs)
marks_gathered lost system signals xs h = All-map (IsGathered system signals) (mark_if lost) xs (All-weaker (IsGathered system signals) (λ x. IsGathered system signals (mark_if lost x)) (mark_gathered lost system signals) xs h)

marks_apart : (lost : Cell → Bool) (xs : List Cell) → IsDistinct same_place xs → IsDistinct same_place (map (mark_if lost) xs)
unfolding IsDistinct
marks_apart lost [] d = tt
marks_apart lost (x ∷ xs) d = (others (has_phase x && lost x) xs d.0, marks_apart lost xs d.1) where
  one : (a b : Bool) (y : Cell) → same_place x y ≡ false → same_place (if a then with_mark x else x) (if b then with_mark y else y) ≡ false
  one a b y e = grind arith

  others : (a : Bool) (ys : List Cell) → AllByRecursion (λ y. same_place x y ≡ false) ys → AllByRecursion (λ y. same_place (if a then with_mark x else x) y ≡ false) (map (mark_if lost) ys)
  others a [] h = tt
  others a (y ∷ ys) h = (one a (has_phase y && lost y) y h.0, others a ys h.1)

epoch_marked : (plan : PlanValue) (c : Choice) (earlier : List Closed) (e : Closed) → IsGatheredEpoch plan e → IsGatheredEpoch plan (marked_after c earlier e)
epoch_marked plan c earlier e h = grind (arith, marks_gathered, marks_apart)

thin_each : (plan : PlanValue) (c : Choice) (earlier es : List Closed) → AllByRecursion (IsGatheredEpoch plan) es → AllByRecursion (IsGatheredEpoch plan) (thin_after c earlier es)
thin_each plan c earlier [] h = tt
thin_each plan c earlier (e ∷ es) h = grind (arith, epoch_marked plan c earlier e h.0, thin_each plan c (earlier ++ e ∷ []) es h.1)

thin_later : (t : ℕ) (c : Choice) (earlier es : List Closed) → AllByRecursion (λ (f : Closed). t < f.epoch.time) es → AllByRecursion (λ (f : Closed). t < f.epoch.time) (thin_after c earlier es)
thin_later t c earlier [] h = tt
thin_later t c earlier (e ∷ es) h = grind (arith, thin_later t c (earlier ++ e ∷ []) es h.1)

thin_rise : (c : Choice) (earlier es : List Closed) → TimesRise es → TimesRise (thin_after c earlier es)
thin_rise c earlier [] h = tt
thin_rise c earlier (e ∷ es) h = grind (arith, thin_later e.epoch.time c (earlier ++ e ∷ []) es h.0, thin_rise c (earlier ++ e ∷ []) es h.1)

pub epochs_gathered : (s : GatherSetup) (ms : List Heard) → AreStationValues s.initial → AllByRecursion IsHeard ms → AreGatheredEpochs s.plan (all_epochs s ms)
epochs_gathered s ms v h = grind (arith, common_steps, each_epoch, all_within, epochs_rise, times_rise, thin_each, thin_rise)
