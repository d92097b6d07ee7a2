-- The whole step: a property of the list before holds for the list after one more message.
use Rattle.obs_epoch.proofs.Names.{◌≡◌, ℕ, Bool, true, false, not, ◌||◌, ◌&&◌, List, [], ◌∷◌, ◌++◌, refl, sym, ap, ap₂, ◌∙◌, subst, arith, append-nil, Option, Some, None, is_some, length, ◌⊎◌, if◌then◌else◌, option_to_list, fold-append, Message, CloseFirst, CellCounts, GatherSetup, Heard, heard_by, is_own, ends_epoch, HeardCell, Timed, greatest_time, taken_at, timed, no_counts, with_skipped, offered, counts_of, counts_of_message, epoch_at, closed_so_far, closed_times, values_of, values_after_message, State, HasHeardMessages, is_pending, closes_first, is_close_first, is_accepted, kind_after, with_unlisted, GathererValue, Loaded, empty_epoch, noted, load, loaded_if, loaded_where, outcome_in, load_one, with_time, begun_by, closed_if, closed_noted, epoch_begun, shut_where, ended_where, open_by, take_step, end_step, is_same, KnownLock, held_at, Locked, HasTakenMessages, EpochValue, cells_of, option_map_or, HasAsManyCells, kind_by, step_by, closed_time, closed_of, common_steps}
use Rattle.obs_epoch.proofs.TimesLemmas.{next, timed-push}
use Rattle.obs_epoch.proofs.ClockLemmas.{standing, takes, closes, new_time}
use Rattle.obs_epoch.proofs.ClosedLemmas.{taken_follows}
use Rattle.obs_epoch.proofs.ClosingLemmas.{accepted, closing, refused}
use Rattle.obs_epoch.proofs.CountsLemmas.{counts_are}
use Rattle.obs_epoch.proofs.HeardLemmas.{heard_step, same_itself}
use Rattle.obs_epoch.proofs.LoadLemmas.{hold_is}
use Rattle.obs_epoch.proofs.NotingLemmas.{noted_locked}
use Rattle.obs_epoch.proofs.OneStepLemmas.{locked-push, closed_later, loaded_taken, held_same}

pub clock_is : (g : State) (s : GatherSetup) (ms : List Heard) (shut : Bool) → HasHeardMessages g s ms shut → g ≡ standing s (timed s ms) shut
clock_is g s ms shut h = grind (arith, common_steps)

pub clock_has_heard : (g : State) (s : GatherSetup) (ms : List Heard) (xs : List Timed) (shut : Bool) → timed s ms ≡ xs → g ≡ standing s xs shut → HasHeardMessages g s ms shut
clock_has_heard g s ms xs shut same e = grind (arith, common_steps)

-- The epoch is this one while it is pending, and when it is closed; afterwards it has as many cells.
pub record HasHeld (g : GathererValue) (held : EpochValue) (o : Option ℕ) : Type 0 where
  pub pending : g.clock.pending ≡ true → g.epoch ≡ held
  pub closing : is_some o ≡ true → g.epoch ≡ held
  pub sizes : HasAsManyCells g.epoch held

just_held : (g : GathererValue) (held : EpochValue) (o : Option ℕ) → g.epoch ≡ held → HasHeld g held o
just_held g held o e = record { pending = λ _. e; closing = λ _. e; sizes = λ system. ap (λ (v : EpochValue). length (cells_of system v)) e }

-- Before the closing of the epoch of time o.
pub record Mid (g : GathererValue) (s : GatherSetup) (ms : List Heard) (shut : Bool) (ts : List ℕ) (o : Option ℕ) : Type 0 where
  pub clock : HasHeardMessages g.clock s ms shut
  pub held : HasHeld g (held_at s (timed s ms)) o
  pub locks : Locked g s (timed s ms) ts
  pub values : g.values ≡ values_of s ms

-- After the closing.
pub assemble : {g : GathererValue} {s : GatherSetup} {ms : List Heard} {shut : Bool} {ts : List ℕ} (o : Option ℕ) → Mid g s ms shut ts o
    → ((t : ℕ) → o ≡ Some t → greatest_time (timed s ms) ≡ Some t) → closed_so_far s (timed s ms) shut ≡ ts ++ option_to_list o
    → HasTakenMessages (if is_some o then noted g else g) s ms shut
assemble {g} {s} {ms} None h at closed = grind (arith, append-nil)
assemble {g} {s} {ms} {ts} (Some t) h at closed = record {
  clock = h.clock;
  epoch = h.held.pending;
  sizes = h.held.sizes;
  locks = subst (Locked (noted g) s (timed s ms)) (sym closed)
      (noted_locked g s (timed s ms) ts t (h.held.closing refl ∙ ap (λ o. option_map_or (epoch_at s (timed s ms)) o (empty_epoch 0)) (at t refl)) h.locks);
  values = h.values;
}

pub not_first : (s : GatherSetup) (xs : List Timed) (n : CellCounts) (m : Heard) → is_close_first (kind_after s xs n m) ≡ false
not_first s xs n m = grind (arith, common_steps)

-- The value before the closing, and the counts.
pub record Reached (l : Loaded) (s : GatherSetup) (ms : List Heard) (m : Heard) (shut : Bool) (o : Option ℕ) : Type 0 where
  pub mid : Mid l.state s (ms ++ m ∷ []) false (closed_so_far s (timed s ms) shut) o
  pub counts : l.counts ≡ counts_of_message s (timed s ms) m

pending_before : (g : State) (m : Heard) → is_close_first (kind_by g no_counts m) ≡ false → is_accepted (kind_by g no_counts m) ≡ false → is_some (closed_time g m) ≡ true → g.pending ≡ true
pending_before g m other untaken p = grind (arith, common_steps, other, untaken, p)

reached : (g : GathererValue) (s : GatherSetup) (ms : List Heard) (m : Heard) (shut : Bool) → HasTakenMessages g s ms shut → closes_first s (timed s ms) m ≡ shut
    → Reached (loaded_if (is_accepted (kind_by g.clock no_counts m)) g.clock.latest (with_time g m) m) s ms m shut (closed_time g.clock m)
reached g s ms m shut h early = by (taken_at s xs m) refl where
  xs : List Timed
  xs = timed s ms

  same : timed s (ms ++ m ∷ []) ≡ xs ++ next s xs m ∷ []
  same = timed-push s ms m

  was : g.clock ≡ standing s xs shut
  was = clock_is g.clock s ms shut h.clock

  now : (with_time g m).clock ≡ standing s (xs ++ next s xs m ∷ []) false
  now = ap (λ c. step_by c m) was ∙ (takes s xs no_counts m shut early).1

  kind : kind_by g.clock no_counts m ≡ kind_after s xs no_counts m
  kind = ap (λ c. kind_by c no_counts m) was ∙ (takes s xs no_counts m shut early).0

  values : (with_time g m).values ≡ values_of s (ms ++ m ∷ [])
  values = ap₂ (λ c v. values_after_message c v m) h.clock.setup h.values ∙ sym (fold-append (values_after_message s) s.initial ms (m ∷ []))

  locks : Locked (with_time g m) s (xs ++ next s xs m ∷ []) (closed_so_far s xs shut)
  locks =
      let l = locked-push g s xs (next s xs m) (closed_so_far s xs shut) (closed_later s xs m shut early) h.locks in
      record { found = l.found; tracks = l.tracks }

  before : Locked (with_time g m) s xs (closed_so_far s xs shut)
  before = record { found = h.locks.found; tracks = h.locks.tracks }

  moved : (v : GathererValue) → v.clock ≡ standing s (xs ++ next s xs m ∷ []) false → HasHeld v (held_at s (xs ++ next s xs m ∷ [])) (closed_time g.clock m)
      → Locked v s (xs ++ next s xs m ∷ []) (closed_so_far s xs shut) → v.values ≡ values_of s (ms ++ m ∷ []) → Mid v s (ms ++ m ∷ []) false (closed_so_far s xs shut) (closed_time g.clock m)
  moved v a b c d = grind (arith, clock_has_heard, values, same, xs, locks)

  by : (o : Option ℕ) → taken_at s xs m ≡ o → Reached (loaded_if (is_accepted (kind_by g.clock no_counts m)) g.clock.latest (with_time g m) m) s ms m shut (closed_time g.clock m)
  by None none =
      let not_taken = ap is_accepted kind ∙ (refused s xs no_counts m none).1 in
      let not_early = ap is_close_first kind ∙ (refused s xs no_counts m none).0 in
      let still : HasHeld (with_time g m) (held_at s (xs ++ next s xs m ∷ [])) (closed_time g.clock m) = record {
        pending = λ p. h.epoch (grind (arith, common_steps, not_taken, p)) ∙ sym (held_same s xs m none);
        closing = λ p. h.epoch (pending_before g.clock m not_early not_taken p) ∙ sym (held_same s xs m none);
        sizes = λ system. h.sizes system ∙ ap (λ (v : EpochValue). length (cells_of system v)) (sym (held_same s xs m none));
      } in
      let is = ap (λ b. loaded_if b g.clock.latest (with_time g m) m) (ap is_accepted kind ∙ (refused s xs no_counts m none).1) in
      subst (λ l. Reached l s ms m shut (closed_time g.clock m)) (sym is) (record {
        mid = moved (with_time g m) now still locks values;
        counts = ap (λ o. option_map_or (λ u. with_skipped m.unlisted (counts_of s (offered s u xs) m.cells)) o no_counts) (sym none);
      })
  by (Some u) some =
      let new = new_time s xs (next s xs m) u some (taken_follows s xs m u some) in
      let latest : g.clock.latest ≡ greatest_time xs = ap (λ (c : State). c.latest) was in
      let is = ap₂ (λ b o. loaded_if b o (with_time g m) m) (ap is_accepted kind ∙ (accepted s xs no_counts m u some).1) latest
      ∙ ap (with_unlisted m.unlisted) (loaded_taken m some early (λ p. h.epoch (h.clock.pending ∙ p)) before now) in
      subst (λ l. Reached l s ms m shut (closed_time g.clock m)) (sym is) (record {
        mid = moved (record (with_time g m) { epoch = epoch_at s (xs ++ next s xs m ∷ []) u }) now
            (just_held _ _ (closed_time g.clock m) (ap (λ o. option_map_or (epoch_at s (xs ++ next s xs m ∷ [])) o (empty_epoch 0)) (sym new.0))) (record { found = locks.found; tracks = locks.tracks }) values;
        counts = ap (with_skipped m.unlisted) (counts_are s (offered s u xs) m.cells) ∙ ap (λ o. option_map_or (λ v. with_skipped m.unlisted (counts_of s (offered s v xs) m.cells)) o no_counts) (sym some);
      })

-- The times of the closed epochs grow by that of the epoch that the step closes.
pub times_taken : (g : GathererValue) (s : GatherSetup) (ms : List Heard) (m : Heard) (shut : Bool) → HasTakenMessages g s ms shut → closes_first s (timed s ms) m ≡ shut
    → closed_so_far s (timed s (ms ++ m ∷ [])) false ≡ closed_so_far s (timed s ms) shut ++ option_to_list (closed_time g.clock m)
times_taken g s ms m shut h early = grind (arith, common_steps, timed-push, closing, clock_is)

-- That time is the greatest then.
pub time_taken : {g : GathererValue} {s : GatherSetup} {ms : List Heard} (m : Heard) {shut : Bool} → HasTakenMessages g s ms shut → closes_first s (timed s ms) m ≡ shut
    → (t : ℕ) → closed_time g.clock m ≡ Some t → greatest_time (timed s (ms ++ m ∷ [])) ≡ Some t
time_taken {g} {s} {ms} m {shut} h early t e = grind (arith, takes s (timed s ms) no_counts m shut early, timed-push s ms m, not_first s (timed s ms) no_counts m)

pub record Taken (g : GathererValue) (s : GatherSetup) (ms : List Heard) (m : Heard) (shut : Bool) : Type 0 where
  pub kind : (n : CellCounts) → kind_by g.clock n m ≡ kind_after s (timed s ms) n m
  pub counts : (take_step g m).counts ≡ counts_of_message s (timed s ms) m
  pub after : HasTakenMessages (take_step g m).state s (ms ++ m ∷ []) false
  pub closed : is_some (closed_time g.clock m) ≡ true → (take_step g m).state.epoch ≡ held_at s (timed s (ms ++ m ∷ []))

-- A message is processed.
pub taken : (g : GathererValue) (s : GatherSetup) (ms : List Heard) (m : Heard) (shut : Bool) → HasTakenMessages g s ms shut → closes_first s (timed s ms) m ≡ shut → Taken g s ms m shut
taken g s ms m shut h early = grind (arith, common_steps, reached g s ms m shut h early, assemble (closed_time g.clock m) (reached g s ms m shut h early).mid (time_taken m h early) (times_taken g s ms m shut h early))

-- A message with a point has neither a time nor a multiple message bit.
abbrev pub IsSet : Heard → Type 0
IsSet m = (m.point ≡ None) ⊎ ((m.tow ≡ None) × (m.more ≡ None))

pub given_alone : (s : GatherSetup) (m : Message) → IsSet (heard_by s m)
given_alone s m = grind arith

pub no_point_given : (g : State) (m : Heard) (t : ℕ) → IsSet m → closed_time g m ≡ Some t → m.point ≡ None
no_point_given g m t h0 e = grind arith

-- A message without a point doesn't change the station values.
pub same_values : (s : GatherSetup) (ms : List Heard) (m : Heard) → m.point ≡ None → values_of s (ms ++ m ∷ []) ≡ values_of s ms
same_values s ms m none = grind (arith, common_steps)

pub record First (g : GathererValue) (s : GatherSetup) (ms : List Heard) (m : Heard) : Type 0 where
  pub kind : (n : CellCounts) → kind_by g.clock n m ≡ CloseFirst
  pub has : is_some (closed_time g.clock m) ≡ true
  pub after : HasTakenMessages (take_step g m).state s ms true
  pub closed : (take_step g m).state.epoch ≡ held_at s (timed s ms)

-- A message that closes first isn't processed.
pub closes_it : (g : GathererValue) (s : GatherSetup) (ms : List Heard) (m : Heard) → HasTakenMessages g s ms false → closes_first s (timed s ms) m ≡ true → m.point ≡ None → First g s ms m
closes_it g s ms m h early none = by (greatest_time (timed s ms)) refl where
  xs : List Timed
  xs = timed s ms

  was : g.clock ≡ standing s xs false
  was = clock_is g.clock s ms false h.clock

  kind : (n : CellCounts) → kind_by g.clock n m ≡ CloseFirst
  kind n = ap (λ c. kind_by c n m) was ∙ (closes s xs n m early).0

  now : step_by g.clock m ≡ standing s xs true
  now = ap (λ c. step_by c m) was ∙ (closes s xs no_counts m early).1

  just_closed : closed_time g.clock m ≡ greatest_time xs
  just_closed = ap (λ k. closed_of k (ends_epoch g.clock.setup m) g.clock.pending g.clock.latest (step_by g.clock m).latest) (kind no_counts) ∙ ap (λ (c : State). c.latest) was

  unchanged : values_after_message g.clock.setup g.values m ≡ values_of s ms
  unchanged = by_own (is_own g.clock.setup m) ∙ h.values where
    by_own : (b : Bool) → (if b then option_map_or (λ p. record { x = p.x; y = p.y; z = p.z; height = option_map_or (λ h. h) p.height g.values.height }) m.point g.values else g.values) ≡ g.values
    by_own b = grind (arith, common_steps)

  step : take_step g m ≡ closed_if (is_some (closed_time g.clock m)) (record { state = with_time g m; counts = no_counts })
  step = ap (λ k. closed_if (is_some (closed_time g.clock m)) (loaded_if (is_accepted k) g.clock.latest (with_time g m) m)) (kind no_counts)

  held : g.epoch ≡ held_at s xs
  held = h.epoch (grind (arith, common_steps, early, h.clock.pending))

  by : (o : Option ℕ) → greatest_time xs ≡ o → First g s ms m
  by None e = absurd (grind (arith, early, e))
  by (Some t) e =
      let is : closed_time g.clock m ≡ Some t = just_closed ∙ e in
      let to : take_step g m ≡ record { state = noted (with_time g m); counts = no_counts } =
      step ∙ ap (λ o. closed_if (is_some o) (record { state = with_time g m; counts = no_counts })) is in
      let mid : Mid (with_time g m) s ms true (closed_so_far s xs false) (Some t) = record {
        clock = clock_has_heard (step_by g.clock m) s ms xs true refl now;
        held = just_held (with_time g m) (held_at s xs) (Some t) held;
        locks = record { found = h.locks.found; tracks = h.locks.tracks };
        values = unchanged;
      } in
      let more : closed_so_far s xs true ≡ closed_so_far s xs false ++ t ∷ [] =
      ap (λ o. closed_times s xs ++ option_to_list o) e ∙ ap (λ l. l ++ t ∷ []) (sym (append-nil (closed_times s xs))) in
      grind (arith, common_steps, kind, assemble, held)

pub record Ended (g : GathererValue) (s : GatherSetup) (ms : List Heard) (shut : Bool) : Type 0 where
  pub was : g.clock.pending ≡ (is_pending s (timed s ms) && not shut)
  pub after : HasTakenMessages (end_step g) s ms (shut || g.clock.pending)
  pub closed : g.clock.pending ≡ true → (end_step g).epoch ≡ held_at s (timed s ms)

abbrev stopping : GathererValue → GathererValue
stopping g = record g { clock = record g.clock { pending = false }; just_closed = g.clock.pending; has_ended = true }

ended_by : (g : GathererValue) (s : GatherSetup) (ms : List Heard) (shut : Bool) (b : Bool) → g.clock.pending ≡ b → g.clock.pending ≡ (is_pending s (timed s ms) && not shut)
    → HasTakenMessages (if b then noted (stopping g) else stopping g) s ms (shut || b) → (g.clock.pending ≡ true → g.epoch ≡ held_at s (timed s ms))
    → Ended g s ms shut
ended_by g s ms shut b is was after held = grind arith

-- The pending epoch is closed.
ended_some : (g : GathererValue) (s : GatherSetup) (ms : List Heard) → HasTakenMessages g s ms false → g.clock.pending ≡ true → Ended g s ms false
ended_some g s ms h f = by (greatest_time (timed s ms)) refl where
  xs : List Timed
  xs = timed s ms

  by : (o : Option ℕ) → greatest_time xs ≡ o → Ended g s ms false
  by None e = absurd (grind (arith, f, e, h.clock.pending))
  by (Some t) e =
      let mid : Mid (stopping g) s ms true (closed_so_far s xs false) (Some t) = record {
        clock = record { setup = h.clock.setup; latest = h.clock.latest; pending = grind (arith, common_steps) };
        held = just_held (stopping g) (held_at s xs) (Some t) (h.epoch f);
        locks = record { found = h.locks.found; tracks = h.locks.tracks };
        values = h.values;
      } in
      let more : closed_so_far s xs true ≡ closed_so_far s xs false ++ t ∷ [] =
      ap (λ o. closed_times s xs ++ option_to_list o) e ∙ ap (λ l. l ++ t ∷ []) (sym (append-nil (closed_times s xs))) in
      grind (arith, ended_by g s ms false true f h.clock.pending (assemble (Some t) mid (λ u q. e ∙ q) more) h.epoch)

-- No message follows.
pub ended : (g : GathererValue) (s : GatherSetup) (ms : List Heard) (shut : Bool) → HasTakenMessages g s ms shut → Ended g s ms shut
ended g s ms shut h = grind (arith, ended_by, ended_some)

-- A message with a time has no point.
pub no_point : (s own : GatherSetup) (xs : List Timed) (m : Message) → closes_first s xs (heard_by own m) ≡ true → (heard_by own m).point ≡ None
no_point s own xs m h = grind (arith, common_steps, h)

-- ---- what neither the pending epoch nor the lock records change

-- A part that doesn't depend on them.
abbrev IsApart : {A : Type 0} → (GathererValue → A) → Type 0
IsApart f = (g : GathererValue) (e : EpochValue) (locks : List (Option KnownLock)) → f (record g { epoch = e; locks = locks }) ≡ f g

load_apart : {A : Type 0} (f : GathererValue → A) → IsApart f → (l : Loaded) (xs : List HeardCell) → f (load l xs).state ≡ f l.state
load_apart f apart l [] = refl
load_apart f apart l (x ∷ xs) = load_apart f apart (load_one l x) xs ∙ ap f (hold_is (outcome_in l.state x) l.state x) ∙ apart l.state _ l.state.locks

loaded_apart : {A : Type 0} (f : GathererValue → A) → IsApart f → (accepted : Bool) (before : Option ℕ) (g : GathererValue) (m : Heard) → f (loaded_if accepted before g m).state ≡ f g
loaded_apart f apart true before g m = load_apart f apart _ m.cells ∙ begun (is_same before g.clock.latest) where
  begun : (b : Bool) → f (if b then g else record g { epoch = empty_epoch (option_map_or (λ t. t) g.clock.latest 0) }) ≡ f g
  begun true = refl
  begun false = apart g _ g.locks
loaded_apart f apart false before g m = refl

-- The clock stays as it is while cells are loaded.
pub loaded_clock : (accepted : Bool) (g : GathererValue) (m : Heard) → (loaded_where accepted g m).state.clock ≡ g.clock
loaded_clock true g m = load_apart (λ v. v.clock) (λ v e locks. refl) _ m.cells
loaded_clock false g m = refl

closed_loaded : (accepted : Bool) (before : Option ℕ) (g : GathererValue) (m : Heard) → (loaded_if accepted before (with_time g m) m).state.just_closed ≡ is_some (closed_time g.clock m)
closed_loaded accepted before g m = loaded_apart (λ v. v.just_closed) (λ v e locks. refl) accepted before (with_time g m) m

step_apart : {A : Type 0} (f : GathererValue → A) → IsApart f → (g : GathererValue) (m : Heard) → f (take_step g m).state ≡ f (with_time g m)
step_apart f apart g m = closed (is_some (closed_time g.clock m)) (loaded_if accepted g.clock.latest (with_time g m) m) ∙ loaded_apart f apart accepted g.clock.latest (with_time g m) m where
  accepted : Bool
  accepted = is_accepted (kind_by g.clock no_counts m)

  closed : (b : Bool) (l : Loaded) → f (closed_if b l).state ≡ f l.state
  closed b l = grind arith

-- The step of the gatherer, from what its message loads.
pub noted_is : (g : GathererValue) (m : Heard) → closed_noted (loaded_if (is_accepted (kind_by g.clock no_counts m)) g.clock.latest (with_time g m) m).state ≡ (take_step g m).state
noted_is g m = let v = (loaded_if (is_accepted (kind_by g.clock no_counts m)) g.clock.latest (with_time g m) m).state in ap (λ b. if b then noted v else v) (closed_loaded _ _ g m)

pub handed_is : (g : GathererValue) (m : Heard) → (take_step g m).state.just_closed ≡ is_some (closed_time g.clock m)
handed_is g m = step_apart (λ v. v.just_closed) (λ v e locks. refl) g m

pub clock_stepped : (g : GathererValue) (m : Heard) → (take_step g m).state.clock ≡ step_by g.clock m
clock_stepped g m = step_apart (λ v. v.clock) (λ v e locks. refl) g m

pub marks_stepped : (g : GathererValue) (m : Heard) → (take_step g m).state.marks ≡ g.marks
marks_stepped g m = step_apart (λ v. v.marks) (λ v e locks. refl) g m

pub counts_stepped : (g : GathererValue) (m : Heard) → (take_step g m).state.counts ≡ g.counts
counts_stepped g m = step_apart (λ v. v.counts) (λ v e locks. refl) g m

pub ended_is : (g : GathererValue) (m : Heard) → (take_step g m).state.has_ended ≡ g.has_ended
ended_is g m = step_apart (λ v. v.has_ended) (λ v e locks. refl) g m

-- ---- the cells are loaded while the epoch is pending

-- With another value of whether an epoch is pending, and none just closed.
abbrev standing_by : Bool → GathererValue → GathererValue
standing_by p g = record g { clock = record g.clock { pending = p }; just_closed = false }

abbrev standing_loaded : Bool → Loaded → Loaded
standing_loaded p l = record { state = standing_by p l.state; counts = l.counts }

load_standing : (p : Bool) (l : Loaded) (xs : List HeardCell) → load (standing_loaded p l) xs ≡ standing_loaded p (load l xs)
load_standing p l [] = refl
load_standing p l (x ∷ xs) = ap (λ v. load v xs) (grind (arith, common_steps)) ∙ load_standing p (load_one l x) xs

loaded_standing : (accepted p : Bool) (g : GathererValue) (m : Heard) → loaded_where accepted (standing_by p g) m ≡ standing_loaded p (loaded_where accepted g m)
loaded_standing true p g m = ap (with_unlisted m.unlisted) (load_standing p (record { state = g; counts = no_counts }) m.cells)
loaded_standing false p g m = refl

-- The cells of the message, from the epoch that has begun.
loaded_begun : (g : GathererValue) (m : Heard) (accepted : Bool) → is_accepted (kind_by g.clock no_counts m) ≡ accepted
    → loaded_where accepted (epoch_begun g.clock.latest (with_time g m)) m ≡ loaded_if accepted g.clock.latest (with_time g m) m
loaded_begun g m accepted e = grind (arith, common_steps, same_itself)

abbrev pub loads : GathererValue → Heard → Loaded
loads g m = loaded_if (is_accepted (kind_by g.clock no_counts m)) g.clock.latest (with_time g m) m

-- What a message loads while its epoch is pending.
pub loaded_by : (g : GathererValue) (m : Heard)
    → loaded_where (is_accepted (kind_by g.clock no_counts m)) (begun_by g m) m ≡ standing_loaded (open_by g.clock m).pending (loads g m)
loaded_by g m =
    let accepted = is_accepted (kind_by g.clock no_counts m) in
    let p = (open_by g.clock m).pending in
    let v = epoch_begun g.clock.latest (with_time g m) in
    ap (λ (v : GathererValue). loaded_where accepted v m) (began (is_same g.clock.latest (with_time g m).clock.latest))
    ∙ loaded_standing accepted p v m ∙ ap (standing_loaded p) (loaded_begun g m accepted refl) where
      began : (b : Bool) → record (if b then with_time g m else record (with_time g m) { epoch = empty_epoch (option_map_or (λ t. t) (with_time g m).clock.latest 0) })
          { clock = open_by g.clock m; just_closed = false }
          ≡ standing_by (open_by g.clock m).pending (if b then with_time g m else record (with_time g m) { epoch = empty_epoch (option_map_or (λ t. t) (with_time g m).clock.latest 0) })
      began true = ap (λ c. record (with_time g m) { clock = c; just_closed = false }) (heard_step g.clock m)
      began false = ap (λ c. record (with_time g m) { clock = c; epoch = empty_epoch (option_map_or (λ t. t) (with_time g m).clock.latest 0); just_closed = false }) (heard_step g.clock m)

-- The step of the gatherer, from what its message loads and whether the epoch is closed then.
pub closed_is : (g : GathererValue) (m : Heard) (l : Loaded) (closed : Bool) → l ≡ loaded_where (is_accepted (kind_by g.clock no_counts m)) (begun_by g m) m
    → closed ≡ is_some (closed_time g.clock m) → ended_where closed (open_by g.clock m) ≡ step_by g.clock m → closed_noted (shut_where closed l.state) ≡ (take_step g m).state
closed_is g m l closed e is ended =
    let accepted = is_accepted (kind_by g.clock no_counts m) in
    let v = (loads g m).state in
    let clock : v.clock ≡ step_by g.clock m = loaded_apart (λ v. v.clock) (λ v e locks. refl) accepted g.clock.latest (with_time g m) m in
    let shut : ended_where closed (record v.clock { pending = (open_by g.clock m).pending }) ≡ v.clock =
    ap (λ (c : State). ended_where closed (record c { pending = (open_by g.clock m).pending })) clock
    ∙ ap (ended_where closed) (sym (heard_step g.clock m)) ∙ ended ∙ sym clock in
    grind (arith, e, loaded_by g m, shut, is, closed_loaded accepted g.clock.latest g m, noted_is g m)
