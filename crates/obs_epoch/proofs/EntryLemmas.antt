-- The cells of a message, one by one: those that are listed, and the number of others.
use Rattle.obs_epoch.proofs.Names.{ChannelsValue, GatherSetup, load_entry, planned_cell, State, GathererValue, System, Entry, Cell, cells_counted, heard_cell, CellOutcome, count_in, lacks_channel, seen_in, unlisted_in, HeardCell, Loaded, load, load_one, load_entries, with_unlisted, outcome_in, hold, hold_by, CellCounts, option_map_or, cons_option, Form, ◌≡◌, ℕ, ◌+◌, ◌≤◌, ◌&&◌, not, Bool, List, ◌∷◌, refl, ap, ◌∙◌, arith, Option, Some, None, is_some, filter_map, cond, option_and_then, common_steps, []}

later : (n : ℕ) (l : Loaded) (xs : List HeardCell) → load (with_unlisted n l) xs ≡ with_unlisted n (load l xs)
later n l [] = refl
later n l (x ∷ xs) = ap (λ v. load v xs) (ap (λ c. record { state = hold l.state x; counts = c }) (grind (arith, common_steps))) ∙ later n (load_one l x) xs

twice : (n m : ℕ) (l : Loaded) → with_unlisted n (with_unlisted m l) ≡ with_unlisted (m + n) l
twice n m l = grind (arith, common_steps)

abbrev listed : ChannelsValue → Form → System → List Entry → List HeardCell
listed channels form system es = filter_map (seen_in channels form system) es

abbrev others : ChannelsValue → Form → System → List Entry → ℕ
others channels form system es = unlisted_in channels form system es

kept_setup : (k : CellOutcome) (g : GathererValue) (x : HeardCell) → (hold_by k g x).clock ≡ g.clock
kept_setup k g x = grind (arith, common_steps)

none_more : (l : Loaded) → l ≡ with_unlisted 0 l
none_more l = grind (arith, common_steps)

pub load_entries_is : (channels : ChannelsValue) (form : Form) (system : System) (l : Loaded) (es : List Entry) → l.state.clock.setup.plan.channels ≡ channels
    → load_entries form system l es ≡ with_unlisted (others channels form system es) (load l (listed channels form system es))
load_entries_is channels form system l [] same = none_more l
load_entries_is channels form system l (e ∷ es) same =
    ap (λ (c : ChannelsValue). load_entries form system (option_map_or (load_one l) (seen_in c form system e) (with_unlisted 1 l)) es) same
    ∙ by (seen_in channels form system e) (λ v kept. load_entries_is channels form system v es kept) where
      by : (o : Option HeardCell) → ((v : Loaded) → v.state.clock.setup.plan.channels ≡ channels → load_entries form system v es ≡ with_unlisted (others channels form system es) (load v (listed channels form system es)))
          → load_entries form system (option_map_or (load_one l) o (with_unlisted 1 l)) es
          ≡ with_unlisted (cond (is_some o) 0 1 + others channels form system es) (load l (cons_option o (listed channels form system es)))
      by None more =
          cc (more (with_unlisted 1 l) same, later 1 l (listed channels form system es), twice (others channels form system es) 1 (load l (listed channels form system es)))
      by (Some x) more =
          more (load_one l x) (ap (λ (c : State). c.setup.plan.channels) (kept_setup (outcome_in l.state x) l.state x) ∙ same)
          ∙ ap (λ n. with_unlisted n (load (load_one l x) (listed channels form system es))) (zero-plus (others channels form system es)) where
            zero-plus : (n : ℕ) → n ≡ 0 + n
            zero-plus n = omega arith

-- ---- what one entry adds

pub record OneMore (l m : Loaded) : Type 0 where
  pub clock : m.state.clock ≡ l.state.clock
  pub one : cells_counted m.counts ≡ cells_counted l.counts + 1
  pub less : l.counts.without_channel ≤ l.counts.kept → m.counts.without_channel ≤ m.counts.kept

one_less : (b : Bool) (k : CellOutcome) (n : CellCounts) → n.without_channel ≤ n.kept → (count_in b k n).without_channel ≤ (count_in b k n).kept
one_less b k n h = grind (arith, common_steps)

pub one_more : (form : Form) (system : System) (l : Loaded) (e : Entry) → OneMore l (load_entry form system l e)
one_more form system l e = grind (arith, common_steps, kept_setup, one_less)

-- ---- the phase of a cell is that of its entry, if there is a carrier

pub has_phase_of : (s : GatherSetup) (form : Form) (system : System) (e : Entry) (x : Cell)
    → Some x ≡ option_and_then (planned_cell s.plan) (seen_in s.plan.channels form system e) → is_some x.l ≡ (is_some e.phase && not (lacks_channel s (heard_cell x)))
has_phase_of s form system e x is = grind (arith, common_steps)
