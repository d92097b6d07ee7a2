-- The signals of a plan.
use Rattle.std.specs.Prelude.{◌≡◌, ℕ, ◌<◌, ◌≤◌, List, [], ◌∷◌, ◌++◌, length, All, Option, None, true, false, ◌==◌, ◌⊎◌}
use Rattle.std.specs.Prelude.{get_or, position, Result, Ok, Err, IsOk, MatchResult, nat_eq}
use Rattle.gnss_system.specs.declared.system.System.{System}
use Rattle.gnss_system.specs.Signals.{SignalAt, IsSignal, table, most_signals, signal_of_code, signal_at, greatest_signal_id}
use Rattle.std.specs.List.{IsDistinct, list_any, sum_by}
use Rattle.gnss_obs.specs.Plans.{below, planned_signal, IsTaken, IsRefused, is_none_planned, signals_in}
use Rattle.gnss_system.specs.Systems.{systems, index_of}
use Rattle.gnss_system.specs.SystemValues.{value_of, map_by}
use Rattle.gnss_system.specs.declared.by_system.BySystem.{BySystem}
use Rattle.gnss_obs.specs.declared.fault.PlanFault.{PlanFault}
use Rattle.gnss_obs.specs.declared.fault.PlanFault.TheVariants.{UnknownCode, RepeatedCode, NothingPlanned, Memory}
use Rattle.gnss_obs.specs.Values.{PlanValue, plan_with}
use Rattle.gnss_obs.specs.SignalLists.{indices}

-- Distinct listed signals of one system.
pub record IsOf (system : System) (ss : List SignalAt) : Type 0 where
  pub each : All (λ s. (s.system ≡ system) × IsSignal s) ss
  pub apart : IsDistinct nat_eq (indices ss)

-- The list after one more signal, which isn't among those before it.
abbrev pub IsAppended : List SignalAt → SignalAt → List SignalAt → Type 0
IsAppended before s after =
    (after ≡ before ++ s ∷ []) × (list_any (λ r. s.index == r.index) before ≡ false) × IsOf s.system after

-- For each index in the longest table: the index of that signal among the planned ones.
pub record AreFound (places : List (Option ℕ)) (planned : List ℕ) : Type 0 where
  pub each : (n : ℕ) → n < most_signals → get_or places n None ≡ position (λ i. i == n) planned

-- For each ID: the index in the table of the planned signal with that ID, or that of no signal.
abbrev pub AreRows : List ℕ → List SignalAt → Type 0
AreRows rows ss =
    (system : System) → IsOf system ss → (id : ℕ) → id ≤ greatest_signal_id
    → signal_at system (get_or rows id 0) ≡ planned_signal system (indices ss) id

-- The signals of a system are those of a text.
abbrev pub ArePlanned : System → Result (List ℕ) PlanFault → List SignalAt → Type 0
ArePlanned system planned ss = (planned ≡ Ok (indices ss)) × IsOf system ss

-- A code's signal is accepted after signals of its system.
abbrev pub TakesCode : System → List ℕ → List SignalAt → List SignalAt → Type 0
TakesCode system code before after =
    IsTaken system (indices before) (signal_of_code system code) (indices after) × IsOf system after

-- A code's signal is refused after signals of its system.
abbrev pub RefusesCode : System → List ℕ → List SignalAt → PlanFault → Type 0
RefusesCode system code before fault = IsRefused system (indices before) (signal_of_code system code) fault

-- A code's signal may be added after signals of its system.
abbrev pub MayTakeCode : System → List ℕ → List SignalAt → Type 0
MayTakeCode system code before =
    (now : List ℕ) × IsTaken system (indices before) (signal_of_code system code) now

-- A signal may be added after signals of a system: it is of the system, and not among them.
abbrev pub MayAdd : System → List SignalAt → SignalAt → Type 0
MayAdd system before s = (s.system ≡ system) × (list_any (λ r. s.index == r.index) before ≡ false)

-- The first signal of a list is of a system.
abbrev pub BeginsWithOwn : System → List SignalAt → Type 0
BeginsWithOwn system [] = ⊥
BeginsWithOwn system (s ∷ ss) = s.system ≡ system

-- Some list has a signal before the first fault: there is no fault in the lists of the systems before.
abbrev pub HasOwn : BySystem (List SignalAt) → Type 0
HasOwn lists = (s : System) × ((t : System) → index_of t < index_of s → IsOf t (value_of t lists))
    × BeginsWithOwn s (value_of s lists)

-- The fault is `Memory`, if it may be, or one of these. Memory is allocated only to add a signal.
abbrev pub IsMemoryFaultOr : Type 0 → (PlanFault → Type 0) → PlanFault → Type 0
IsMemoryFaultOr May P fault = ((fault ≡ Memory) × May) ⊎ P fault

-- The list after one more signal is of that system.
abbrev pub IsPushed : System → List SignalAt → SignalAt → List SignalAt → Type 0
IsPushed system before s after = (after ≡ before ++ s ∷ []) × IsOf system after

-- The signals are all those of the system's table; or the fault is `Memory`.
abbrev pub HasEvery : {A : Type 0} → System → List SignalAt → Result A PlanFault → Type 0
HasEvery system ss result =
    MatchResult result (λ _. (below (length (table system)) ≡ indices ss) × IsOf system ss) (λ e. e ≡ Memory)

-- The result is the defined one, or `Memory`, if it may be.
abbrev pub IsDefined : {A : Type 0} → Type 0 → Result A PlanFault → Result A PlanFault → Type 0
IsDefined may defined result = MatchResult result (λ x. defined ≡ Ok x) (IsMemoryFaultOr may (λ e. defined ≡ Err e))

-- After Ok this holds; a fault is `Memory`, if it may be, or one of these.
abbrev pub DoneOr : {A : Type 0} → Type 0 → (PlanFault → Type 0) → Type 0 → Result A PlanFault → Type 0
DoneOr may refused done result = MatchResult result (λ _. done) (IsMemoryFaultOr may refused)

-- A signal of another system, or a repeated one, after signals of a system.
abbrev pub IsUnfitAfter : System → List SignalAt → SignalAt → PlanFault → Type 0
IsUnfitAfter system before s (UnknownCode named place) =
    (named ≡ system) × (place ≡ length before) × (s.system ≡ system → ⊥)
IsUnfitAfter system before s (RepeatedCode named place) =
    (named ≡ system) × (place ≡ length before) × (s.system ≡ system)
    × (list_any (λ r. s.index == r.index) before ≡ true)
IsUnfitAfter system before s other = ⊥

-- The first signal of the list that a plan can't have.
pub record IsUnfit (system : System) (ss : List SignalAt) (fault : PlanFault) : Type 0 where
  pub before : List SignalAt
  pub signal : SignalAt
  pub rest : List SignalAt
  pub split : ss ≡ before ++ signal ∷ rest
  pub fits : IsOf system before
  pub unfit : IsUnfitAfter system before signal fault

-- The signals of the systems before one fit, and the fault is one of its own.
abbrev pub IsUnplannedAt : System → BySystem (List SignalAt) → PlanFault → Type 0
IsUnplannedAt s lists fault =
    ((t : System) → index_of t < index_of s → IsOf t (value_of t lists)) × IsUnfit s (value_of s lists) fault

-- The fault for which signals are refused: that of the first system that has one.
abbrev pub IsUnplanned : BySystem (List SignalAt) → PlanFault → Type 0
IsUnplanned lists (UnknownCode s place) = IsUnplannedAt s lists (UnknownCode s place)
IsUnplanned lists (RepeatedCode s place) = IsUnplannedAt s lists (RepeatedCode s place)
IsUnplanned lists NothingPlanned = (s : System) → value_of s lists ≡ []
IsUnplanned lists other = ⊥

-- The plan of signals in their order.
pub record IsPlanOf (lists : BySystem (List SignalAt)) (p : PlanValue) : Type 0 where
  pub each : (s : System) → IsOf s (value_of s lists)
  pub some : 0 < sum_by (λ s. length (value_of s lists)) systems
  pub value : p ≡ plan_with (map_by indices lists)

-- The result for these signals is their plan, or a fault.
abbrev pub IsPlanResult : BySystem (List SignalAt) → Result PlanValue PlanFault → Type 0
IsPlanResult lists result = MatchResult result (IsPlanOf lists) (IsMemoryFaultOr (HasOwn lists) (IsUnplanned lists))

-- The plan of these signals, if they were added without a fault and there is one.
abbrev pub IsMade : {A : Type 0} → Result A PlanFault → BySystem (List SignalAt) → Result PlanValue PlanFault → Type 0
IsMade added lists result =
    MatchResult result
    (λ p. IsOk added × (is_none_planned lists ≡ false) × (p ≡ plan_with (map_by indices lists)))
    (λ e. (added ≡ Err e) ⊎ (IsOk added × (is_none_planned lists ≡ true) × (e ≡ NothingPlanned)))

-- The signals of each system are those of its text.
abbrev pub AreRead : BySystem (List ℕ) → BySystem (List SignalAt) → Type 0
AreRead texts lists = (s : System) → ArePlanned s (signals_in texts s) (value_of s lists)

-- The signals of each system are those of a list.
abbrev pub AreAdded : BySystem (List SignalAt) → BySystem (List SignalAt) → Type 0
AreAdded signals lists = (lists ≡ signals) × ((s : System) → IsOf s (value_of s signals))
