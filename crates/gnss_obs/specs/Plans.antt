-- The plan of a text for each system.
use Rattle.std.specs.Prelude.{◌≡◌, ◌<◌, is_ok, ℕ, zero, suc, ◌==◌, List, [], ◌∷◌, ◌++◌, length, codes, nat_eq, if◌then◌else◌}
use Rattle.std.specs.Prelude.{Option, Some, None, Result, Ok, Err, position, is_some, option_and_then, Bool, true, false}
use Rattle.std.specs.List.{list_any, list_all, IsDistinct}
use Rattle.std.specs.Str.{bytes_eq}
use Rattle.gnss_system.specs.declared.system.System.{System}
use Rattle.gnss_system.specs.Systems.{systems, index_of}
use Rattle.gnss_system.specs.SystemValues.{value_of, tabulate}
use Rattle.gnss_system.specs.declared.by_system.BySystem.{BySystem}
use Rattle.gnss_system.specs.Signals.{SignalAt, table, signal_of_code, signal_of_id}
use Rattle.gnss_system.specs.declared.system.System.TheVariants.{Glonass}
use Rattle.gnss_obs.specs.Channels.{ChannelsValue, no_channels}
use Rattle.gnss_obs.specs.Values.{PlanValue, plan_with, planned_of}
use Rattle.gnss_obs.specs.declared.fault.PlanFault.{PlanFault}
use Rattle.gnss_obs.specs.declared.fault.PlanFault.TheVariants.{UnknownCode, RepeatedCode, NothingPlanned}

-- The index of a signal among the planned signals of its system.
abbrev pub place_in : SignalAt → List ℕ → Option ℕ
place_in signal planned = position (λ i. i == signal.index) planned

-- The planned signal of a system with this ID, if there is one.
abbrev pub if_planned : List ℕ → SignalAt → Option SignalAt
if_planned planned s = if is_some (place_in s planned) then Some s else None

abbrev pub planned_signal : System → List ℕ → ℕ → Option SignalAt
planned_signal system planned id = option_and_then (if_planned planned) (signal_of_id system id)

-- The texts between commas; an empty text is one empty code.
abbrev pub onto_first : ℕ → List (List ℕ) → List (List ℕ)
onto_first b [] = (b ∷ []) ∷ []
onto_first b (x ∷ xs) = (b ∷ x) ∷ xs

abbrev pub between_commas : List ℕ → List (List ℕ)
between_commas [] = [] ∷ []
between_commas (b ∷ bs) = if b == 44 then [] ∷ between_commas bs else onto_first b (between_commas bs)

-- The signals after one more signal, passed to `rest`; or the fault of that signal.
abbrev pub one_signal_more : System → List ℕ → Option SignalAt → (List ℕ → Result (List ℕ) PlanFault)
    → Result (List ℕ) PlanFault
one_signal_more system earlier None rest = Err (UnknownCode system (length earlier))
one_signal_more system earlier (Some s) rest =
    if list_any (nat_eq s.index) earlier
    then Err (RepeatedCode system (length earlier))
    else rest (earlier ++ s.index ∷ [])

-- A code's signal is accepted after these signals, and the result is those.
abbrev pub IsTaken : System → List ℕ → Option SignalAt → List ℕ → Type 0
IsTaken system earlier s now =
    (rest : List ℕ → Result (List ℕ) PlanFault) → one_signal_more system earlier s rest ≡ rest now

-- A code's signal is refused with that fault.
abbrev pub IsRefused : System → List ℕ → Option SignalAt → PlanFault → Type 0
IsRefused system earlier s fault =
    (rest : List ℕ → Result (List ℕ) PlanFault) → one_signal_more system earlier s rest ≡ Err fault

-- The signals of codes, after those of the earlier codes. The first code from the left that isn't in the table, or
-- whose signal came before, is the fault, with its index counted from 0.
abbrev pub signals_after : System → List ℕ → List (List ℕ) → Result (List ℕ) PlanFault
signals_after system earlier [] = Ok earlier
signals_after system earlier (code ∷ rest) =
    one_signal_more system earlier (signal_of_code system code) (λ signals. signals_after system signals rest)

-- The signals of codes separated by commas.
abbrev pub signals_coded : System → List ℕ → Result (List ℕ) PlanFault
signals_coded system text = signals_after system [] (between_commas text)

-- The numbers below n, rising.
abbrev pub below : ℕ → List ℕ
below zero = []
below (suc n) = below n ++ n ∷ []

-- The signals of a text: all of the system's table, none, or those of its codes.
abbrev pub signals_of : System → List ℕ → Result (List ℕ) PlanFault
signals_of system text =
    if bytes_eq text (codes "all") then Ok (below (length (table system)))
    else (if bytes_eq text (codes "none") then Ok []
    else signals_coded system text)

abbrev pub is_nil : {A : Type 0} → List A → Bool
is_nil [] = true
is_nil (x ∷ xs) = false

-- The first fault of the results for these systems.
abbrev fault_or : {A : Type 0} → Result A PlanFault → Option PlanFault → Option PlanFault
fault_or (Err e) others = Some e
fault_or (Ok x) others = others

abbrev pub first_fault : {A : Type 0} → (System → Result A PlanFault) → List System → Option PlanFault
first_fault f [] = None
first_fault f (s ∷ ss) = fault_or (f s) (first_fault f ss)

abbrev pub signals_or_none : Result (List ℕ) PlanFault → List ℕ
signals_or_none (Ok signals) = signals
signals_or_none (Err e) = []

-- There is no signal of a system.
abbrev pub is_none_planned : {A : Type 0} → BySystem (List A) → Bool
is_none_planned lists = list_all (λ s. is_nil (value_of s lists)) systems

-- The plan with these channels; a plan without a signal of GLONASS has none.
abbrev pub with_channels : PlanValue → ChannelsValue → PlanValue
with_channels p channels = record p { channels = if is_nil (planned_of Glonass p) then no_channels else channels }

-- The plan of results for each system, or their first fault.
abbrev pub plan_unless : Option PlanFault → BySystem (List ℕ) → Result PlanValue PlanFault
plan_unless (Some e) signals = Err e
plan_unless None signals = if is_none_planned signals then Err NothingPlanned else Ok (plan_with signals)

abbrev pub plan_by : (System → Result (List ℕ) PlanFault) → Result PlanValue PlanFault
plan_by f = plan_unless (first_fault f systems) (tabulate (λ s. signals_or_none (f s)))

-- The signals of the text of a system.
abbrev pub signals_in : BySystem (List ℕ) → System → Result (List ℕ) PlanFault
signals_in texts s = signals_of s (value_of s texts)

-- The first of these codes is in the table of a system.
abbrev pub is_first_listed : System → List (List ℕ) → Bool
is_first_listed system [] = false
is_first_listed system (code ∷ codes) = is_some (signal_of_code system code)

-- A text has a signal before its first fault: it is `all`, or its first code is in the table.
abbrev pub has_signal : System → List ℕ → Bool
has_signal system text =
    if bytes_eq text (codes "all") then true
    else (if bytes_eq text (codes "none") then false
    else is_first_listed system (between_commas text))

-- Some text has a signal before the first fault: there is no fault in the texts of the systems before.
abbrev pub HasSignal : BySystem (List ℕ) → Type 0
HasSignal texts = (s : System)
    × ((t : System) → index_of t < index_of s → is_ok (signals_in texts t) ≡ true)
    × (has_signal s (value_of s texts) ≡ true)

-- The plan of a text for each system, or their first fault.
abbrev pub plan_of : BySystem (List ℕ) → Result PlanValue PlanFault
plan_of texts = plan_by (signals_in texts)

-- These are the signals of the codes of a system, one by one.
abbrev pub CodesNameSignals : System → List (List ℕ) → List ℕ → Type 0
CodesNameSignals system [] [] = Unit {0}
CodesNameSignals system [] (i ∷ signals) = ⊥
CodesNameSignals system (code ∷ codes) [] = ⊥
CodesNameSignals system (code ∷ codes) (i ∷ signals) =
    (signal_of_code system code ≡ Some (record { system = system; index = i })) × CodesNameSignals system codes signals

-- If codes have no fault, the signals are those of the codes, and no two are the same.
abbrev pub CodesNameTheirSignals : Type 0
CodesNameTheirSignals =
    (system : System) (codes : List (List ℕ)) (signals : List ℕ) → signals_after system [] codes ≡ Ok signals
    → CodesNameSignals system codes signals × IsDistinct nat_eq signals
