-- What the reading of a file epoch by epoch means for its input.
use Rattle.std.specs.Prelude.{◌≡◌, ◌≢◌, ℕ, ◌<◌, ◌≤◌, Bool, true, false, List, [], ◌∷◌, ◌++◌, map, Option}
use Rattle.std.specs.Prelude.{Result, Ok, Err, ⊤, IfSome, Vec}
use Rattle.gnss_obs.specs.Values.{PlanValue}
use Rattle.rinex_file.specs.declared.read.epochs.EpochReader.{EpochReader}
use Rattle.rinex_file.specs.declared.read.epochs.NextEpoch.{NextEpoch}
use Rattle.rinex_file.specs.declared.read.epochs.NextEpoch.TheVariants.{Epoch, End}
use Rattle.rinex_file.specs.declared.read.fault.ReadFault.{ReadFault}
use Rattle.rinex_file.specs.declared.read.file.FileSummary.{FileSummary}
use Rattle.rinex_file.specs.declared.read.parser_state.Expected.{Expected}
use Rattle.rinex_file.specs.declared.read.parser_state.Expected.TheVariants.{Satellite}
use Rattle.rinex_file.specs.Accepted.{AreFirstEpochs, AreWholeBefore, IsEpochLine}
use Rattle.rinex_file.specs.Counting.{IsSummary, IsTextWith}
use Rattle.rinex_file.specs.Exact.{ExplainsStored, IfTextOfFile}
use Rattle.rinex_file.specs.FileValues.{IsSatelliteRow, planned_in, time_stamped}
use Rattle.rinex_file.specs.inner.ParserState.{ExpectsRow}
use Rattle.rinex_file.specs.inner.Read.Steps.{HasRead, StopsReading, file_at}
use Rattle.rinex_file.specs.Times.{AreTimesOrNone}
use Rattle.rinex_file.specs.Value.{FileValue, SatelliteRow, Stamped}

-- these epochs were read of the input, each whole, and this is left of it after what was read ahead
abbrev pub HasReadEpochs : EpochReader → List Stamped → (input left : Option (List ℕ)) → Type 0
HasReadEpochs r es input left =
    HasRead r (record { epochs = es; rows = [] }) input left × (ExpectsRow r.parser_state.expected → ⊥)

-- these epochs were read, and an epoch with these satellites so far: more of them are expected, or it is whole
abbrev pub HasReadRowsAt : Expected → EpochReader → List Stamped → Stamped → (input left : Option (List ℕ)) → Type 0
HasReadRowsAt (Satellite n) r es e input left =
    HasRead r (record { epochs = es; rows = e.rows }) input left × (r.parser_state.change ≡ e.change)
    × (r.parser_state.time ≡ e.time)
HasReadRowsAt other r es e input left = HasReadEpochs r (es ++ e ∷ []) input left

abbrev pub HasReadRows : EpochReader → List Stamped → Stamped → (input left : Option (List ℕ)) → Type 0
HasReadRows r es e input left = HasReadRowsAt r.parser_state.expected r es e input left

-- the signals that are planned by the header that was read
abbrev pub plan_of : EpochReader → PlanValue
plan_of r = r.parser_state.head.shown.plan

-- the row that was read last
abbrev pub row_of : EpochReader → SatelliteRow
row_of r = r.parser_state.last_read

-- the file with the header that was read and these epochs
abbrev pub file_of : EpochReader → List Stamped → FileValue
file_of r es = file_at r.parser_state (record { epochs = es; rows = [] })

-- it is the file that was read, and has this summary
abbrev pub IsSummaryRead : EpochReader → List Stamped → FileSummary → FileValue → Type 0
IsSummaryRead r es s v = IsSummary s v × (v ≡ file_of r es)

-- the epoch whose line was read last, without satellites
abbrev pub begun_in : EpochReader → Stamped
begun_in r = record { change = r.parser_state.change; time = r.parser_state.time; rows = [] }

-- the plan isn't read again after an epoch
abbrev pub KeepsPlan : (old new : EpochReader) → List Stamped → Type 0
KeepsPlan old new es = es ≢ [] → plan_of new ≡ plan_of old

-- The line of one epoch more was read; or the input is the text of a file of the epochs that were read; or there is a
-- fault.
abbrev pub BeginsEpoch : (old new : EpochReader) → List Stamped → (input left : Option (List ℕ))
    → Result NextEpoch ReadFault → Type 0
BeginsEpoch old new es input left (Ok (Epoch before time)) =
    (new.parser_state.time ≡ time) × AreTimesOrNone (map time_stamped es) before
    × HasReadRows new es (begun_in new) input left × IfSome input (IsEpochLine es time new.count)
    × (old.count < new.count) × KeepsPlan old new es
BeginsEpoch old new es input left (Ok (End s)) =
    IsTextWith (IsSummaryRead new es s) input × IfTextOfFile input (IsSummaryRead new es s) × KeepsPlan old new es
BeginsEpoch old new es input left (Err fault) =
    StopsReading es input left fault × IfSome input (AreWholeBefore es fault)

-- an epoch with these satellites; and with one more
abbrev pub with_rows : Stamped → List SatelliteRow → Stamped
with_rows e rows = record { change = e.change; time = e.time; rows = rows }

abbrev pub with_read : Stamped → SatelliteRow → Stamped
with_read e row = with_rows e (e.rows ++ row ∷ [])

-- One satellite more was read, of the plan; or the epoch is whole; or there is a fault.
abbrev pub ReadsRow : (old new : EpochReader) → List Stamped → Stamped → (input left : Option (List ℕ))
    → Result Bool ReadFault → Type 0
ReadsRow old new es e input left (Ok true) =
    HasReadRows new es (with_read e new.parser_state.last_read) input left
    × IsSatelliteRow (planned_in (plan_of new)) new.parser_state.last_read × (old.count < new.count)
    × (plan_of new ≡ plan_of old)
ReadsRow old new es e input left (Ok false) =
    HasReadEpochs new (es ++ e ∷ []) input left × IfSome input (AreFirstEpochs (es ++ e ∷ []) new.count)
    × (old.count ≤ new.count) × (plan_of new ≡ plan_of old)
ReadsRow old new es e input left (Err fault) = StopsReading es input left fault

-- The epoch is whole; or there is a fault.
abbrev pub FinishesEpoch : (old new : EpochReader) → List Stamped → Stamped → (input left : Option (List ℕ))
    → Result ⊤ ReadFault → Type 0
FinishesEpoch old new es e input left (Ok u) =
    (whole : Stamped) × (whole.time ≡ e.time) × HasReadEpochs new (es ++ whole ∷ []) input left
    × IfSome input (AreFirstEpochs (es ++ whole ∷ []) new.count) × (old.count ≤ new.count)
    × (plan_of new ≡ plan_of old)
FinishesEpoch old new es e input left (Err fault) = StopsReading es input left fault

-- ---- a file whose epochs are stored

-- what a fault means if epochs are stored
abbrev pub StopsStoring : (input : Option (List ℕ)) → ReadFault → Type 0
StopsStoring input fault = IfSome input (λ bytes. ExplainsStored bytes fault)

-- The epoch that was begun is whole, and its satellites are stored; or there is a fault.
abbrev pub StoresRows : {Z : Type 0} → (old new : EpochReader) → List Stamped → (input left : Option (List ℕ))
    → Result (Vec SatelliteRow Z) ReadFault → Type 0
StoresRows old new es input left (Ok rows) =
    HasReadEpochs new (es ++ with_rows (begun_in old) rows.items ∷ []) input left × (old.count ≤ new.count)
StoresRows old new es input left (Err fault) = StopsStoring input fault

-- These are the epochs of the file; or there is a fault.
abbrev pub StoresEpochs : EpochReader → List Stamped → (input : Option (List ℕ)) → Result FileSummary ReadFault → Type 0
StoresEpochs r es input (Ok s) = IsTextWith (IsSummaryRead r es s) input × IfTextOfFile input (IsSummaryRead r es s)
StoresEpochs r es input (Err fault) = StopsStoring input fault
