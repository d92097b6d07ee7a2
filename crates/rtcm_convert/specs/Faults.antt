-- The state of the devices that a call reads and writes, by its result.
use Rattle.std.specs.Prelude.{◌≡◌, ◌≤◌, ◌⊎◌, ◌==◌, if◌then◌else◌, ℕ, max, ⊤, List, [], Result, Ok, Err, OnOk, IfErr, IsErrOf}
use Rattle.devices.specs.Device.{Device}
use Rattle.devices.specs.Devices.{Culprit, TheReader, TheWriter, NoDevice, ReaderFailures, WriterFailures}
use Rattle.rtcm_bits.specs.FrameOf.{longest_frame}
use Rattle.rtcm_scan.specs.declared.feed.StreamFault.{StreamFault}
use Rattle.rtcm_scan.specs.declared.feed.StreamFault.TheVariants as stream
use Rattle.rtcm_convert.specs.declared.fault.Fault.{Fault}
use Rattle.rtcm_convert.specs.declared.fault.Fault.TheVariants.{BadSetup, Memory, Read, TooLong, NoEpoch, NoneChosen, Write}
use Rattle.obs_epoch.specs.declared.choice.EpochCounts.{EpochCounts}

-- The bytes that wait in a writer before and after a call: after it none, unless the writer failed; after a call that
-- was refused those that waited before.
abbrev pub IsSentAtFault : Fault → (before after : List ℕ) → Type 0
IsSentAtFault Write before after = ⊤
IsSentAtFault Read before after = after ≡ []
IsSentAtFault TooLong before after = after ≡ []
IsSentAtFault NoEpoch before after = after ≡ []
IsSentAtFault (NoneChosen counts) before after = after ≡ []
IsSentAtFault refusal before after = after ≡ before

abbrev pub IsSentAfter : {A : Type 0} → Result A Fault → (before after : List ℕ) → Type 0
IsSentAfter (Ok x) before after = after ≡ []
IsSentAfter (Err fault) before after = IsSentAtFault fault before after

-- the fault of a call for a fault of a stream
abbrev pub stream_fault : {F : Type 0} → StreamFault F → Fault
stream_fault stream.Read = Read
stream_fault stream.TooLong = TooLong
stream_fault (stream.Sink failed) = Write

-- the device that failed at a fault
abbrev pub culprit : Fault → Culprit
culprit Read = TheReader
culprit Write = TheWriter
culprit other = NoDevice

-- `Write` is returned exactly if one failure of the writer was counted, any other result only if none was; nothing was
-- read from it
abbrev pub FailsWithWriter : {T A : Type 0} → Result A Fault → Device T → Device T → Type 0
FailsWithWriter result old new =
    IfErr result (λ fault. WriterFailures (culprit fault) old.failures new.failures) × OnOk result (new.failures ≡ old.failures)
    × (new.widest ≡ old.widest)

-- `Read` is returned exactly if one failure of the reader was counted, any other result only if none was; no read asked
-- for more than 1,029 bytes
abbrev pub FailsWithReader : {T A : Type 0} → Result A Fault → Device T → Device T → Type 0
FailsWithReader result old new =
    IfErr result (λ fault. ReaderFailures (culprit fault) old.failures new.failures) × OnOk result (new.failures ≡ old.failures)
    × (new.widest ≤ max old.widest longest_frame)

-- the same for both devices
abbrev pub FailsWithDevices : {R W A : Type 0} → Result A Fault → (r r' : Device R) → (w w' : Device W) → Type 0
FailsWithDevices result r r' w w' = FailsWithReader result r r' × FailsWithWriter result w w'

-- the fault of a file without an epoch, by the numbers of the epochs of the stream in which a satellite has a value: all
-- of them are left out
abbrev pub fault_of_none : EpochCounts → Fault
fault_of_none counts = if counts.epochs == 0 then NoEpoch else NoneChosen counts

-- the two faults of a file without an epoch, `NoEpoch` and `NoneChosen`
abbrev pub IsOfNone : Fault → Type 0
IsOfNone NoEpoch = ⊤
IsOfNone (NoneChosen counts) = ⊤
IsOfNone other = ⊥

-- P holds for the fault of a call that returns one of a file without an epoch
abbrev pub IfEmpty : {A : Type 0} → Result A Fault → (Fault → Type 0) → Type 0
IfEmpty result P = (fault : Fault) → IsOfNone fault → IsErrOf result fault → P fault

-- the faults of a setup
abbrev pub IsSetupFault : Fault → Type 0
IsSetupFault fault = (fault ≡ BadSetup) ⊎ (fault ≡ Memory)

-- the faults of `feed`, of `finish`, of `take_pieces`, and of `run`, if no call failed before
abbrev pub IsFeedFault : Fault → Type 0
IsFeedFault fault = (fault ≡ TooLong) ⊎ (fault ≡ Write)

abbrev pub IsFinishFault : Fault → Type 0
IsFinishFault fault =
    (fault ≡ NoEpoch) ⊎ (((counts : EpochCounts) × (fault ≡ NoneChosen counts)) ⊎ (fault ≡ Write))

abbrev pub IsPiecesFault : Fault → Type 0
IsPiecesFault fault = (fault ≡ TooLong) ⊎ IsFinishFault fault

abbrev pub IsRunFault : Fault → Type 0
IsRunFault fault = (fault ≡ Read) ⊎ IsPiecesFault fault
