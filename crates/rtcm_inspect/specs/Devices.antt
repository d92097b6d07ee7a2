-- The devices of a command before and after it: which of them failed at a fault, and what was read and delivered.
use Rattle.std.specs.Prelude.{◌≡◌, Result, Ok, Err, List, ℕ}
use Rattle.std.specs.Io.KnownBytes.{Consumes, IsAtEnd}
use Rattle.devices.specs.Device.{Device}
use Rattle.devices.specs.Devices.{Culprit, Devices, NoDevice, ReaderFailures, TheReader, TheWriter}
use Rattle.rtcm_scan.specs.declared.feed.StreamFault.{StreamFault}
use Rattle.rtcm_scan.specs.declared.feed.StreamFault.TheVariants as stream
use Rattle.rtcm_inspect.specs.declared.fault.InspectFault.{InspectFault}
use Rattle.rtcm_inspect.specs.declared.fault.InspectFault.TheVariants as faults

-- the fault of a command for a fault of a stream whose frames are written to a device
abbrev pub stream_fault : {F : Type 0} → StreamFault F → InspectFault
stream_fault stream.Read = faults.Read
stream_fault stream.TooLong = faults.TooLong
stream_fault (stream.Sink failed) = faults.Write

-- the device that failed at a fault
abbrev pub culprit : InspectFault → Culprit
culprit faults.Read = TheReader
culprit faults.Write = TheWriter
culprit other = NoDevice

-- a reader before and after
abbrev pub CountsReader : {T A : Type 0} → Result A InspectFault → Device T → Device T → Type 0
CountsReader (Ok x) r r' = r'.failures ≡ r.failures
CountsReader (Err fault) r r' = ReaderFailures (culprit fault) r.failures r'.failures

-- the stream was read to its end, and P holds for its bytes
abbrev pub ReadsStream : {R W : Type 0} → (d d' : Devices R W) → (List ℕ → Type 0) → Type 0
ReadsStream d d' P =
    (b : List ℕ) × Consumes d.reader.unread d'.reader.unread b × IsAtEnd d'.reader.unread × P b
