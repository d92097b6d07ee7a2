-- What a command has read and written that prints one text for the frames of a stream: `IsText` relates frames to their
-- text, and `IsRefused` the bytes to the fault by which they are refused. The devices were d and are d'.
use Rattle.std.specs.Prelude.{◌≡◌, ◌⊎◌, ℕ, ◌<◌, List, length, Option, Result}
use Rattle.std.specs.Io.KnownBytes.{Appends, Consumes}
use Rattle.devices.specs.Device.{AppendsPrefix}
use Rattle.devices.specs.Devices.{Devices, Ends}
use Rattle.rtcm_scan.specs.Frames.{Framed, frames_of}
use Rattle.rtcm_scan.specs.Scan.{most_bytes}
use Rattle.devices.specs.Printing.{IsDelivered, IsUnread}
use Rattle.rtcm_inspect.specs.Devices.{ReadsStream, culprit}
use Rattle.rtcm_inspect.specs.declared.fault.InspectFault.{InspectFault}
use Rattle.rtcm_inspect.specs.declared.fault.InspectFault.TheVariants as faults

-- the stream was read to its end, its frames have a text, and Writes holds for it
abbrev pub ReadsWithText : {R W : Type 0} → (List Framed → List ℕ → Type 0) → (List ℕ → Type 0) → (d d' : Devices R W)
    → Type 0
ReadsWithText IsText Writes d d' = ReadsStream d d' (λ b. (text : List ℕ) × IsText (frames_of b) text × Writes text)

-- the text was written
abbrev pub PrintsStream : {R W : Type 0} → (List Framed → List ℕ → Type 0) → (d d' : Devices R W) → Type 0
PrintsStream IsText d d' = ReadsWithText IsText (Appends d.writer.written d'.writer.written) d d'

-- the stream was read to its end and is refused, and nothing was written
abbrev pub RefusesStream : {R W : Type 0} → (List ℕ → InspectFault → Type 0) → (d d' : Devices R W) → InspectFault
    → Type 0
RefusesStream IsRefused d d' fault = ReadsStream d d' (λ b. IsRefused b fault) × IsDelivered d.writer d'.writer

-- more bytes were read than the limit allows
abbrev pub ReadsTooMuch : ℕ → (r r' : Option (List ℕ)) → Type 0
ReadsTooMuch limit r r' = (b : List ℕ) × Consumes r r' b × (limit < length b)

-- What was read and written at a fault: only at `Write` was anything written, and except at `Write` nothing waits in
-- the writer. It fails before anything is read, or in the text.
abbrev pub StopsStream : {R W : Type 0} → (List Framed → List ℕ → Type 0) → (List ℕ → InspectFault → Type 0)
    → (d d' : Devices R W) → InspectFault → Type 0
StopsStream IsText IsRefused d d' faults.Read = IsDelivered d.writer d'.writer
StopsStream IsText IsRefused d d' faults.Write =
    IsUnread d d' ⊎ ReadsWithText IsText (AppendsPrefix d.writer.written d'.writer.written) d d'
StopsStream IsText IsRefused d d' faults.TooLong =
    ReadsTooMuch most_bytes d.reader.unread d'.reader.unread × IsDelivered d.writer d'.writer
StopsStream IsText IsRefused d d' faults.Memory =
    (d'.reader.device ≡ d.reader.device) × IsDelivered d.writer d'.writer
StopsStream IsText IsRefused d d' fault = RefusesStream IsRefused d d' fault

-- how such a command ended
abbrev pub EndsStream : {A R W : Type 0} → Result A InspectFault → (List Framed → List ℕ → Type 0)
    → (List ℕ → InspectFault → Type 0) → (d d' : Devices R W) → Type 0
EndsStream result IsText IsRefused d d' =
    Ends culprit result d d' (λ _. PrintsStream IsText d d') (StopsStream IsText IsRefused d d')
