-- A reader and a writer at one time, what a call makes of them, and which of them failed at a fault.
use Rattle.std.specs.Prelude.{◌≡◌, ℕ, List, [], Option, Result, Ok, Err}
use Rattle.devices.specs.Device.{Device, HasFailed, IsUntouched}

-- a reader, and the bytes that it has left, if they are known
pub record Reader (R : Type 0) : Type 0 where
  pub device : Device R
  pub unread : Option (List ℕ)

-- a writer, the bytes written to it, if they are known, and those that wait in it
pub record Writer (W : Type 0) : Type 0 where
  pub device : Device W
  pub written : Option (List ℕ)
  pub waiting : List ℕ

pub record Devices (R W : Type 0) : Type 0 where
  pub reader : Reader R
  pub writer : Writer W

abbrev pub writer_of : {W : Type 0} → (W → Option (List ℕ)) → (W → List ℕ) → Device W → Writer W
writer_of contents waiting w = record { device = w; written = contents w.inner; waiting = waiting w.inner }

abbrev pub devices_of : {R W : Type 0} → (R → Option (List ℕ)) → (W → Option (List ℕ)) → (W → List ℕ) → Device R
    → Device W → Devices R W
devices_of remaining contents waiting r w =
    record { reader = record { device = r; unread = remaining r.inner }; writer = writer_of contents waiting w }

-- ---- a call: the devices were r and w, and are r' and w' after it

-- P relates the writer before and after
abbrev pub Writes : {W : Type 0} → (W → Option (List ℕ)) → (W → List ℕ) → (w w' : Device W)
    → ((w w' : Writer W) → Type 0) → Type 0
Writes contents waiting w w' P = P (writer_of contents waiting w) (writer_of contents waiting w')

-- P relates both before and after
abbrev pub Changes : {R W : Type 0} → (R → Option (List ℕ)) → (r r' : Device R) → (W → Option (List ℕ)) → (W → List ℕ)
    → (w w' : Device W) → ((d d' : Devices R W) → Type 0) → Type 0
Changes remaining r r' contents waiting w w' P =
    P (devices_of remaining contents waiting r w) (devices_of remaining contents waiting r' w')

-- both are as before
abbrev pub AreUntouched : {R W : Type 0} → (d d' : Devices R W) → Type 0
AreUntouched d d' = IsUntouched d.reader.device d'.reader.device d.writer.device d'.writer.device

-- ---- the failures that are counted

-- the device that failed at a fault, if one did
pub data Culprit : Type 0 where
  TheReader : Culprit
  TheWriter : Culprit
  NoDevice : Culprit

-- the failures of a reader and of a writer before and after: one more of the culprit, and the same number of the other
abbrev pub ReaderFailures : Culprit → ℕ → ℕ → Type 0
ReaderFailures TheReader before after = HasFailed before after
ReaderFailures other before after = after ≡ before

abbrev pub WriterFailures : Culprit → ℕ → ℕ → Type 0
WriterFailures TheWriter before after = HasFailed before after
WriterFailures other before after = after ≡ before

-- the culprit failed, and no other device
abbrev pub HaveFailedBy : {R W : Type 0} → Culprit → (d d' : Devices R W) → Type 0
HaveFailedBy culprit d d' =
    ReaderFailures culprit d.reader.device.failures d'.reader.device.failures
    × WriterFailures culprit d.writer.device.failures d'.writer.device.failures

-- no device failed, and nothing waits in the writer
abbrev pub AreFine : {R W : Type 0} → (d d' : Devices R W) → Type 0
AreFine d d' = (d'.reader.device.failures ≡ d.reader.device.failures)
    × (d'.writer.device.failures ≡ d.writer.device.failures) × (d'.writer.waiting ≡ [])

-- How a call ended: no device failed, nothing waits in the writer, and Done holds for its value; or the culprit of its
-- fault failed, and Stops holds for the fault.
abbrev pub Ends : {A E R W : Type 0} → (E → Culprit) → Result A E → (d d' : Devices R W) → (A → Type 0) → (E → Type 0)
    → Type 0
Ends culprit (Ok x) d d' Done Stops = AreFine d d' × Done x
Ends culprit (Err fault) d d' Done Stops = HaveFailedBy (culprit fault) d d' × Stops fault
