-- A writer with a buffer before it.
use Rattle.std.specs.Prelude.{◌≡◌, ℕ, Bool, true, false, List, ◌++◌, Option, Result, OnOk, OnErr, IsErr}
use Rattle.std.specs.Io.KnownBytes.{append_known}

-- the capacity of the buffer, in bytes
abbrev pub buffer_bytes : ℕ
buffer_bytes = 65536

-- device: the writer; waiting: the bytes that weren't passed to it yet, or that it didn't accept; has_failed: a call of
-- it failed
pub record Buffering (W : Type 0) : Type 0 where
  pub device : W
  pub waiting : List ℕ
  pub has_failed : Bool

-- a call that fails exactly if the buffer has failed after it, and that changes nothing if it had failed before
pub record StaysFailed {A E W : Type 0} (result : Result A E) (b b' : Buffering W) : Type 0 where
  pub fine : OnOk result (b'.has_failed ≡ false)
  pub failed : OnErr result (b'.has_failed ≡ true)
  pub over : b.has_failed ≡ true → IsErr result × (b' ≡ b)

-- the bytes that the device has, followed by those in the buffer
abbrev pub contents_of : {W : Type 0} → (W → Option (List ℕ)) → Buffering W → Option (List ℕ)
contents_of contents b = append_known (contents b.device) b.waiting

-- the bytes that wait in the device, followed by those in the buffer
abbrev pub waiting_of : {W : Type 0} → (W → List ℕ) → Buffering W → List ℕ
waiting_of waiting b = waiting b.device ++ b.waiting
