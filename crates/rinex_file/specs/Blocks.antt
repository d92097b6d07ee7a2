-- Bytes that were read ahead.
use Rattle.std.specs.Prelude.{◌≡◌, ℕ, zero, suc, ◌<◌, ◌≤◌, Bool, true, false, List, [], ◌∷◌, ◌++◌, length, take, Option}
use Rattle.std.specs.Prelude.{Err, Result}
use Rattle.std.specs.Io.KnownBytes.{Consumes}
use Rattle.devices.specs.Device.{Device, HasFailed}
use Rattle.rinex_columns.specs.Read.{has}
use Rattle.rinex_columns.specs.Limits.{most_line}

-- the remaining bytes follow some of the bytes that were there
abbrev pub LeavesRest : Option (List ℕ) → Option (List ℕ) → Type 0
LeavesRest old new = (bytes : List ℕ) × Consumes old new bytes

-- a call that reads, and fails with its reader: a prefix of the remaining bytes was read; exactly one failure was
-- counted if the call returned this fault, and otherwise none
pub record ReadsPrefix {A E R : Type 0} (fault : E) (result : Result A E) (remaining : R → Option (List ℕ))
    (r r' : Device R) : Type 0 where
  pub failed : result ≡ Err fault → HasFailed r.failures r'.failures
  pub same : (result ≡ Err fault → ⊥) → r'.failures ≡ r.failures
  pub left : LeavesRest (remaining r.inner) (remaining r'.inner)

-- the bytes that were moved: up to the line feed, or without a line feed
abbrev pub AreMoved : Bool → List ℕ → Type 0
AreMoved true bytes = (body : List ℕ) × (bytes ≡ body ++ 10 ∷ []) × (has 10 body ≡ false)
AreMoved false bytes = has 10 bytes ≡ false

-- the first bytes of `old` were moved after those of the line
pub record MovesBytes (whole : Bool) (old new line line' : List ℕ) : Type 0 where
  pub bytes : List ℕ
  pub from : old ≡ bytes ++ new
  pub to : line' ≡ line ++ bytes
  pub are : AreMoved whole bytes
  pub some : 0 < length old → length line < most_line → 0 < length bytes
  pub short : length line' ≤ most_line

-- the line that was read last, and the bytes that were read after it
pub record LinesRead : Type 0 where
  pub line : List ℕ
  pub ahead : List ℕ

-- the line of this size is the front of the block, or if it has none it is in the buffer
abbrev pub last_line : ℕ → List ℕ → List ℕ → List ℕ
last_line zero block buffer = buffer
last_line (suc n) block buffer = take (suc n) block
