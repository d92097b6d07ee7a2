-- The number of bits of a message.
use Rattle.std.specs.Prelude.{ℕ, ◌*◌, ◌≤◌, List, length}
use Rattle.rtcm_bits.specs.FrameOf.{longest_message}

-- these bytes, of which a message can have as many, are at least n bits
pub record HasBits (bytes : List ℕ) (n : ℕ) : Type 0 where
  pub there : n ≤ 8 * length bytes
  pub small : length bytes ≤ longest_message
