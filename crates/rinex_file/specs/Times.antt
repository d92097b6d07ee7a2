-- The times of the epochs of a file.
use Rattle.std.specs.Prelude.{◌≡◌, ℕ, ◌-◌, List, [], ◌∷◌, ◌++◌, Option, Some, None, min}
use Rattle.std.specs.List.{reduce}
use Rattle.rinex_file.specs.declared.read.times.EpochTimes.{EpochTimes}

-- The time from each of these times to the following one. The epochs of a file rise in time, so no step is zero and
-- each is the exact difference.
abbrev pub steps_of : List ℕ → List ℕ
steps_of [] = []
steps_of (t ∷ []) = []
steps_of (t ∷ (u ∷ ts)) = (u - t) ∷ steps_of (u ∷ ts)

-- the first and the last of these times, and the smallest of their steps, if there are any
pub record AreTimes (all : List ℕ) (t : EpochTimes) : Type 0 where
  pub first : (others : List ℕ) × (all ≡ t.first ∷ others)
  pub last : (others : List ℕ) × (all ≡ others ++ t.last ∷ [])
  pub step : t.step ≡ reduce min (steps_of all)

-- the times of epochs, or none without an epoch
abbrev pub AreTimesOrNone : List ℕ → Option EpochTimes → Type 0
AreTimesOrNone all None = all ≡ []
AreTimesOrNone all (Some t) = AreTimes all t
