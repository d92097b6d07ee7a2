-- Laws of the lines of gaps and of the number of epochs.
use Rattle.std.specs.Prelude.{◌≡◌, ℕ, ◌≤◌, List, [], None}
use Rattle.rinex_file.specs.FileValues.{IsFileValue}
use Rattle.rinex_file.specs.Times.{AreTimes}
use Rattle.rinex_file.specs.Value.{FileValue}
use Rattle.rinex_file.specs.declared.read.times.EpochTimes.{EpochTimes}
use Rattle.rinex_inspect.specs.CheckOutput.{all_gaps_if, gaps_if, size_of, times_in}
use Rattle.rinex_inspect.specs.Gaps.{Completeness, IsCompleteness, all_gaps, indexes_of, number_among}

-- at most all epochs of a complete file are there, and all of them exactly if no gap is printed
pub record HasAllWithoutGap (g : Completeness) (ts : List ℕ) (t : EpochTimes) : Type 0 where
  pub few : number_among (indexes_of g ts) (size_of g t) ≤ size_of g t
  pub none : number_among (indexes_of g ts) (size_of g t) ≡ size_of g t → all_gaps g ts ≡ []
  pub all : all_gaps g ts ≡ [] → number_among (indexes_of g ts) (size_of g t) ≡ size_of g t

-- so it is of every file, with and without a window
abbrev pub CountsWhatIsThere : Type 0
CountsWhatIsThere = (g : Completeness) (v : FileValue) (t : EpochTimes) → IsCompleteness g → IsFileValue v
    → AreTimes (times_in v.epochs) t → HasAllWithoutGap g (times_in v.epochs) t

-- no gap is printed if none is asked for
abbrev pub PrintsNoneUnasked : Type 0
PrintsNoneUnasked = (ts : List ℕ) → (gaps_if None ts ≡ []) × (all_gaps_if None ts ≡ [])
