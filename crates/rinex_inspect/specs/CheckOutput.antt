-- The output of the command `check`. Times and intervals are in milliseconds.
use Rattle.std.specs.Prelude.{◌≡◌, ℕ, Bool, true, false, List, [], ◌∷◌, ◌++◌, length, map}
use Rattle.std.specs.Prelude.{codes, decimal, Option, Some, None}
use Rattle.std.specs.List.{sum_by}
use Rattle.rinex_file.specs.FileValues.{time_stamped}
use Rattle.rinex_file.specs.Counting.{events_in}
use Rattle.rinex_file.specs.Times.{AreTimes}
use Rattle.rinex_file.specs.Value.{FileValue, Stamped}
use Rattle.rinex_file.specs.declared.read.times.EpochTimes.{EpochTimes}
use Rattle.rinex_inspect.specs.DateTexts.{times_lines}
use Rattle.rinex_inspect.specs.Gaps.{Completeness, all_gaps, gaps_before, indexes_of, number_among, origin_in, size_in}
use Rattle.line_texts.specs.Lines.{line}
use Rattle.rinex_inspect.specs.declared.check.CheckOptions.{CheckOptions}

-- the numbers of epochs, satellite lines and events of a file
unfoldable pub check_line : FileValue → List ℕ
check_line v = line (
    codes "epochs" ∷ decimal (length v.epochs)
    ∷ codes "satellites" ∷ decimal (sum_by (λ e. length e.rows) v.epochs)
    ∷ codes "events" ∷ decimal (events_in v.epochs)
    ∷ [])

-- the gaps before and between epochs at these times, and all gaps of a file, if it is asked whether it is complete
abbrev pub gaps_if : Option Completeness → List ℕ → List ℕ
gaps_if None ts = []
gaps_if (Some g) ts = gaps_before g ts

abbrev pub all_gaps_if : Option Completeness → List ℕ → List ℕ
all_gaps_if None ts = []
all_gaps_if (Some g) ts = all_gaps g ts

-- the number of epochs of a complete file with these times, and the number of those that the file has
abbrev pub size_of : Completeness → EpochTimes → ℕ
size_of g t = size_in g.window g (origin_in g.window t.first) t.last

unfoldable pub complete_line : Completeness → List ℕ → EpochTimes → List ℕ
complete_line g ts t =
    line (codes "complete" ∷ decimal (number_among (indexes_of g ts) (size_of g t))
    ∷ codes "of" ∷ decimal (size_of g t) ∷ [])

abbrev pub complete_if : Option Completeness → List ℕ → EpochTimes → List ℕ
complete_if None ts t = []
complete_if (Some g) ts t = complete_line g ts t

abbrev pub times_if : Bool → EpochTimes → List ℕ
times_if true t = times_lines t
times_if false t = []

-- the times of epochs
abbrev pub times_in : List Stamped → List ℕ
times_in es = map time_stamped es

-- the output for a file: the gaps, the counts, the times, and whether it is complete, each but the counts if asked for
abbrev pub IsOutput : CheckOptions → FileValue → List ℕ → Type 0
IsOutput o v text = (t : EpochTimes) × AreTimes (times_in v.epochs) t
    × (text ≡ all_gaps_if o.complete (times_in v.epochs)
    ++ ((check_line v ++ times_if o.times t) ++ complete_if o.complete (times_in v.epochs) t))

-- only the counts are asked for
abbrev pub counts_alone : CheckOptions
counts_alone = record { complete = None; times = false }
