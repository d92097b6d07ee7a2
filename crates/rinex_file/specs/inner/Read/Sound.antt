-- What holds of all that was read of a file, for every kind of expected line.
use Rattle.std.specs.Prelude.{◌≡◌, ◌≢◌, Some, ℕ, ◌+◌, ◌<◌, ◌≤◌, List, [], ◌∷◌, ◌++◌, length, map}
use Rattle.std.specs.List.Sorted.{IsStrictlyIncreasing}
use Rattle.rinex_file.specs.declared.read.parser_state.Expected.{Expected}
use Rattle.rinex_file.specs.declared.read.parser_state.Expected.TheVariants.{Header, Epoch, EventPosition, EventHeight}
use Rattle.rinex_file.specs.declared.read.parser_state.Expected.TheVariants.{EventEpoch, Satellite}
use Rattle.gnss_obs.specs.declared.cell.StationValues.{StationValues}
use Rattle.rinex_file.specs.FileValues.{IsChange, values_following, time_stamped, most_rows, planned_in, IsFileValue}
use Rattle.rinex_file.specs.Begun.{AreWhole, IsPartOfNext, whole_lines, part_lines}
use Rattle.rinex_file.specs.File.{file_lines, event_line, event_lines}
use Rattle.rinex_file.specs.Header.{position_line}
use Rattle.rinex_file.specs.Value.{FileValue}
use Rattle.rinex_file.specs.inner.Read.Progress.{Progress, stamped, HasLinesLeft, IsHeadAt, AreHeadLines, IsPosition}

-- the header and the epochs are those of a file
abbrev pub AreRead : Progress → Type 0
AreRead s = AreWhole s.known.shown s.epochs

-- the station values after the epochs that were read
abbrev pub values_now : Progress → StationValues
values_now s = values_following s.known.shown.values s.epochs

-- an epoch after these was begun
abbrev pub IsBegun : Progress → Type 0
IsBegun s = IsPartOfNext s.known.shown s.epochs (stamped s s.rows)

-- an event may follow the epochs that were read
abbrev pub IsEventExpected : Progress → Type 0
IsEventExpected s = AreRead s × (s.rows ≡ []) × (s.epochs ≢ [])

abbrev pub IsSoundAt : Progress → Expected → Type 0
IsSoundAt s (Header place) = (s.epochs ≡ []) × (s.rows ≡ []) × IsHeadAt s.known place
IsSoundAt s Epoch = AreRead s × (s.rows ≡ [])
IsSoundAt s EventPosition = IsEventExpected s
IsSoundAt s (EventHeight position) = IsEventExpected s × IsPosition position
IsSoundAt s (EventEpoch values) = IsEventExpected s × IsChange (values_now s) (Some values)
IsSoundAt s (Satellite n) = AreRead s × IsBegun s × (0 < n)
    × (length s.rows + n ≤ most_rows (planned_in s.known.shown.plan))

abbrev pub IsSound : Progress → Type 0
IsSound s = IsSoundAt s s.expected

-- an epoch of n satellites may follow at a time: it is later than those before, or is the time in the header, and the
-- planned systems have as many satellites
pub record MayBegin (s : Progress) (t n : ℕ) : Type 0 where
  pub later : IsStrictlyIncreasing (map time_stamped s.epochs ++ t ∷ [])
  pub first : s.epochs ≡ [] → s.known.shown.first ≡ t
  pub some : 0 < n
  pub room : n ≤ most_rows (planned_in s.known.shown.plan)

-- ---- the lines that were read

-- these are the lines of what was read
abbrev pub AreLinesAt : Progress → Expected → List (List ℕ) → Type 0
AreLinesAt s (Header place) lines = AreHeadLines s.known place lines
AreLinesAt s Epoch lines = lines ≡ whole_lines s.known.shown s.epochs
AreLinesAt s EventPosition lines = lines ≡ whole_lines s.known.shown s.epochs ++ event_line ∷ []
AreLinesAt s (EventHeight position) lines =
    lines ≡ whole_lines s.known.shown s.epochs ++ event_line ∷ position_line position ∷ []
AreLinesAt s (EventEpoch values) lines = lines ≡ whole_lines s.known.shown s.epochs ++ event_lines values
AreLinesAt s (Satellite n) lines =
    lines ≡ whole_lines s.known.shown s.epochs ++ part_lines (stamped s s.rows) (length s.rows + n)

abbrev pub AreLinesOf : Progress → List (List ℕ) → Type 0
AreLinesOf s lines = AreLinesAt s s.expected lines

-- what was read describes the accepted lines: these are its lines, and the file values that begin with them continue
pub record HasReadLines (s : Progress) (taken : List (List ℕ)) : Type 0 where
  pub goes : (v : FileValue) (left : List (List ℕ)) → IsFileValue v → file_lines v ≡ taken ++ left
      → HasLinesLeft s v left
  pub are : AreLinesOf s taken
