-- The parser state while a file is read, and what it means for all that was read.
use Rattle.std.specs.Prelude.{◌≡◌, ℕ, ◌+◌, ◌≤◌, List, [], ◌∷◌, ◌++◌, length, map, Option, Result, Ok, Err}
use Rattle.std.specs.Prelude.{true, ◌<◌, ◌↔◌, ⊤}
use Rattle.std.specs.List.Sorted.{IsStrictlyIncreasing}
use Rattle.rinex_file.specs.declared.read.parser_state.ParserState.{ParserState}
use Rattle.rinex_file.specs.declared.read.file.Counts.{Counts}
use Rattle.rinex_file.specs.declared.read.times.EpochTimes.{EpochTimes}
use Rattle.rinex_file.specs.Times.{AreTimesOrNone}
use Rattle.rinex_file.specs.declared.read.parser_state.Expected.{Expected}
use Rattle.rinex_file.specs.declared.read.parser_state.Expected.TheVariants.{Header, Satellite}
use Rattle.rinex_file.specs.declared.read.parser_state.Refusal.{Refusal}
use Rattle.rinex_file.specs.declared.read.parser_state.Refusal.TheVariants.{Memory, Bad}
use Rattle.rinex_file.specs.Value.{SatelliteRow, Stamped, FileValue}
use Rattle.gnss_obs.specs.declared.cell.StationValues.{StationValues}
use Rattle.rinex_file.specs.FileValues.{time_stamped, rank_of, changed_by, values_following}
use Rattle.rinex_file.specs.Header.{is_of_types}
use Rattle.rinex_file.specs.inner.Read.Progress.{Progress, HasLinesLeft}
use Rattle.rinex_file.specs.inner.Read.Sound.{IsSound, AreLinesOf}
use Rattle.rinex_file.specs.Counting.{History, rows_in, events_in}

-- what was read if a parser state has this history
abbrev pub progress_at : ParserState → History → Progress
progress_at c h =
    record { expected = c.expected; known = c.head; epochs = h.epochs; change = c.change; time = c.time; rows = h.rows }

-- exactly the numbers above this one continue the increasing numbers
abbrev pub IsLast : List ℕ → ℕ → Type 0
IsLast xs last = (n : ℕ) → 0 < n → (last < n) ↔ IsStrictlyIncreasing (xs ++ n ∷ [])

-- the times, the last rank, the last change of station values, and the counts are those of a history
pub record AreCounted (h : History) (t : Option EpochTimes) (last_rank : ℕ) (changed : Option StationValues)
    (n : Counts) : Type 0 where
  pub times : AreTimesOrNone (map time_stamped h.epochs) t
  pub rank : IsLast (map rank_of h.rows) last_rank
  pub values : (v : StationValues) → changed_by v changed ≡ values_following v h.epochs
  pub epochs : n.epochs ≡ length h.epochs
  pub satellites : n.satellites ≡ rows_in h.epochs + length h.rows
  pub events : n.events ≡ events_in h.epochs

-- this is the parser state after this history
pub record FollowsHistory (c : ParserState) (h : History) : Type 0 where
  pub sound : IsSound (progress_at c h)
  pub counted : AreCounted h c.times c.rank c.values c.counts

-- an epoch after this change of station values
abbrev pub stamped_at : Option StationValues → ℕ → List SatelliteRow → Stamped
stamped_at change time rows = record { change = change; time = time; rows = rows }

-- a history with one satellite more
abbrev pub with_satellite : History → SatelliteRow → History
with_satellite h row = record { epochs = h.epochs; rows = h.rows ++ row ∷ [] }

-- a history in which the epoch that was begun, after this change and at this time, has all its satellites
abbrev pub with_whole_epoch : History → Option StationValues → ℕ → History
with_whole_epoch h change time = record { epochs = h.epochs ++ stamped_at change time h.rows ∷ []; rows = [] }

-- a history with the satellite that was read, and with its epoch if no more are expected
abbrev pub with_last_read : Expected → ParserState → History → History
with_last_read (Satellite n) c h = with_satellite h c.last_read
with_last_read other c h = with_whole_epoch (with_satellite h c.last_read) c.change c.time

-- a file that has the line next has these lines left after it
abbrev pub GoesOnWithLine : Progress → Progress → List ℕ → Type 0
GoesOnWithLine old new line =
    (v : FileValue) (left : List (List ℕ)) → HasLinesLeft old v (line ∷ left) → HasLinesLeft new v left

-- the line is that of what was added to what was read
abbrev pub ShowsLine : Progress → Progress → List ℕ → Type 0
ShowsLine old new line = (taken : List (List ℕ)) → AreLinesOf old taken → AreLinesOf new (taken ++ line ∷ [])

-- no file continues with the line
abbrev pub RefusesLine : Progress → List ℕ → Type 0
RefusesLine s line = (v : FileValue) (left : List (List ℕ)) → HasLinesLeft s v (line ∷ left) → ⊥

-- the number of epochs, 0 or 1, whose line was read and not those of all their satellites
abbrev pub open_epochs : Expected → ℕ
open_epochs (Satellite n) = 1
open_epochs other = 0

-- each epoch and each satellite has a line of its own among this number of lines, and no more events are counted
abbrev pub HasRoom : ParserState → ℕ → Type 0
HasRoom c lines = (c.counts.epochs + open_epochs c.expected + c.counts.satellites ≤ lines) × (c.counts.events ≤ lines)

-- a line of a header is expected; a line of a satellite is
abbrev pub ExpectsHeader : Expected → Type 0
ExpectsHeader (Header place) = ⊤
ExpectsHeader other = ⊥

abbrev pub ExpectsRow : Expected → Type 0
ExpectsRow (Satellite n) = ⊤
ExpectsRow other = ⊥

-- the header and the epoch that was begun are the same
abbrev pub AreSame : (old new : ParserState) → Type 0
AreSame old new = (new.head ≡ old.head) × (new.change ≡ old.change) × (new.time ≡ old.time)

-- what a line adds to a history if this is expected: a satellite if one is; and it leaves the header as it is, unless it
-- is a line of the header
abbrev pub AddsAt : Expected → (old new : ParserState) → (h after : History) → Type 0
AddsAt (Satellite n) old new h after = AreSame old new × (after ≡ with_last_read new.expected new h)
AddsAt (Header place) old new h after = after ≡ h
AddsAt other old new h after = (after ≡ h) × (new.head ≡ old.head)

-- a line was accepted: it may follow what was read, the state has the history with what the line adds, and no count grows
-- by more than one
pub record IsNext (old new : ParserState) (line : List ℕ) (h after : History) : Type 0 where
  pub history : FollowsHistory new after
  pub follows : GoesOnWithLine (progress_at old h) (progress_at new after) line
  pub shows : ShowsLine (progress_at old h) (progress_at new after) line
  pub room : (n : ℕ) → HasRoom old n → HasRoom new (n + 1)
  pub adds : AddsAt old.expected old new h after

-- memory may run out where this is expected and this line is read: only at a line of types
abbrev pub MayRunOut : Expected → List ℕ → Type 0
MayRunOut (Header place) line = is_of_types line ≡ true
MayRunOut other line = ⊥

-- the result of a line
abbrev pub TakesLine : ParserState → ParserState → List ℕ → Result ⊤ Refusal → Type 0
TakesLine old new line (Ok u) = (h : History) → FollowsHistory old h → (after : History) × IsNext old new line h after
TakesLine old new line (Err Bad) = (h : History) → FollowsHistory old h → RefusesLine (progress_at old h) line
TakesLine old new line (Err Memory) = MayRunOut old.expected line
