-- The number of places without an epoch, which `check` counts by the gaps.
use Rattle.std.specs.Prelude.{ℕ, ◌+◌, ◌-◌, ◌*◌, ◌≤◌, codes, decimal, List, [], ◌∷◌, Option, Some, None, ⊤}
use Rattle.rinex_file.specs.declared.read.times.EpochTimes.{EpochTimes}
use Rattle.line_texts.specs.Lines.{line}
use Rattle.rinex_inspect.specs.CheckOutput.{size_of}
use Rattle.rinex_inspect.specs.DateTexts.{moment_bytes}
use Rattle.rinex_inspect.specs.Gaps.{Completeness, all_placed, ends_in, gap_between, gaps_from, origin_in, origin_of}
use Rattle.rinex_inspect.specs.Gaps.{placed, start}
use Rattle.rinex_inspect.specs.declared.gaps.Placed.{Placed}

-- the number of places between two
abbrev pub missing_between : (p q : Placed) → ℕ
missing_between p q = (q.place - p.place) - 1

-- the number of those between consecutive ones that follow another one
abbrev pub missing_from : Placed → List Placed → ℕ
missing_from p [] = 0
missing_from p (q ∷ qs) = missing_between p q + missing_from q qs

abbrev pub missing_before : Completeness → List ℕ → ℕ
missing_before g ts = missing_from (start (origin_of g ts)) (all_placed g ts)

abbrev pub missing_if : Option Completeness → List ℕ → ℕ
missing_if None ts = 0
missing_if (Some g) ts = missing_before g ts

-- each of these times is at least the one before it
abbrev pub Rise : (before : ℕ) → List ℕ → Type 0
Rise u [] = ⊤
Rise u (t ∷ ts) = (u ≤ t) × Rise t ts

-- ---- an epoch after others, of which only the first and the last time are known

-- the first time of all
abbrev pub first_with : Option EpochTimes → (time : ℕ) → ℕ
first_with None time = time
first_with (Some t) time = t.first

-- the epoch before this one, or the origin
abbrev pub last_with : Completeness → (origin : ℕ) → Option EpochTimes → Placed
last_with g origin None = start origin
last_with g origin (Some t) = placed g origin t.last

abbrev pub origin_with : Completeness → Option EpochTimes → (time : ℕ) → ℕ
origin_with g before time = origin_in g.window (first_with before time)

-- the gap before it, and the number of missing places
abbrev pub gap_with : Option Completeness → Option EpochTimes → (time : ℕ) → List ℕ
gap_with None before time = []
gap_with (Some g) before time =
    gap_between (last_with g (origin_with g before time) before) (placed g (origin_with g before time) time)

abbrev pub missing_with : Option Completeness → Option EpochTimes → (time : ℕ) → ℕ
missing_with None before time = 0
missing_with (Some g) before time =
    missing_between (last_with g (origin_with g before time) before) (placed g (origin_with g before time) time)

-- ---- the end of a file whose last epoch is at this time

-- the places after it
abbrev pub gaps_to_end : Completeness → EpochTimes → List ℕ
gaps_to_end g t = gaps_from (placed g (origin_in g.window t.first) t.last) (ends_in g.window g.interval)

abbrev pub missing_to_end : Completeness → EpochTimes → ℕ
missing_to_end g t = missing_from (placed g (origin_in g.window t.first) t.last) (ends_in g.window g.interval)

abbrev pub end_gap_if : Option Completeness → EpochTimes → List ℕ
end_gap_if None t = []
end_gap_if (Some g) t = gaps_to_end g t

abbrev pub end_missing_if : Option Completeness → EpochTimes → ℕ
end_missing_if None t = 0
end_missing_if (Some g) t = missing_to_end g t

-- the most bytes of the line of a gap
abbrev pub longest_gap : ℕ
longest_gap = 3 + 2 * moment_bytes + 1

-- the line of the number of epochs of a complete file but for these numbers of missing ones, and that of all
unfoldable pub line_but : Completeness → EpochTimes → (missing after : ℕ) → List ℕ
line_but g t missing after =
    line (codes "complete" ∷ decimal ((size_of g t - missing) - after) ∷ codes "of" ∷ decimal (size_of g t) ∷ [])

abbrev pub complete_but : Option Completeness → EpochTimes → (missing after : ℕ) → List ℕ
complete_but None t missing after = []
complete_but (Some g) t missing after = line_but g t missing after
