-- The epochs of a complete file, which are at one interval, and the gaps between those of a file. Times and intervals
-- are in milliseconds.
use Rattle.std.specs.Prelude.{◌≡◌, ◌&&◌, nat_le, true, All, ◌==◌, ℕ, ◌+◌, ◌-◌, ◌/◌, ◌<◌, ◌≤◌, nat_lt, min, Bool, List}
use Rattle.std.specs.Prelude.{[], ◌∷◌, ◌++◌, map, codes, if◌then◌else◌, Option, Some, None, IfSome}
use Rattle.std.specs.List.{count_by, list_any}
use Rattle.gnss_obs.specs.Plans.{below}
use Rattle.line_texts.specs.Lengths.{longest_interval}
use Rattle.line_texts.specs.Lines.{line}
use Rattle.rinex_inspect.specs.DateTexts.{moment_words}
use Rattle.rinex_inspect.specs.declared.gaps.Placed.{Placed}
use Rattle.rinex_inspect.specs.declared.gaps.Window.{Window}

-- the interval of the epochs, and the window, if there is one
pub record Completeness : Type 0 where
  pub interval : ℕ
  pub window : Option Window

-- an interval of at most a day, and a window of one interval or more
pub record IsCompleteness (g : Completeness) : Type 0 where
  pub some : 0 < g.interval
  pub small : g.interval ≤ longest_interval
  pub window : IfSome g.window (λ w. w.from + g.interval ≤ w.until)

-- how much before its time an epoch may be: half a second, or half of the interval if that is less
abbrev pub early : Completeness → ℕ
early g = min 500 (g.interval / 2)

-- the origin: the begin of the window, or the time of the first epoch
abbrev pub origin_in : Option Window → (first : ℕ) → ℕ
origin_in None first = first
origin_in (Some w) first = w.from

-- the first of these times
abbrev pub first_of : List ℕ → ℕ
first_of [] = 0
first_of (t ∷ ts) = t

abbrev pub origin_of : Completeness → List ℕ → ℕ
origin_of g ts = origin_in g.window (first_of ts)

-- the window, if there is one, has an epoch at this time
abbrev pub is_in_window : Option Window → (early time : ℕ) → Bool
is_in_window None early t = true
is_in_window (Some w) early t = nat_le w.from (t + early) && nat_lt t w.until

abbrev pub is_inside : Option Completeness → ℕ → Bool
is_inside None t = true
is_inside (Some g) t = is_in_window g.window (early g) t

abbrev pub AreInside : Option Completeness → List ℕ → Type 0
AreInside complete ts = All (λ t. is_inside complete t ≡ true) ts

-- the number of intervals from the origin to a time, which may be early
abbrev pub intervals_to : Completeness → (origin time : ℕ) → ℕ
intervals_to g origin t = ((t + early g) - origin) / g.interval

-- the number of intervals of a window
abbrev pub window_size : ℕ → Window → ℕ
window_size interval w = (w.until - w.from) / interval

-- the index of an epoch that is this number of intervals after the origin; in a window at most its last index
abbrev pub capped : Option Window → Completeness → ℕ → ℕ
capped None g n = n
capped (Some w) g n = min n (window_size g.interval w - 1)

-- the index of an epoch at this time
abbrev pub index_of : Completeness → (origin time : ℕ) → ℕ
index_of g origin t = capped g.window g (intervals_to g origin t)

-- ---- complete

-- the indexes of these times
abbrev pub indexes_of : Completeness → List ℕ → List ℕ
indexes_of g ts = map (index_of g (origin_of g ts)) ts

-- one of them is n
abbrev pub is_among : List ℕ → ℕ → Bool
is_among indexes n = list_any (λ i. i == n) indexes

-- the number of those below m that are among them
abbrev pub number_among : List ℕ → ℕ → ℕ
number_among indexes m = count_by (is_among indexes) (below m)

-- the number of epochs of a complete file whose last epoch is at this time: the intervals of the window; or the index
-- of that epoch plus one
abbrev pub size_in : Option Window → Completeness → (origin last : ℕ) → ℕ
size_in None g origin last = index_of g origin last + 1
size_in (Some w) g origin last = window_size g.interval w

-- ---- gaps

-- two times
unfoldable pub gap_line : (last time : ℕ) → List ℕ
gap_line last time = line (codes "gap" ∷ (moment_words last ++ moment_words time))

-- the line of two times, if a place between theirs is missing
abbrev pub gap_between : (p q : Placed) → List ℕ
gap_between p q = if nat_lt (p.place + 1) q.place then gap_line p.time q.time else []

-- the lines of times that follow another one
abbrev pub gaps_from : Placed → List Placed → List ℕ
gaps_from p [] = []
gaps_from p (q ∷ qs) = gap_between p q ++ gaps_from q qs

-- the place of an epoch
abbrev pub placed : Completeness → (origin time : ℕ) → Placed
placed g origin t = record { place = index_of g origin t + 1; time = t }

-- the origin, which precedes the first epoch
abbrev pub start : ℕ → Placed
start origin = record { place = 0; time = origin }

-- the end of the window, if there is one, which follows the last epoch
abbrev pub ends_in : Option Window → ℕ → List Placed
ends_in None interval = []
ends_in (Some w) interval = record { place = window_size interval w + 1; time = w.until } ∷ []

-- the epochs at these times
abbrev pub all_placed : Completeness → List ℕ → List Placed
all_placed g ts = map (placed g (origin_of g ts)) ts

-- the gaps before and between these epochs, and after them
abbrev pub gaps_before : Completeness → List ℕ → List ℕ
gaps_before g ts = gaps_from (start (origin_of g ts)) (all_placed g ts)

abbrev pub all_gaps : Completeness → List ℕ → List ℕ
all_gaps g ts = gaps_from (start (origin_of g ts)) (all_placed g ts ++ ends_in g.window g.interval)
