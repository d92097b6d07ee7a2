-- The outcome of a message.
use Rattle.std.specs.Prelude.{ℕ, ◌||◌, Bool, true, false, List, Option, None, is_some, if◌then◌else◌, nat_lt}
use Rattle.obs_epoch.specs.declared.taken.Kind.{Kind}
use Rattle.obs_epoch.specs.declared.taken.Kind.TheVariants as kinds
use Rattle.std.specs.Option.{option_map_or}
use Rattle.obs_epoch.specs.declared.setup.Gather.TheVariants as gathers
use Rattle.obs_epoch.specs.declared.week.Start.TheVariants.{Week}
use Rattle.gnss_obs.specs.Values.{PlanValue, no_values}
use Rattle.obs_epoch.specs.Heard.{GatherSetup, Heard, is_own}
use Rattle.obs_epoch.specs.Choices.{every_epoch}
use Rattle.obs_epoch.specs.Times.{Timed, is_late, is_past, time_of, timed}
use Rattle.obs_epoch.specs.Cells.{counts_of_message}
use Rattle.obs_epoch.specs.declared.taken.CellCounts.{CellCounts}

abbrev pub is_close_first : Kind → Bool
is_close_first kinds.CloseFirst = true
is_close_first _ = false

-- The observations were accepted.
abbrev pub is_accepted : Kind → Bool
is_accepted (kinds.Kept n) = true
is_accepted _ = false

-- The outcome with these counts, if the observations were accepted.
abbrev pub with_counts : CellCounts → Kind → Kind
with_counts n kind = if is_accepted kind then kinds.Kept n else kind

-- The outcome of observations of the wanted station with this time of week.
abbrev pub kind_at : GatherSetup → List Timed → CellCounts → ℕ → Kind
kind_at s xs n tow =
    if is_late s xs tow then kinds.Late else (if is_past (time_of s xs tow) then kinds.PastWeeks else kinds.Kept n)

-- The outcome of a message with these counts of its cells: observations have a time of week, a station message has a
-- point.
abbrev pub kind_after : GatherSetup → List Timed → CellCounts → Heard → Kind
kind_after s xs n m =
    if is_some m.tow || is_some m.point
    then (if is_own s m then option_map_or (kind_at s xs n) m.tow kinds.Station else kinds.OtherStation)
    else kinds.Ignored

-- The outcome of a message after these messages.
abbrev pub kind_of : GatherSetup → List Heard → Heard → Kind
kind_of s ms m = kind_after s (timed s ms) (counts_of_message s (timed s ms) m) m

-- GPS time minus UTC in seconds from 2017-01-01 on, which holds if no other number is given.
abbrev pub default_leap : ℕ
default_leap = 18

-- The default settings with this plan and start week.
abbrev pub default_setup : PlanValue → ℕ → GatherSetup
default_setup plan start_week = record {
  plan = plan;
  start = Week start_week;
  station = None;
  gather = gathers.Bit;
  initial = no_values;
  leap_seconds = default_leap;
  choice = every_epoch;
}

-- The number of the station does not fit the 12 bits of DF003.
abbrev pub is_no_station : Option ℕ → Bool
is_no_station station = option_map_or (λ n. nat_lt 4_095 n) station false
