-- The time of each message, and which messages are accepted.
use Rattle.std.specs.Prelude.{ℕ, ◌+◌, ◌-◌, ◌*◌, ◌/◌, ◌%◌, ◌==◌, ◌&&◌, ◌||◌, Bool, false, not, max, nat_lt, List, []}
use Rattle.std.specs.Prelude.{◌∷◌, ◌++◌, if◌then◌else◌, Option, Some, None, option_and_then}
use Rattle.std.specs.Option.{option_map_or}
use Rattle.std.specs.List.{list_any}
use Rattle.rtcm_msg.specs.Msm.{week}
use Rattle.gnss_obs.specs.Weeks.{weeks}
use Rattle.obs_epoch.specs.Starts.{first_week}
use Rattle.obs_epoch.specs.Heard.{GatherSetup, Heard, is_own, ends_epoch}

-- A message, with its time if it was accepted.
pub record Timed : Type 0 where
  pub message : Heard
  pub time : Option ℕ

-- The message was accepted, and its time is t.
abbrev pub is_at : ℕ → Timed → Bool
is_at t x = option_map_or (λ u. u == t) x.time false

-- The greater of two times; if only one is known, that one.
abbrev pub max_known : Option ℕ → Option ℕ → Option ℕ
max_known None b = b
max_known (Some a) None = Some a
max_known (Some a) (Some b) = Some (max a b)

-- The greatest time of the accepted messages.
abbrev pub greatest_time : List Timed → Option ℕ
greatest_time [] = None
greatest_time (x ∷ xs) = max_known x.time (greatest_time xs)

-- The messages from the first accepted message of time t on.
abbrev pub from_first : ℕ → List Timed → List Timed
from_first t [] = []
from_first t (x ∷ xs) = if is_at t x then x ∷ xs else from_first t xs

-- A message that ends its epoch is at or after the first accepted message of time t.
abbrev pub is_closed : GatherSetup → ℕ → List Timed → Bool
is_closed s t xs = list_any (λ x. ends_epoch s x.message) (from_first t xs)

-- The milliseconds from time t to the next time with this time of week, less than a week.
abbrev pub ahead : ℕ → ℕ → ℕ
ahead t tow = (tow + (week - t % week)) % week

-- The time of a message with this time of week.
abbrev pub time_of : GatherSetup → List Timed → ℕ → ℕ
time_of s earlier tow = option_map_or (λ t. t + ahead t tow) (greatest_time earlier) (first_week s.start tow * week + tow)

-- More than half a week ahead, so before the greatest time; or equal to the greatest time, if its epoch is closed.
abbrev pub is_late : GatherSetup → List Timed → ℕ → Bool
is_late s earlier tow =
    option_map_or (λ t. nat_lt (week / 2) (ahead t tow) || ((ahead t tow == 0) && is_closed s t earlier))
    (greatest_time earlier) false

-- After the last week.
abbrev pub is_past : ℕ → Bool
is_past t = not (nat_lt t (weeks * week))

-- The time of a message after these, if it is accepted.
abbrev pub taken_at : GatherSetup → List Timed → Heard → Option ℕ
taken_at s earlier m =
    if is_own s m
    then option_and_then
    (λ tow. if is_late s earlier tow || is_past (time_of s earlier tow) then None else Some (time_of s earlier tow))
    m.tow
    else None

-- The earlier messages, and then these with their times: a time depends on the earlier messages.
abbrev pub timed_after : GatherSetup → List Timed → List Heard → List Timed
timed_after s earlier [] = earlier
timed_after s earlier (m ∷ ms) = timed_after s (earlier ++ record { message = m; time = taken_at s earlier m } ∷ []) ms

-- All messages of a list, with their times.
abbrev pub timed : GatherSetup → List Heard → List Timed
timed s ms = timed_after s [] ms
