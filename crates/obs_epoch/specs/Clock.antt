-- The value of a clock.
use Rattle.std.specs.Prelude.{ℕ, ◌≡◌, ◌*◌, ◌<◌, ◌&&◌, Bool, true, false, not, nat_lt, List, Option, is_some}
use Rattle.std.specs.Option.{option_map_or, ForSome}
use Rattle.obs_epoch.specs.Heard.{GatherSetup, Heard, is_own}
use Rattle.rtcm_msg.specs.Msm.{week}
use Rattle.gnss_obs.specs.Weeks.{weeks}
use Rattle.obs_epoch.specs.Starts.{Start, is_no_week}
use Rattle.obs_epoch.specs.Times.{Timed, greatest_time, is_closed, is_late, is_past, time_of, timed}

-- The value of a clock: its setup, the greatest time, and whether the epoch of that time is pending.
pub record State : Type 0 where
  pub setup : GatherSetup
  pub latest : Option ℕ
  pub pending : Bool

-- The first week and the greatest time are within the weeks; a pending epoch has a time.
pub record IsWithinWeeks (start : Start) (latest : Option ℕ) (pending : Bool) : Type 0 where
  pub first : is_no_week start ≡ false
  pub time : ForSome latest (λ t. t < weeks * week)
  pub known : pending ≡ true → is_some latest ≡ true

-- The epoch of the greatest time is not closed.
abbrev pub is_pending : GatherSetup → List Timed → Bool
is_pending s xs = option_map_or (λ t. not (is_closed s t xs)) (greatest_time xs) false

-- An epoch is pending, and the message's time is greater and within the weeks.
abbrev pub closes_first : GatherSetup → List Timed → Heard → Bool
closes_first s xs m =
    is_pending s xs && is_own s m
    && option_map_or (λ tow. not (is_late s xs tow) && not (is_past (time_of s xs tow))
    && option_map_or (λ t. nat_lt t (time_of s xs tow)) (greatest_time xs) false) m.tow false

-- The clock has processed these messages; if `shut`, the pending epoch was closed after the last of them.
pub record HasHeardMessages (g : State) (s : GatherSetup) (ms : List Heard) (shut : Bool) : Type 0 where
  pub setup : g.setup ≡ s
  pub latest : g.latest ≡ greatest_time (timed s ms)
  pub pending : g.pending ≡ (is_pending s (timed s ms) && not shut)
