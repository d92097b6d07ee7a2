-- One step of the clock, computed from its fields.
use Rattle.std.specs.Prelude.{ℕ, ◌≡◌, ◌+◌, ◌*◌, ◌/◌, ◌==◌, ◌&&◌, ◌||◌, Bool, true, false, not, nat_lt, Option, Some, None}
use Rattle.std.specs.Prelude.{is_some, if◌then◌else◌}
use Rattle.std.specs.Option.{option_map_or}
use Rattle.obs_epoch.specs.declared.taken.Kind.{Kind}
use Rattle.obs_epoch.specs.declared.taken.Kind.TheVariants.{CloseFirst, Ignored, Kept, Late}
use Rattle.obs_epoch.specs.declared.taken.Kind.TheVariants.{OtherStation, PastWeeks, Station}
use Rattle.obs_epoch.specs.declared.taken.CellCounts.{CellCounts}
use Rattle.obs_epoch.specs.Cells.{no_counts}
use Rattle.obs_epoch.specs.Kinds.{is_accepted, is_close_first}
use Rattle.obs_epoch.specs.Heard.{Heard, ends_epoch, is_own}
use Rattle.rtcm_msg.specs.Msm.{week}
use Rattle.obs_epoch.specs.Times.{ahead, is_past}
use Rattle.obs_epoch.specs.Starts.{first_week}
use Rattle.obs_epoch.specs.Clock.{State}

abbrev pub time_at : State → ℕ → ℕ
time_at g tow = option_map_or (λ t. t + ahead t tow) g.latest (first_week g.setup.start tow * week + tow)

abbrev pub is_late_at : State → ℕ → Bool
is_late_at g tow =
    option_map_or (λ t. nat_lt (week / 2) (ahead t tow) || ((ahead t tow == 0) && not g.pending)) g.latest false

abbrev pub is_first_at : State → ℕ → Bool
is_first_at g tow = g.pending && option_map_or (λ t. not (ahead t tow == 0)) g.latest false

abbrev pub kind_now : State → CellCounts → ℕ → Kind
kind_now g n tow =
    if is_late_at g tow then Late
    else (if is_past (time_at g tow) then PastWeeks else (if is_first_at g tow then CloseFirst else Kept n))

abbrev pub step_at : State → ℕ → State
step_at g tow =
    if is_late_at g tow then g
    else (if is_past (time_at g tow) then g
    else (if is_first_at g tow then record g { pending = false }
    else record g { latest = Some (time_at g tow); pending = true }))

-- The outcome of a message with these counts of its cells.
abbrev pub kind_by : State → CellCounts → Heard → Kind
kind_by g n m =
    if is_some m.tow || is_some m.point
    then (if is_own g.setup m then option_map_or (kind_now g n) m.tow Station else OtherStation)
    else Ignored

abbrev pub ended_where : Bool → State → State
ended_where ends_epoch g = if ends_epoch then record g { pending = false } else g

-- The step of the time of a message.
abbrev pub timed_by : State → Heard → State
timed_by g m = if is_own g.setup m then option_map_or (step_at g) m.tow g else g

abbrev pub step_by : State → Heard → State
step_by g m = ended_where (ends_epoch g.setup m) (timed_by g m)

-- ---- a step whose epoch is still to be closed

abbrev pub open_at : State → ℕ → State
open_at g tow =
    if is_accepted (kind_now g no_counts tow) then record g { latest = Some (time_at g tow); pending = true } else g

-- The clock after the time of a message; the epoch that the message closes is still pending.
abbrev pub open_by : State → Heard → State
open_by g m = if is_own g.setup m then option_map_or (open_at g) m.tow g else g

abbrev pub is_same : Option ℕ → Option ℕ → Bool
is_same None None = true
is_same None (Some b) = false
is_same (Some a) None = false
is_same (Some a) (Some b) = a == b

-- A pending epoch stays pending, and an epoch that begins is of another time than the last one.
pub record KeepsEpoch (old new : State) : Type 0 where
  pub kept : old.pending ≡ true → (new.pending ≡ true) × (new.latest ≡ old.latest)
  pub begun : old.pending ≡ false → new.pending ≡ true → is_same old.latest new.latest ≡ false
  pub none : new.pending ≡ false → new ≡ old

-- ---- the closing

-- The time of the epoch that a step closes, from the outcome, whether the message ends its epoch, whether an epoch was
-- pending, and the greatest times before and after.
abbrev pub closed_of : Kind → Bool → Bool → Option ℕ → Option ℕ → Option ℕ
closed_of kind ends_epoch was before after =
    if is_close_first kind then before else (if ends_epoch && (is_accepted kind || was) then after else None)

abbrev pub closed_time : State → Heard → Option ℕ
closed_time g m = closed_of (kind_by g no_counts m) (ends_epoch g.setup m) g.pending g.latest (step_by g m).latest
