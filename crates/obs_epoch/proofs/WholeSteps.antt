-- The whole step of a message and of the end, which only proofs cite.
use Rattle.std.specs.Prelude.{ℕ, Bool, true, if◌then◌else◌, Option, is_some}
use Rattle.obs_epoch.specs.Heard.{Heard}
use Rattle.obs_epoch.specs.Cells.{no_counts}
use Rattle.obs_epoch.specs.Kinds.{is_accepted}
use Rattle.obs_epoch.specs.GathererAfter.{GathererValue}
use Rattle.obs_epoch.specs.inner.Step.{closed_time, kind_by}
use Rattle.obs_epoch.specs.inner.GathererSteps.{Loaded, epoch_begun, load_heard, noted, stopped, unloaded, with_time}

-- The cells of a message are kept if it is accepted.
abbrev pub loaded_if : Bool → Option ℕ → GathererValue → Heard → Loaded
loaded_if accepted before g m =
    if accepted then load_heard (unloaded (epoch_begun before g)) m else unloaded g

abbrev pub closed_if : Bool → Loaded → Loaded
closed_if b l = record { state = if b then noted l.state else l.state; counts = l.counts }

abbrev pub take_step : GathererValue → Heard → Loaded
take_step g m =
    closed_if (is_some (closed_time g.clock m))
    (loaded_if (is_accepted (kind_by g.clock no_counts m)) g.clock.latest (with_time g m) m)

-- The step of `end`: no message follows.
abbrev pub end_step : GathererValue → GathererValue
end_step g =
    let h = record g { clock = stopped g.clock; just_closed = g.clock.pending; has_ended = true } in
    if g.clock.pending then noted h else h
