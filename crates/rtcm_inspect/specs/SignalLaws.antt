-- The plan of the signals printed for a stream has a column for each value. Of a GLONASS satellite without a channel a
-- conversion with it has no phase and no Doppler shift, and it loses no other value.
use Rattle.std.specs.Prelude.{◌≡◌, ℕ, ◌+◌, ◌<◌, ◌≤◌, ◌&&◌, Bool, true, not, List, [], length, map, Option, is_some, Ok, Some}
use Rattle.std.specs.Option.{option_map_or}
use Rattle.std.specs.List.{All, count_by}
use Rattle.gnss_system.specs.Satellites.{Satellite}
use Rattle.gnss_system.specs.Signals.{SignalAt}
use Rattle.gnss_system.specs.SystemValues.{tabulate}
use Rattle.gnss_obs.specs.Channels.{ChannelsValue, hertz_in}
use Rattle.gnss_obs.specs.HeardCells.{HeardCell}
use Rattle.rtcm_scan.specs.Frames.{Framed}
use Rattle.obs_epoch.specs.Cells.{counts_of_message, is_planned}
use Rattle.obs_epoch.specs.SignalCounts.{brings_value, valued}
use Rattle.rtcm_msg.specs.declared.number.MsmSet.{MsmSet}
use Rattle.obs_epoch.specs.Heard.{heard_by}
use Rattle.obs_epoch.specs.declared.setup.GatherSetup.{GatherSetup}
use Rattle.obs_epoch.specs.Sets.{set_of}
use Rattle.obs_epoch.specs.Times.{Timed}
use Rattle.gnss_obs.specs.Plans.{plan_of}
use Rattle.gnss_obs.specs.Values.{plan_with}
use Rattle.rtcm_msg.specs.Decoding.{message_with}
use Rattle.rtcm_msg.specs.declared.message.Message.{Message}
use Rattle.rtcm_inspect.specs.Inspected.{inspected, inspected_in}
use Rattle.rtcm_inspect.specs.Signals.{valued_in, valued_of, had, plan_in, forms_had, set_had, codes_word}
use Rattle.rtcm_inspect.specs.WeekLaws.{first_tow}

-- the cells counted as skipped of the message of a frame after these are no more than those for which the message has
-- no value, and those of unlisted satellites or signals
abbrev pub SkipsOnly : MsmSet → GatherSetup → List Timed → Framed → Type 0
SkipsOnly set s earlier f =
    (m : Message) → message_with set f.message ≡ Ok m
    → (counts_of_message s earlier (heard_by s m)).skipped
    ≤ (inspected m).unlisted + count_by (λ x. not (brings_value x)) (inspected m).cells

-- a conversion with this plan has a column for each value of the frames' cells of listed satellites and signals
abbrev pub LeavesNoneOut : Type 0
LeavesNoneOut = (s : GatherSetup) (fs : List Framed) → s.plan ≡ plan_in s.station fs
    → All (λ x. is_planned s x ≡ true) (valued_in s.station fs)

-- the words of the options are parsed as this plan
abbrev pub AreReadAsPlan : Type 0
AreReadAsPlan = (wanted : Option ℕ) (fs : List Framed) → 0 < length (valued_in wanted fs)
    → plan_of (tabulate (λ s. codes_word s (had (valued_in wanted fs) s)))
    ≡ Ok (plan_with (tabulate (had (valued_in wanted fs))))

-- of the cells of a frame that count, a conversion that decodes these MSMs reads all
abbrev pub ReadsAll : MsmSet → GatherSetup → Framed → Type 0
ReadsAll set s f = option_map_or (valued s.station) (inspected_in 0 set f.message) [] ≡ valued_of s.station f

-- a conversion with this plan and the forms of these frames reads all their cells that count
abbrev pub LosesNone : Type 0
LosesNone = (s : GatherSetup) (fs : List Framed) → s.plan ≡ plan_in s.station fs
    → All (ReadsAll (set_of s.plan (forms_had s.station fs)) s) fs

-- Of a message of these frames, a conversion with this plan and any forms counts as skipped only cells of unlisted satellites or
-- signals and cells without a value, for every list of messages before.
abbrev pub SkipsNoValue : Type 0
SkipsNoValue = (s : GatherSetup) (fs : List Framed) → s.plan ≡ plan_in s.station fs
    → (set : MsmSet) (earlier : List Timed) → All (SkipsOnly set s earlier) fs

-- if a cell of these frames counts, a conversion with this plan and these forms decodes an MSM, which has a time of week
abbrev pub HasFirstMsm : Type 0
HasFirstMsm = (leap : ℕ) (wanted : Option ℕ) (fs : List Framed) → 0 < length (valued_in wanted fs)
    → (tow : ℕ) × (first_tow leap (set_had wanted fs) wanted fs ≡ Some tow)

-- ---- the values of a cell: with a carrier the phase and the Doppler shift are those of the message

-- the satellite and the signal of a cell, and which values it has
pub record CellValues : Type 0 where
  pub satellite : Satellite
  pub signal : SignalAt
  pub has_pseudorange : Bool
  pub has_phase : Bool
  pub has_shift : Bool
  pub has_strength : Bool

abbrev pub values_of : HeardCell → CellValues
values_of x = record {
  satellite = x.satellite;
  signal = x.signal;
  has_pseudorange = is_some x.c;
  has_phase = is_some x.l;
  has_shift = is_some x.d;
  has_strength = is_some x.s;
}

-- those of an inspected cell, but a phase and a Doppler shift only if its carrier is known by these channels
abbrev pub values_by : ChannelsValue → HeardCell → CellValues
values_by channels x = record {
  satellite = x.satellite;
  signal = x.signal;
  has_pseudorange = is_some x.c;
  has_phase = is_some x.l && is_some (hertz_in channels x.satellite x.signal);
  has_shift = is_some x.d && is_some (hertz_in channels x.satellite x.signal);
  has_strength = is_some x.s;
}

-- a conversion reads these values of the cells of a message
abbrev pub LosesUnknownCarriers : Type 0
LosesUnknownCarriers = (s : GatherSetup) (m : Message)
    → map values_of (heard_by s m).cells ≡ map (values_by s.plan.channels) (inspected m).cells
