-- The counts of the cells of a stream, by signal, while the stream is read.
use Rattle.std.specs.Prelude.{◌≡◌, ℕ, ◌+◌, ◌*◌, ◌%◌, ◌<◌, ◌≤◌, ◌^◌, ◌||◌, Bool, List, [], ◌∷◌, ◌++◌, length, nat_lt, Option, Result, ⊤}
use Rattle.std.specs.Prelude.{IfSome, MatchResult, option_and_then, option_to_list, if◌then◌else◌}
use Rattle.std.specs.Option.{option_map_or, option_or}
use Rattle.std.specs.List.{list_any}
use Rattle.std.specs.Io.KnownBytes.{Consumes, IsAtEnd}
use Rattle.devices.specs.Device.{Device}
use Rattle.gnss_system.specs.declared.system.System.{System}
use Rattle.gnss_system.specs.Signals.{table}
use Rattle.gnss_obs.specs.HeardCells.{HeardCell}
use Rattle.gnss_obs.specs.Plans.{below}
use Rattle.rtcm_scan.specs.Frames.{Framed, frames_of}
use Rattle.rtcm_scan.specs.Scan.{most_bytes}
use Rattle.rtcm_msg.specs.Channels.{channel_of_1020}
use Rattle.rtcm_msg.specs.declared.fault.MsgFault.{MsgFault}
use Rattle.rtcm_msg.specs.declared.message.Message.{Message}
use Rattle.rtcm_msg.specs.Msm.{most_pairs}
use Rattle.rtcm_msg.specs.Station.{InRange}
use Rattle.rtcm_msg.specs.declared.number.Forms.TheVariants.{All}
use Rattle.obs_epoch.specs.Sets.{is_always_decoded}
use Rattle.obs_epoch.specs.SignalCounts.{valued}
use Rattle.obs_epoch.specs.inner.SignalCounts.{SignalCountsValue, AreSignalCounts, counted}
use Rattle.rtcm_inspect.specs.FirstMessages.{first_station, point_of, sender, stations_of}
use Rattle.rtcm_inspect.specs.FirstTwo.{first_two}
use Rattle.rtcm_inspect.specs.Inspected.{inspected_of}
use Rattle.rtcm_inspect.specs.inner.FirstTows.{AreTows}
use Rattle.rtcm_inspect.specs.inner.SaidWeeks.{AreSaidIn}
use Rattle.rtcm_inspect.specs.OptionOutput.{IsPrinted, IsWeekRefused}
use Rattle.rtcm_inspect.specs.Signals.{forms_had, needs_all, valued_in}
use Rattle.rtcm_inspect.specs.StreamChannels.{channels_in, sent_by, with_sent}
use Rattle.rtcm_inspect.specs.StreamCounts.{is_msm, msm_in, stream_counts}
use Rattle.rtcm_inspect.specs.StreamOutput.{ReadsTooMuch}
use Rattle.rtcm_inspect.specs.declared.fault.InspectFault.{InspectFault}
use Rattle.rtcm_inspect.specs.declared.fault.InspectFault.TheVariants as faults
use Rattle.rtcm_inspect.specs.declared.first_messages.FirstMessages.{FirstMessages}
use Rattle.rtcm_inspect.specs.declared.counting.StreamSignals.{StreamSignals}
use Rattle.rtcm_inspect.specs.declared.fault.StreamCounts.{StreamCounts}
use Rattle.rtcm_inspect.specs.declared.printed_week.PrintedWeek.{PrintedWeek}
use Rattle.rtcm_inspect.specs.declared.printed_week.WeekSource.{WeekSource}

-- the counts are those of the cells of these frames, each of which has at most `most_pairs`
pub record IsCounted (c : SignalCountsValue) (wanted : Option ℕ) (fs : List Framed) : Type 0 where
  pub signal_counts : AreSignalCounts c (valued_in wanted fs)
  pub few : length (valued_in wanted fs) ≤ most_pairs * length fs

-- by the counts: whether a signal of a system has a cell, and whether its MSMs are decoded
abbrev pub has_counted : SignalCountsValue → System → Bool
has_counted c s = list_any (λ i. nat_lt 0 (counted c s i)) (below (length (table s)))

abbrev pub decodes : SignalCountsValue → System → Bool
decodes c s = is_always_decoded s || has_counted c s

-- x is what the first messages in these frames contain
pub record AreFirst (x : FirstMessages) (wanted : Option ℕ) (fs : List Framed) : Type 0 where
  pub point : x.point ≡ first_station wanted fs
  pub tows : AreTows x.tows wanted fs
  pub stations : x.stations ≡ first_two (stations_of fs)
  pub in_range : IfSome x.point InRange

-- the numbers of these frames
pub record AreFrameCounts (c : StreamCounts) (fs : List Framed) : Type 0 where
  pub frames : c.frames ≡ length fs
  pub msm : c.msm ≡ length (msm_in fs)

-- the signals of these frames
pub record AreSignals (s : StreamSignals) (wanted : Option ℕ) (fs : List Framed) : Type 0 where
  pub counted : IsCounted s.signal_counts wanted fs
  pub forms : s.forms ≡ forms_had wanted fs
  pub channels : s.channels ≡ channels_in wanted fs
  pub first : AreFirst s.first wanted fs
  pub weeks : AreSaidIn s.weeks wanted fs
  pub counts : AreFrameCounts s.counts fs

-- P holds for the station and all frames whose signals these are
abbrev pub HoldsForFrames : StreamSignals → (Option ℕ → List Framed → Type 0) → Type 0
HoldsForFrames s P = (fs : List Framed) → AreSignals s s.station fs → P s.station fs

-- the week and the leap seconds that are printed, or why none are
abbrev pub GivesWeek : StreamSignals → WeekSource → Result PrintedWeek InspectFault → Type 0
GivesWeek s source result = HoldsForFrames s (λ station fs.
    MatchResult result (λ x. IsPrinted source station fs x.week x.leap) (IsWeekRefused source station fs))

-- P holds for all cells of which these are the counts
abbrev pub HoldsForCells : SignalCountsValue → (List HeardCell → Type 0) → Type 0
HoldsForCells counts P = (cells : List HeardCell) → AreSignalCounts counts cells → P cells

-- x became y by the message of a frame, which may be refused; the number of frames and the weeks are of before
pub record Takes (x y : StreamSignals) (f : Framed) (r : Result Message MsgFault) : Type 0 where
  pub station : y.station ≡ x.station
  pub weeks : y.weeks ≡ x.weeks
  pub frames : y.counts.frames ≡ x.counts.frames
  pub msm : y.counts.msm ≡ (if is_msm r then (x.counts.msm + 1) % 2 ^ 64 else x.counts.msm)
  pub counted : (cells : List HeardCell) → length cells < 2 ^ 62 → AreSignalCounts x.signal_counts cells
      → AreSignalCounts y.signal_counts (cells ++ option_map_or (valued x.station) (inspected_of r) [])
  pub few : length (option_map_or (valued x.station) (inspected_of r) []) ≤ most_pairs
  pub forms : y.forms ≡ (if needs_all x.station r then All else x.forms)
  pub channels : y.channels ≡ with_sent x.channels (option_to_list (channel_of_1020 f.message) ++ sent_by x.station r)
  pub point : y.first.point ≡ option_or x.first.point (option_and_then (point_of x.station) (inspected_of r))
  pub in_range : IfSome x.first.point InRange → IfSome y.first.point InRange
  pub stations : (ns : List ℕ) → x.first.stations ≡ first_two ns
      → y.first.stations ≡ first_two (ns ++ option_to_list (option_and_then sender (inspected_of r)))
  pub tows : (fs : List Framed) → length fs < 2 ^ 56 → AreTows x.first.tows x.station fs
      → AreTows y.first.tows x.station (fs ++ f ∷ [])

-- The stream was read to its end, and its signals were counted.
abbrev pub HasCounted : StreamSignals → Option ℕ → (r r' : Option (List ℕ)) → Type 0
HasCounted s wanted r r' =
    (b : List ℕ) × Consumes r r' b × IsAtEnd r' × (s.station ≡ wanted) × AreSignals s wanted (frames_of b)
    × (s.counts ≡ stream_counts b)

-- what was read when the counting was stopped by a fault
abbrev pub StopsCounting : {R : Type 0} → (R → Option (List ℕ)) → (r r' : Device R) → InspectFault → Type 0
StopsCounting left r r' faults.Read = ⊤
StopsCounting left r r' faults.TooLong = ReadsTooMuch most_bytes (left r.inner) (left r'.inner)
StopsCounting left r r' faults.Memory = r' ≡ r
StopsCounting left r r' other = ⊥

-- ---- signal counts as a consumer of frames

-- c0 after the frames ps became c after the frames fs: the cells of the frames between were counted. No count reaches
-- its largest value, since a stream has far fewer frames.
pub record Counts (c0 : StreamSignals) (o0 : ⊤) (ps : List Framed) (c : StreamSignals) (o : ⊤)
    (fs : List Framed) : Type 0 where
  pub same : c.station ≡ c0.station
  pub counts : length fs < 2 ^ 56 → AreSignals c0 c0.station ps → AreSignals c c0.station fs

-- no frame is refused
abbrev pub NeverFails : StreamSignals → ⊤ → List Framed → StreamSignals → ⊤ → List Framed → List Framed → Type 0
NeverFails c0 o0 ps c o fs gs = ⊥
