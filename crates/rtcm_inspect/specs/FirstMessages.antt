-- What the first messages of a stream contain, and the stations of its messages.
use Rattle.std.specs.Prelude.{ℕ, ◌||◌, List, filter_map, Option, Some, None, is_some, option_and_then, if◌then◌else◌}
use Rattle.rtcm_scan.specs.Frames.{Framed}
use Rattle.rtcm_msg.specs.declared.station.StationParts.{StationParts}
use Rattle.obs_epoch.specs.Heard.{Heard}
use Rattle.obs_epoch.specs.SignalCounts.{is_of_station}
use Rattle.rtcm_inspect.specs.WeekLaws.{first_in}
use Rattle.rtcm_inspect.specs.Inspected.{inspected_at}
use Rattle.rtcm_inspect.specs.FirstTwo.{first_two}
use Rattle.rtcm_inspect.specs.declared.first_two.FirstTwo.{FirstTwo}
use Rattle.rtcm_inspect.specs.declared.first_two.FirstTwo.TheVariants.{Unknown, One, Several}

-- the content of a station message (1005 or 1006) of the wanted station; if none is given, of any station
abbrev pub point_of : Option ℕ → Heard → Option StationParts
point_of wanted m = if is_of_station wanted m then m.point else None

-- the content of the first station message in these frames
abbrev pub first_station : Option ℕ → List Framed → Option StationParts
first_station wanted fs = first_in inspected_at (point_of wanted) fs

-- ---- stations

-- the station of an MSM or a station message
abbrev pub sender : Heard → Option ℕ
sender m = if is_some m.tow || is_some m.point then m.station else None

-- the stations of the MSMs and station messages in these frames, in order
abbrev pub stations_of : List Framed → List ℕ
stations_of fs = filter_map (λ f. option_and_then sender (inspected_at f.message)) fs

-- The first two stations, if the messages of several count: of all stations, if none is given.
abbrev pub mixed_of : Option ℕ → FirstTwo → Option (ℕ × ℕ)
mixed_of (Some wanted) all = None
mixed_of None (Several a b) = Some (a, b)
mixed_of None (One a) = None
mixed_of None Unknown = None

abbrev pub mixed : Option ℕ → List Framed → Option (ℕ × ℕ)
mixed wanted fs = mixed_of wanted (first_two (stations_of fs))
