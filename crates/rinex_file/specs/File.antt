-- The text of a file.
use Rattle.std.specs.Prelude.{◌≡◌, ℕ, List, [], ◌∷◌, ◌++◌, length, map, flat_map, replicate, codes, Option, Some, None}
use Rattle.std.specs.Prelude.{if◌then◌else◌}
use Rattle.gnss_system.specs.declared.system.System.{System}
use Rattle.gnss_system.specs.Satellites.{satellites}
use Rattle.gnss_obs.specs.declared.cell.StationValues.{StationValues}
use Rattle.gnss_obs.specs.Values.{EpochValue, PlanValue, Closed, same_values, cells_of, is_written}
use Rattle.gnss_obs.specs.Dates.{civil_of}
use Rattle.rinex_file.specs.Texts.{HeaderLists}
use Rattle.rinex_file.specs.Value.{Stamped, FileValue, file_with, stamped_of, all_stamped, row_among, row_in_epoch}
use Rattle.rinex_file.specs.Value.{written_satellites}
use Rattle.gnss_obs.specs.declared.cell.Cell.{Cell}
use Rattle.rinex_file.specs.Header.{Shown, header_lines, position_line, height_line}
use Rattle.rinex_file.specs.Lines.{epoch_line, satellite_line}
use Rattle.rinex_columns.specs.Numbers.{joined}

-- the text of a header
unfoldable pub shown_text : Shown → List ℕ
shown_text h = joined (header_lines h)

-- the header of a file whose first epoch is at this time, with an interval if there is one
abbrev pub header_text : HeaderLists → Option ℕ → PlanValue → StationValues → ℕ → List ℕ
header_text texts interval plan values first =
    shown_text (record { texts = texts; interval = interval; plan = plan; values = values; first = first })

-- the first line of an event: flag 4 without a time, and 2, the number of header lines that follow
unfoldable pub event_line : List ℕ
event_line = codes ">" ++ (replicate 30 32 ++ codes "4  2\n")

-- the lines of an event with station values
abbrev pub event_lines : StationValues → List (List ℕ)
event_lines v = event_line ∷ position_line v ∷ height_line v.height ∷ []

-- the lines before an epoch: an event if the station values change
abbrev pub change_lines : Option StationValues → List (List ℕ)
change_lines None = []
change_lines (Some v) = event_lines v

unfoldable pub event_text : StationValues → List ℕ
event_text v = joined (event_lines v)

-- the lines of an epoch
abbrev pub stamped_lines : Stamped → List (List ℕ)
stamped_lines e = change_lines e.change ++ (epoch_line (civil_of e.time) (length e.rows) ∷ map satellite_line e.rows)

-- the text of an epoch that was gathered under a plan
unfoldable pub epoch_text : PlanValue → EpochValue → List ℕ
epoch_text plan epoch = joined (stamped_lines (stamped_of plan epoch))

-- the line of a satellite, if it is written
unfoldable pub line_among : PlanValue → System → List Cell → ℕ → List ℕ
line_among plan system cells id = if is_written cells id then satellite_line (row_among plan system cells id) else []

abbrev pub line_or_none : PlanValue → EpochValue → System → ℕ → List ℕ
line_or_none plan epoch system id = line_among plan system (cells_of system epoch) id

-- the lines of a system's satellites up to a number
unfoldable pub lines_up_to : PlanValue → EpochValue → System → ℕ → List ℕ
lines_up_to plan epoch system most =
    joined (map satellite_line (map (row_in_epoch plan epoch system) (written_satellites (cells_of system epoch) most)))

-- the lines of these systems
abbrev pub lines_of_systems : PlanValue → EpochValue → List System → List ℕ
lines_of_systems plan epoch ss = flat_map (λ s. lines_up_to plan epoch s (satellites s)) ss

-- the contents of the header of a file whose first epoch is at this time
abbrev pub shown_of : FileValue → ℕ → Shown
shown_of v first =
    record { texts = v.texts; interval = v.interval; plan = v.plan; values = v.values; first = first }

-- the header with the time of the first epoch, and the epochs; nothing if there is no epoch
abbrev pub lines_of_parts : Shown → List Stamped → List (List ℕ)
lines_of_parts h [] = []
lines_of_parts h (e ∷ es) = header_lines (record h { first = e.time }) ++ flat_map stamped_lines (e ∷ es)

-- the lines of a file value
abbrev pub file_lines : FileValue → List (List ℕ)
file_lines v = lines_of_parts (shown_of v 0) v.epochs

-- the text of a file value
abbrev pub file_text : FileValue → List ℕ
file_text v = joined (file_lines v)

-- ---- epochs that were gathered under a plan

-- an event, if the station values differ from those before
abbrev pub change_text : StationValues → StationValues → List ℕ
change_text before now = if same_values before now then [] else event_text now

-- the text of epochs that were closed after others, the last of which has these station values
abbrev pub closed_text : PlanValue → StationValues → List Closed → List ℕ
closed_text plan before [] = []
closed_text plan before (c ∷ cs) =
    change_text before c.values ++ (epoch_text plan c.epoch ++ closed_text plan c.values cs)

-- the file value of epochs that were closed, with these station values in the header
abbrev pub gathered : HeaderLists → Option ℕ → PlanValue → StationValues → List Closed → FileValue
gathered texts interval plan values epochs =
    file_with texts interval plan values (all_stamped plan values epochs)

-- The header of the first epoch and the text of each epoch after it are the text of the file of these epochs.
abbrev pub IsTextInParts : HeaderLists → Option ℕ → PlanValue → StationValues → Closed → List Closed → Type 0
IsTextInParts texts interval plan values c cs =
    header_text texts interval plan values c.epoch.time
    ++ closed_text plan values (c ∷ cs) ≡ file_text (gathered texts interval plan values (c ∷ cs))
