-- The signals of a stream, and their texts.
use Rattle.std.specs.Prelude.{◌≡◌, ◌<◌, ℕ, nat_lt, List, [], ◌∷◌, map, filter, flat_map, length, codes, decimal, Option}
use Rattle.std.specs.Prelude.{Bool, false, not, ◌&&◌, Result, Ok, Err, if◌then◌else◌}
use Rattle.std.specs.Option.{option_map_or}
use Rattle.std.specs.List.{join_with_byte, list_any}
use Rattle.rtcm_scan.specs.Frames.{Framed, frames_of}
use Rattle.gnss_system.specs.declared.system.System.{System}
use Rattle.gnss_system.specs.Systems.{systems}
use Rattle.gnss_system.specs.SystemValues.{tabulate}
use Rattle.gnss_system.specs.Satellites.{letter}
use Rattle.gnss_system.specs.Signals.{SignalAt, table, code_of}
use Rattle.rtcm_msg.specs.declared.fault.MsgFault.{MsgFault}
use Rattle.rtcm_msg.specs.declared.message.Message.{Message}
use Rattle.rtcm_msg.specs.Messages.{by_message}
use Rattle.rtcm_msg.specs.declared.number.Forms.{Forms}
use Rattle.rtcm_msg.specs.declared.number.Forms.TheVariants.{FourAndSeven, All}
use Rattle.rtcm_msg.specs.declared.number.MsmSet.{MsmSet}
use Rattle.rtcm_msg.specs.Numbers.{have_form}
use Rattle.rtcm_msg.specs.Decoding.{message_at}
use Rattle.obs_epoch.specs.Sets.{set_of}
use Rattle.obs_epoch.specs.SignalCounts.{valued, count_of, signal_in}
use Rattle.gnss_obs.specs.Plans.{below, with_channels}
use Rattle.gnss_obs.specs.Channels.{ChannelsValue}
use Rattle.gnss_obs.specs.Values.{PlanValue, plan_with}
use Rattle.rtcm_inspect.specs.Inspected.{inspected, inspected_at}
use Rattle.line_texts.specs.Lines.{line}
use Rattle.rtcm_inspect.specs.StreamChannels.{channels_in}
use Rattle.rtcm_inspect.specs.StreamCounts.{stream_counts}
use Rattle.gnss_obs.specs.HeardCells.{HeardCell}
use Rattle.rtcm_inspect.specs.declared.fault.InspectFault.{InspectFault}
use Rattle.rtcm_inspect.specs.declared.fault.InspectFault.TheVariants as faults

-- ---- the cells that count

-- the cells of a frame that have a value and are of listed satellites and signals; the message may be refused
abbrev pub valued_of : Option ℕ → Framed → List HeardCell
valued_of wanted f = option_map_or (valued wanted) (inspected_at f.message) []

-- the same for a list of frames in order, regardless of their times
abbrev pub valued_in : Option ℕ → List Framed → List HeardCell
valued_in wanted fs = flat_map (valued_of wanted) fs

-- ---- the signals that they are of

-- the indices of the signals of a system that have a cell, among the first n of its table
abbrev pub had_below : List HeardCell → System → ℕ → List ℕ
had_below cells system n = filter (λ i. nat_lt 0 (count_of (signal_in system i) cells)) (below n)

abbrev pub had : List HeardCell → System → List ℕ
had cells system = had_below cells system (length (table system))

-- the plan of these signals, in the order of the tables, with these channels if GLONASS has a signal
abbrev pub plan_had : List HeardCell → ChannelsValue → PlanValue
plan_had cells channels = with_channels (plan_with (tabulate (had cells))) channels

-- the plan of the signals and channels of these frames
abbrev pub plan_in : Option ℕ → List Framed → PlanValue
plan_in wanted fs = plan_had (valued_in wanted fs) (channels_in wanted fs)

-- ---- the forms of their messages

-- an MSM of another form than these
abbrev pub is_of_other : Forms → Message → Bool
is_of_other forms v = by_message (λ s. false) (λ f m. not (have_form forms f)) (λ n set. false) v

-- it has a cell that counts
abbrev pub has_other_value : Forms → Option ℕ → Message → Bool
has_other_value forms wanted m = is_of_other forms m && nat_lt 0 (length (valued wanted (inspected m)))

abbrev pub needs_all : Option ℕ → Result Message MsgFault → Bool
needs_all wanted (Ok m) = has_other_value FourAndSeven wanted m
needs_all wanted (Err e) = false

-- the forms of these frames: all, if a cell that counts is of MSM5 or MSM6
abbrev pub forms_had : Option ℕ → List Framed → Forms
forms_had wanted fs = if list_any (λ f. needs_all wanted (message_at f.message)) fs then All else FourAndSeven

-- the MSMs that a conversion decodes with the plan of their signals, in their forms
abbrev pub set_had : Option ℕ → List Framed → MsmSet
set_had wanted fs = set_of (plan_in wanted fs) (forms_had wanted fs)

-- ---- the text

-- codes separated by single commas, as an option requires
abbrev pub code_list : System → List ℕ → List ℕ
code_list system is = join_with_byte 0x2C (map (λ i. code_of (signal_in system i)) is)

abbrev pub codes_word : System → List ℕ → List ℕ
codes_word system [] = codes "none"
codes_word system (i ∷ is) = code_list system (i ∷ is)

-- the letter of the system, the code, and the number of cells
unfoldable pub count_line : SignalAt → ℕ → List ℕ
count_line g count = line ((letter g.system ∷ []) ∷ code_of g ∷ decimal count ∷ [])

abbrev pub lines_below : List HeardCell → System → ℕ → List ℕ
lines_below cells system n =
    flat_map (λ i. count_line (signal_in system i) (count_of (signal_in system i) cells)) (had_below cells system n)

-- a line for each signal of a system that has a cell
abbrev pub count_lines : List HeardCell → System → List ℕ
count_lines cells system = lines_below cells system (length (table system))

-- the output of `signals` for these frames
abbrev pub signals_text : Option ℕ → List Framed → List ℕ
signals_text wanted fs = flat_map (count_lines (valued_in wanted fs)) systems

-- One of their cells has a value, and the text is that output.
abbrev pub AreSignalsOf : Option ℕ → List Framed → List ℕ → Type 0
AreSignalsOf wanted fs text = (0 < length (valued_in wanted fs)) × (text ≡ signals_text wanted fs)

-- No cell of this stream has a value, and these are its numbers.
abbrev pub AreSignalsRefused : Option ℕ → List ℕ → InspectFault → Type 0
AreSignalsRefused wanted b (faults.NoSignal counts) =
    (valued_in wanted (frames_of b) ≡ []) × (counts ≡ stream_counts b)
AreSignalsRefused wanted b other = ⊥
