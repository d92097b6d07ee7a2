-- Signal counts as a consumer of frames.
use Rattle.rtcm_inspect.proofs.Names.{Printed, greatest_in, AreSaidIn, common_steps, ◌≡◌, ◌∙◌, ◌+◌, ◌*◌, ◌<◌, ◌≤◌, ◌^◌, ap, sym, subst, arith, Bool, true, false, not, ◌&&◌, nat_lt, ℕ, List, [], ◌∷◌, ◌++◌, Option, Some, None, Result, Ok, Err, length, length-append, append-nil, refl, Framed, frames_of, known_frames, Device, Devices, StreamFault, ⊤, InspectFault, stream_fault, AtFault, Passes, BreaksReading, PassesAll, PassesToLimit, Reads, FramerValue, most_bytes, AreSignalCounts, CountsMessage, SignalCountsValue, inspected, message_at, MsgFault, Message, AreFirst, EndsStream, ReadsTooMuch, Counts, StopsCounting, HasCounted, IsCounted, AreSignals, NeverFails, StreamSignals, StreamCounts, AreFrameCounts, is_msm, msm_in, stream_counts, filter-append, length-filter, count_by-le-length, piece_bytes, forms_had, channels_in, HeardCell, Takes, StationParts, option_or, option_and_then, option_to_list, if◌then◌else◌, IfSome, InRange, point_of, sender, stations_of, first_two, inspected_at, inspected_in, inspected_of, option_map_or, valued, valued_of, tow_of, heard, every_channel, needs_all, MsmSet, is_in_set, FirstTwo, FirstTows, AreTows, ChannelsValue, channel_of_1020, sent_by, sent_channels, with_sent, Other, Station, FormedMsm, MsmHeader, Msm, is_of_station, Forms, have_form, ◌%◌, most_pairs, SaidWeeks}
use Rattle.rtcm_msg.specs.declared.number.Forms.TheVariants as forms
use Rattle.rtcm_inspect.proofs.CountedLemmas.{filter_map-push}
use Rattle.rtcm_inspect.proofs.FirstLemmas.{first_more, or_none}
use Rattle.rtcm_inspect.proofs.SetLemmas.{forms_kept, forms_more, if_same, tow_read, tow_refused}
use Rattle.rtcm_inspect.proofs.StreamChannelLemmas.{channels_more, sent_without_1020}
use Rattle.rtcm_inspect.proofs.StreamLemmas.{Began}
use Rattle.rtcm_inspect.proofs.TowLemmas.{tows_none}
use Rattle.rtcm_inspect.specs.declared.fault.InspectFault.TheVariants as faults
use Rattle.rtcm_scan.specs.declared.feed.StreamFault.TheVariants as stream

-- ---- one more frame

counted_more : {c c2 : SignalCountsValue} {wanted : Option ℕ} {fs : List Framed} (f : Framed) → ((cells : List HeardCell) → length cells < 2 ^ 62 → AreSignalCounts c cells → AreSignalCounts c2 (cells ++ valued_of wanted f)) → length (valued_of wanted f) ≤ most_pairs
    → length fs < 2 ^ 56 → IsCounted c wanted fs → IsCounted c2 wanted (fs ++ f ∷ [])
counted_more f step small few h = grind (arith, common_steps, length-append {A = Framed})

msm_few : (fs : List Framed) → length (msm_in fs) ≤ length fs
msm_few fs = let e = length-filter (λ g. is_msm (message_at g.message)) fs in let few = count_by-le-length (λ g. is_msm (message_at g.message)) fs in omega (arith, e, few)

numbers_more : {x y : StreamCounts} (fs : List Framed) (f : Framed) → y.frames ≡ (x.frames + 1) % 2 ^ 64 → y.msm ≡ (if is_msm (message_at f.message) then (x.msm + 1) % 2 ^ 64 else x.msm) → length fs < 2 ^ 56 → AreFrameCounts x fs → AreFrameCounts y (fs ++ f ∷ [])
numbers_more {x} {y} fs f frames msm few h = grind (arith, common_steps, length-append, filter-append, msm_few)

-- a frame was counted; its message is read after what it says of the week
abbrev begun : StreamSignals → SaidWeeks → ℕ → StreamSignals
begun c weeks n = record c { weeks = weeks; counts = record c.counts { frames = n } }

signals_more : (c : StreamSignals) {c2 : StreamSignals} (weeks : SaidWeeks) (n : ℕ) {fs : List Framed} (f : Framed) → n ≡ (c.counts.frames + 1) % 2 ^ 64 → (c.first.tows.greatest ≡ greatest_in c.station fs → AreSaidIn c.weeks c.station fs → AreSaidIn weeks c.station (fs ++ f ∷ []))
    → Takes (begun c weeks n) c2 f (message_at f.message) → length fs < 2 ^ 56 → AreSignals c c.station fs → AreSignals c2 c.station (fs ++ f ∷ [])
signals_more c weeks n {fs} f frames said t few h = record {
  counted = counted_more f t.counted t.few few h.counted;
  forms = forms_more c.station fs f t.forms h.forms;
  channels = channels_more c.station fs f t.channels h.channels;
  first = record {
    point = t.point ∙ ap (λ (o : Option StationParts). option_or o (option_and_then (point_of c.station) (inspected_at f.message))) h.first.point ∙ sym (first_more inspected_at (point_of c.station) fs f);
    tows = t.tows fs few h.first.tows;
    stations = t.stations (stations_of fs) h.first.stations ∙ ap first_two (sym (filter_map-push (λ g. option_and_then sender (inspected_at g.message)) fs f));
    in_range = t.in_range h.first.in_range;
  };
  weeks = subst (λ (w : SaidWeeks). AreSaidIn w c.station (fs ++ f ∷ [])) (sym t.weeks) (said h.first.tows.greatest h.weeks);
  counts = numbers_more fs f (t.frames ∙ frames) t.msm few h.counts;
}

pub one_more_counted : {c0 : StreamSignals} (c : StreamSignals) {c2 : StreamSignals} (weeks : SaidWeeks) (n : ℕ) {ps fs : List Framed} (f : Framed) → n ≡ (c.counts.frames + 1) % 2 ^ 64
    → ((gs : List Framed) → c.first.tows.greatest ≡ greatest_in c.station gs → AreSaidIn c.weeks c.station gs → AreSaidIn weeks c.station (gs ++ f ∷ []))
    → Takes (begun c weeks n) c2 f (message_at f.message) → Counts c0 tt ps c tt fs → Counts c0 tt ps c2 tt (fs ++ f ∷ [])
one_more_counted c {c2} weeks n {fs = fs} f frames said t s = record {
  same = t.station ∙ s.same;
  counts = λ few begun.
      let small : length fs < 2 ^ 56 = omega (arith, few, length-append fs (f ∷ [])) in
      subst (λ (w : Option ℕ). AreSignals c2 w (fs ++ f ∷ [])) s.same (signals_more c weeks n f frames (said fs) t small (subst (λ (w : Option ℕ). AreSignals c w fs) (sym s.same) (s.counts small begun)));
}

-- ---- the message of a frame

-- no cell of it counts, and no time of week
abbrev pub HasNone : Option ℕ → Result Message MsgFault → Type 0
HasNone wanted (Ok m) = (valued wanted (inspected m) ≡ []) × ((leap : ℕ) → tow_of wanted (heard every_channel leap m) ≡ None)
HasNone wanted (Err e) = ⊤

no_valued : (wanted : Option ℕ) (r : Result Message MsgFault) → HasNone wanted r → (option_map_or (valued wanted) (inspected_of r) [] ≡ []) × (needs_all wanted r ≡ false)
no_valued wanted r none = grind (arith, common_steps)

no_tow : (wanted : Option ℕ) (f : Framed) (r : Result Message MsgFault) → message_at f.message ≡ r → HasNone wanted r → (leap : ℕ) (set : MsmSet) → option_and_then (tow_of wanted) (inspected_in leap set f.message) ≡ None
no_tow wanted f (Ok m) is none leap set = tow_read leap set wanted f.message m is ∙ if_same (is_in_set set m) (none.1 leap)
no_tow wanted f (Err e) is none leap set = tow_refused leap set wanted f.message e is

takes_none : (x : StreamSignals) {point : Option StationParts} {stations : FirstTwo} {channels : ChannelsValue} {msm : ℕ} (f : Framed) (r : Result Message MsgFault) → message_at f.message ≡ r → HasNone x.station r
    → msm ≡ (if is_msm r then (x.counts.msm + 1) % 2 ^ 64 else x.counts.msm) → channels ≡ with_sent x.channels (option_to_list (channel_of_1020 f.message) ++ sent_by x.station r)
    → point ≡ option_or x.first.point (option_and_then (point_of x.station) (inspected_of r)) → (IfSome x.first.point InRange → IfSome point InRange)
    → ((ns : List ℕ) → x.first.stations ≡ first_two ns → stations ≡ first_two (ns ++ option_to_list (option_and_then sender (inspected_of r))))
    → Takes x (record x { channels = channels; first = record x.first { point = point; stations = stations }; counts = record x.counts { msm = msm } }) f (message_at f.message)
takes_none x f r is none msm channels point range stations =
    let no = no_valued x.station r none in
    rw is (record {
      station = refl;
      weeks = refl;
      frames = refl;
      msm = msm;
      counted = λ cells few h. subst (AreSignalCounts x.signal_counts) (sym (ap (λ (l : List HeardCell). cells ++ l) no.0 ∙ append-nil cells)) h;
      few = rw no.0 (omega arith);
      forms = sym (ap (λ (b : Bool). if b then forms.All else x.forms) no.1);
      channels = channels;
      point = point;
      in_range = range;
      stations = stations;
      tows = λ fs few h. tows_none f (no_tow x.station f r is none) h;
    })

-- one that was refused
pub takes_refused : (x : StreamSignals) (f : Framed) {e : MsgFault} → message_at f.message ≡ Err e → Takes x x f (message_at f.message)
takes_refused x f {e} is =
    takes_none x f (Err e) is tt refl (ap (with_sent x.channels) (sym (sent_without_1020 x.station f (Err e) is refl))) (sym (or_none x.first.point)) (λ h. h) (λ ns h. h ∙ ap first_two (sym (append-nil ns)))

-- one that is neither an MSM nor a station message
pub takes_other : (x : StreamSignals) {channels : ChannelsValue} (f : Framed) {number : ℕ} {set : Option (ℕ × Bool)} → message_at f.message ≡ Ok (Other number set) → channels ≡ with_sent x.channels (option_to_list (channel_of_1020 f.message))
    → Takes x (record x { channels = channels }) f (message_at f.message)
takes_other x f {number} {set} is now =
    let m = Other number set in
    let own = is_of_station x.station (inspected m) in
    let sent = option_to_list (channel_of_1020 f.message) in
    takes_none x f (Ok m) is (if_same own refl, λ leap. if_same own refl) refl (now ∙ ap (with_sent x.channels) (sym (ap (λ (l : List (ℕ × ℕ)). sent ++ l) (if_same own refl) ∙ append-nil sent)))
    (sym (ap (option_or x.first.point) (if_same own refl) ∙ or_none x.first.point)) (λ h. h) (λ ns h. h ∙ ap first_two (sym (append-nil ns)))

pub takes_station : (x : StreamSignals) {point : Option StationParts} {stations : FirstTwo} (f : Framed) (p : StationParts) → message_at f.message ≡ Ok (Station p) → point ≡ option_or x.first.point (if is_of_station x.station (inspected (Station p)) then Some p else None)
    → (IfSome x.first.point InRange → IfSome point InRange) → ((ns : List ℕ) → x.first.stations ≡ first_two ns → stations ≡ first_two (ns ++ p.station ∷ []))
    → Takes x (record x { first = record x.first { point = point; stations = stations } }) f (message_at f.message)
takes_station x f p is point range stations =
    let own = is_of_station x.station (inspected (Station p)) in
    takes_none x f (Ok (Station p)) is (if_same own refl, λ leap. if_same own refl) refl (ap (with_sent x.channels) (sym (sent_without_1020 x.station f (Ok (Station p)) is refl ∙ if_same own refl))) point range stations

-- an MSM
pub msm_station : (v : FormedMsm) {header : MsmHeader} → header ≡ v.msm.header → (inspected (Msm v)).station ≡ Some header.station
msm_station v same = grind arith

module _ (x : StreamSignals) (f : Framed) (v : FormedMsm) (is : message_at f.message ≡ Ok (Msm v)) {header : MsmHeader} (same : header ≡ v.msm.header) where
  msm_point : x.first.point ≡ option_or x.first.point (point_of x.station (inspected (Msm v)))
  msm_point = grind (arith, if_same, or_none)

  msm_sent : {own : Bool} → is_of_station x.station (inspected (Msm v)) ≡ own → option_to_list (channel_of_1020 f.message) ++ sent_by x.station (Ok (Msm v)) ≡ (if own then sent_channels (Msm v) else [])
  msm_sent own = sent_without_1020 x.station f (Ok (Msm v)) is refl ∙ ap (λ (b : Bool). if b then sent_channels (Msm v) else []) own

  msm_sender : {stations : FirstTwo} → ((ns : List ℕ) → x.first.stations ≡ first_two ns → stations ≡ first_two (ns ++ header.station ∷ [])) → (ns : List ℕ) → x.first.stations ≡ first_two ns → stations ≡ first_two (ns ++ option_to_list (sender (inspected (Msm v))))
  msm_sender stations ns h = grind (arith, common_steps)

  pub takes_another : {stations : FirstTwo} → is_of_station x.station (inspected (Msm v)) ≡ false → ((ns : List ℕ) → x.first.stations ≡ first_two ns → stations ≡ first_two (ns ++ header.station ∷ []))
      → Takes x (record x { first = record x.first { stations = stations }; counts = record x.counts { msm = (x.counts.msm + 1) % 2 ^ 64 } }) f (message_at f.message)
  takes_another other stations = takes_none x f (Ok (Msm v)) is (grind (arith, common_steps)) refl (ap (with_sent x.channels) (sym (msm_sent other))) msm_point (λ h. h) (msm_sender stations)

  pub takes_msm : {counts : SignalCountsValue} {had : Forms} {channels : ChannelsValue} {tows : FirstTows} {stations : FirstTwo} {any : Bool} → is_of_station x.station (inspected (Msm v)) ≡ true
      → ((ns : List ℕ) → x.first.stations ≡ first_two ns → stations ≡ first_two (ns ++ header.station ∷ [])) → CountsMessage x.signal_counts counts None (inspected (Msm v)) → any ≡ nat_lt 0 (length (valued None (inspected (Msm v))))
      → had ≡ (if any && not (have_form x.forms v.form) then forms.All else x.forms) → channels ≡ with_sent x.channels (sent_channels (Msm v))
      → ((fs : List Framed) → length fs < 2 ^ 56 → AreTows x.first.tows x.station fs → AreTows tows x.station (fs ++ f ∷ []))
      → Takes x (record x { signal_counts = counts; forms = had; channels = channels; first = record x.first { tows = tows; stations = stations }; counts = record x.counts { msm = (x.counts.msm + 1) % 2 ^ 64 } }) f (message_at f.message)
  takes_msm {counts} {any = any} own stations counted is_any had channels tows = grind (arith, common_steps, forms_kept, msm_sent, msm_point, msm_sender)

-- the numbers of a stream, of those of its bytes and of its frames
pub all_numbers : {c : StreamCounts} (b : List ℕ) → c.bytes ≡ length b → AreFrameCounts c (frames_of b) → c ≡ stream_counts b
all_numbers b bytes h = grind arith

-- no frame was counted
pub none_counted : (c : StreamSignals) (wanted : Option ℕ) → AreSignalCounts c.signal_counts [] → c.forms ≡ forms_had wanted [] → c.channels ≡ channels_in wanted [] → AreFirst c.first wanted [] → AreSaidIn c.weeks wanted [] → AreFrameCounts c.counts [] → AreSignals c wanted []
none_counted c wanted signal_counts forms channels first weeks counts = record { counted = record { signal_counts = signal_counts; few = omega arith }; forms = forms; channels = channels; first = first; weeks = weeks; counts = counts }

pub new_counts : (c : StreamSignals) → Counts c tt [] c tt []
new_counts c = record { same = refl; counts = λ few begun. begun }

-- with the number of bytes
abbrev pub with_bytes : StreamSignals → ℕ → StreamSignals
with_bytes c n = record c { counts = record c.counts { bytes = n } }

with_bytes_counted : {c : StreamSignals} {wanted : Option ℕ} {fs : List Framed} (n : ℕ) → AreSignals c wanted fs → AreSignals (with_bytes c n) wanted fs
with_bytes_counted n h = record { counted = h.counted; forms = h.forms; channels = h.channels; first = h.first; weeks = h.weeks; counts = record { frames = h.counts.frames; msm = h.counts.msm } }

-- ---- a stream that is counted from its start

module _ {v : FramerValue} {c c2 : StreamSignals} {limit : ℕ} (v2 : FramerValue) (r r2 : Option (List ℕ)) (began : Began Counts v c tt limit) where
  -- to its end, after n bytes
  pub counted_all : (n : ℕ) → n ≡ v2.taken → v2.has_ended ≡ true → AreSignals c c.station [] → ((b : List ℕ) → 6 * length (frames_of b) ≤ length b)
      → PassesAll Counts v c tt v2 c2 tt r r2 → HasCounted (with_bytes c2 n) c.station r r2
  counted_all n taken ended begun law p =
      let b : List ℕ = p.0.0 in
      let all = p.0.2 c tt [] [] began.new in
      let counts = subst (λ (e : Bool). length (known_frames e b) < 2 ^ 56 → AreSignals c c.station [] → AreSignals c2 c.station (known_frames e b)) ended all.passed.taken.counts in
      let few : length (frames_of b) < 2 ^ 56 = omega (arith, law b, all.passed.framer.history.taken, all.passed.framer.within, all.passed.framer.limit) in
      let are = with_bytes_counted n (counts few begun) in
      (b, p.0.1, p.1, all.passed.taken.same, are, all_numbers b (taken ∙ all.passed.framer.history.taken) are.counts)

  -- over the limit
  pub counted_too_much : Reads r r2 (PassesToLimit Counts v c tt v2 c2 tt) → ReadsTooMuch limit r r2
  counted_too_much p = grind arith

  pub counter_fails : {n : ℕ} → BreaksReading Counts NeverFails v c tt c2 tt n r r2 → ⊥
  counter_fails p = (p.breaks c tt [] [] began.new).broken

-- the counting was stopped by a fault
pub counting_stopped : {R F : Type 0} {v : FramerValue} {c : StreamSignals} (left : R → Option (List ℕ)) (v2 : FramerValue) (c2 : StreamSignals) (rd rd2 : Device R) (fault : StreamFault F) → Began Counts v c tt most_bytes
    → AtFault fault (Reads (left rd.inner) (left rd2.inner) (Passes Counts v c tt v2 c2 tt)) (Reads (left rd.inner) (left rd2.inner) (PassesToLimit Counts v c tt v2 c2 tt))
    (BreaksReading Counts NeverFails v c tt c2 tt piece_bytes (left rd.inner) (left rd2.inner))
    → StopsCounting left rd rd2 (stream_fault fault)
counting_stopped left v2 c2 rd rd2 stream.Read began passed = tt
counting_stopped left v2 c2 rd rd2 stream.TooLong began passed = counted_too_much v2 (left rd.inner) (left rd2.inner) began passed
counting_stopped left v2 c2 rd rd2 (stream.Sink fault) began broke = absurd (counter_fails v2 (left rd.inner) (left rd2.inner) began broke)

-- the text of a stream was printed, or a part of it
pub stream_printed : {R W : Type 0} {text : List ℕ} (IsText : List Framed → List ℕ → Type 0) (IsRefused : List ℕ → InspectFault → Type 0) (d d2 : Devices R W) (ended : Result ⊤ InspectFault) {s : StreamSignals} {wanted : Option ℕ}
    (h : HasCounted s wanted d.reader.unread d2.reader.unread) → IsText (frames_of h.0) text → d2.reader.device.failures ≡ d.reader.device.failures → Printed faults.Write ended d.writer d2.writer text
    → EndsStream ended IsText IsRefused d d2
stream_printed {text = text} IsText IsRefused d d2 (Ok u) h is same p = grind (arith, common_steps)
stream_printed {text = text} IsText IsRefused d d2 (Err fault) h is same p = grind (arith, common_steps)
