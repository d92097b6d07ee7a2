-- The lines of gaps, with one time more.
use Rattle.rinex_inspect.proofs.Names.{Appends, HaveFailedBy, Device, ReadsPrefix, ReaderFailures, culprit, common_steps, EpochReader, NextEpoch, BeginsEpoch, ReadFault, IsSummaryRead, AreInside, is_inside, All-head, All-tail, false, true, min, reduce, File, OtherDay, Write, longer_part, printed_after, printed_later, CheckOptions, Completeness, CountsMissing, EndsCheck, IsCompleteness, IsEndOutput, IsOutput, IsSummary, all_gaps_if, gap_with, gaps_if, inr, missing_with, times_in, ⊤, AppendsPrefix, AreTimes, AreTimesOrNone, EpochTimes, FileValue, IfSome, IsCheckedOr, IsFileValue, check_line, complete_if, IfSome_then, IsDelivered, ReadsGaps, append_assoc, file_lines, file_text, length, most_lines, steps_of, times_if, ◌≡◌, ◌∙◌, ◌+◌, ◌<◌, ◌≤◌, ◌∷◌, ◌++◌, [], ap, arith, refl, subst, sym, ℕ, List, Option, Devices, Writer, EndsPrinting, Err, FileSummary, FileFault, IsPrefix, Ok, PrintsText, Result, Stamped, map, time_stamped, map-append, ◌^◌}
use Rattle.rinex_file.proofs.ReaderLaws.{HasReadOn, fault_read}
use Rattle.rinex_file.specs.declared.read.fault.ReadFault.TheVariants as reading
use Rattle.rinex_inspect.proofs.CheckLemmas.{none_written, refused}
use Rattle.rinex_inspect.proofs.MissingLemmas.{gaps_next, gaps_prefix, missing_next, missing_small, rise_front}

-- a fault of reading, as that of the command
pub file_read : {A B R : Type 0} {e : ReadFault} {remaining : R → Option (List ℕ)} {a b c : Device R} → HasReadOn remaining a b → ReadsPrefix {A = A} reading.Read (Err e) remaining b c
    → ReadsPrefix {A = B} (File reading.Read) (Err (File e)) remaining a c
file_read {e = e} before next = fault_read (λ is. ap File is) (λ is. let same : e ≡ reading.Read = cc in same) before next

pub reader_failed : {A R : Type 0} {remaining : R → Option (List ℕ)} {a b c : Device R} (fault : FileFault) → HasReadOn remaining a b → ReadsPrefix {A = A} (File reading.Read) (Err fault) remaining b c
    → ReaderFailures (culprit fault) a.failures c.failures
reader_failed fault before next = grind (arith, common_steps, before.same, next.failed, next.same)

-- the gaps of the epochs and of one more
pub printed_more : {A W : Type 0} (w w1 w2 : Writer W) (complete : Option Completeness) (es : List Stamped) (e : Stamped) (before : Option EpochTimes) {time : ℕ} {r ended : Result A FileFault}
    → PrintsText (gaps_if complete (times_in es)) w w1 → AreTimesOrNone (times_in es) before → e.time ≡ time → r ≡ ended → EndsPrinting Write r (gap_with complete before time) w1 w2
    → EndsPrinting Write ended (gaps_if complete (times_in (es ++ e ∷ []))) w w2
printed_more w w1 w2 complete es e before {r = r} first are same end next =
    let all = ap (gaps_if complete) (map-append time_stamped es (e ∷ [])) ∙ gaps_next complete (times_in es) before e.time are ∙ ap (λ (t : ℕ). gaps_if complete (times_in es) ++ gap_with complete before t) same in
    subst (λ r. EndsPrinting Write r (gaps_if complete (times_in (es ++ e ∷ []))) w w2) end (subst (λ (t : List ℕ). EndsPrinting Write r t w w2) (sym all) (printed_after Write r w w1 w2 (gaps_if complete (times_in es)) _ first next))

-- the missing places of the epochs and of one more
pub counted_more : {time k n m : ℕ} (complete : Option Completeness) (es : List Stamped) (e : Stamped) (before : Option EpochTimes) → IfSome complete IsCompleteness → AreTimesOrNone (times_in es) before → e.time ≡ time
    → CountsMissing complete (times_in es) k → n ≡ missing_with complete before time → (k + n < 2 ^ 64 → m ≡ k + n) → time < 2 ^ 63 → CountsMissing complete (times_in (es ++ e ∷ [])) m
counted_more {time} {k} {n} {m} complete es e before is are same before_it one sum small rise = grind (arith, common_steps, map-append, rise_front, missing_next, missing_small)

-- the times of epochs inside of the window, and of one more
pub inside_more : (complete : Option Completeness) (es : List Stamped) (e : Stamped) {time : ℕ} → AreInside complete (times_in es) → e.time ≡ time → is_inside complete time ≡ true → AreInside complete (times_in (es ++ e ∷ []))
inside_more complete es e all same one = grind (arith, common_steps, map-append)

-- epochs of which one is outside aren't all inside
pub not_inside : (complete : Option Completeness) (es more : List Stamped) (e : Stamped) {time : ℕ} → e.time ≡ time → is_inside complete time ≡ false → AreInside complete (times_in ((es ++ e ∷ []) ++ more)) → ⊥
not_inside complete es more e {time} same out all =
    let inside : is_inside complete time ≡ true = subst (λ (t : ℕ). is_inside complete t ≡ true) same (one_of es all) in
    let bad : false ≡ true = sym out ∙ inside in
    cc where
      one_of : (es : List Stamped) → AreInside complete (times_in ((es ++ e ∷ []) ++ more)) → is_inside complete e.time ≡ true
      one_of [] all = All-head (λ (t : ℕ). is_inside complete t ≡ true) e.time (times_in more) all
      one_of (x ∷ es) all = one_of es (All-tail (λ (t : ℕ). is_inside complete t ≡ true) x.time (times_in ((es ++ e ∷ []) ++ more)) all)

-- the line of the next epoch, or the end
pub begins_is : (old new : EpochReader) (es : List Stamped) (input left : Option (List ℕ)) {n m : NextEpoch} → n ≡ m → BeginsEpoch old new es input left (Ok n) → BeginsEpoch old new es input left (Ok m)
begins_is old new es input left same h = subst (λ (n : NextEpoch). BeginsEpoch old new es input left (Ok n)) same h

-- ---- the end of the command

-- nonempty times have a first, a last and a smallest step
times_of : (t : ℕ) (ts : List ℕ) → (times : EpochTimes) × AreTimes (t ∷ ts) times
times_of t ts =
    let (others, last, is) = ends t ts in
    (record { first = t; last = last; step = reduce min (steps_of (t ∷ ts)) }, record { first = (ts, refl); last = (others, is); step = refl }) where
      ends : (t : ℕ) (ts : List ℕ) → (others : List ℕ) × (last : ℕ) × (t ∷ ts ≡ others ++ last ∷ [])
      ends t [] = ([], t, refl)
      ends t (u ∷ ts) = let (others, last, is) = ends u ts in (t ∷ others, last, ap (λ l. t ∷ l) is)

-- the output for a file that was read whole
pub whole_output : (r : EpochReader) (o : CheckOptions) (s : FileSummary) (v : FileValue) (es : List Stamped) (text : List ℕ) {missing : ℕ} → IsSummaryRead r es s v → IsFileValue v → CountsMissing o.complete (times_in es) missing
    → ((v : FileValue) → IsFileValue v → IsSummary s v → CountsMissing o.complete (times_in v.epochs) missing → IsEndOutput o v s.times text) → IsOutput o v (gaps_if o.complete (times_in es) ++ text)
whole_output r o s v es text {missing} h file counts end = grind (arith, common_steps)

-- the gaps of the first epochs of a file are a part of its output
first_gaps : (o : CheckOptions) (w w2 : Option (List ℕ)) (v : FileValue) (es : List Stamped) → IsFileValue v → IsPrefix es v.epochs → AppendsPrefix w w2 (gaps_if o.complete (times_in es)) → IsCheckedOr o v (Err Write) w w2
first_gaps o w w2 v es is (more, split) part =
    let (t, are) = some_times v.epochs is.some in
    let rest = (check_line v ++ times_if o.times t) ++ complete_if o.complete (times_in v.epochs) t in
    let (tail, longer) = gaps_prefix o.complete (times_in es) (times_in more) in
    let all : all_gaps_if o.complete (times_in v.epochs) ≡ gaps_if o.complete (times_in es) ++ tail = ap (all_gaps_if o.complete) (ap (map time_stamped) split ∙ map-append time_stamped es more) ∙ longer in
    inr (all_gaps_if o.complete (times_in v.epochs) ++ rest, (t, are, refl), longer_part w w2 (gaps_if o.complete (times_in es)) (all_gaps_if o.complete (times_in v.epochs) ++ rest) part (tail ++ rest, ap (λ l. l ++ rest) all ∙ append_assoc (gaps_if o.complete (times_in es)) tail rest)) where
      some_times : (es : List Stamped) → 0 < length es → (t : EpochTimes) × AreTimes (times_in es) t
      some_times [] some = absurd (omega (arith, some))
      some_times (e ∷ es) some = times_of e.time (times_in es)

-- a fault of a file's text, of which nothing was read before w1: memory ran out or a device failed
pub gaps_refused : {R W : Type 0} (r : EpochReader) (o : CheckOptions) (d d2 : Devices R W) (w1 : Writer W) (fault : FileFault) (v : FileValue) → IsFileValue v → length (file_lines v) ≤ most_lines
    → (w1.device.failures ≡ d.writer.device.failures) × IsDelivered d.writer w1 → ReadsGaps r (Err fault) o.complete (record d { writer = w1 }) d2
    → IfSome d.reader.unread (λ input. input ≡ file_text v → IsCheckedOr o v (Err fault) d.writer.written d2.writer.written)
gaps_refused r o d d2 w1 (File e) v is few kept (es, stops, printed, failures, inside, next) = IfSome_then d.reader.unread (stops.1 v is few) (λ input h same. refused o v e _ _ (h same))
gaps_refused r o d d2 w1 (OtherDay k) v is few kept (es, line, printed, fine) =
    IfSome_then d.reader.unread line
    (λ input h same all. let (t, out, inside, at) = h in let (e, time, (more, split)) = at.only v is same in not_inside o.complete es more e time out (subst (λ (l : List Stamped). AreInside o.complete (times_in l)) split all))
gaps_refused r o d d2 w1 Write v is few kept (es, n, asked, first, part, fine, inside) =
    let later = printed_later {A = ⊤} {w = d.writer} Write (Err Write) w1 d2.writer kept refl (refl, part) in
    IfSome_then d.reader.unread first (λ input f same. first_gaps o _ _ v es is (f.only v is same) later.ends.1.1)

-- a fault of reading after the gaps
file_ended : {R W : Type 0} (e : ReadFault) (d d2 : Devices R W) (w1 : Writer W) (text : List ℕ) → (w1.device.failures ≡ d.writer.device.failures) × IsDelivered d.writer w1 → PrintsText text w1 d2.writer
    → ReaderFailures (culprit (File e)) d.reader.device.failures d2.reader.device.failures → HaveFailedBy (culprit (File e)) d d2 × Appends d.writer.written d2.writer.written text × (d2.writer.waiting ≡ [])
file_ended e d d2 w1 text kept printed failures = grind (arith, common_steps, printed_later, none_written)

-- what follows from both
both_known : (a : Option (List ℕ)) (P Q R : List ℕ → Type 0) → ((input : List ℕ) → P input → Q input → R input) → IfSome a P → IfSome a Q → IfSome a R
both_known a P Q R h p q = grind (arith, common_steps)

-- the end of the command at such a fault
pub gaps_stopped : {R W : Type 0} (r : EpochReader) (o : CheckOptions) (d d2 : Devices R W) (w1 : Writer W) (fault : FileFault) → (w1.device.failures ≡ d.writer.device.failures) × IsDelivered d.writer w1
    → ReadsGaps r (Err fault) o.complete (record d { writer = w1 }) d2 → EndsCheck {A = ⊤} o (Err fault) d d2
gaps_stopped r o d d2 w1 (File e) kept (es, stops, printed, failures, inside, next) =
    let (failed, text, sent) = file_ended e d d2 w1 (gaps_if o.complete (times_in es)) kept printed failures in
    (failed, (es, both_known d.reader.unread _ _ _ (λ input why begun. (why.0, why.1, begun)) stops.0 next, stops.2, inside, text, sent))
gaps_stopped r o d d2 w1 fault kept h = grind (arith, common_steps, printed_later, none_written)
