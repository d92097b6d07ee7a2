-- The reading of the lines of an epoch into a table.
use Rattle.rinex_inspect.proofs.Names.{IsErrAnd, passed, All-pop, common_steps, ◌≡◌, ◌∙◌, ◌+◌, ◌^◌, ◌<◌, ◌≤◌, ◌++◌, ◌∷◌, [], ℕ, Bool, List, Option, Result, Ok, Err, length, refl, ap, ap₂, sym, subst, arith, append-nil, Some, None, zero, suc, ◌==◌, ◌*◌, ⊤, IsStrictlyIncreasing, Appends-nil, length-append, map-append, length-filter-le, Devices, Writer, printed_after, EndsPrinting, PrintsPart, PrintsText, PlanValue, most_signals, System, time_stamped, HasReadEpochs, times_in, BeginsEpoch, FileSummary, check_line, FileValue, end_text, Contents, quality_output, satellite_lines, signal_lines, contents_of, in_period, last_period, lines_before, lines_of, period_of, texts_below, FileFault, Tables, Period, Satellites, Signals, IsPrintable, AreTables, KeepsPlan, IsPrintedAfter, RatesEpoch, RatesNext, ReadsRows, period_text, IsBlankTable, contents_in, AreFine, one_plan, part_fine, plan_known, whole_fine, Counts, culprit, ReaderFailures, RatesPeriods, AreSatelliteRows, IsSatelliteRow, planned_in, SatelliteRow, Stamped, EpochReader, ReadFault, HasReadRows, ReadsRow, plan_of, with_read, Table, HasAddedRow, IsTableOf}
use Rattle.rinex_inspect.proofs.ContentsLemmas.{AreFew, AreSame, few_of, few_planned, lines_same, period_is, printable, table_contents}
use Rattle.rinex_file.specs.declared.read.epochs.NextEpoch.TheVariants.{End}
use Rattle.rinex_inspect.proofs.PeriodLemmas.{IsEvery, before_later, before_same, none_first, none_later, period_other, period_rises, period_same, period_with}
use Rattle.rinex_inspect.proofs.TableSteps.{rise_tail, none_same, table_added}
use Rattle.rinex_inspect.proofs.SumLemmas.{texts_more}
use Rattle.rinex_inspect.specs.declared.fault.FileFault.TheVariants as faults

-- the epochs are few
pub few_epochs : (r : EpochReader) (es : List Stamped) (e : Stamped) (input left : Option (List ℕ)) (xs : List Stamped) → HasReadRows r es e input left → length xs ≤ length es → length xs < 2 ^ 62
few_epochs r es e input left xs part few = let all = (part_fine r es e input left part).few in omega (arith, all, few, length-append es (e ∷ []))

-- the next line of an epoch was added
pub row_step : (r : EpochReader) (es : List Stamped) (e : Stamped) (input left : Option (List ℕ)) (row : SatelliteRow) (xs : List Stamped) (t t2 : Table) → HasReadRows r es (with_read e row) input left → IsSatelliteRow (planned_in (plan_of r)) row
    → length xs ≤ length es → HasAddedRow row t t2 → IsTableOf t (xs ++ e ∷ []) → IsTableOf t2 (xs ++ with_read e row ∷ [])
row_step r es e input left row xs t t2 part fits few add is =
    let fine = part_fine r es (with_read e row) input left part in
    let rows : AreSatelliteRows (planned_in (plan_of r)) (e.rows ++ row ∷ []) =
    (All-pop (λ (x : Stamped). AreSatelliteRows (planned_in (plan_of r)) x.rows) (es ++ with_read e row ∷ []) es (Some (with_read e row)) refl fine.rows).1 in
    table_added t t2 row add fits.row.satellite.0 xs e (few_epochs r es (with_read e row) input left xs part few) fits.row.satellite.1 (none_same e.rows row rows.rise) is

pub row_is : (old new : EpochReader) (es : List Stamped) (e : Stamped) (input left : Option (List ℕ)) {r s : Result Bool ReadFault} → r ≡ s → ReadsRow old new es e input left r → ReadsRow old new es e input left s
row_is old new es e input left same h = subst (ReadsRow old new es e input left) same h

-- ---- an epoch after others

abbrev in_last : Option ℕ → List Stamped → List Stamped
in_last every es = in_period every (last_period every es) es

pub few_in : (every : Option ℕ) (p : ℕ) (es : List Stamped) → length (in_period every p es) ≤ length es
few_in every p es = length-filter-le (λ (x : Stamped). period_of every x.time == p) es

last_some : (es : List Stamped) (e : Stamped) → es ++ e ∷ [] ≡ [] → ⊥
last_some es e h = grind (arith, common_steps)

pub fine_with : (r : EpochReader) (es : List Stamped) (whole : Stamped) (input left : Option (List ℕ)) → HasReadEpochs r (es ++ whole ∷ []) input left → AreFine (plan_of r) (es ++ whole ∷ [])
fine_with r es whole input left read = whole_fine r (es ++ whole ∷ []) read (last_some es whole)

-- an epoch of the same period
pub rated_same : {R W : Type 0} (every : Option ℕ) (old new : EpochReader) (t : Tables) (now : Table) (es : List Stamped) (time : ℕ) (input : Option (List ℕ)) (d d2 : Devices R W) (r : Result ⊤ FileFault) → AreTables every t es
    → period_of every time ≡ t.period → d2.writer ≡ d.writer → d.writer.waiting ≡ [] → ReadsRows old new t.current now es time input d2.reader.unread r
    → RatesEpoch every old new (record t { current = now }) es time input r d d2
rated_same {W = W} every old new t now es time input d d2 (Ok u) tables same writer sent (whole, at, read, first, least, plan, added) =
    let fine = fine_with new es whole input d2.reader.unread read in
    let here : period_of every whole.time ≡ last_period every es = ap (period_of every) at ∙ same ∙ tables.period in
    let last : last_period every (es ++ whole ∷ []) ≡ last_period every es = period_with every es whole ∙ here in
    let epochs : in_last every (es ++ whole ∷ []) ≡ in_last every es ++ whole ∷ [] = ap (λ (p : ℕ). in_period every p (es ++ whole ∷ [])) last ∙ period_same every (last_period every es) es whole here in (
      whole,
      at,
      read,
      least,
      plan,
      record {
        interval = tables.interval;
        period = tables.period ∙ sym last;
        current = subst (IsTableOf now) (sym epochs) (added (in_last every es) (few_in every (last_period every es) es) tables.current);
        next = tables.next;
      },
      ([], before_same (plan_of new) every es whole tables.interval fine.rising here ∙ sym (append-nil (lines_before (plan_of new) every es)), subst (λ (w : Writer W). PrintsText [] d.writer w) (sym writer) (refl, sent, Appends-nil d.writer.written)),
    )
rated_same every old new t now es time input d d2 (Err (faults.File e)) tables same writer sent h = (h, writer)
rated_same every old new t now es time input d d2 (Err (faults.OtherDay k)) tables same writer sent h = absurd h
rated_same every old new t now es time input d d2 (Err faults.Write) tables same writer sent h = absurd h

-- the first epoch of a later period
pub rise_init : (xs : List ℕ) (y : ℕ) → IsStrictlyIncreasing (xs ++ y ∷ []) → IsStrictlyIncreasing xs
rise_init [] y h = λ k fits. absurd (omega (arith, fits))
rise_init (x ∷ []) y h = λ k fits. absurd (omega (arith, fits))
rise_init (x ∷ (z ∷ xs)) y h = by (rise_init (z ∷ xs) y (rise_tail x (z ∷ (xs ++ y ∷ [])) h)) (h 0 (omega arith)) where
  by : IsStrictlyIncreasing (z ∷ xs) → x < z → IsStrictlyIncreasing (x ∷ (z ∷ xs))
  by rest less zero fits = less
  by rest less (suc k) fits = let next = rest k (omega (arith, fits)) in grind (arith, next)

pub rising_front : (es : List Stamped) (e : Stamped) → IsStrictlyIncreasing (times_in (es ++ e ∷ [])) → IsStrictlyIncreasing (times_in es)
rising_front es e h = rise_init (times_in es) e.time (subst IsStrictlyIncreasing (map-append time_stamped es (e ∷ [])) h)

-- what is known of the tables before it
pub record IsLater (every : Option ℕ) (p : PlanValue) (t : Tables) (es : List Stamped) (whole : Stamped) : Type 0 where
  pub less : last_period every es < period_of every whole.time
  pub few : AreFew p (in_last every es)
  pub fits : IsPrintable t.current p
  pub text : period_text every p t.current t.period ≡ lines_of p every es (last_period every es)
  pub lines : lines_before p every (es ++ whole ∷ []) ≡ lines_before p every es ++ period_text every p t.current t.period

text_of : (every : Option ℕ) (p : PlanValue) (t : Table) (n : ℕ) (es : List Stamped) → AreSame (contents_in t) (contents_of (in_period every n es)) → ((s : System) → planned_in p s ≤ most_signals)
    → period_text every p t n ≡ lines_of p every es n
text_of None p t n es same few = refl
text_of (Some k) p t n es same few = lines_same p (contents_in t) (contents_of (in_period (Some k) n es)) same few (Period (n * k)) ∙ period_is p (n * k) (contents_of (in_period (Some k) n es))

pub later : (every : Option ℕ) (p : PlanValue) (t : Tables) (es : List Stamped) (whole : Stamped) → AreTables every t es → AreFine p (es ++ whole ∷ []) → (period_of every whole.time ≡ t.period → ⊥) → IsLater every p t es whole
later every p t es whole tables fine apart =
    let rises = period_rises every es whole tables.interval fine.rising in
    let less : last_period every es < period_of every whole.time = lt_of rises (λ same. apart (sym same ∙ sym tables.period)) in
    let few : AreFew p (in_last every es) = subst (AreFew p) (period_other every (last_period every es) es whole less) (few_of p (λ (x : Stamped). period_of every x.time == last_period every es) (es ++ whole ∷ []) fine) in
    let same = table_contents p t.current (in_last every es) few tables.current in
    let text : period_text every p t.current t.period ≡ lines_of p every es (last_period every es) =
    ap (period_text every p t.current) tables.period ∙ text_of every p t.current (last_period every es) es same (few_planned p fine.plan) in
    record {
      less = less;
      few = few;
      fits = printable p t.current (in_last every es) fine.plan few tables.current;
      text = text;
      lines = before_later p every es whole tables.interval fine.rising (rising_front es whole fine.rising) less ∙ ap (λ (l : List ℕ). lines_before p every es ++ l) (sym text);
    } where
      lt_of : {a b : ℕ} → a ≤ b → (a ≡ b → ⊥) → a < b
      lt_of {a} {b} h apart = grind (arith, h, apart)

pub later_tables : (every : Option ℕ) (es : List Stamped) (whole : Stamped) (t : Tables) → IsEvery every → IsStrictlyIncreasing (times_in (es ++ whole ∷ [])) → last_period every es < period_of every whole.time → t.period ≡ period_of every whole.time
    → IsTableOf t.current (whole ∷ []) → IsBlankTable t.next → AreTables every t (es ++ whole ∷ [])
later_tables every es whole t is rise less at current next =
    let last : last_period every (es ++ whole ∷ []) ≡ period_of every whole.time = period_with every es whole in
    let epochs : in_last every (es ++ whole ∷ []) ≡ whole ∷ [] =
    ap (λ (p : ℕ). in_period every p (es ++ whole ∷ [])) last ∙ period_same every (period_of every whole.time) es whole refl
    ∙ ap (λ (l : List Stamped). l ++ whole ∷ []) (none_later every (period_of every whole.time) es is (rising_front es whole rise) less) in
    record { interval = is; period = at ∙ sym last; current = subst (IsTableOf t.current) (sym epochs) current; next = next }

-- the writer failed in the lines of a period
pub rated_in_part : {R W : Type 0} (t : Tables) {fault : FileFault} (every : Option ℕ) (old new : EpochReader) (es : List Stamped) (time : ℕ) (input : Option (List ℕ)) (d d2 : Devices R W) (r : Result ⊤ FileFault) → IsErrAnd r (λ f. f ≡ fault) → fault ≡ faults.Write
    → RatesEpoch every old new t es time input (Err faults.Write) d d2 → RatesEpoch every old new t es time input r d d2
rated_in_part t every old new es time input d d2 r is write h = passed r faults.Write (λ r. RatesEpoch every old new t es time input r d d2) (subst (λ (f : FileFault). IsErrAnd r (λ g. g ≡ f)) write is) h

-- ---- one epoch after the other

-- an epoch that was begun
pub next_rated : {R W : Type 0} (every : Option ℕ) (old mid new : EpochReader) (t t2 : Tables) (es : List Stamped) (time : ℕ) (input : Option (List ℕ)) (d1 d d2 : Devices R W) → old.count < mid.count → KeepsPlan old mid es → d1.writer ≡ d.writer
    → RatesEpoch every mid new t2 es time input (Ok tt) d1 d2 → RatesNext every old new t t2 es input (Ok None) d d2
next_rated every old mid new t t2 es time input d1 d d2 less keeps same x15 = grind (arith, common_steps)

pub next_stopped : {R W : Type 0} (every : Option ℕ) (old mid new : EpochReader) (t t2 : Tables) (es : List Stamped) (time : ℕ) (input : Option (List ℕ)) (d1 d d2 : Devices R W) (fault : FileFault) → KeepsPlan old mid es → d1.writer ≡ d.writer
    → RatesEpoch every mid new t2 es time input (Err fault) d1 d2 → RatesNext every old new t t2 es input (Err fault) d d2
next_stopped every old mid new t t2 es time input d1 d d2 (faults.File e) keeps same h = (h.0, h.1 ∙ same)
next_stopped every old mid new t t2 es time input d1 d d2 (faults.OtherDay k) keeps same h = absurd h
next_stopped every old mid new t t2 es time input d1 d d2 faults.Write keeps same (whole, read, first, plan, (text, after, part)) =
    (whole, read, first, λ some. plan ∙ keeps some, (text, after, subst (λ w. PrintsPart text w d2.writer) same part))

-- the lines before don't depend on a plan that wasn't read
pub before_plan : (every : Option ℕ) (p q : PlanValue) (es : List Stamped) → IsEvery every → ((es ≡ [] → ⊥) → p ≡ q) → lines_before p every es ≡ lines_before q every es
before_plan every p q [] is same = ap (texts_below (lines_of p every [])) (sym (none_first every is)) ∙ ap (texts_below (lines_of q every [])) (none_first every is)
before_plan every p q (e ∷ es) is same = ap (λ (x : PlanValue). lines_before x every (e ∷ es)) (same (λ h. cc))

-- the lines of all periods before that of one epoch more
pub printed_with : {A W : Type 0} (every : Option ℕ) (p q : PlanValue) (es : List Stamped) (whole : Stamped) (text : List ℕ) (r : Result A FileFault) (w w1 w2 : Writer W) → IsEvery every → ((es ≡ [] → ⊥) → q ≡ p) → IsPrintedAfter every q es whole text
    → PrintsText (lines_before p every es) w w1 → EndsPrinting faults.Write r text w1 w2 → EndsPrinting faults.Write r (lines_before q every (es ++ whole ∷ [])) w w2
printed_with every p q es whole text r w w1 w2 is same after printed next =
    subst (λ (l : List ℕ). EndsPrinting faults.Write r l w w2) (ap (λ (l : List ℕ). l ++ text) (before_plan every p q es is (λ some. sym (same some))) ∙ sym after)
    (printed_after faults.Write r w w1 w2 (lines_before p every es) text printed next)

-- the end of the file
pub next_ended : {R W : Type 0} (every : Option ℕ) (old new : EpochReader) (t : Tables) (es : List Stamped) (input left : Option (List ℕ)) (s : FileSummary) (d d2 : Devices R W) → d2.writer ≡ d.writer → BeginsEpoch old new es input left (Ok (End s))
    → RatesNext every old new t t es input (Ok (Some s.counts)) d d2
next_ended every old new t es input left s d d2 same x11 = grind (arith, common_steps)

pub next_is : {R W : Type 0} (every : Option ℕ) (old new : EpochReader) (t t2 : Tables) (es : List Stamped) (input : Option (List ℕ)) (d d2 : Devices R W) {n m : Option Counts} → n ≡ m → RatesNext every old new t t2 es input (Ok n) d d2 → RatesNext every old new t t2 es input (Ok m) d d2
next_is every old new t t2 es input d d2 same h = subst (λ (n : Option Counts). RatesNext every old new t t2 es input (Ok n) d d2) same h

-- ---- the whole file

pub none_before : (every : Option ℕ) (p : PlanValue) → IsEvery every → lines_before p every [] ≡ []
none_before every p is = ap (texts_below (lines_of p every [])) (sym (none_first every is))

-- what is printed of a whole file
all_in : (es : List Stamped) → in_last None es ≡ es
all_in [] = refl
all_in (e ∷ es) = ap (λ (l : List Stamped). e ∷ l) (all_in es)

module _ (every : Option ℕ) (p : PlanValue) (t : Tables) (es : List Stamped) (tables : AreTables every t es) (fine : AreFine p es) where
  pub few_last : AreFew p (in_last every es)
  few_last = few_of p (λ (x : Stamped). period_of every x.time == last_period every es) es fine

  pub fits_last : IsPrintable t.current p
  fits_last = printable p t.current (in_last every es) fine.plan few_last tables.current

  last_same : AreSame (contents_in t.current) (contents_of (in_last every es))
  last_same = table_contents p t.current (in_last every es) few_last tables.current

output_is : (every : Option ℕ) (p : PlanValue) (t : Tables) (es : List Stamped) (v : FileValue) → AreTables every t es → AreFine p es → v.epochs ≡ es → v.plan ≡ p → quality_output every v ≡ lines_before p every es ++ end_text every p t v
output_is None p t es v tables fine epochs plan =
    let same = last_same None p t es tables fine in
    let few = few_planned p fine.plan in
    let all : contents_of (in_last None es) ≡ contents_of es = ap contents_of (all_in es) in
    ap₂ (λ (q : PlanValue) (xs : List Stamped). (check_line v ++ signal_lines q (contents_of xs)) ++ satellite_lines q (contents_of xs)) plan epochs
    ∙ ap (λ (has : Contents). (check_line v ++ signal_lines p has) ++ satellite_lines p has) (sym all)
    ∙ ap₂ (λ (x y : List ℕ). (check_line v ++ x) ++ y) (sym (lines_same p (contents_in t.current) (contents_of (in_last None es)) same few Signals)) (sym (lines_same p (contents_in t.current) (contents_of (in_last None es)) same few Satellites))
output_is (Some n) p t es v tables fine epochs plan =
    let last = last_period (Some n) es in
    ap₂ (λ (q : PlanValue) (xs : List Stamped). texts_below (lines_of q (Some n) xs) (last_period (Some n) xs + 1)) plan epochs
    ∙ texts_more (lines_of p (Some n) es) last
    ∙ ap (λ (l : List ℕ). lines_before p (Some n) es ++ l) (sym (ap (period_text (Some n) p t.current) tables.period ∙ text_of (Some n) p t.current last es (last_same (Some n) p t es tables fine) (few_planned p fine.plan)))

some_of : {A : Type 0} (xs ys : List A) → xs ≡ ys → 0 < length xs → ys ≡ [] → ⊥
some_of xs ys same some none = let size = ap length (same ∙ none) in omega (arith, size, some)

-- the end of the file
pub all_rated : {R W : Type 0} (every : Option ℕ) (old new : EpochReader) (t t2 : Tables) (es : List Stamped) (n : Counts) (d d1 d2 : Devices R W) → HasReadEpochs old es d.reader.unread d1.reader.unread → AreTables every t es → PrintsText (lines_before (plan_of old) every es) d.writer d1.writer
    → RatesNext every old new t t2 es d.reader.unread (Ok (Some n)) d1 d2 → d2.reader.device.failures ≡ d.reader.device.failures → RatesPeriods every new t2 (Ok n) d d2
all_rated every old new t t2 es n d d1 d2 read tables printed (has, only, keeps, same, writer) fine =
    let text = before_plan every (plan_of old) (plan_of new) es tables.interval (λ some. sym (keeps some)) in
    let some : es ≡ [] → ⊥ = some_of has.v.epochs es has.holds.1 has.is.some in
    let fine_old : AreFine (plan_of old) es = whole_fine old es read some in
    let fine_new : AreFine (plan_of new) es = subst (λ (p : PlanValue). AreFine p es) (sym (keeps some)) fine_old in
    let now : AreTables every t2 es = subst (λ (x : Tables). AreTables every x es) (sym same) tables in
    (es, has, only, now, subst (λ w. PrintsText (lines_before (plan_of new) every es) d.writer w) (sym writer) (subst (λ (l : List ℕ). PrintsText l d.writer d1.writer) text printed), fine, fits_last every (plan_of new) t2 es now fine_new, λ v rated. output_is every (plan_of new) t2 es v now fine_new rated.1 rated.2)

-- a fault
pub stopped_periods : {R W : Type 0} (every : Option ℕ) (old new : EpochReader) (t t2 : Tables) (es : List Stamped) (d d1 d2 : Devices R W) (fault : FileFault) → IsEvery every → HasReadEpochs old es d.reader.unread d1.reader.unread
    → PrintsText (lines_before (plan_of old) every es) d.writer d1.writer → RatesNext every old new t t2 es d.reader.unread (Err fault) d1 d2 → ReaderFailures (culprit fault) d.reader.device.failures d2.reader.device.failures
    → RatesPeriods every new t2 (Err fault) d d2
stopped_periods every old new t t2 es d d1 d2 (faults.File e) is read printed (stops, writer) failures =
    (es, plan_of old, λ some. plan_known old es read some, stops.0, stops.1, stops.2, subst (λ w. PrintsText (lines_before (plan_of old) every es) d.writer w) (sym writer) printed, failures)
stopped_periods every old new t t2 es d d1 d2 (faults.OtherDay k) is read printed h failures = absurd h
stopped_periods every old new t t2 es d d1 d2 faults.Write is read printed (whole, next, first, keeps, (text, after, part)) failures =
    let all = printed_with {A = ⊤} every (plan_of old) (plan_of new) es whole text (Err faults.Write) d.writer d1.writer d2.writer is keeps after printed (refl, part) in
    (es ++ whole ∷ [], plan_of new, new.count, λ some. plan_known new (es ++ whole ∷ []) next some, λ some. one_plan new (es ++ whole ∷ []) next some, first, all.1, failures)
