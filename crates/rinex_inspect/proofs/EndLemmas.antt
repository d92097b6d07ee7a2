-- The end of the command `quality`.
use Rattle.rinex_inspect.proofs.Names.{common_steps, ◌≡◌, ◌∙◌, ◌<◌, ◌≤◌, ◌++◌, ◌∷◌, [], ℕ, Bool, true, false, ◌==◌, List, Option, Some, None, Result, Ok, Err, inl, inr, refl, ap, sym, subst, arith, append_assoc, append-nil, ⊤, IsStrictlyIncreasing, Keeps-trans, kept_appends, longer_part, AppendsPrefix, Devices, Writer, eqb-false, eqb-true, map-append, EndsPrinting, IsDelivered, PlanValue, IsNoFault, file_text, IsFileValue, FileValue, Stamped, EpochReader, ReadFault, IsPrefix, HasFailed, IfSome, IfSome_then, IsErrAnd, Keeps, WriterFailures, culprit, passed, times_in, time_stamped, last_period, lines_before, lines_of, period_of, quality_output, FileFault, Tables, RatesPeriods, EndsQuality, IsRatedOr, RatesFiles}
use Rattle.rinex_inspect.proofs.CheckLemmas.{where_known}
use Rattle.rinex_inspect.proofs.PeriodLemmas.{IsEvery, before_later, before_same, period_rises}
use Rattle.rinex_inspect.proofs.RatingLemmas.{before_plan, rise_init, rising_front}
use Rattle.rinex_inspect.proofs.SumLemmas.{texts_more}
use Rattle.rinex_inspect.specs.declared.fault.FileFault.TheVariants as faults

-- ---- the lines of the first epochs are the first lines

lt_or_same : (a b : ℕ) → a ≤ b → (a ≡ b → ⊥) → a < b
lt_or_same a b h apart = grind (arith, h, apart)

rise_front : (ys xs : List ℕ) → IsStrictlyIncreasing (xs ++ ys) → IsStrictlyIncreasing xs
rise_front [] xs h = subst IsStrictlyIncreasing (append-nil xs) h
rise_front (y ∷ ys) xs h = rise_init xs y (rise_front ys (xs ++ y ∷ []) (subst IsStrictlyIncreasing (sym (append_assoc xs (y ∷ []) ys)) h))

front_rises : (xs ys : List Stamped) → IsStrictlyIncreasing (times_in (xs ++ ys)) → IsStrictlyIncreasing (times_in xs)
front_rises xs ys h = rise_front (times_in ys) (times_in xs) (subst IsStrictlyIncreasing (map-append time_stamped xs ys) h)

one_more : (p : PlanValue) (every : Option ℕ) (es : List Stamped) (e : Stamped) → IsEvery every → IsStrictlyIncreasing (times_in (es ++ e ∷ [])) → (text : List ℕ) × (lines_before p every (es ++ e ∷ []) ≡ lines_before p every es ++ text)
one_more p every es e is h = by (period_of every e.time == last_period every es) refl where
  by : (b : Bool) → (period_of every e.time == last_period every es) ≡ b → (text : List ℕ) × (lines_before p every (es ++ e ∷ []) ≡ lines_before p every es ++ text)
  by true same = ([], before_same p every es e is h (eqb-true (period_of every e.time) (last_period every es) same) ∙ sym (append-nil (lines_before p every es)))
  by false apart = (lines_of p every es (last_period every es), before_later p every es e is h (rising_front es e h) (lt_or_same (last_period every es) (period_of every e.time) (period_rises every es e is h) (λ same. eqb-false (period_of every e.time) (last_period every es) apart (sym same))))

rest_of : (p : PlanValue) (every : Option ℕ) (more es : List Stamped) → IsEvery every → IsStrictlyIncreasing (times_in (es ++ more)) → (rest : List ℕ) × (lines_before p every (es ++ more) ≡ lines_before p every es ++ rest)
rest_of p every [] es is rise = ([], ap (lines_before p every) (append-nil es) ∙ sym (append-nil (lines_before p every es)))
rest_of p every (e ∷ more) es is rise =
    let split : (es ++ e ∷ []) ++ more ≡ es ++ e ∷ more = append_assoc es (e ∷ []) more in
    let rising = subst (λ (l : List Stamped). IsStrictlyIncreasing (times_in l)) (sym split) rise in
    let (rest, is_rest) = rest_of p every more (es ++ e ∷ []) is rising in
    let (text, one) = one_more p every es e is (front_rises (es ++ e ∷ []) more rising) in
    (text ++ rest, ap (lines_before p every) (sym split) ∙ is_rest ∙ ap (λ (l : List ℕ). l ++ rest) one ∙ append_assoc (lines_before p every es) text rest)

-- the lines of the periods of the first epochs are the first lines of the output
pub first_lines : (every : Option ℕ) (plan : PlanValue) (es : List Stamped) (v : FileValue) → IsEvery every → IsFileValue v → IsPrefix es v.epochs → ((es ≡ [] → ⊥) → v.plan ≡ plan) → IsPrefix (lines_before plan every es) (quality_output every v)
first_lines None plan es v is file (more, split) same = (quality_output None v, refl)
first_lines (Some n) plan es v is file (more, split) same =
    let (rest, lines) = rest_of v.plan (Some n) more es is (subst (λ (l : List Stamped). IsStrictlyIncreasing (times_in l)) split file.rising) in
    let last : List ℕ = lines_of v.plan (Some n) v.epochs (last_period (Some n) v.epochs) in
    (rest ++ last, texts_more (lines_of v.plan (Some n) v.epochs) (last_period (Some n) v.epochs) ∙ ap (λ (l : List ℕ). l ++ last) (ap (lines_before v.plan (Some n)) split ∙ lines ∙ ap (λ (l : List ℕ). l ++ rest) (before_plan (Some n) v.plan plan es is same)) ∙ append_assoc (lines_before plan (Some n) es) rest last)

-- ---- how the command ended

-- the output of a file was written, or a part of it
pub ended : {R W : Type 0} (every : Option ℕ) (d d2 : Devices R W) (r : Result ⊤ FileFault) (v : FileValue) → IsFileValue v → IfSome d.reader.unread (λ input. input ≡ file_text v) → d2.reader.device.failures ≡ d.reader.device.failures
    → EndsPrinting faults.Write r (quality_output every v) d.writer d2.writer → EndsQuality every r d d2
ended every d d2 r v is text same p = grind (arith, common_steps)

pub ended_or : {W : Type 0} (every : Option ℕ) (w w2 : Writer W) (r : Result ⊤ FileFault) (v : FileValue) → EndsPrinting faults.Write r (quality_output every v) w w2 → IsRatedOr every v r w.written w2.written
ended_or every w w2 r v p = grind (arith, common_steps)

refused : (every : Option ℕ) (v : FileValue) (e : ReadFault) (w w' : Option (List ℕ)) → IsNoFault e → IsRatedOr every v (Err (faults.File e)) w w'
refused every v e w w' h = grind (arith, common_steps)

both : (input : Option (List ℕ)) (P Q : List ℕ → Type 0) {S : Type 0} → (S → IfSome input P) → IfSome input Q → IfSome input (λ x. (S → P x) × Q x)
both input P Q f h = grind (arith, common_steps)

pub ended_early_or : {R W : Type 0} (every : Option ℕ) (new : EpochReader) (t : Tables) (d d2 : Devices R W) (fault : FileFault) → IsEvery every → RatesPeriods every new t (Err fault) d d2 → RatesFiles every (Err fault) d d2
ended_early_or every new t d d2 (faults.File e) is (es, plan, known, why, none, read, printed, failures) = λ v file few. IfSome_then d.reader.unread (none v file few) (λ input h same. refused every v e _ _ (h same))
ended_early_or every new t d d2 (faults.OtherDay k) is h = absurd h
ended_early_or every new t d d2 faults.Write is (es, plan, n, known, one, first, part, fine) = λ v file few.
    IfSome_then d.reader.unread (both d.reader.unread _ _ one first) (λ input h same. inr (longer_part _ _ (lines_before plan every es) (quality_output every v) part.1
    (first_lines every plan es v is file (h.1.only v file same) (λ some. h.0 some v file same))))

-- ---- after a delivery

kept_part : (a b c : Option (List ℕ)) (text : List ℕ) → Keeps a b → AppendsPrefix b c text → AppendsPrefix a c text
kept_part a b c text k (rest, (sent, split, went)) = (rest, (sent, split, kept_appends a b c sent k went))

module _ {R W : Type 0} (every : Option ℕ) (d d2 : Devices R W) (w1 : Writer W) (first : (w1.device.failures ≡ d.writer.device.failures) × IsDelivered d.writer w1) where
  abbrev after : Devices R W
  after = record d { writer = w1 }

  pub delivered : (r : Result ⊤ FileFault) → EndsQuality every r after d2 → EndsQuality every r d d2
  delivered (Ok u) h = ((h.0.0, h.0.1 ∙ first.0, h.0.2), (h.1.0, h.1.1, h.1.2, kept_appends d.writer.written w1.written d2.writer.written (quality_output every h.1.0) first.1.0 h.1.3))
  delivered (Err (faults.File e)) (failed, inl (memory, unread, waiting)) = ((failed.0, subst (λ (n : ℕ). WriterFailures (culprit (faults.File e)) n d2.writer.device.failures) first.0 failed.1), inl (memory, (unread.0, Keeps-trans _ _ _ first.1.0 unread.1), waiting))
  delivered (Err (faults.File e)) (failed, inr (es, plan, known, why, read, appends, waiting)) = ((failed.0, subst (λ (n : ℕ). WriterFailures (culprit (faults.File e)) n d2.writer.device.failures) first.0 failed.1), inr (es, plan, known, why, read, kept_appends _ _ _ (lines_before plan every es) first.1.0 appends, waiting))
  delivered (Err (faults.OtherDay k)) (failed, h) = absurd h
  delivered (Err faults.Write) (failed, inl unread) = ((failed.0, subst (λ (n : ℕ). HasFailed n d2.writer.device.failures) first.0 failed.1), inl (unread.0, Keeps-trans _ _ _ first.1.0 unread.1))
  delivered (Err faults.Write) (failed, inr (inl (es, plan, n, known, begun, part))) = ((failed.0, subst (λ (n : ℕ). HasFailed n d2.writer.device.failures) first.0 failed.1), inr (inl (es, plan, n, known, begun, kept_part _ _ _ (lines_before plan every es) first.1.0 part)))
  delivered (Err faults.Write) (failed, inr (inr (v, is, text, part))) = ((failed.0, subst (λ (n : ℕ). HasFailed n d2.writer.device.failures) first.0 failed.1), inr (inr (v, is, text, kept_part _ _ _ (quality_output every v) first.1.0 part)))

  rated_or : (v : FileValue) (r : Result ⊤ FileFault) → IsRatedOr every v r w1.written d2.writer.written → IsRatedOr every v r d.writer.written d2.writer.written
  rated_or v r h = grind (arith, common_steps, kept_appends, kept_part)

  pub delivered_or : (r : Result ⊤ FileFault) → RatesFiles every r after d2 → RatesFiles every r d d2
  delivered_or r h = λ v file few. IfSome_then d.reader.unread (h v file few) (λ input known same. rated_or v r (known same))

-- the writer failed before anything was read
pub undelivered : {R W : Type 0} {fault : FileFault} (every : Option ℕ) (d d2 : Devices R W) (r : Result ⊤ FileFault) → IsErrAnd r (λ y. y ≡ fault) → fault ≡ faults.Write → d2.reader ≡ d.reader → HasFailed d.writer.device.failures d2.writer.device.failures → Keeps d.writer.written d2.writer.written
    → EndsQuality every r d d2 × RatesFiles every r d d2
undelivered {fault = fault} every d d2 r is write same failed keeps = grind (arith, common_steps, both, where_known, passed)
