-- The counts of a file that was read whole, and the times of its epochs.
use Rattle.rinex_file.proofs.Reading.Lines.{said_of}
use Rattle.rinex_file.proofs.Names.{AreCounts, file_of, refl, EpochReader, IfTextOfFile, IsSummaryRead, common_steps, arith, ◌≡◌, sym, subst, ℕ, ◌<◌, List, [], length, Option, Some, IfSome, map, is_some, true, ParserState, EpochTimes, FileSummary, Stamped, FileValue, IsFileValue, time_stamped, file_text, History, AreTimesOrNone, IsSummary, IsTextWith, IsWhole, file_at, ap, ◌-◌, ◌∷◌, ◌++◌, min, unwrap_or, reduce, fold-append, min-eq_left, steps_of, AreTimes}

some_times : (es : List Stamped) (times : Option EpochTimes) → AreTimesOrNone (map time_stamped es) times → 0 < length es → is_some times ≡ true
some_times es times are some = grind (arith, common_steps)

pub has_times : (c : ParserState) (h : History) (input : Option (List ℕ)) → IsWhole c h input → is_some c.times ≡ true
has_times c h input whole = some_times h.epochs c.times whole.history.counted.times whole.is.some

pub counted : {c : ParserState} {h : History} {input : Option (List ℕ)} → IsWhole c h input → AreCounts c.counts (file_at c h)
counted whole = grind (arith, common_steps, whole.history.counted, whole.none)

pub summed : {c : ParserState} (s : FileSummary) → s.counts ≡ c.counts → c.times ≡ Some s.times → {h : History} {input : Option (List ℕ)} → IsWhole c h input → IsSummary s (file_at c h)
summed s counts times {h} whole = let counted = whole.history.counted in grind (arith, subst (AreTimesOrNone (map time_stamped h.epochs)) times counted.times)

-- what holds of the file that was read whole
module _ {c : ParserState} {h : History} {input : Option (List ℕ)} (whole : IsWhole c h input) (Holds : FileValue → Type 0) (holds : Holds (file_at c h)) where
  pub text_with : IsTextWith Holds input
  text_with = record { v = file_at c h; is = whole.is; few = whole.few; text = said_of input _ _ (λ bytes text. text.same) whole.text; holds = holds }

  pub only_with : (v : FileValue) → IsFileValue v → IfSome input (λ bytes. bytes ≡ file_text v → Holds v)
  only_with v is = said_of input _ _ (λ bytes text same. subst Holds (sym (text.only v is same)) holds) whole.text

-- the file of the epochs that were read
pub ended : (r : EpochReader) (es : List Stamped) (s : FileSummary) {input : Option (List ℕ)} → (whole : IsWhole r.parser_state (record { epochs = es; rows = [] }) input)
    → IsSummary s (file_of r es) → IsTextWith (IsSummaryRead r es s) input × IfTextOfFile input (IsSummaryRead r es s)
ended r es s whole is = (text_with whole (IsSummaryRead r es s) (is, refl), λ v value few. only_with whole (IsSummaryRead r es s) (is, refl) v value)

-- ---- the times of epochs and of one more

smallest_more : (xs : List ℕ) (n : ℕ) → Some (min (unwrap_or (reduce min xs) n) n) ≡ reduce min (xs ++ n ∷ [])
smallest_more xs n = grind (arith, min-eq_left, fold-append)

steps_more : (others : List ℕ) (last time : ℕ) → steps_of (others ++ last ∷ []) ++ (time - last) ∷ [] ≡ steps_of ((others ++ last ∷ []) ++ time ∷ [])
steps_more (t ∷ (u ∷ others)) last time = ap (λ steps. (u - t) ∷ steps) (steps_more (u ∷ others) last time)
steps_more others last time = refl

pub times_more : (all : List ℕ) (t : EpochTimes) (time step : ℕ) → AreTimes all t → step ≡ min (unwrap_or t.step (time - t.last)) (time - t.last)
    → AreTimes (all ++ time ∷ []) (record { first = t.first; last = time; step = Some step })
times_more all t time step are is = grind (arith, steps_more, smallest_more)
