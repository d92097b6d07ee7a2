-- What is known of the epochs that an `EpochReader` has read.
use Rattle.rinex_file.proofs.FileLines.{lines_are_lines}
use Rattle.rinex_file.proofs.Reading.Accepted.{are_read, not_pushed, plan_read}
use Rattle.rinex_file.proofs.Reading.Epochs.{sound_open}
use Rattle.rinex_file.proofs.Reading.Lines.{consumed, splits}
use Rattle.rinex_file.proofs.Names.{length-append, ◌≤◌, arith, length, map, IsStrictlyIncreasing, All-append, All-cons, All-nil, map-append, sum_by-append, PlanValue, rows_in, most_lines, file_text, AreSatelliteRows, IsFileValue, IsPlan, IsTime, time_stamped, HasReadRowsAt, common_steps, open_epochs, HasPlan, HasLinesLeft, HasReadRows, IsAt, IsSoundAt, IsStamped, All, plan_of, planned_in, ◌∙◌, ◌≡◌, sym, ap, refl, subst, ℕ, List, [], ◌∷◌, ◌++◌, ◌+◌, Option, IfSome, Expected, Header, Satellite, EpochReader, Progress, HasReadEpochs, progress_at, Stamped, FileValue, joined, file_lines}

-- epochs of a file with this plan, which don't have more lines than a file has
pub record AreFine (p : PlanValue) (es : List Stamped) : Type 0 where
  pub plan : IsPlan p
  pub rows : All (λ e. AreSatelliteRows (planned_in p) e.rows) es
  pub rising : IsStrictlyIncreasing (map time_stamped es)
  pub times : All (λ e. IsTime e.time) es
  pub few : length es + rows_in es ≤ most_lines

all_rows : (p : PlanValue) (es : List Stamped) → All (IsStamped (planned_in p)) es → All (λ e. AreSatelliteRows (planned_in p) e.rows) es
all_rows p es all = λ k d less. (all k d less).rows

all_times : (p : PlanValue) (es : List Stamped) → All (IsStamped (planned_in p)) es → All (λ e. IsTime e.time) es
all_times p es all = λ k d less. (all k d less).time

-- whole epochs
pub whole_fine : (r : EpochReader) (es : List Stamped) {input left : Option (List ℕ)} → HasReadEpochs r es input left → (es ≡ [] → ⊥) → AreFine (plan_of r) es
whole_fine r es read some = grind (arith, common_steps, are_read, all_rows, all_times)

-- whole epochs, and one that was begun
pub part_fine : (r : EpochReader) (es : List Stamped) (e : Stamped) (input left : Option (List ℕ)) → HasReadRows r es e input left → AreFine (plan_of r) (es ++ e ∷ [])
part_fine r es e input left part = by r.parser_state.expected refl part where
  by : (d : Expected) → r.parser_state.expected ≡ d → HasReadRowsAt d r es e input left → AreFine (plan_of r) (es ++ e ∷ [])
  by (Satellite n) is part =
      let s = progress_at r.parser_state (record { epochs = es; rows = e.rows }) in
      let (are, next, some, room) = sound_open s n is part.0.history.sound in
      let counted = part.0.history.counted in
      let (fits, within) = part.0.within in
      let p = plan_of r in
      let rowed : Stamped → Type 0 = λ (x : Stamped). AreSatelliteRows (planned_in p) x.rows in
      let timed : Stamped → Type 0 = λ (x : Stamped). IsTime x.time in
      record {
        plan = are.shown.plan;
        rows = All-append rowed es (e ∷ []) (all_rows p es are.epochs) (All-cons rowed e [] next.rows (All-nil rowed));
        rising = subst IsStrictlyIncreasing (ap (λ (t : ℕ). map time_stamped es ++ t ∷ []) part.2 ∙ sym (map-append time_stamped es (e ∷ []))) next.later;
        times = All-append timed es (e ∷ []) (all_times p es are.epochs) (All-cons timed e [] (subst IsTime part.2 next.time) (All-nil timed));
        few =
            let begun = ap open_epochs is in
            let rows = sum_by-append (λ (x : Stamped). length x.rows) es (e ∷ []) in
            omega (arith, begun, counted.epochs, counted.satellites, fits.0, within, rows, length-append es (e ∷ []));
      }
  by other is part = whole_fine r (es ++ e ∷ []) part (not_pushed es e)

-- the plan that was read
pub plan_known : (r : EpochReader) (es : List Stamped) {input left : Option (List ℕ)} → HasReadEpochs r es input left → (es ≡ [] → ⊥) → IfSome input (HasPlan (plan_of r))
plan_known r es read some = plan_read read.0 (λ none rows. some none)

plan_at : (s : Progress) (expected : Expected) (v : FileValue) (left : List (List ℕ)) → IsSoundAt s expected → (s.epochs ≡ [] → ⊥) → IsAt s expected v left → v.plan ≡ s.known.shown.plan
plan_at s (Header place) v left sound some at = absurd (some sound.0)
plan_at s other v left sound some at = ap (λ (f : FileValue). f.plan) at.value

plan_left : (s : Progress) (v : FileValue) (left : List (List ℕ)) → IsSoundAt s s.expected → (s.epochs ≡ [] → ⊥) → HasLinesLeft s v left → v.plan ≡ s.known.shown.plan
unfolding HasLinesLeft
plan_left s v left sound some on = plan_at s s.expected v left sound some on.1

-- each file value with this text has this plan
pub one_plan : (r : EpochReader) (es : List Stamped) {input left : Option (List ℕ)} → HasReadEpochs r es input left → (es ≡ [] → ⊥)
    → IfSome input (λ bytes. (v : FileValue) → IsFileValue v → bytes ≡ file_text v → v.plan ≡ plan_of r)
one_plan r es {input} read some =
    let s = progress_at r.parser_state (record { epochs = es; rows = [] }) in
    let t = read.0.taken in
    consumed input _ (joined t.lines) (λ bytes. (v : FileValue) → IsFileValue v → bytes ≡ file_text v → v.plan ≡ plan_of r) t.taken (λ rest v is e.
    let (more, lines, text) = splits (file_lines v) t.lines rest (lines_are_lines v is) t.are (sym e) in
    plan_left s v more read.0.history.sound some (t.history.goes v more is lines))
