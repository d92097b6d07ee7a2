-- A line without a line feed, of another length, or with no letter and number of a satellite of the system is no
-- row's text; else it is one exactly if its columns are.
use Rattle.rinex_file.proofs.Rows.Cut.{cut_line_is, filled_over}
use Rattle.rinex_file.proofs.OneReading.{IsSatelliteText, line_ended, line_once, text_of_line}
use Rattle.rinex_file.proofs.Names.{refused, is_taken, ◌/◌, arith, ◌≡◌, ◌∙◌, sym, ap, refl, subst, ℕ, ◌*◌, ◌≤◌, List, Bool, ◌-◌, ◌++◌, append-nil, length, take, drop, replicate, flat_map, SignalValues, drop_all, take_all, take_rest, System, satellites, SatelliteRow, satellite_line, signal_text, filled_to, ReadsExactly, some_if, AreEntries, IsRowOf, number_of, padded, common_steps}
use Rattle.rinex_file.proofs.read.row.read_of.Goals.{After-saturating_sub, then-not-is_ended-via-then-not-is_ended, then-not-is_ended-via-else-not-is_ended+then-text-lt3, then-not-is_ended-via-else-not-is_ended+else-text-lt3+then-text-signals}
use Rattle.rinex_file.proofs.read.row.read_of.Goals as goal

-- the parts of the line of a satellite
parts : (c : After-saturating_sub) (v : SatelliteRow) → IsRowOf c.args.system c.args.signals v → c.args.line.now ≡ satellite_line v → IsSatelliteText (take c.saturating_sub.result c.args.line.now) c.args.signals v
parts c v is e =
    subst (λ (t : List ℕ). IsSatelliteText t c.args.signals v) (sym (ap (λ (k : ℕ). take k c.args.line.now) c.saturating_sub.ensures)) (text_of_line c.args.system c.args.signals v c.args.line.now is e)

pub returns-then-not-is_ended : goal.returns-then-not-is_ended
returns-then-not-is_ended c = λ v is e.
    let p = parts ((goal.at.returns-then-not-is_ended c).After-saturating_sub) v is e in
    elim c.then-not-is_ended.branch [
      | then-not-is_ended-via-then-not-is_ended w ↦ refused c.is_ended.result _ c.is_ended.ensures w.if-not-is_ended.true (line_ended v c.args.line.now e)
      | then-not-is_ended-via-else-not-is_ended+then-text-lt3 w ↦ let less = w.if-text-lt3.true in omega (arith, less, p.long)
      | then-not-is_ended-via-else-not-is_ended+else-text-lt3+then-text-signals w ↦ let more = w.if-text-signals.true in omega (arith, more, p.short)
    ]

pub returns-in_err-number : goal.returns-in_err-number
returns-in_err-number c = rw c.from_residual.ensures (λ v is e.
    let p = parts ((goal.at.returns-in_err-number c).After-saturating_sub) v is e in
    c.in_err-number.ensures (number_of v.system v.row.satellite) p.small p.number)

-- the number of a satellite of the system
number_is : {v : SatelliteRow} {system : System} {signals number : ℕ} → IsRowOf system signals v → number_of v.system v.row.satellite ≡ number → number_of system v.row.satellite ≡ number
number_is {v} {number} is e = subst (λ (s : System). number_of s v.row.satellite ≡ number) is.0 e

pub returns-in_err-row-inside : goal.returns-in_err-row-inside
returns-in_err-row-inside c = rw c.from_residual-in_err-row-inside.ensures (λ v is e.
    let p = parts ((goal.at.returns-in_err-row-inside c).After-saturating_sub) v is e in
    c.in_err-row-inside.ensures.none v.row.satellite is.1.satellite (number_is is (c.in_ok-number.ensures.2 (number_of v.system v.row.satellite) p.small p.number)))

-- the line of a satellite is read if its columns are
row_read : (all : Bool) {system : System} (signals : ℕ) {line columns : List ℕ} (seen : SatelliteRow) → seen.system ≡ system → (1 ≤ seen.row.satellite) × (seen.row.satellite ≤ satellites system)
    → (columns ≡ flat_map signal_text seen.row.signal_values → line ≡ satellite_line seen)
    → ((v : SatelliteRow) → IsRowOf system signals v → line ≡ satellite_line v → columns ≡ flat_map signal_text v.row.signal_values)
    → ReadsExactly (AreEntries signals) (flat_map signal_text) columns (some_if all seen.row.signal_values) → ReadsExactly (IsRowOf system signals) satellite_line line (some_if all seen)
row_read all signals seen same number shown columns_of none = grind (arith, line_once)

pub put_each_in-requires-clause-last : goal.put_each_in-requires-clause-last
put_each_in-requires-clause-last c =
    let text = take c.saturating_sub.result c.args.line.now in
    let columns = take (length text - 3) (drop 3 text) in
    let whole = 64 * (length columns / 64) in
    let cut = take (length columns - whole) (drop whole columns) in
    ap (λ l. l ++ drop (length cut) (replicate 64 32)) c.copy_from_slice.ensures.after ∙ filled_over 64 cut _ refl ∙ ap (filled_to 64) (take_rest columns whole)

pub returns : goal.returns
returns c =
    let line = c.args.line.now in
    let n = 64 * c.args.signals in
    let text = take c.saturating_sub.result line in
    let rest = take_rest text 3 in
    let all = c.put_each_in.result in
    let new = c.put_each_in.new.values in
    let count : length c.as_mut_slice.result.now ≡ c.args.signals = ap length c.as_mut_slice.ensures.value ∙ c.resize.ensures in
    let read = subst (λ (k : ℕ). ReadsExactly (AreEntries k) (flat_map signal_text) (filled_to (64 * k) (take (length text - 3) (drop 3 text))) (some_if all new)) count c.put_each_in.ensures.read in
    rw (is_taken all c.then_some.result c.then_some.ensures) (row_read all c.args.signals _ refl c.in_ok-row-inside.ensures.found.0
    (λ is. cut_line_is _ {text = text} n (c.is_ended.ensures.0 c.if-not-is_ended.false) (ap (λ (k : ℕ). take k line) c.saturating_sub.ensures) (omega arith)
    (grind (arith, common_steps)) (ap (padded 2) c.in_ok-row-inside.ensures.found.1 ∙ sym c.in_ok-number.ensures.1) (ap (filled_to n) (sym rest) ∙ is))
    (λ v is e. ap (filled_to n) rest ∙ (parts ((goal.at.returns c).After-saturating_sub) v is e).columns)
    (subst (λ (es : List SignalValues). ReadsExactly (AreEntries c.args.signals) (flat_map signal_text) (filled_to n (take (length text - 3) (drop 3 text))) (some_if all es))
    (sym (grind (arith, drop_all, append-nil, take_all, c.put_each_in.ensures.size ∙ ap length c.as_mut_slice.ensures.value))) read))
