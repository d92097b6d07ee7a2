-- Each kind of row is read by its own function: what it takes is kept, and a line that it refuses is no line of the
-- row, so that the header so far is as it was.
use Rattle.rinex_file.proofs.HeaderRows.Read.{given_interval, line_delta, line_first, line_fixed, line_interval, line_position, line_slots, line_texts, line_version, refuse_exactly, refuse_texts}
use Rattle.rinex_file.proofs.Names.{arith, ap, Option, Some, ◌≡◌, subst, refl, ℕ, List, Bool, is_some, ⊤, HeaderField, HeaderRow, Texts, HeaderLists, Known, ReadsOrRefuses, ReadsOrRefusesTexts, with_texts, AreItemsBefore, Slots, sym, Version, Position, Delta, StrengthUnit, Interval, First, Shift, Biases, version_content, position_content, height_content, interval_content, first_content, IsPosition, IsTime, IsInterval, position_of, systems_letter, civil_of, ◌<◌, ◌^◌, [], ◌∷◌}
use Rattle.rinex_file.proofs.read.head_so_far.HeadSoFar.read_header_line.Goals as goal

-- the row, what was known before it and what was returned, by other names
of_row : {r t : HeaderRow} (line : List ℕ) {old k : Known} (new : Known) {taken : Bool} (result : Option ⊤) → is_some result ≡ taken → r ≡ t → k ≡ old → ReadsOrRefuses t line k new taken
    → ReadsOrRefuses r line old new (is_some result)
of_row {t} line new {taken} result e is same l = rw (e, is) (subst (λ o. ReadsOrRefuses t line o new taken) same l)

of_texts : (r : HeaderField) (line : List ℕ) (k : Known) (x : HeaderLists) (b : Bool) → ReadsOrRefusesTexts r line k.shown.texts x b → ReadsOrRefuses (Texts r) line k (with_texts k x) b
of_texts r line k x b read = grind (arith, line_texts, refuse_texts)

pub returns-in_err-self-inside-in-Version : goal.returns-in_err-self-inside-in-Version
returns-in_err-self-inside-in-Version c = of_row c.args.line.now c.args.self.now _ (ap is_some c.from_residual.ensures) c.in-Version.is refl (refuse_exactly Version (λ byte. ⊤) version_content c.args.self.now c.args.line.now (λ h is there. (systems_letter h.plan, tt, refl)) c.in_err-self-inside-in-Version.ensures)

pub returns-in_ok-self-inside-in-Version : goal.returns-in_ok-self-inside-in-Version
returns-in_ok-self-inside-in-Version c = of_row c.args.line.now _ (Some tt) refl c.in-Version.is c.self.view_is (line_version _ _ c.args.line.now c.in_ok-self-inside-in-Version.ensures)

pub returns-in-Texts : goal.returns-in-Texts
returns-in-Texts c = of_row c.args.line.now _ _ refl c.in-Texts.is c.self.view_is (of_texts c.in-Texts.row c.args.line.now _ c.read_texts.new.texts _ c.read_texts.ensures)

pub returns-in_ok-self-inside-in-Position : goal.returns-in_ok-self-inside-in-Position
returns-in_ok-self-inside-in-Position c = of_row c.args.line.now _ (Some tt) refl c.in-Position.is c.self.view_is (line_position _ _ c.args.line.now c.in_ok-self-inside-in-Position.ensures)

pub returns-in_err-self-inside-in-Position : goal.returns-in_err-self-inside-in-Position
returns-in_err-self-inside-in-Position c = of_row c.args.line.now c.args.self.now _ (ap is_some c.from_residual-in_err-self-inside-in-Position.ensures) c.in-Position.is refl (refuse_exactly Position IsPosition position_content c.args.self.now c.args.line.now (λ h is there. (position_of h.values, (is.values.x, is.values.y, is.values.z, refl), refl)) c.in_err-self-inside-in-Position.ensures)

pub returns-in_err-self-inside-in-Delta : goal.returns-in_err-self-inside-in-Delta
returns-in_err-self-inside-in-Delta c = of_row c.args.line.now c.args.self.now _ (ap is_some c.from_residual-in_err-self-inside-in-Delta.ensures) c.in-Delta.is refl (refuse_exactly Delta (λ h. h < 2 ^ 16) height_content c.args.self.now c.args.line.now (λ h is there. (h.values.height, is.values.height, refl)) c.in_err-self-inside-in-Delta.ensures)

pub returns-in_ok-self-inside-in-Delta : goal.returns-in_ok-self-inside-in-Delta
returns-in_ok-self-inside-in-Delta c = of_row c.args.line.now _ (Some tt) refl c.in-Delta.is c.self.view_is (line_delta _ _ c.args.line.now c.in_ok-self-inside-in-Delta.ensures)

pub returns-in-StrengthUnit : goal.returns-in-StrengthUnit
returns-in-StrengthUnit c = line_fixed StrengthUnit c.in-StrengthUnit.is c.args.self.now _ tt (λ o. cc) (λ h. refl) (λ h. tt) c.read.ensures

pub returns-in_err-self-inside-in-First : goal.returns-in_err-self-inside-in-First
returns-in_err-self-inside-in-First c = of_row c.args.line.now c.args.self.now _ (ap is_some c.from_residual-in_err-self-inside-in-First.ensures) c.in-First.is refl (refuse_exactly First IsTime (λ t. first_content (civil_of t)) c.args.self.now c.args.line.now (λ h is there. (h.first, is.first, refl)) c.in_err-self-inside-in-First.ensures)

pub returns-in_ok-self-inside-in-First : goal.returns-in_ok-self-inside-in-First
returns-in_ok-self-inside-in-First c = of_row c.args.line.now _ (Some tt) refl c.in-First.is c.self.view_is (line_first _ _ c.args.line.now c.in_ok-self-inside-in-First.ensures)

pub returns-in_err-read_interval-in-Interval : goal.returns-in_err-read_interval-in-Interval
returns-in_err-read_interval-in-Interval c = of_row c.args.line.now c.args.self.now _ (ap is_some c.from_residual-in_err-read_interval-in-Interval.ensures) c.in-Interval.is refl (refuse_exactly Interval IsInterval interval_content c.args.self.now c.args.line.now given_interval c.in_err-read_interval-in-Interval.ensures)

pub returns-in_ok-read_interval-in-Interval : goal.returns-in_ok-read_interval-in-Interval
returns-in_ok-read_interval-in-Interval c = of_row c.args.line.now _ (Some tt) refl c.in-Interval.is c.self.view_is (line_interval _ _ c.args.line.now c.in_ok-read_interval-in-Interval.ensures)

pub returns-in-Shift : goal.returns-in-Shift
returns-in-Shift c = of_row c.args.line.now c.args.self.now _ refl c.in-Shift.is refl (line_fixed (Shift c.in-Shift.system) refl c.args.self.now _ tt (λ o. cc) (λ h. ap (λ b. b ∷ []) (sym c.letter.ensures)) (λ h. tt) c.read-in-Shift.ensures)

pub returns-in-Slots : goal.returns-in-Slots
returns-in-Slots c = of_row c.args.line.now _ _ refl c.in-Slots.is c.self.view_is (line_slots c.in-Slots.row c.args.line.now _ (subst (λ (k : Known). AreItemsBefore k (Slots c.in-Slots.row)) (sym c.self.view_is) (subst (AreItemsBefore c.args.self.now) c.in-Slots.is c.requires.before)) c.take.new.self.count c.take.new.self.channels _ c.take.ensures)

pub returns-in-Biases : goal.returns-in-Biases
returns-in-Biases c = line_fixed Biases c.in-Biases.is c.args.self.now _ tt (λ o. cc) (λ h. refl) (λ h. tt) c.read-in-Biases.ensures
