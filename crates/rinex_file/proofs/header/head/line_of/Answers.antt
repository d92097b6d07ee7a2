-- Each row's line is the one that the row's own function makes; a row that has no line for this plan has none here.
use Rattle.rinex_file.proofs.Names.{shown_by, unwrap_or, ◌∙◌, sym, ap, [], ◌∷◌, row_line, row_content, line_with, few_signals, interval_content, HeaderRow, Version, Texts, Position, Delta, First, Interval, Shift, Biases, End, inl, inr, List, Shown, ℕ, ◌≡◌, refl, version_content}
use Rattle.rinex_file.proofs.header.head.line_of.Goals as goal

-- the line that another row's function or this row makes, if it has this row's content
own_line : (h : Shown) (s : HeaderRow) {r t : HeaderRow} {content line : List ℕ} → s ≡ t → r ≡ t → line ≡ line_with s content → row_content h t ≡ content → line ≡ row_line h r
unfolding row_line
own_line h s {t = t} {content} same is made shows = made ∙ ap (λ q. line_with q content) same ∙ ap (line_with t) (sym shows) ∙ ap (row_line h) (sym is)

pub returns-in-Version : goal.returns-in-Version
returns-in-Version c = own_line (shown_by c.args.head.now) Version refl c.in-Version.is c.version_line.ensures (ap version_content (sym c.systems_letter.ensures))

pub returns-in-Texts : goal.returns-in-Texts
returns-in-Texts c = own_line (shown_by c.args.head.now) (Texts c.in-Texts.row) refl c.in-Texts.is c.texts_line.ensures refl

pub returns-in-Position : goal.returns-in-Position
returns-in-Position c = own_line (shown_by c.args.head.now) Position refl c.in-Position.is c.position_line.ensures refl

pub returns-in-Delta : goal.returns-in-Delta
returns-in-Delta c = own_line (shown_by c.args.head.now) Delta refl c.in-Delta.is c.delta_line.ensures refl

pub types_with-requires-clause-count : goal.types_with-requires-clause-count
types_with-requires-clause-count c = few_signals c.in-Types.system c.of-signals.result.now c.of-signals.ensures.system

pub returns-in-StrengthUnit : goal.returns-in-StrengthUnit
returns-in-StrengthUnit c = own_line (shown_by c.args.head.now) c.args.row c.in-StrengthUnit.is c.in-StrengthUnit.is c.line.ensures refl

pub returns-in-First : goal.returns-in-First
returns-in-First c = own_line (shown_by c.args.head.now) First refl c.in-First.is c.first_line.ensures refl

pub returns-in-Interval : goal.returns-in-Interval
returns-in-Interval c = own_line (shown_by c.args.head.now) Interval refl c.in-Interval.is c.interval_line.ensures (ap (λ o. interval_content (unwrap_or o 0)) c.unwrap.ensures)

pub returns-in-Biases : goal.returns-in-Biases
returns-in-Biases c =
    let own = λ (t : HeaderRow) (is : c.args.row ≡ t). own_line (shown_by c.args.head.now) c.args.row is is c.line-in-Biases.ensures in
    elim c.in-Biases.is [
      | inl is ↦ own Biases is refl
      | inr is ↦ own End is refl
    ]

pub returns-in-Shift : goal.returns-in-Shift
returns-in-Shift c = own_line (shown_by c.args.head.now) (Shift c.in-Shift.system) refl c.in-Shift.is c.line-in-Shift.ensures (ap (λ b. b ∷ []) (sym c.letter.ensures))
