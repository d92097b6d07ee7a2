use Rattle.rinex_file.proofs.OneReading.{has_fields, lli_column, signal_read, blank_read, none_read}
use Rattle.rinex_file.proofs.Rows.Sizes.{strength_fits}
use Rattle.rinex_file.proofs.Rows.Written.{signal_is}
use Rattle.rinex_file.proofs.Names.{refused, ◌≡◌, ◌∙◌, sym, ap, ap₂, subst, [], ◌∷◌, get_or, ℤ, pos, Option, IfSome, SignalValues, AreSignalValues, IsFrom, field, strength_byte, signal_text, arith}
use Rattle.rinex_file.proofs.read.row.written_in.Goals.{After-strength_column-strength}
use Rattle.rinex_file.proofs.read.row.written_in.Goals as goal

-- the strength column of values that are written here
strength : (c : After-strength_column-strength) (e : SignalValues) → AreSignalValues e → c.args.text.now ≡ signal_text e → c.strength_column-strength.result ≡ strength_byte e.s
strength c e is shows = grind (arith, has_fields c.args.text.now e is shows)

pub returns-then-is_blank : goal.returns-then-is_blank
returns-then-is_blank c = blank_read _ c.no_values.result c.no_values.ensures (c.is_blank.ensures c.if-is_blank.true)

pub returns-in_err-s : goal.returns-in_err-s
returns-in_err-s c = none_read c.args.text.now _ c.from_residual.ensures (λ e is shows. c.in_err-s.ensures e.s (strength_fits e.s is.s) (has_fields c.args.text.now e is shows).3)

pub returns-in_err-c : goal.returns-in_err-c
returns-in_err-c c = none_read c.args.text.now _ c.from_residual-in_err-c.ensures (λ e is shows.
    let byte = strength ((goal.at.returns-in_err-c c).After-strength_column-strength) e is shows in
    c.in_err-c.ensures e.c is.c ((has_fields c.args.text.now e is shows).0 ∙ ap (λ b. field e.c 32 b) (sym byte)))

pub returns-in_err-l : goal.returns-in_err-l
returns-in_err-l c = none_read c.args.text.now _ c.from_residual-in_err-l.ensures (λ e is shows.
    let fields = has_fields c.args.text.now e is shows in
    let byte = strength ((goal.at.returns-in_err-l c).After-strength_column-strength) e is shows in
    c.in_err-l.ensures e.l is.l (fields.1 ∙ ap₂ (λ a b. field e.l a b) (sym (lli_column c.args.text.now e is fields)) (sym byte)))

pub returns-in_err-d : goal.returns-in_err-d
returns-in_err-d c = none_read c.args.text.now _ c.from_residual-in_err-d.ensures (λ e is shows. c.in_err-d.ensures e.d is.d (has_fields c.args.text.now e is shows).2)

pub returns-in_err-lli : goal.returns-in_err-lli
returns-in_err-lli c = none_read c.args.text.now _ c.from_residual-in_err-lli.ensures (λ e is shows. c.in_err-lli.ensures e.lli is.lli (ap (λ b. b ∷ []) (lli_column c.args.text.now e is (has_fields c.args.text.now e is shows))))

pub returns-else-is_plausible : goal.returns-else-is_plausible
returns-else-is_plausible c = λ e is shows.
    let text = c.args.text.now in
    let fields = has_fields text e is shows in
    let byte = strength ((goal.at.returns-else-is_plausible c).After-strength_column-strength) e is shows in
    let lost = lli_column text e is fields in
    let s_is = c.in_ok-s.ensures.2 e.s (strength_fits e.s is.s) fields.3 in
    let l_is = c.in_ok-l.ensures.2 e.l is.l (fields.1 ∙ ap₂ (λ a b. field e.l a b) (sym lost) (sym byte)) in
    let lli_is = c.in_ok-lli.ensures.2 e.lli is.lli (ap (λ b. b ∷ []) lost) in
    refused c.is_plausible.result _ c.is_plausible.ensures c.if-is_plausible.false
    (subst (λ (o : Option ℤ). IfSome o (IsFrom (pos 1) (pos 99_999))) s_is is.s, λ none. sym lli_is ∙ is.without_phase (l_is ∙ none))

pub returns-then-is_plausible : goal.returns-then-is_plausible
returns-then-is_plausible c =
    let plausible = c.is_plausible.ensures.0 c.if-is_plausible.true in
    signal_read c.args.text.now _
    (record { c = c.in_ok-c.ensures.0; l = c.in_ok-l.ensures.0; d = c.in_ok-d.ensures.0; s = plausible.0; lli = c.in_ok-lli.ensures.0; without_phase = plausible.1 })
    (signal_is c.args.text.now _ c.requires
    (c.in_ok-c.ensures.1 ∙ ap (λ b. field c.in_ok-c.c 32 b) c.strength_column-strength.ensures)
    (c.in_ok-l.ensures.1 ∙ ap₂ (λ a b. field c.in_ok-l.l a b) (ap (λ r. get_or r 0 0) c.in_ok-lli.ensures.1) c.strength_column-strength.ensures)
    c.in_ok-d.ensures.1
    c.in_ok-s.ensures.1)
