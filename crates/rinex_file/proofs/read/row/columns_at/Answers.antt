use Rattle.rinex_file.proofs.Rows.Cut.{filled_end, filled_within, last_place}
use Rattle.rinex_file.proofs.Names.{arith, ◌∙◌, sym, ap, ℕ, drop, filled_to, ◌≡◌, ◌+◌, ◌-◌, take}
use Rattle.rinex_file.proofs.read.row.columns_at.Goals as goal

pub returns : goal.returns
returns c =
    let text = c.args.text.now in
    c.requires.last ∙ ap (λ (k : ℕ). filled_to 64 (drop k text)) (last_place c.args.at _ c.requires.at c.requires.within (omega arith)) ∙ sym (filled_end 64 c.args.at text (omega arith))

pub returns-then-text-at-ge-SIGNAL_COLUMNS : goal.returns-then-text-at-ge-SIGNAL_COLUMNS
returns-then-text-at-ge-SIGNAL_COLUMNS c =
    let width : c.args.at + 64 - c.args.at ≡ 64 = omega arith in
    ap (λ (k : ℕ). take k (drop c.args.at c.args.text.now)) width ∙ sym (filled_within 64 c.args.at c.args.text.now (omega arith))
