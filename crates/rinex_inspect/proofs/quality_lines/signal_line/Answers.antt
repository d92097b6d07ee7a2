use Rattle.rinex_inspect.proofs.Names.{refl, length, ◌≡◌, ◌∙◌, ◌++◌, ◌∷◌, [], ap, arith, codes, List, ℕ, plan_of, total, contents_in, records_in, tally_at}
use Rattle.rinex_inspect.proofs.QualityTexts.{number_is, signal_is, totals_are, totals_small}
use Rattle.rinex_inspect.proofs.quality_lines.signal_line.Goals as goal

pub total_of-satellites-requires-clause-fits : goal.total_of-satellites-requires-clause-fits
total_of-satellites-requires-clause-fits c =
    let t = c.args.rated.now.table.now in let s = c.args.system in
    let rs : c.as_slice.result.now ≡ records_in t s = c.as_slice.ensures.value ∙ ap (λ v. v.items) c.of.ensures in
    totals_small t s (plan_of c.args.rated.now.file.now) c.args.k c.args.rated.now.fits (omega (arith, c.requires.place, c.args.rated.now.fits.few s)) (totals_are t s c.args.k {u = total (tally_at c.as_slice.result.now c.args.k) (length c.as_slice.result.now)} rs c.args.rated.now.fits.places refl)

pub add_tally-requires-clause-small : goal.add_tally-requires-clause-small
add_tally-requires-clause-small c =
    let t = c.args.rated.now.table.now in let s = c.args.system in let k = c.args.k in
    let rs : c.as_slice.result.now ≡ records_in t s = c.as_slice.ensures.value ∙ ap (λ v. v.items) c.of.ensures in
    (totals_small t s (plan_of c.args.rated.now.file.now) k c.args.rated.now.fits (omega (arith, c.requires.place, c.args.rated.now.fits.few s)) (totals_are t s k rs c.args.rated.now.fits.places c.total_of-satellites.ensures.total)).strength

pub returns : goal.returns
returns c =
    let t = c.args.rated.now.table.now in let s = c.args.system in let k = c.args.k in
    let rs : c.as_slice.result.now ≡ records_in t s = c.as_slice.ensures.value ∙ ap (λ v. v.items) c.of.ensures in
    signal_is (plan_of c.args.rated.now.file.now) (contents_in t) s k (number_is t s k rs c.args.rated.now.fits.places c.total_of-satellites.ensures.satellites) (totals_are t s k rs c.args.rated.now.fits.places c.total_of-satellites.ensures.total)
    (c.put.ensures ∙ ap (λ (l : List ℕ). l ++ codes "signal") c.new-line.ensures) (c.add_part.ensures.text ∙ ap (λ (b : ℕ). c.put.new.self ++ 0x20 ∷ b ∷ []) c.letter.ensures) c.add_code.ensures.text c.add_count.ensures.text c.add_tally.ensures.text c.finish.ensures
