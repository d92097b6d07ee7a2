use Rattle.rinex_inspect.proofs.Names.{◌≡◌, ◌∙◌, ap, sym, Bool, true, List, [], cond, plan_of, tally_line, time_word, has_values, SatelliteRecord, Tally, contents_in, tally_at}
use Rattle.rinex_inspect.proofs.QualityTexts.{rest_is, tally_line_is}
use Rattle.rinex_inspect.proofs.quality_lines.period_line.Goals as goal

pub returns-then-has_values : goal.returns-then-has_values
returns-then-has_values c =
    let t = c.args.rated.now.table.now in let s = c.args.system in let i = c.args.i in let k = c.args.k in
    let u : Tally = (contents_in t).tallies s i k in
    let here : c.tally_at-tally.result ≡ u = c.tally_at-tally.ensures ∙ ap (λ (l : List SatelliteRecord). tally_at l k i) (c.as_slice.ensures.value ∙ ap (λ v. v.items) c.of.ensures) in
    let some : has_values u ≡ true = sym (ap has_values here) ∙ sym c.has_values.ensures ∙ c.if-has_values.true in
    tally_line_is (plan_of c.args.rated.now.file.now) c.args.start s i k here c.new-line.ensures c.put.ensures (rest_is (time_word c.args.start) (c.as_bytes.ensures.text ∙ c.time_word.ensures.text)) c.add_satellite.ensures.text c.add_code.ensures.text c.add_tally.ensures.text c.finish.ensures
    ∙ sym (ap (λ (b : Bool). cond b (tally_line (plan_of c.args.rated.now.file.now) c.args.start u s i k) []) some)
