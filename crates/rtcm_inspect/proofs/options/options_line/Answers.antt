use Rattle.rtcm_inspect.proofs.Names.{◌≡◌, ◌∙◌, ◌++◌, [], ℕ, ChannelsValue, List, ap, rules, plan_had, plan_in, forms_had, valued_in, Forms, options_line}
use Rattle.rtcm_inspect.proofs.OptionLemmas.{line_made}
use Rattle.rtcm_inspect.proofs.options.options_line.Goals as goal

pub returns : goal.returns
returns c = λ fs h.
    let s = c.args.signals.now in
    let cells = valued_in s.station fs in
    let empty : c.new-text.result.items ≡ [] = search rules in
    let first = c.put_line.ensures ∙ ap (λ (l : List ℕ). l ++ c.first_words.result) empty ∙ c.first_words.ensures fs h in
    let others = c.add_others.ensures.text cells h.counted.signal_counts in
    line_made c.args.week c.args.leap s.station (plan_had cells s.channels) s.forms s.first.point first others
    (c.put_line-2.ensures ∙ ap (λ l. c.add_others.new.text.items ++ l) c.last_words.ensures)
    ∙ ap (λ (channels : ChannelsValue). options_line c.args.week c.args.leap s.station (plan_had cells channels) s.forms s.first.point) h.channels
    ∙ ap (λ (forms : Forms). options_line c.args.week c.args.leap s.station (plan_in s.station fs) forms s.first.point) h.forms
    ∙ ap (options_line c.args.week c.args.leap s.station (plan_in s.station fs) (forms_had s.station fs)) h.first.point
