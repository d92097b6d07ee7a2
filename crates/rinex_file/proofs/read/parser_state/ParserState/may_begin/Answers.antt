use Rattle.rinex_file.proofs.Reading.Epochs.{rise_after, rise_last, not_none}
use Rattle.rinex_file.proofs.Names.{arith, ◌∙◌, ap, sym, subst, map, lt-ltb, ltb-true, time_stamped, ParserState, AreTimesOrNone}
use Rattle.rinex_file.proofs.read.parser_state.ParserState.may_begin.Goals as goal

pub returns-in-Some : goal.returns-in-Some
returns-in-Some c = λ h history.
    let times = subst (AreTimesOrNone (map time_stamped h.epochs)) (ap (λ (s : ParserState). s.times) (sym c.self.view_is) ∙ c.in-Some.is) history.counted.times in
    let (front, last) = times.last in
    let before = c.milliseconds-in-Some.ensures.value in
    let time = c.milliseconds-in-Some-2.ensures.value in
    let x = c.in-Some.times.last in (
      λ less. record {
        later = rise_after _ front x c.args.time last (c.requires.between h history).rising (let now = ltb-true _ _ less in omega (arith, before, time, now));
        first = λ none. absurd (not_none h.epochs front x last none);
        some = omega (arith, c.if-satellites-eq0.false);
        room = omega (arith, c.most_rows.ensures, c.if-satellites-most_rows.false);
      },
      λ may. let rise = rise_last _ front x c.args.time last may.later in lt-ltb _ _ (omega (arith, before, time, rise)),
    )
