use Rattle.rtcm_inspect.proofs.SignalLemmas.{no_cells, some_cells}
use Rattle.rtcm_inspect.proofs.PrintedWeekLemmas.{week_refused}
use Rattle.rtcm_inspect.proofs.ValuedLemmas.{valued_keys}
use Rattle.rtcm_inspect.proofs.Names.{arith, common_steps, ◌∙◌, ap, sym, mixed_of, passed, valued_in, FirstTwo}
use Rattle.rtcm_inspect.proofs.options.options_of.Goals as goal

pub returns-in-None-clause-refused : goal.returns-in-None-clause-refused
returns-in-None-clause-refused c = λ b h counts. grind (arith, common_steps, no_cells, valued_keys)

pub returns-in_ok-printed-in-None-2-clause-line : goal.returns-in_ok-printed-in-None-2-clause-line
returns-in_ok-printed-in-None-2-clause-line c = λ fs h.
    let s = c.args.signals.now in (
      (
        ap (λ (x : FirstTwo). mixed_of s.station x) (sym h.first.stations) ∙ sym c.mixed_stations.ensures ∙ c.in-None.is,
        some_cells _ (valued_in s.station fs) h.counted.signal_counts (sym c.has_any.ensures ∙ c.if-not-has_any.false),
      ),
      (c.in_ok-printed-in-None-2.printed.week, c.in_ok-printed-in-None-2.printed.leap, c.in_ok-printed-in-None-2.ensures fs h, c.options_line.ensures fs h),
    )

pub returns-in_err-printed-in-None-2-clause-refused : goal.returns-in_err-printed-in-None-2-clause-refused
returns-in_err-printed-in-None-2-clause-refused c = λ b h counts. grind (arith, common_steps, passed, week_refused, some_cells)
