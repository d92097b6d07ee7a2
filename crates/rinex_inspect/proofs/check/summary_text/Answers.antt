use Rattle.rinex_inspect.proofs.MissingLemmas.{end_output}
use Rattle.rinex_inspect.proofs.check.summary_text.Goals as goal

pub returns : goal.returns
returns c = λ v file is counted.
    end_output c.args.options.now v c.args.summary.now.times c.add_last_gap-after.ensures.fits file is.times counted c.add_last_gap-after.ensures.text.text c.add_last_gap-after.ensures.missing (c.add_counts.ensures.text v is.counts) c.add_times.ensures.text c.add_complete.ensures
