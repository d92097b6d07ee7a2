use Rattle.rtcm_inspect.proofs.Names.{FourAndSeven, refl, sym, subst, Counts, StopsCounting, StreamSignals}
use Rattle.rtcm_inspect.proofs.StreamLemmas.{started}
use Rattle.rtcm_inspect.proofs.CountingLemmas.{counted_all, counting_stopped, new_counts, none_counted}
use Rattle.rtcm_inspect.proofs.counting.read_signals.Goals as goal

pub returns-in-Ok-read-clause-whole : goal.returns-in-Ok-read-clause-whole
returns-in-Ok-read-clause-whole g c =
    let signals : StreamSignals = record { station = c.args.station; signal_counts = c.new-3.result; forms = FourAndSeven; channels = c.none.result; first = c.new-4.result; weeks = c.in-Ok-new.weeks; counts = record { bytes = 0; frames = 0; msm = 0 } } in
    let began = started Counts c.in-Ok.ensures.new c.prefix.ensures.empty c.in-Ok.ensures.history c.in-Ok.ensures.drained (new_counts signals) in
    counted_all c.read_frames-read.new.self _ _ began c.taken-signals.result c.taken-signals.ensures.value c.in-Ok-read.ensures.ended (none_counted signals c.args.station c.new-3.ensures refl c.none.ensures (c.new-4.ensures c.args.station) (c.in-Ok-new.ensures c.args.station) (record { frames = refl; msm = refl })) c.prefix.ensures.few c.in-Ok-read.ensures.whole

pub returns-in-Err-clause-fault : goal.returns-in-Err-clause-fault
returns-in-Err-clause-fault g c =
    let signals : StreamSignals = record { station = c.args.station; signal_counts = c.new-3.result; forms = FourAndSeven; channels = c.none.result; first = c.new-4.result; weeks = c.in-Ok-new.weeks; counts = record { bytes = 0; frames = 0; msm = 0 } } in
    let began = started Counts c.in-Ok.ensures.new c.prefix.ensures.empty c.in-Ok.ensures.history c.in-Ok.ensures.drained (new_counts signals) in
    subst (StopsCounting g.R.Read.remaining c.args.reader.now c.read_frames-read.new.reader) (sym c.from.ensures)
    (counting_stopped g.R.Read.remaining c.read_frames-read.new.self c.read_frames-read.new.sink c.args.reader.now c.read_frames-read.new.reader c.in-Err.fault began c.in-Err.ensures.fault)
