use Rattle.rtcm_inspect.proofs.Names.{Write, printed_later, ◌∙◌, refl, sym, AreSignalsOf, AreSignalsRefused, devices_of, frames_of, valued_in, writer_of}
use Rattle.rtcm_inspect.proofs.CountingLemmas.{stream_printed}
use Rattle.rtcm_inspect.proofs.SignalLemmas.{no_cells, some_cells}
use Rattle.rtcm_inspect.proofs.ValuedLemmas.{valued_keys}
use Rattle.rtcm_inspect.proofs.signals.run_signals.Goals as goal

pub returns-then-not-has_any : goal.returns-then-not-has_any
returns-then-not-has_any g c =
    let s = c.in_ok-signals.ensures.whole in
    let cells = valued_in c.args.station (frames_of s.0) in
    let none = no_cells _ cells s.4.counted.signal_counts (valued_keys c.args.station (frames_of s.0)) (sym c.has_any.ensures ∙ c.if-not-has_any.true) in
    ((c.in_ok-signals.ensures.reader, c.in_ok-deliver_waiting.ensures.0), ((s.0, s.1, s.2, (none, s.5)), c.in_ok-deliver_waiting.ensures.1))

pub returns : goal.returns
returns g c =
    let s = c.in_ok-signals.ensures.whole in
    let counts = s.4.counted.signal_counts in
    let cells = valued_in c.args.station (frames_of s.0) in
    let some = some_cells _ cells counts (sym c.has_any.ensures ∙ c.if-not-has_any.false) in
    let at = devices_of g.R.Read.remaining g.W.Write.contents g.W.Deliver.waiting in
    let w = writer_of g.W.Write.contents g.W.Deliver.waiting in
    stream_printed (AreSignalsOf c.args.station) (AreSignalsRefused c.args.station) (at c.args.reader.now c.args.writer.now) (at c.read_signals.new.reader c.print_text.new.writer) c.print_text.result s (some, refl) c.in_ok-signals.ensures.reader
    (printed_later Write c.print_text.result (w c.deliver_waiting.new.writer) (w c.print_text.new.writer) c.in_ok-deliver_waiting.ensures (c.as_slice.ensures.value ∙ c.system_lines-text.ensures cells counts) c.print_text.ensures)
