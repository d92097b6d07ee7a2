use Rattle.rtcm_inspect.proofs.Names.{Write, printed_later, sym, subst, Option, ℕ, frames_of, AreOptionsOf, AreOptionsRefused, AreSignals, devices_of, writer_of}
use Rattle.rtcm_inspect.proofs.CountingLemmas.{stream_printed}
use Rattle.rtcm_inspect.proofs.options.run_options.Goals as goal

pub returns : goal.returns
returns g c =
    let s = c.in_ok-signals.ensures.whole in
    let are = subst (λ (w : Option ℕ). AreOptionsOf c.args.source w (frames_of s.0) c.in_ok-text.text.items) s.3
    (c.in_ok-text.ensures.line (frames_of s.0) (subst (λ (w : Option ℕ). AreSignals c.in_ok-signals.signals w (frames_of s.0)) (sym s.3) s.4)) in
    let at = devices_of g.R.Read.remaining g.W.Write.contents g.W.Deliver.waiting in
    let w = writer_of g.W.Write.contents g.W.Deliver.waiting in
    stream_printed (AreOptionsOf c.args.source c.args.station) (AreOptionsRefused c.args.source c.args.station) (at c.args.reader.now c.args.writer.now) (at c.read_signals.new.reader c.print_text.new.writer) c.print_text.result s are c.in_ok-signals.ensures.reader
    (printed_later Write c.print_text.result (w c.deliver_waiting.new.writer) (w c.print_text.new.writer) c.in_ok-deliver_waiting.ensures c.as_slice.ensures.value c.print_text.ensures)
