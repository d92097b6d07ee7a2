use Rattle.rinex_inspect.proofs.Names.{devices_of, writer_of, refl, rules}
use Rattle.rinex_inspect.proofs.CheckLemmas.{where_known}
use Rattle.rinex_inspect.proofs.EndLemmas.{delivered, delivered_or, undelivered}
use Rattle.rinex_inspect.proofs.quality.run_quality.Goals as goal

pub returns-in_err-deliver_waiting : goal.returns-in_err-deliver_waiting
returns-in_err-deliver_waiting g c = record {
  ends = search rules;
  left = search rules;
  only =
      let at = devices_of g.R.Read.remaining g.W.Write.contents g.W.Deliver.waiting in
      let end = c.in_err-deliver_waiting.ensures in
      (undelivered c.args.every (at c.args.reader.now c.args.writer.now) (at c.args.reader.now c.deliver_waiting.new.writer) c.from_residual.result c.from_residual.ensures.1 end.0 refl end.1 end.2).1;
}

pub returns : goal.returns
returns g c =
    let at = devices_of g.R.Read.remaining g.W.Write.contents g.W.Deliver.waiting in
    record {
      ends = delivered c.args.every (at c.args.reader.now c.args.writer.now) (at c.rate-ended.new.reader c.rate-ended.new.writer) (writer_of g.W.Write.contents g.W.Deliver.waiting c.deliver_waiting.new.writer) c.in_ok-deliver_waiting.ensures c.rate-ended.result c.rate-ended.ensures.ends;
      left = search rules;
      only = delivered_or c.args.every (at c.args.reader.now c.args.writer.now) (at c.rate-ended.new.reader c.rate-ended.new.writer) (writer_of g.W.Write.contents g.W.Deliver.waiting c.deliver_waiting.new.writer) c.in_ok-deliver_waiting.ensures c.rate-ended.result c.rate-ended.ensures.only;
    }

pub returns-in_default : goal.returns-in_default
returns-in_default g c = record {
  ends = search rules;
  left = search rules;
  only = λ v file few. where_known _ (g.R.Read.remaining c.args.reader.now.inner) (λ input same. tt);
}
