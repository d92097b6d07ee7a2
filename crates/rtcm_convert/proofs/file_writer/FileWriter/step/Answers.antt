use Rattle.rtcm_convert.proofs.StepLemmas.{Wrote, wrote_all, wrote_part}
use Rattle.rtcm_convert.proofs.Names.{TakesMessage, Taken, ap, subst, ◌∙◌, Closed, FileWriter, GatherSetup, GathererValue, HasFiledEpochs, Heard, List, Message, Option, SetupValue, heard_by, viewed_message}
use Rattle.rtcm_convert.proofs.file_writer.FileWriter.step.Goals as goal

-- what the gatherer does with a message, by the settings
heard_so : (v : FileWriter) (new : GathererValue) (m : Message) (taken : Taken) → TakesMessage v.gatherer new (heard_by v.gatherer.clock.setup m) taken
    → {s : SetupValue} {ms : List Heard} {es : List Closed} {again : Option Heard} → HasFiledEpochs v s ms es again → TakesMessage v.gatherer new (heard_by s.gatherer m) taken
heard_so v new m taken t x = subst (λ (g : GatherSetup). TakesMessage v.gatherer new (heard_by g m) taken) x.gatherer.standing.clock.setup t

pub returns-in-Err-clause-part : goal.returns-in-Err-clause-part
returns-in-Err-clause-part g c = λ s ms es again f x.
    wrote_part (heard_so c.args.self.now c.take_view-taken.new.self (viewed_message c.args.message.now) c.take_view-taken.result c.take_view-taken.ensures x) c.in-Err.ensures.written.part s ms es again f x

pub returns-in-Ok : goal.returns-in-Ok
returns-in-Ok g c =
    let e = c.in-Ok.ensures in
    let o : Wrote c.args.self.now c.write_closed.new.self c.take_view-taken.new.self _ _ = record { gatherer = e.same.0; texts = e.same.1; set = e.same.2; epochs = e.now.0; values = e.now.1; out = e.written.whole } in
    record {
      first = λ shut s ms es x. wrote_all o x ((heard_so c.args.self.now c.take_view-taken.new.self (viewed_message c.args.message.now) c.take_view-taken.result c.take_view-taken.ensures x).first s.gatherer ms es x.gatherer shut);
      taken = λ stays s ms es again f x. wrote_all o x ((heard_so c.args.self.now c.take_view-taken.new.self (viewed_message c.args.message.now) c.take_view-taken.result c.take_view-taken.ensures x).taken s.gatherer ms es again x.gatherer f stays);
      again = λ s ms es x. (heard_so c.args.self.now c.take_view-taken.new.self (viewed_message c.args.message.now) c.take_view-taken.result c.take_view-taken.ensures x).again s.gatherer ms es x.gatherer;
      kind = λ stays s ms es again f x. (heard_so c.args.self.now c.take_view-taken.new.self (viewed_message c.args.message.now) c.take_view-taken.result c.take_view-taken.ensures x).kind s.gatherer ms es again x.gatherer f stays;
      same = e.same.3;
      part = tt;
      device = e.written.device;
      ended = ap (λ (v : GathererValue). v.has_ended) e.same.0 ∙ c.take_view-taken.ensures.going;
    }
