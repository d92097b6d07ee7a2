use Rattle.rtcm_convert.proofs.FaultLemmas.{fails_after}
use Rattle.rtcm_convert.proofs.TakeLemmas.{settle, taken_again, kind_again, part_alone, part_again}
use Rattle.rtcm_convert.proofs.Names.{◌∙◌, sym, None, on_err_weaker, viewed_message, closed_epochs, on_failure}
use Rattle.rtcm_convert.proofs.file_writer.FileWriter.take_message.Goals as goal

pub returns-in_err-kind-clause-part : goal.returns-in_err-kind-clause-part
returns-in_err-kind-clause-part g c = on_failure _ _ (part_alone (viewed_message c.args.message.now) c.in_err-kind.ensures.part)

pub returns-then-not-is_close_first-clause-whole : goal.returns-then-not-is_close_first-clause-whole
returns-then-not-is_close_first-clause-whole g c =
    let n = c.in_ok-kind.ensures in
    let stays = sym c.if-not-is_close_first.ensures in
    λ s ms x. settle (closed_epochs s.gatherer ms) n.ended (n.taken stays s ms (closed_epochs s.gatherer ms) None tt x)

pub returns-then-not-is_close_first-clause-kind : goal.returns-then-not-is_close_first-clause-kind
returns-then-not-is_close_first-clause-kind g c =
    let stays = sym c.if-not-is_close_first.ensures in
    λ s ms x. c.in_ok-kind.ensures.kind stays s ms (closed_epochs s.gatherer ms) None tt x

pub returns : goal.returns
returns g c =
    let m = viewed_message c.args.message.now in
    let n = c.step-2.ensures in
    let first = c.in_ok-kind.ensures.first (sym c.if-not-is_close_first.ensures) in
    record {
      whole = taken_again c.step-2.new.self m _ c.step-2.result n.ended first n.taken n.again;
      kind = kind_again m c.step-2.result first n.kind n.again;
      same = n.same ∙ c.step.ensures.same;
      part = on_err_weaker c.step-2.result (part_again m first) n.part;
      device = fails_after c.step-2.result c.args.writer.now c.step.new.writer c.step-2.new.writer c.in_ok-kind.ensures.device n.device;
      ended = n.ended;
    }
