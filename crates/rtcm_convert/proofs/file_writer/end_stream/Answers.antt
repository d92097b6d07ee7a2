use Rattle.rtcm_convert.proofs.EndLemmas.{ended, ended_part, ended_fine, drain_part, drain_failed}
use Rattle.rtcm_convert.proofs.StreamLemmas.{passed_here}
use Rattle.rtcm_convert.proofs.Names.{◌∙◌, ℕ, subst, on_failure, on_ok_weaker, on_err_weaker, passed, FailsWith, HasFailed}
use Rattle.rtcm_convert.proofs.file_writer.end_stream.Goals as goal

pub returns-clause-whole : goal.returns-clause-whole
returns-clause-whole g c =
    let e = c.end.ensures in
    let n = c.finish.ensures in
    on_ok_weaker c.end.result (λ rest. ended c.prefix.ensures.few c.requires.listening c.in_ok-finish.ensures.ended n.same.limit n.same.taken c.in_ok-finish.ensures.whole rest e.same) e.whole

pub returns-clause-part : goal.returns-clause-part
returns-clause-part g c = on_err_weaker c.end.result (ended_part c.requires.listening c.in_ok-finish.ensures.ended c.in_ok-finish.ensures.whole) c.end.ensures.part

pub returns-clause-device : goal.returns-clause-device
returns-clause-device g c =
    let n = c.finish.ensures in
    let x = c.requires.some in
    let d = c.end.ensures.device in let f = ended_fine c.in_ok-finish.ensures.whole x.0 (passed_here g.W.Write.contents c.args.framer.now c.args.file_writer.now c.args.writer.now x.0 x.1) in (on_err_weaker c.end.result (λ h. subst (λ (n : ℕ). HasFailed n c.end.new.writer.failures) f.0 h) d.0, on_ok_weaker c.end.result (λ h. h ∙ f.0) d.1, d.2 ∙ f.1)

pub returns-in_err-finish-clause-part : goal.returns-in_err-finish-clause-part
returns-in_err-finish-clause-part g c = on_failure _ _ (drain_part c.filed.ensures.file c.filed.ensures.grows c.requires.listening c.in_err-finish.ensures.part)

pub returns-in_err-finish-clause-device : goal.returns-in_err-finish-clause-device
returns-in_err-finish-clause-device g c =
    let x = c.requires.some in
    let f = drain_failed c.in_err-finish.ensures.part x.0 (passed_here g.W.Write.contents c.args.framer.now c.args.file_writer.now c.args.writer.now x.0 x.1) in passed c.from_residual.result _ (λ q. FailsWith q c.args.writer.now c.finish.new.out) c.from_residual.ensures.1 (f.0, tt, f.1)
