use Rattle.rtcm_scan.proofs.Names.{ap, length, arith, FramerValue}
use Rattle.rtcm_scan.proofs.PushLemmas.{has_room, step_push_all, view_pushed_all}
use Rattle.std.proofs.Common.{rules}
use Rattle.rtcm_scan.proofs.framer.Framer.push_all.Goals as goal

pub returns-else-self-taken : goal.returns-else-self-taken
returns-else-self-taken c =
    let t = ap (λ (v : FramerValue). v.taken) c.self.view_is in
    let r = has_room c.self.inside.offset (length c.args.bytes.now) c.self.view_is c.if-self.false (omega (arith, t, c.self.invariant.0, c.taken.ensures.value, c.if-self-taken.false)) in
    let view = view_pushed_all c.self.inside.offset c.args.bytes.now c.self.view_is c.push_all.ensures in
    record {
      answer = search rules;
      history = λ b fs s. rw view (step_push_all c.args.self.now b c.args.bytes.now fs r.0 r.1 s);
      ok = view;
      err = tt;
      long = tt;
      within = search rules;
      same = search rules;
    }
