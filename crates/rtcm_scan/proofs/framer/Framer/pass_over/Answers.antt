use Rattle.rtcm_scan.proofs.Names.{◌≡◌, ◌+◌, ◌-◌, ◌≤◌, ◌<◌, ap, ◌∙◌, length, drop, refl, arith, length-drop, FramerValue, passed, longest_frame, looked_left}
use Rattle.rtcm_scan.proofs.PassOverLemmas.{to_counts, passed_on}
use Rattle.rtcm_scan.proofs.framer.Framer.pass_over.Goals as goal

pub returns-clause-history : goal.returns-clause-history
returns-clause-history c = λ b fs s.
    let o = c.pass_others.ensures in
    let p = passed_on c.self.inside.offset c.pass_others.new.candidate.count c.self.view_is c.requires c.drop_front.ensures o.window o.first.within o.first.others in
    let k : length c.drop_front.new.self.bytes ≡ length (passed c.args.self.now).held =
    ap (λ w. length w.bytes) c.drop_front.ensures ∙ ap (λ (v : FramerValue). length (drop 1 v.held)) c.self.view_is in
    rw p.0 (to_counts (passed c.args.self.now) c.pass_others.new.candidate.count refl p.1 p.2 (omega (arith, o.count, k)) s)

pub returns-clause-same : goal.returns-clause-same
returns-clause-same c =
    let o = c.pass_others.ensures in
    let d = looked_left c.drop_front.new.self c.pass_others.new.window 0 c.pass_others.result _ o.window in
    let k : length c.drop_front.new.self.bytes ≡ length c.self.inside.window.bytes - 1 = ap (λ w. length w.bytes) c.drop_front.ensures ∙ length-drop 1 c.self.inside.window.bytes in
    let l : length c.self.inside.window.bytes ≡ length c.args.self.now.held = ap (λ (v : FramerValue). length v.held) c.self.view_is in
    let t : c.self.inside.offset + length c.self.inside.window.bytes ≡ c.args.self.now.taken = ap (λ (v : FramerValue). v.taken) c.self.view_is in
    let m = length-drop 1 c.args.self.now.held in
    record {
      held = omega (arith, d, k, l, m);
      limit = ap (λ (v : FramerValue). v.limit) c.self.view_is;
      taken = omega (arith, d, k, l, t, o.first.within, c.requires);
      ended = ap (λ (v : FramerValue). v.has_ended) c.self.view_is;
    }

pub invariant_of-self : goal.invariant_of-self
invariant_of-self c =
    let o = c.pass_others.ensures in
    let d = looked_left c.drop_front.new.self c.pass_others.new.window 0 c.pass_others.result _ o.window in
    let k : length c.drop_front.new.self.bytes ≡ length c.self.inside.window.bytes - 1 = ap (λ w. length w.bytes) c.drop_front.ensures ∙ length-drop 1 c.self.inside.window.bytes in
    let l : length c.self.inside.window.bytes ≡ length c.args.self.now.held = ap (λ (v : FramerValue). length v.held) c.self.view_is in
    let i : c.self.inside.offset + length c.self.inside.window.bytes ≤ c.self.inside.limit = c.self.invariant.0 in
    let g : c.self.inside.given_up ≤ c.self.inside.offset = c.self.invariant.2 in
    let m : length c.self.inside.window.bytes ≤ longest_frame = c.self.invariant.3 in
    let some : 0 < length c.self.inside.window.bytes = omega (arith, l, c.requires) in (
      omega (arith, d, k, i, some, o.first.within),
      c.self.invariant.1,
      omega (arith, g),
      omega (arith, d, k, m),
      (λ r. omega (arith, d, k, m, some)),
      o.taken,
      omega (arith, d, o.count),
    )
