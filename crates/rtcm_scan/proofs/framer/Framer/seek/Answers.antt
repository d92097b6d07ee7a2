-- Dropping a byte that begins no frame keeps the history. When the loop is left without a frame, none
-- of the held bytes is decided, fewer than the longest frame are held, and the framer is marked as drained.
use Rattle.rtcm_scan.proofs.Names.{true, ◌≡◌, ◌-◌, ◌<◌, ap, ◌∙◌, length, refl, arith, length-drop, FramerValue, passed, longest_frame}
use Rattle.std.proofs.Common.{rules}
use Rattle.rtcm_scan.proofs.DecisionLemmas.{from_found, from_passed, from_open, open_bound}
use Rattle.rtcm_scan.proofs.NextLemmas.{counts_passed, found_begins, found_counts, finish_empty, finish_open}
use Rattle.rtcm_scan.proofs.framer.Framer.seek.Goals.{else-loop-self-test, then-loop-self-test+in-Open}
use Rattle.rtcm_scan.proofs.framer.Framer.seek.Goals as goal

pub loop-self-preserved : goal.loop-self-preserved
loop-self-preserved c =
    let h : 0 < length c.loop-self.self.held = omega (arith, c.held.ensures.value, c.loop-self-test.true) in
    let o = c.pass_over.ensures in
    record {
      history = λ b fs s. o.history b fs (counts_passed c.loop-self.self c.in-Passed.ensures.examined refl h
          (from_passed c.loop-self.self.has_ended c.loop-self.self.held c.in-Passed.ensures.decision) c.in-Passed.ensures.tried (c.loop-self.invariant.history b fs s));
      same = record {
        held = (let d : length (passed c.decide.new.self).held ≡ length c.loop-self.self.held - 1 = length-drop 1 c.decide.new.self.held ∙ ap (λ (y : FramerValue). length y.held - 1) c.in-Passed.ensures.examined in omega (arith, d, o.same.held, c.loop-self.invariant.same.held));
        limit = o.same.limit ∙ ap (λ (y : FramerValue). y.limit) c.in-Passed.ensures.examined ∙ c.loop-self.invariant.same.limit;
        taken = o.same.taken ∙ ap (λ (y : FramerValue). y.taken) c.in-Passed.ensures.examined ∙ c.loop-self.invariant.same.taken;
        ended = o.same.ended ∙ ap (λ (y : FramerValue). y.has_ended) c.in-Passed.ensures.examined ∙ c.loop-self.invariant.same.ended;
      };
      ready = o.ready ∙ ap (λ (y : FramerValue). y.is_ready) c.in-Passed.ensures.examined ∙ c.loop-self.invariant.ready;
    }

pub returns-in-Found : goal.returns-in-Found
returns-in-Found c =
    let o = c.in-Found.ensures in
    record {
      some = record {
        begins = found_begins c.loop-self.self c.decide.new.self c.in-Found.size o.examined (from_found c.loop-self.self.has_ended c.loop-self.self.held c.in-Found.size o.decision);
        history = λ b fs s. found_counts c.loop-self.self c.decide.new.self b fs o.examined o.tried (c.loop-self.invariant.history b fs s);
        waits = search rules;
      };
      none = tt;
      same = search rules;
    }

-- a framer that is marked as drained
abbrev with_ready : FramerValue → FramerValue
with_ready v = record v { is_ready = true }

-- the bytes that are held when the loop is left
room : (c : goal.After-self-1) → length c.loop-self-test.self.held < longest_frame
room c = elim c.loop-self-test.branch [
  | else-loop-self-test w ↦ (let e : length c.loop-self-test.self.held ≡ length c.loop-self.self.held = ap (λ (y : FramerValue). length y.held) w.self-is in
      omega (arith, e, c.held.ensures.value, w.loop-self-test.false))
  | then-loop-self-test+in-Open w ↦ (let e : length c.loop-self-test.self.held ≡ length c.loop-self.self.held = ap (λ (y : FramerValue). length y.held) (w.self-is ∙ w.in-Open.ensures.examined) in
      let o = from_open c.loop-self.self.has_ended c.loop-self.self.held w.in-Open.ensures.decision in
      let l : length c.loop-self.self.held < longest_frame = open_bound c.loop-self.self.held o.1 in omega (arith, e, l))
]

pub invariant_of-self : goal.invariant_of-self
invariant_of-self c =
    let l : length c.self-2.inside.window.bytes ≡ length c.loop-self-test.self.held = ap (λ (y : FramerValue). length y.held) c.self-2.view_is in
    let i = c.self-2.invariant in
    (i.0, i.1, i.2, i.3, λ e. omega (arith, l, room c), i.5, i.6)

pub returns : goal.returns
returns c = record {
  some = tt;
  none = record {
    decided = λ b fs s. elim c.loop-self-test.branch [
      | else-loop-self-test w ↦ finish_empty w.self-is (ap with_ready c.self-2.view_is) (omega (arith, c.held.ensures.value, w.loop-self-test.false)) (c.loop-self.invariant.history b fs s)
      | then-loop-self-test+in-Open w ↦ (let o = from_open c.loop-self.self.has_ended c.loop-self.self.held w.in-Open.ensures.decision in
          finish_open w.in-Open.ensures.examined w.self-is (ap with_ready c.self-2.view_is) o.2 (omega (arith, c.held.ensures.value, w.loop-self-test.true)) o.1 w.in-Open.ensures.tried (c.loop-self.invariant.history b fs s))
    ];
    ready = refl;
    room = omega (arith, ap (λ (y : FramerValue). length y.held) c.self-2.view_is, room c);
  };
  same = search rules;
}
