use Rattle.rtcm_scan.proofs.Names.{◌≡◌, ◌+◌, ◌-◌, ◌<◌, ◌≤◌, ℕ, min, length, ap, ◌∙◌, arith, looked_through, without_front, looked_left}
use Rattle.rtcm_scan.proofs.PassOverLemmas.{taken_preamble}
use Rattle.rtcm_scan.proofs.front.pass_others.Goals as goal

pub returns-then-held-gt0-clause-taken : goal.returns-then-held-gt0-clause-taken
returns-then-held-gt0-clause-taken c =
    let o = c.drop_others-n.ensures in
    let l : length c.drop_others-n.new.self.bytes ≡ length c.args.window.now.bytes - c.drop_others-n.result = looked_left c.args.window.now c.drop_others-n.new.self 0 c.drop_others-n.result _ o.dropped in
    let n : c.drop_others-n.result < length c.args.window.now.bytes = omega (arith, l, c.held.ensures.value, c.if-held-gt0.true) in
    taken_preamble c.args.window.now _ o.dropped n (o.first.stops n) (c.take.ensures.count ∙ ap (λ (k : ℕ). k + 1) c.new-begun.ensures.taken.count) (c.take.ensures.taken _ c.new-begun.ensures.taken)

pub returns-then-held-gt0-clause-count : goal.returns-then-held-gt0-clause-count
returns-then-held-gt0-clause-count c =
    let l : length c.drop_others-n.new.self.bytes ≡ length c.args.window.now.bytes - c.drop_others-n.result = looked_left c.args.window.now c.drop_others-n.new.self 0 c.drop_others-n.result _ c.drop_others-n.ensures.dropped in
    omega (arith, l, c.held.ensures.value, c.if-held-gt0.true, c.take.ensures.count, c.new-begun.ensures.taken.count)

pub returns-then-held-gt0-clause-window : goal.returns-then-held-gt0-clause-window
returns-then-held-gt0-clause-window c =
    let l : length c.drop_others-n.new.self.bytes ≡ length c.args.window.now.bytes - c.drop_others-n.result = looked_left c.args.window.now c.drop_others-n.new.self 0 c.drop_others-n.result _ c.drop_others-n.ensures.dropped in
    let k : min (c.drop_others-n.result + 1) (length c.args.window.now.bytes) ≡ c.drop_others-n.result + c.take.new.self.count =
    omega (arith, l, c.held.ensures.value, c.if-held-gt0.true, c.take.ensures.count, c.new-begun.ensures.taken.count) in
    c.drop_others-n.ensures.dropped ∙ ap (λ (m : ℕ). without_front (looked_through c.args.window.now 0 m) c.drop_others-n.result) k

pub returns-else-held-gt0-clause-count : goal.returns-else-held-gt0-clause-count
returns-else-held-gt0-clause-count c =
    let l : length c.drop_others-n.new.self.bytes ≡ length c.args.window.now.bytes - c.drop_others-n.result = looked_left c.args.window.now c.drop_others-n.new.self 0 c.drop_others-n.result _ c.drop_others-n.ensures.dropped in
    omega (arith, l, c.held.ensures.value, c.if-held-gt0.false, c.requires.count)

pub returns-else-held-gt0-clause-window : goal.returns-else-held-gt0-clause-window
returns-else-held-gt0-clause-window c =
    let l : length c.drop_others-n.new.self.bytes ≡ length c.args.window.now.bytes - c.drop_others-n.result = looked_left c.args.window.now c.drop_others-n.new.self 0 c.drop_others-n.result _ c.drop_others-n.ensures.dropped in
    let h : c.drop_others-n.result ≤ length c.args.window.now.bytes = c.drop_others-n.ensures.first.within in
    let k : min (c.drop_others-n.result + 1) (length c.args.window.now.bytes) ≡ c.drop_others-n.result + c.args.candidate.now.count = omega (arith, l, h, c.held.ensures.value, c.if-held-gt0.false, c.requires.count) in
    c.drop_others-n.ensures.dropped ∙ ap (λ (m : ℕ). without_front (looked_through c.args.window.now 0 m) c.drop_others-n.result) k
