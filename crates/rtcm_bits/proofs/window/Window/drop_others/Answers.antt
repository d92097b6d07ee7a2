use Rattle.rtcm_bits.proofs.Names.{◌≡◌, ◌+◌, ◌≤◌, ℕ, length, min, ap, ◌∙◌, arith, WindowValue, looked_through, without_front}
use Rattle.rtcm_bits.proofs.WindowLaws.{looked_dropped, looked_left, looked_to}
use Rattle.rtcm_bits.proofs.window.Window.drop_others.Goals as goal

pub returns-then-held-gt0-clause-dropped : goal.returns-then-held-gt0-clause-dropped
returns-then-held-gt0-clause-dropped c =
    let w = c.args.self.now in
    let n = c.others_in-n.result in
    let x = c.drop_front.new.self in
    let e = looked_dropped w c.count_last_looks.new.self c.count_last_looks-2.new.self (grind (arith, c.min-stored.ensures)) c.count_last_looks.ensures.counted c.count_last_looks-2.ensures.counted c.drop_front.ensures in
    let l = looked_left w x 0 n n e in
    let m : n + 1 ≡ min (n + 1) (length w.bytes) = grind (arith, l, c.held.ensures.value, c.if-held-gt0.true) in
    c.count_looks.ensures.counted ∙ looked_to w x n 1 e ∙ ap (λ (t : ℕ). without_front (looked_through w 0 t) n) m

pub returns-else-held-gt0-clause-dropped : goal.returns-else-held-gt0-clause-dropped
returns-else-held-gt0-clause-dropped c =
    let w = c.args.self.now in
    let n = c.others_in-n.result in
    let x = c.drop_front.new.self in
    let e = looked_dropped w c.count_last_looks.new.self c.count_last_looks-2.new.self (grind (arith, c.min-stored.ensures)) c.count_last_looks.ensures.counted c.count_last_looks-2.ensures.counted c.drop_front.ensures in
    let l = looked_left w x 0 n n e in
    let k : n ≤ length w.bytes = rw (← (c.as_slices.ensures ∙ ap (λ (t : WindowValue). t.bytes) c.self.view_is)) c.others_in-n.ensures.within in
    let b : length w.bytes ≤ n = omega (arith, l, c.held.ensures.value, c.if-held-gt0.false) in
    let m : n ≡ min (n + 1) (length w.bytes) = grind (arith, b, k) in
    e ∙ ap (λ (t : ℕ). without_front (looked_through w 0 t) n) m
