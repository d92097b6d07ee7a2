-- Four cases: bytes with an entry are counted there; bytes without a look are only numbered; a second look at the
-- first byte without an entry adds one; else every byte gets its entry first.
use Rattle.rtcm_bits.proofs.Names.{List, ℕ, ◌≡◌, ◌+◌, ◌-◌, drop, drop-append-le, length, max, sym, ap, ◌∙◌, rules, arith, length-drop, with_items_is, vec_len, held_of, filled_up, looked_through, counts_alone}
use Rattle.rtcm_bits.proofs.ListLaws.{when_ok}
use Rattle.rtcm_bits.proofs.LookLemmas.{first_looks_at, second_look_at, later_looks, filled_out}
use Rattle.rtcm_bits.proofs.window.Window.count_looks.Goals as goal

pub returns-then-start-counted-clause-counted : goal.returns-then-start-counted-clause-counted
returns-then-start-counted-clause-counted c = grind (arith, first_looks_at, length-drop)

pub returns-then-start-n-clause-counted : goal.returns-then-start-n-clause-counted
returns-then-start-n-clause-counted c =
    let i = c.self.inside in
    let ys = c.look_at_each-self-inside.new.counts in
    let e = c.saturating_add-self-inside.result in
    let g = c.look_at_each-self-inside.result in
    let v : vec_len i.counts ≡ length i.counts.items = i.counts.ok.0 in
    ap (λ (t : List ℕ). held_of i.bytes.items (filled_up (drop i.first t) i.once (length i.bytes.items)) e g) (with_items_is i.counts ys (c.look_at_each-self-inside.auto.counts ∙ ap length c.as_mut_slice.ensures.value ∙ sym v))
    ∙ later_looks i.counts.items i.once i.first c.args.start c.self.view_is (omega (arith, v, c.self.invariant.4))
    (c.look_at_each-self-inside.ensures.counts ∙ ap (λ (t : List ℕ). (looked_through (counts_alone t i.greatest) (i.first + c.args.start) c.args.n).looks) c.as_mut_slice.ensures.value)
    (record { few = search rules; sum = c.saturating_add-self-inside.ensures; most = c.look_at_each-self-inside.ensures.greatest ∙ ap (λ (t : List ℕ). (looked_through (counts_alone t i.greatest) (i.first + c.args.start) c.args.n).most) c.as_mut_slice.ensures.value })

pub returns-then-len-lt-CAPACITY-clause-counted : goal.returns-then-len-lt-CAPACITY-clause-counted
returns-then-len-lt-CAPACITY-clause-counted c = grind (arith, length-drop, second_look_at, when_ok, drop-append-le)

pub returns-clause-counted : goal.returns-clause-counted
returns-clause-counted c =
    let i = c.self.inside in
    let s = c.spell_out-self-inside in
    let cs = s.new.counts.items in
    let ys = c.look_at_each-self-inside-2.new.counts in
    let e = c.saturating_add-self-inside.result in
    let g = c.look_at_each-self-inside-2.result in
    let n = length i.bytes.items in
    let l : length i.bytes.items ≡ length c.args.self.now.bytes = ap (λ w. length w.bytes) c.self.view_is in
    let q : length (drop i.first i.counts.items) ≡ length i.counts.items - i.first = length-drop i.first i.counts.items in
    let o : filled_up (drop s.result cs) 0 n ≡ filled_up (drop i.first i.counts.items) i.once n =
    filled_out (drop i.first i.counts.items) (drop s.result cs) i.once n (max (c.args.start + c.args.n) (length i.counts.items - i.first + i.once)) s.ensures.counts (omega (arith, q)) (omega (arith, l, c.requires, c.self.invariant)) in
    ap (λ (t : List ℕ). held_of i.bytes.items (filled_up (drop s.result t) 0 n) e g) (with_items_is s.new.counts ys (c.look_at_each-self-inside-2.auto.counts ∙ ap length c.as_mut_slice-2.ensures.value ∙ sym s.new.counts.ok.0))
    ∙ later_looks cs 0 s.result c.args.start (ap (λ (t : List ℕ). held_of i.bytes.items t i.looks i.greatest) o ∙ c.self.view_is) (omega (arith, s.ensures.size))
    (c.look_at_each-self-inside-2.ensures.counts ∙ ap (λ (t : List ℕ). (looked_through (counts_alone t i.greatest) (s.result + c.args.start) c.args.n).looks) c.as_mut_slice-2.ensures.value)
    (record { few = search rules; sum = c.saturating_add-self-inside.ensures; most = c.look_at_each-self-inside-2.ensures.greatest ∙ ap (λ (t : List ℕ). (looked_through (counts_alone t i.greatest) (s.result + c.args.start) c.args.n).most) c.as_mut_slice-2.ensures.value })
