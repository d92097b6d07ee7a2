use Rattle.rtcm_msg.proofs.Names.{common_steps, ℕ, ◌≡◌, ◌-◌, ◌*◌, ◌^◌, ◌%◌, ◌<◌, ◌≤◌, ap, ◌∙◌, arith, bit_xor, one_shl, mod-eq_of_lt}
use Rattle.rtcm_msg.proofs.PairLaws.{Top, top_of, without_top, ids_split}
use Rattle.rtcm_msg.proofs.pairs.split_first.Goals as goal

-- The exclusive or removes the top bit.
removed : (w m j : ℕ) → w ≤ 64 → Top w m j → bit_xor m ((1 * 2 ^ (j % 64)) % 2 ^ 64) ≡ m - 2 ^ j
removed w m j few top =
    let below : j < 64 = omega (arith, top.within, few) in
    let same : j % 64 ≡ j = mod-eq_of_lt below in
    let shifted : (1 * 2 ^ (j % 64)) % 2 ^ 64 ≡ 2 ^ j = ap (λ (n : ℕ). (1 * 2 ^ n) % 2 ^ 64) same ∙ one_shl j 64 below in
    ap (bit_xor m) shifted ∙ without_top w m j top

pub overflow_sub-result : goal.overflow_sub-result
overflow_sub-result c = let top = top_of c.args.width c.args.mask c.requires.some c.requires.within c.requires.few in omega (arith, top.within)

pub returns : goal.returns
returns c = grind (arith, common_steps, top_of, removed, ids_split)
