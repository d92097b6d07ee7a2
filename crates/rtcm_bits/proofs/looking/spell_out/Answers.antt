use Rattle.rtcm_bits.proofs.Names.{◌≡◌, ◌-◌, length, sym, ap, ◌∙◌, arith, length-drop}
use Rattle.rtcm_bits.proofs.ListLaws.{when_ok}
use Rattle.rtcm_bits.proofs.looking.spell_out.Goals as goal

pub returns-clause-size : goal.returns-clause-size
returns-clause-size c =
    let m = c.make_room-place in
    let xs = c.args.counts.now in
    let d : length m.new.counts.items - m.result ≡ length xs.items - c.args.first =
    sym (length-drop m.result m.new.counts.items) ∙ ap length m.ensures.counts ∙ length-drop c.args.first xs.items in
    omega (arith, d, m.ensures.within, when_ok _ c.unwrap.ensures c.resize.ensures.len, when_ok _ c.unwrap-2.ensures c.resize-2.ensures.len)
