use Rattle.rinex_inspect.proofs.Names.{add_text, end_line, ◌≡◌, ◌∙◌, ◌+◌, [], ◌∷◌, ◌++◌, ℕ, List, ap, arith, length, length-append, refl, moment_words, time_line, with_words}
use Rattle.rinex_inspect.proofs.check.add_time.Goals as goal

size : {new : List ℕ} (old part : List ℕ) → new ≡ old ++ part → length new ≡ length old + length part
size old part e = ap length e ∙ length-append old part

pub finish-requires : goal.finish-requires
finish-requires c =
    omega (arith, size c.args.text.now c.as_bytes.result.now c.put.ensures, ap length c.as_bytes.ensures.value, c.requires.room, c.requires.short, c.add_instant.ensures.short)

pub returns : goal.returns
unfolding time_line
returns c =
    let first = add_text c.put.ensures refl c.as_bytes.ensures.value in
    let all : length c.finish.new.self ≡ length c.add_instant.new.text + 1 = size c.add_instant.new.text (0x0A ∷ []) c.finish.ensures in
    record {
      text = end_line c.args.text.now c.args.name.now (moment_words c.args.time) c.finish.ensures (c.add_instant.ensures.text ∙ ap (λ (t : List ℕ). with_words t (moment_words c.args.time)) first);
      short = omega (arith, all, size c.args.text.now c.as_bytes.result.now c.put.ensures, ap length c.as_bytes.ensures.value, c.requires.short, c.add_instant.ensures.short);
    }
