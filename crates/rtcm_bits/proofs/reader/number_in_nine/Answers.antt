use Rattle.rtcm_bits.proofs.Names.{ℕ, List, Bool, ◌≡◌, ◌+◌, ◌-◌, ◌*◌, ap, ◌∙◌, arith, drop, take, bits_of, number}
use Rattle.rtcm_bits.proofs.WordLaws.{in_nine}
use Rattle.rtcm_bits.proofs.reader.number_in_nine.Goals as goal

pub overflow_add-result : goal.overflow_add-result
overflow_add-result c =
    let n = in_nine c.args.bytes.now c.args.first c.requires.begin c.requires.nine c.requires.few c.requires.there
    (c.bits_in_word-high.ensures ∙ ap (λ (t : List Bool). number (take (64 - c.args.skip) (drop c.args.skip t))) c.word_at.ensures) c.bits_in_byte.ensures in
    omega (arith, n.fits)

pub returns : goal.returns
returns c =
    let n = in_nine c.args.bytes.now c.args.first c.requires.begin c.requires.nine c.requires.few c.requires.there
    (c.bits_in_word-high.ensures ∙ ap (λ (t : List Bool). number (take (64 - c.args.skip) (drop c.args.skip t))) c.word_at.ensures) c.bits_in_byte.ensures in
    let e : 8 * c.args.first + 64 + (c.args.skip + c.args.width - 64) - (8 * c.args.first + c.args.skip) ≡ c.args.width = omega arith in
    n.value ∙ ap (λ (k : ℕ). number (take k (drop (8 * c.args.first + c.args.skip) (bits_of c.args.bytes.now)))) e
