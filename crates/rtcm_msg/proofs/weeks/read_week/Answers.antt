use Rattle.rtcm_msg.proofs.Names.{common_steps, eq-eqb, ne_eqb, sym, ℕ, ◌≡◌, ◌≢◌, ◌+◌, ◌-◌, ◌*◌, ◌^◌, ◌<◌, ◌≤◌, ◌==◌, ◌∙◌, false, true, List, None, Some, length, take, refl, ap, arith, le-leb, mul-le-mul, pow_mono, bits_of, field_at, week_by, week_place, WeekFields}
use Rattle.rtcm_msg.proofs.LongLaws.{field_in_front}
use Rattle.rtcm_msg.proofs.weeks.read_week.Goals as goal

module _ (bytes : List ℕ) (f : WeekFields) (enough : 61 ≤ f.bytes) (long : f.bytes ≤ length bytes) where
  front : (place w : ℕ) → place + w ≤ 76 → field_at (bits_of (take (f.bytes - 0) bytes)) place w ≡ field_at (bits_of bytes) place w
  front place w fits =
      let all : f.bytes - 0 ≡ f.bytes = omega arith in
      ap (λ (n : ℕ). field_at (bits_of (take n bytes)) place w) all ∙ field_in_front bytes f.bytes place w long (omega (arith, enough, fits))

  no_week : (n : ℕ) → f.week_bits ≤ 13 → n ≡ field_at (bits_of (take (f.bytes - 0) bytes)) week_place f.week_bits → n ≡ 0 → None ≡ week_by bytes f
  no_week n few is none =
      let zero : (field_at (bits_of bytes) week_place f.week_bits == 0) ≡ true = eq-eqb _ _ (sym (is ∙ front week_place f.week_bits (omega (arith, few))) ∙ none) in
      rw (le-leb f.bytes (length bytes) long, zero) refl

  some_week : (n clock : ℕ) → f.week_bits ≤ 13 → f.clock_place + f.clock_bits ≤ 76 → n ≡ field_at (bits_of (take (f.bytes - 0) bytes)) week_place f.week_bits → n ≢ 0
      → clock ≡ field_at (bits_of (take (f.bytes - 0) bytes)) f.clock_place f.clock_bits
      → Some (record { week = n + f.added; is_whole = f.is_whole; clock = clock * f.clock_unit }) ≡ week_by bytes f
  some_week n clock few within is other at =
      let week = is ∙ front week_place f.week_bits (omega (arith, few)) in
      let some : (field_at (bits_of bytes) week_place f.week_bits == 0) ≡ false = ne_eqb _ _ (λ none. other (week ∙ none)) in
      let toc : clock ≡ field_at (bits_of bytes) f.clock_place f.clock_bits = at ∙ front f.clock_place f.clock_bits within in
      rw (le-leb f.bytes (length bytes) long, some, week, toc) (grind arith)

pub returns-then-week-eq0-clause-value : goal.returns-then-week-eq0-clause-value
returns-then-week-eq0-clause-value c =
    let l = c.in_ok-bytes.ensures.lookup.0 in
    no_week c.args.bytes.now c.args.fields.now c.requires.bytes.0 l.1 c.number_at-week.result c.requires.week.0 (rw l.2 at c.number_at-week.ensures.value) c.if-week-eq0.true

pub returns-clause-value : goal.returns-clause-value
returns-clause-value c =
    let l = c.in_ok-bytes.ensures.lookup.0 in
    some_week c.args.bytes.now c.args.fields.now c.requires.bytes.0 l.1 c.number_at-week.result c.number_at-clock.result c.requires.week.0 c.requires.clock.0
    (rw l.2 at c.number_at-week.ensures.value) c.if-week-eq0.false (rw l.2 at c.number_at-clock.ensures.value)

below : (n a bits : ℕ) → n < 2 ^ bits → bits ≤ 13 → a ≤ 1_356 → n + a < 2 ^ 14
below n a bits fits few small = let most = pow_mono bits 13 few in omega (arith, fits, most, small)

product : (n u bits : ℕ) → n < 2 ^ bits → bits ≤ 17 → u ≤ 60 → n * u < 2 ^ 23
product n u bits fits few small =
    let most = pow_mono bits 17 few in
    let less : n ≤ 131_071 = omega (arith, fits, most) in
    let all : n * u ≤ 131_071 * 60 = mul-le-mul less small in
    omega (arith, all)

pub overflow_mul-result : goal.overflow_mul-result
overflow_mul-result c = grind (arith, common_steps, product)

pub returns-clause-bounds : goal.returns-clause-bounds
returns-clause-bounds c = (
  below c.number_at-week.result c.args.fields.now.added c.args.fields.now.week_bits c.number_at-week.ensures.fits c.requires.week.0 c.requires.week.1,
  product c.number_at-clock.result c.args.fields.now.clock_unit c.args.fields.now.clock_bits c.number_at-clock.ensures.fits c.requires.clock.1 c.requires.unit,
)
