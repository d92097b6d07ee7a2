use Rattle.rtcm_msg.proofs.Names.{common_steps, eq-eqb, ne_eqb, ℕ, ◌≡◌, ◌≢◌, ◌+◌, ◌<◌, ◌≤◌, ◌==◌, ◌∙◌, true, false, List, length, take, nat_le, Some, None, refl, sym, arith, lit≤, length-bits_of, bits_of, field_at, channel_of_1020}
use Rattle.rtcm_msg.proofs.LongLaws.{field_in_front}
use Rattle.rtcm_msg.proofs.channels.channel_of_1020.Goals as goal

too_short : (bytes : List ℕ) → length bytes < 3 → channel_of_1020 bytes ≡ None
too_short bytes few =
    let less : nat_le 23 (length (bits_of bytes)) ≡ false = grind (arith, length-bits_of bytes, few) in
    rw less refl

module _ (bytes : List ℕ) (long : 3 ≤ length bytes) where
  there : nat_le 23 (length (bits_of bytes)) ≡ true
  there = grind (arith, length-bits_of bytes, long)

  -- The first three bytes determine the fields.
  same : (place w : ℕ) → place + w ≤ 24 → field_at (bits_of (take 3 bytes)) place w ≡ field_at (bits_of bytes) place w
  same place w fits = field_in_front bytes 3 place w long fits

  another : (n : ℕ) → n ≡ field_at (bits_of (take 3 bytes)) 0 12 → n ≢ 1020 → channel_of_1020 bytes ≡ None
  another n is not_it =
      let no : (field_at (bits_of bytes) 0 12 == 1020) ≡ false = ne_eqb _ _ (λ it. not_it (is ∙ same 0 12 (lit≤ tt) ∙ it)) in
      rw (there, no) refl

  whole : (n slot channel : ℕ) → n ≡ field_at (bits_of (take 3 bytes)) 0 12 → n ≡ 1020 → slot ≡ field_at (bits_of (take 3 bytes)) 12 6 → channel ≡ field_at (bits_of (take 3 bytes)) 18 5
      → channel_of_1020 bytes ≡ Some (slot, channel)
  whole n slot channel is it s k =
      let yes : (field_at (bits_of bytes) 0 12 == 1020) ≡ true = eq-eqb _ _ (sym (is ∙ same 0 12 (lit≤ tt)) ∙ it) in
      rw (there, yes, s, k, same 12 6 (lit≤ tt), same 18 5 (lit≤ tt)) refl

pub returns-in_err-bytes-clause-value : goal.returns-in_err-bytes-clause-value
returns-in_err-bytes-clause-value c = grind (arith, common_steps, too_short)

pub returns-then-number_at-ne1020-clause-value : goal.returns-then-number_at-ne1020-clause-value
returns-then-number_at-ne1020-clause-value c =
    let l = c.in_ok-bytes.ensures.lookup.0 in sym (another c.args.bytes.now l.1 c.number_at.result (rw l.2 at c.number_at.ensures.value) c.if-number_at-ne1020.true)

pub returns-clause-value : goal.returns-clause-value
returns-clause-value c =
    let l = c.in_ok-bytes.ensures.lookup.0 in
    sym (whole c.args.bytes.now l.1 c.number_at.result c.byte_at.result c.byte_at-2.result (rw l.2 at c.number_at.ensures.value) c.if-number_at-ne1020.false (rw l.2 at c.byte_at.ensures.value) (rw l.2 at c.byte_at-2.ensures.value))
