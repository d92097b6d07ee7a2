-- The names that proofs cite, passed on from one place. Declares nothing.
pub use Rattle.circular_buffer.specs.Buffer.{Buffer, buffer}
pub use Rattle.rtcm_bits.proofs.BitLaws.{bit-small, bits_of-append, cons2, half, length-bits_of, length-uint, number-fits, number-split, number-take-fits, number-uint, number_of-uint, odd_bit, pow-double, pow_mono, raw-signed, raw_fits, signed-fits, signed-raw, signed_high, signed_low, uint-number}
unfoldable pub use Rattle.rtcm_bits.specs.Bits.{bits_of, number_from, uint}
pub use Rattle.rtcm_bits.specs.Bits.{FitsInt, bit, filled, missing, number, odd, raw, signed}
unfoldable pub use Rattle.rtcm_bits.specs.Crc.{add_front, bits_remainder, crc, generator, remainder}
pub use Rattle.rtcm_bits.specs.Crc.{plus}
unfoldable pub use Rattle.rtcm_bits.specs.inner.Folding.{add_bytes, fold_into}
pub use Rattle.rtcm_bits.specs.inner.Folding.{Sixes}
pub use Rattle.rtcm_bits.specs.FrameOf.{frame_bytes}
unfoldable pub use Rattle.rtcm_bits.specs.inner.Register.{after_bit, after_bits}
pub use Rattle.rtcm_bits.specs.inner.Register.{ProcessesBits}
pub use Rattle.rtcm_bits.specs.Window.{WindowValue, counts_alone, filled_up, held_of, looked, looked_through, nothing_held, pushed, pushed_all, without_front}
pub use Rattle.rtcm_bits.specs.declared.tables.TheConstants.{TABLES}
pub use Rattle.std.proofs.Common.{Bool, List, Option, Some, [], add-zero, ap, arith, bit_and, bit_xor, drop, eqb, false, get_or, inl, inr, length, length-append, length-take, lit<, lit≤, map, max, min, negsuc, of_z, pos, refl, replicate, rules, slice_index, slice_range, slice_set, subst, suc, sym, take, to_z, true, vec_capacity, zero, ℕ, ℤ, ⊎_elim, ◌%◌, ◌*◌, ◌++◌, ◌+◌, ◌-◌, ◌/◌, ◌<◌, ◌^◌, ◌∙◌, ◌∷◌, ◌≡◌, ◌≢◌, ◌≤◌}
pub use Rattle.std.proofs.KnownBytes.{Appends-trans, Keeps-refl, Keeps-trans, append_known-grown, append_known-moved}
pub use Rattle.std.proofs.Math.Nat.{mod-eq_of_lt, mod-lt, mul-div_cancel, mul-le-mul_right, mul-lt-mul_of_pos_right, pow-le-pow_right}
pub use Rattle.std.proofs.Math.Seq.{drop-append-add, drop-append_seam, drop-length, get_or-append_seam, set-append_seam, take-add, take-append-add}
pub use Rattle.std.proofs.lemmas.Bool.{agree_below_at, cases_lt, eqb-true, true≢false}
pub use Rattle.std.proofs.lemmas.Int.{ints, of_z-to_z, to_z-of_z}
pub use Rattle.std.proofs.lemmas.List.{append-nil, append_assoc, drop-append-le, drop-drop, drop-replicate, drop-set-add, drop-set-lt, drop-take, drop_all, drop_at, drop_more, get_or-append-add, get_or-append_right, get_or-drop, get_or-map, get_or-replicate, get_or-set_other, get_or-take, get_or_append_left, get_or_push, length-drop, length-replicate, length-set, length-take-le, replicate-append-replicate, set-append_left, take-append-drop, take-append-le, take-take, take_all, take_at, take_more, take_rest, with_items_is}
pub use Rattle.std.proofs.lemmas.Nat.{and_mask, div-add-mod', div-mul-add, field_of, one_shl, pow-add, pow_pos, shl-shr, shl_whole, shr-shr, xor_comm, xor_lt}
pub use Rattle.std.proofs.lemmas.Nat.Bits.{bit_at-lt, bit_at_cat_high, bit_at_cat_low, bit_at_xor}
pub use Rattle.std.proofs.lemmas.Simd.{pick_l-range_with_len}
pub use Rattle.std.specs.Int.{bit_at, from_be_bytes, w64}
pub use Rattle.std.specs.Int.Bits.{xor_assoc, xor_zero_r}
pub use Rattle.std.specs.Int.Signed.{shr_z}
pub use Rattle.std.specs.Io.KnownBytes.{Appends, Keeps, append_known}
pub use Rattle.std.specs.Prelude.{Ok, OnOk, Result, if◌then◌else◌, is_ok}
pub use Rattle.std.specs.Vec.{vec_len}
pub use Rattle.std.proofs.lemmas.Grind.{common_steps}
