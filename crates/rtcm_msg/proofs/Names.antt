-- The names that proofs cite, passed on from one place. Declares nothing.
pub use Rattle.gnss_system.specs.Satellites.{msm_tens, system_of_tens}
pub use Rattle.gnss_system.specs.declared.system.System.{System}
pub use Rattle.rtcm_bits.proofs.BitLaws.{bits_of-append, byte-bit, length-bits_of, length-uint, mod-suc, number-fits, number-take-fits, number_of-uint, pow_mono, uint-low, uint-number}
unfoldable pub use Rattle.rtcm_bits.specs.Bits.{bits_of, uint}
pub use Rattle.rtcm_bits.specs.Bits.{FitsInt, bit, filled, number, raw, signed}
pub use Rattle.rtcm_bits.specs.Cursors.{Cursor, advanced, unsigned_at}
pub use Rattle.rtcm_bits.specs.FrameOf.{longest_message, longest_message_bits}
pub use Rattle.rtcm_msg.specs.Bounds.{IsMeasured}
pub use Rattle.rtcm_msg.specs.Channels.{channel_of_1020, channels_by, has_channels, sent_channels}
unfoldable pub use Rattle.rtcm_msg.specs.Columns.{column_at, columns_at}
pub use Rattle.rtcm_msg.specs.Columns.{EachBelow}
unfoldable pub use Rattle.rtcm_msg.specs.Decoding.{message_by}
pub use Rattle.rtcm_msg.specs.Decoding.{body_by, formed_at, is_any_msm, message_at, message_with, other_at, set_at, set_in, start}
pub use Rattle.rtcm_msg.specs.Encoding.{IsFault, IsMessage, ReadsMessage, has_bad_time, has_too_many, is_bad_time, is_msm_kind, is_other, is_read_msm, layout, layout_by, message_bits, number_of, other_of, repeated, reserved_width, set_of}
unfoldable pub use Rattle.rtcm_msg.specs.Entries.{chosen, up_from}
pub use Rattle.rtcm_msg.specs.Entries.{Rising, all_pairs, cell_pairs, entries, entry_in, ids, pair}
pub use Rattle.rtcm_msg.specs.Equipment.{AreShort, text_at, texts_at}
unfoldable pub use Rattle.rtcm_msg.specs.Fields.{field_bits, first_past, number_at}
pub use Rattle.rtcm_msg.specs.Fields.{cursor_at, field_at, fields_width, reading, ◌>>=◌}
pub use Rattle.rtcm_msg.specs.Forms.{FitsIf, FitsSatellite, FormedMsm, IsCellData, IsMsm, IsSatelliteData, Precision, cell_contents, cell_data, cell_number, cell_of, cell_table, cell_table_by, cell_widths, entry, has_rates, is_fine, msm_of_parts, precision, rate_contents, rate_in, rate_table, satellite_contents, satellite_data, satellite_number, satellite_of, satellite_table, satellite_table_by, satellite_widths}
pub use Rattle.rtcm_msg.specs.Fractions.{invalid_fine_rate, invalid_rough_rate, rate_joined}
pub use Rattle.rtcm_msg.specs.Layout.{Contents, FieldKind, Table, content, fields_of, width, widths}
pub use Rattle.rtcm_msg.specs.Meaning.{Each, IsIn, IsMeaning, Meaning, cell_ids, data_of, ids_of, keys, meaning, pair_number}
unfoldable pub use Rattle.rtcm_msg.specs.Msm.{header_at, masks_at, msm_at}
pub use Rattle.rtcm_msg.specs.Msm.{AreMasks, IsHeader, IsValue, MasksValue, MsmValue, checked_time, header_contents, header_fields, header_in, header_of, header_table, is_time, mask_fields, mask_table, masks_after, msm_bits, pair_count, time_contents, time_table}
pub use Rattle.rtcm_msg.specs.Numbers.{digit_of, form_of_digit, kind_of, kind_with, kind_within, message_number, msm_kind, station_number, whole_set}
unfoldable pub use Rattle.rtcm_msg.specs.Packed.{columns}
pub use Rattle.rtcm_msg.specs.Packed.{packed, total_width, unpacked}
unfoldable pub use Rattle.rtcm_msg.specs.Station.{station_at}
pub use Rattle.rtcm_msg.specs.Station.{InRange, common_fields, field_widths, height_at, height_fields, height_table, parts_in, station_contents, station_fields, station_parts, station_table}
pub use Rattle.rtcm_msg.specs.Weeks.{sent_week, week_by, week_fields, week_place}
pub use Rattle.rtcm_msg.specs.declared.data.Cell.{Cell}
pub use Rattle.rtcm_msg.specs.declared.layout.LastBits.{LastBits}
pub use Rattle.rtcm_msg.specs.declared.data.Satellite.{Satellite}
pub use Rattle.rtcm_msg.specs.declared.entry.Entry.{Entry}
pub use Rattle.rtcm_msg.specs.declared.fault.MsgFault.{MsgFault}
pub use Rattle.rtcm_msg.specs.declared.fault.MsgFault.TheVariants.{BadTime, Short, TooManyCells}
pub use Rattle.rtcm_msg.specs.declared.fault.ValueFault.TheVariants.{OutOfRange}
pub use Rattle.rtcm_msg.specs.declared.header.MsmHeader.{MsmHeader}
pub use Rattle.rtcm_msg.specs.declared.message.Message.{Message}
pub use Rattle.rtcm_msg.specs.declared.number.Kind.{Kind}
pub use Rattle.rtcm_msg.specs.declared.number.MsmSet.{MsmSet}
pub use Rattle.rtcm_msg.specs.declared.pairs.CellsLeft.{CellsLeft}
pub use Rattle.rtcm_msg.specs.declared.pairs.Pair.{Pair}
pub use Rattle.rtcm_msg.specs.declared.pairs.Pairs.{Pairs}
pub use Rattle.rtcm_msg.specs.declared.station.StationParts.{StationParts}
pub use Rattle.rtcm_msg.specs.declared.view.Data.{Data}
pub use Rattle.rtcm_msg.specs.declared.view.Form.{Form}
pub use Rattle.rtcm_msg.specs.inner.Forms.{rateless, rateless_number}
pub use Rattle.rtcm_msg.specs.inner.LastBits.{AreLast}
pub use Rattle.rtcm_msg.specs.inner.Pairs.{AreAll, ArePairs, HasFirst, IndicesAreBelow, all_pairs_from, cell_pairs_left, pairs_from, pairs_left}
pub use Rattle.rtcm_msg.specs.inner.Ranges.{fits_int}
pub use Rattle.rtcm_msg.specs.inner.Refusals.{first_of, header_fault, msm_refusal, station_fault}
unfoldable pub use Rattle.rtcm_msg.specs.inner.Rows.{end_of_rows, row_at}
pub use Rattle.rtcm_msg.specs.inner.Rows.{numbers_in, rows_at}
pub use Rattle.rtcm_msg.specs.inner.ValueCounts.{AddsCounts, AreAtMost, AreCells, entries_left, has_id, has_listed_value, value_count}
pub use Rattle.rtcm_msg.specs.inner.Viewed.{IsCached, Unread}
pub use Rattle.rtcm_msg.specs.inner.Views.{AreDataOf, AreWithin, cell_rows, satellite_rows}
pub use Rattle.std.proofs.Common.{Bool, Err, FitsSigned, IsTrue, List, None, Ok, Option, Result, Some, [], add-one, add-zero, add_assoc, add_comm, ap, append-nil, append_assoc, ap₂, arith, count_ones, drop, false, filter, get_or, if◌then◌else◌, inl, inr, is_some, length, length-append, lit<, lit≤, map, mul-le-mul, nat_le, nat_lt, not, of_z, option_and_then, pos, refl, replicate, rules, set, subst, suc, sym, take, to_z, true, unsigned_abs, w16, w32, w64, zero, zero-add, ℕ, ℤ, ◌%◌, ◌&&◌, ◌*ℤ◌, ◌*◌, ◌++◌, ◌+ℤ◌, ◌+◌, ◌-◌, ◌/◌, ◌<◌, ◌==◌, ◌^◌, ◌||◌, ◌∙◌, ◌∷◌, ◌≡◌, ◌≢◌, ◌≤◌, ◌⊎◌}
pub use Rattle.std.proofs.Math.Nat.{add-mod_right, add-mul-div_right, add-mul-mod_self_right, div-div-eq-div-mul, div-eq_of_lt, div-one, mod-eq_of_lt, mul_assoc}
pub use Rattle.std.proofs.Math.Seq.{drop-cons, drop-length}
pub use Rattle.std.proofs.lemmas.Bool.{and_left, and_parts, and_right, cases_Bool, cases_eq, cases_lt, eq-eqb, le-leb, le-ltb, lt-leb, lt-ltb, ne_eqb}
pub use Rattle.std.proofs.lemmas.Grind.{common_steps}
pub use Rattle.std.proofs.lemmas.Int.{fits_signed_mul, ints, to_z-of_z}
pub use Rattle.std.proofs.lemmas.List.{drop-append-le, drop-drop, get_or-replicate, length-drop, length-map, length-replicate, length-take, length-take-le, map-append, map-id, take-append-drop, take-append-le}
pub use Rattle.std.proofs.lemmas.Nat.{div-add-mod', leading_top, mod-pow-add, mod_below, mod_low, mul-le, one_shl, ones-le, ones_cat, pow-add, pow_pos, shr-shr, shr_high}
pub use Rattle.std.proofs.lemmas.Result.{err_from_is_err_and}
pub use Rattle.std.proofs.lemmas.Simd.{map-map}
pub use Rattle.std.specs.Int.Bits.{bit_xor, xor_add_and}
unfoldable pub use Rattle.std.specs.Int.Count.{ones, ones_in}
pub use Rattle.std.specs.Int.Count.{count_leading_zeros}
pub use Rattle.std.specs.List.{AllByRecursion, enumerate_from, find, flat_map, list_any, zip}
pub use Rattle.std.specs.Prelude.{IfSome, cond, option_map, slice_index}
pub use Rattle.gnss_system.specs.Systems.{systems}
pub use Rattle.rtcm_msg.specs.Sets.{is_in_set}
pub use Rattle.rtcm_msg.specs.declared.fault.EquipmentFault.{EquipmentFault}
pub use Rattle.rtcm_msg.specs.declared.fault.Field.{Field}
pub use Rattle.rtcm_msg.specs.declared.weeks.WeekFields.{WeekFields}
pub use Rattle.std.proofs.lemmas.Bool.Decides.{Decides-eqb, Decides-int_eq, Decides-like, same_from_decides}
pub use Rattle.std.proofs.lemmas.List.Elements.{All-push}
pub use Rattle.std.proofs.lemmas.List.Folds.{flat_map-map, list_any-append}
pub use Rattle.std.proofs.lemmas.List.FromFn.{length-enumerate_from}
pub use Rattle.std.proofs.lemmas.Nat.Bits.{and_pow}
pub use Rattle.std.proofs.lemmas.Slice.Zip.{firsts-zip, seconds-zip}
pub use Rattle.std.specs.Bool.{then_some}
pub use Rattle.std.specs.Option.{option_or}
pub use Rattle.std.specs.Ordering.{int_eq}
