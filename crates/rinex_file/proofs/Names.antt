-- The names that proofs cite, passed on from one place. Declares nothing.
pub use Rattle.arrayvec.specs.ArrayVec.{array_vec_len}
pub use Rattle.gnss_system.proofs.CheckedLaws.{flip_false, passes_at, passes_below}
pub use Rattle.gnss_system.proofs.SystemLaws.{short_table, any_system, each_after, each_system, equal_indices, equal_values, index_back, letter_back, letter_found, sum_at_most, sum_less, system_at, system_same, systems_split, systems_taken, tabulated_same, value_after, value_mapped, value_of_other, value_tabulated}
pub use Rattle.std.proofs.lemmas.Bool.{eqb-true as is_equal, leb-true as at_most, ltb-true as is_less, le-leb, not-false, agree_below_at, and_from, and_parts, and_right, both_ways, cases_Bool, cases_lt, cond_both, eq-eqb, eqb-false, eqb-true, false_from_ne_true, le-ltb, lt-ltb, ltb-false, ltb-true, ne_eqb, not-true, or_parts, or_right}
pub use Rattle.gnss_obs.proofs.GroupLaws.{Above, Climb, Left, all_above, left_all, sorted_climbs}
pub use Rattle.gnss_obs.proofs.PlanLaws.{any_index, few_signals, indices-push, length_indices, none_of, few_below, listed_by}
pub use Rattle.gnss_obs.specs.Channels.{AreChannels, ChannelsValue, most_number, no_channels, slot_count, with_number, number_at}
pub use Rattle.gnss_obs.specs.Dates.{IsCivilOf, civil_of, IsCivil}
pub use Rattle.gnss_obs.specs.GatheredEpochs.{AreGathered, AreGatheredEpochs, AreStationValues, IsCoordinate, IsGathered, IsGatheredEpoch, TimesRise, same_place}
pub use Rattle.gnss_obs.specs.Intervals.{IsInterval}
pub use Rattle.gnss_obs.specs.Plans.{place_in, with_channels}
pub use Rattle.gnss_system.specs.Satellites.{letter, most_satellites, number_of, satellites, satellites as satellites_in, system_of_letter}
pub use Rattle.gnss_system.specs.Systems.{index_of, is_system, systems, after, before}
pub use Rattle.gnss_obs.specs.SignalLists.{indices}
pub use Rattle.gnss_obs.specs.inner.SignalLists.{IsAppended, IsOf}
pub use Rattle.gnss_system.specs.Signals.{IsSignal, SignalAt, code_of, most_signals, signal_of_code, table}
pub use Rattle.gnss_system.specs.SystemValues.{value_of, map_by, tabulate}
unfoldable pub use Rattle.gnss_obs.specs.Values.{written_among}
pub use Rattle.gnss_obs.specs.Values.{Closed, EpochValue, HasTwelveDigits, IsHeld, PlanValue, cells_of, has_value, is_of_satellite, is_written, planned_of, run, same_values, satellites_written, AreHeld, plan_with}
pub use Rattle.gnss_obs.specs.Weeks.{week, weeks, day as day_length}
pub use Rattle.gnss_obs.specs.declared.cell.Cell.{Cell}
pub use Rattle.gnss_obs.specs.declared.cell.StationValues.{StationValues}
pub use Rattle.gnss_obs.specs.declared.civil.Civil.{Civil}
pub use Rattle.gnss_system.specs.declared.system.System.{System}
pub use Rattle.gnss_system.specs.declared.system.System.TheVariants.{Gps, Glonass}
pub use Rattle.memchr.specs.Find.{IsFirstByte, is_byte}
pub use Rattle.devices.proofs.PrintingLaws.{unmapped}
pub use Rattle.devices.proofs.WritingLaws.{HasWrittenBut, all_written, more_written, none_written, part_written}
pub use Rattle.rtcm_bits.specs.Prefix.{IsPrefix}
pub use Rattle.rinex_file.specs.Accepted.{AreBegunWith, AreEpochsRead, AreFirstEpochs, AreWholeBefore, AreWholeWith, HasPlan, IsEpochLine, IsFaultAfter}
pub use Rattle.rinex_file.specs.Begun.{AreBegun, IsEpochBegun, IsHeaderBegun, IsEventBegun, part_lines, whole_lines, IsShown, StartsAt}
unfoldable pub use Rattle.rinex_file.specs.Blanks.{trimmed}
pub use Rattle.rinex_file.specs.Blanks.{IsEnded, before_cut, filled_to}
pub use Rattle.rinex_file.specs.Blocks.{LeavesRest, MovesBytes, ReadsPrefix}
pub use Rattle.rinex_file.specs.Counting.{AreCounts, IsSummary, IsTextWith, History, changes_of, rows_in}
pub use Rattle.rinex_file.specs.Exact.{IfTextOfFile, AreBefore, ExplainsFault, ExplainsStored, HasHeader, IsAtTypes, IsCutShort, IsExpectedAt, IsFaulty, IsFound, IsLine, IsNoFault, IsReadOr, IsTooLong, NoFileBegins, most_lines}
unfoldable pub use Rattle.rinex_file.specs.File.{epoch_text, event_line, event_text, line_among, shown_text, lines_up_to}
pub use Rattle.rinex_file.specs.File.{shown_of, change_lines, change_text, header_text, closed_text, event_lines, file_lines, file_text, gathered, line_or_none, lines_of_parts, stamped_lines, lines_of_systems}
pub use Rattle.rinex_file.specs.FileValues.{AreChanges, AreSatelliteRows, AreSignalValues, AreTexts, FitsColumns, HaveRoom, IsChange, IsFileValue, IsFirstSame, IsFrom, IsPlan, IsRow, IsSatelliteRow, IsStamped, IsText, IsTime, changed_by, has_some_value, most_rows, planned_in, rank_of, time_stamped, values_following}
pub use Rattle.rinex_file.specs.Gathered.{AreSignals, HasSatellite}
unfoldable pub use Rattle.rinex_file.specs.Header.{header_lines, row_line}
unfoldable pub use Rattle.rinex_columns.specs.HeaderLine.{header_line}
pub use Rattle.rinex_columns.specs.HeaderLine.{has_label}
pub use Rattle.rinex_columns.proofs.NumberLaws.{digits_in-fixed, digits_in-padded, digits_in-right, digits_in-whole, has-append, has-not, has-right, lacks-append, lacks-decimal, lacks-padded, length-fixed, length-fixed-le, length-padded, length-padded-le, length-right, length-sign, not_negative, number_in-fixed}
pub use Rattle.rinex_file.specs.Header.{types_with, is_of_types, interval_content, line_with, row_content, row_label, Shown, all_rows, codes_of, flagged_letter, first_content, has_line, height_line, is_planned, letter_of, lengths, position_line, row_lines, slots_with, systems_letter, text_columns, texts_content, texts_line, types_content, type_columns, type_front, type_of, type_rows, types_of, height_content, position_content, version_content}
pub use Rattle.rinex_file.specs.inner.Header.{is_given, is_optional, first_types, lines_after, lines_before, most_type_rows, row_at, row_count, row_place, is_alike}
pub use Rattle.rinex_file.specs.inner.Heads.{shown_by}
pub use Rattle.rinex_columns.specs.Limits.{most_line, label_columns}
unfoldable pub use Rattle.rinex_file.specs.Lines.{epoch_line, field, satellite_line, signal_text}
pub use Rattle.rinex_file.specs.Lines.{lli_byte, row_text, strength_byte}
pub use Rattle.rinex_columns.specs.Numbers.{fixed, joined, left, padded, right}
pub use Rattle.rinex_file.specs.inner.ParserState.{FollowsHistory, open_epochs, MayRunOut, ExpectsHeader, ExpectsRow, AddsAt, GoesOnWithLine, IsLast, IsNext, RefusesLine, ShowsLine, TakesLine, progress_at, stamped_at, with_last_read, with_satellite, with_whole_epoch}
pub use Rattle.rinex_file.specs.inner.Read.EpochSteps.{HasReadRows, HasReadEpochs, IsSummaryRead, ReadsRow, BeginsEpoch, plan_of, with_read, with_rows, HasReadRowsAt, StopsStoring, file_of, begun_in, row_of as read_row}
pub use Rattle.rinex_columns.specs.Read.{ReadsExactly, digits_in, has, number_in, some_if}
pub use Rattle.rinex_file.specs.inner.Read.HeaderSteps.{AreItemsBefore, EndsHeader, IsLineOfSlots, TakesOrRefusesSlots, TakesSlots, with_slots, GoesOn, GoesTo, HasSignalAt, IsHeaderLineRead, NoneGoesOn, ReadsOrRefuses, ReadsOrRefusesTexts, ReadsTexts, RefusesHeaderLine, RefusesTexts, RefusesTypes, SameFrom, StepsTo, Takes, TakesHeaderLine, TakesTypes, begins_with, ReadsHeaderRow, with_interval, expected_if, if_fine, known_line, texts_in, with_first, with_letter, with_texts, with_types, with_values, IsLineOf, IsLineOfTypes, IsThere, TakesItems}
unfoldable pub use Rattle.rinex_file.specs.inner.Stored.{stamped_text}
pub use Rattle.rinex_file.specs.inner.Stored.{HasRoom, HaveRowsRoom}
unfoldable pub use Rattle.rinex_file.specs.inner.Read.Progress.{HasLinesLeft}
pub use Rattle.rinex_file.specs.inner.Read.Progress.{AreListsAt, AreReadAt, IsRowRead, IsRowUnread, AreUnread, AreSameTexts, AreTypes, AreSameItems, slots_begun, AreValid, Has, HasRow, IsAt, IsAtEpoch, IsHeadAt, IsInEpoch, IsInEvent, IsInHeader, IsPosition, Known, Progress, counted, fits, is_chosen, begun_at, epoch_after, expected_next, file_with, position_of, shown_with, signals_begun, stamped, with_epoch, with_row, known_slots}
pub use Rattle.rinex_file.specs.inner.Read.Row.{AreEntries, IsRowOf}
pub use Rattle.rinex_file.specs.inner.Read.Sound.{AreLinesAt, AreLinesOf, AreRead, HasReadLines, IsBegun, IsEventExpected, IsSound, IsSoundAt, MayBegin, values_now}
pub use Rattle.rinex_file.specs.inner.Read.Steps.{HasRead, IsTaken, IsTextOfOnly, IsWhole, ReadsNextLine, StopsReading, file_at}
pub use Rattle.rinex_file.specs.Slots.{AreSlots, SlotNumber, channel_text, last_slot, slot_rows, slot_text, slots_columns, slots_front, slots_in_line, slots_of, slots_from}
pub use Rattle.rinex_file.specs.inner.Rows.{AreApart, HasColumns, IsBlankBut, values_at}
pub use Rattle.rinex_file.specs.Texts.{HeaderLists, fault_of, fields, fields_of, first_fault, front_of, has_row, has_text, is_required, is_printable, label_of, place_of, text_count, text_of, trimmed_texts, width_of}
pub use Rattle.rinex_file.specs.inner.TextsOf.{lists_of}
pub use Rattle.rinex_file.specs.Times.{AreTimes, AreTimesOrNone, steps_of}
pub use Rattle.rinex_file.specs.Value.{FileValue, Row, SatelliteRow, SignalValues, Stamped, all_stamped, change_from, entries_of, is_of_key, no_signal_values, numbers, row_among, row_in_epoch, row_of, rows_of, satellite_row, signal_values_at, signal_values_of, stamped_after, stamped_of, written_satellites}
pub use Rattle.rinex_file.specs.inner.Words.{AreBelow, AreWithin, blanks, digit_columns, digits_onto, empty_column, has_minus, leading, template, twos_of}
pub use Rattle.rinex_file.specs.declared.header.fault.HeadFault.{HeadFault}
pub use Rattle.rinex_file.specs.declared.header.fields.HeaderField.{HeaderField}
pub use Rattle.rinex_file.specs.declared.header.fields.HeaderField.TheVariants.{AntType}
pub use Rattle.rinex_file.specs.declared.header.rows.HeaderRow.{HeaderRow}
pub use Rattle.rinex_file.specs.declared.header.rows.HeaderRow.TheVariants.{Biases, Delta, End, First, Interval, Position, Shift, Slots, StrengthUnit, Texts, Types, Version}
pub use Rattle.rinex_file.specs.declared.read.parser_state.Expected.{Expected}
pub use Rattle.rinex_file.specs.declared.read.parser_state.Expected.TheVariants.{Epoch, EventEpoch, EventHeight, EventPosition, Header, Satellite}
pub use Rattle.rinex_file.specs.declared.read.parser_state.Refusal.{Refusal}
pub use Rattle.rinex_file.specs.declared.read.parser_state.Refusal.TheVariants.{Bad, Memory}
pub use Rattle.rinex_file.specs.declared.read.fault.ReadFault.{ReadFault}
pub use Rattle.rinex_file.specs.declared.read.fault.ReadFault.TheVariants.{CutShort, Read, TooLong}
pub use Rattle.rinex_file.specs.declared.read.fields.TheConstants.{LIMITS}
pub use Rattle.rinex_file.specs.declared.read.epochs.NextEpoch.{NextEpoch}
pub use Rattle.rinex_file.specs.declared.read.file.FileSummary.{FileSummary}
pub use Rattle.rinex_file.specs.declared.read.lines.Found.{Found}
pub use Rattle.rinex_file.specs.declared.read.parser_state.ParserState.{ParserState}
pub use Rattle.rinex_file.specs.declared.read.epochs.EpochReader.{EpochReader}
pub use Rattle.rinex_file.specs.declared.read.times.EpochTimes.{EpochTimes}
pub use Rattle.rinex_file.specs.declared.write.lanes.TheConstants.{PAIRS}
pub use Rattle.devices.specs.Device.{Device, HasFailed}
pub use Rattle.std.proofs.Common.{Fits, List, None, Option, [], add-one, ap, append-nil, append_assoc, ap₂, arith, decimal, drop, eqb, filter, get_or, inl, inr, length, length-append, lit<, lit≤, negsuc, of_z, refl, replicate, rules, slice_index_or, subst, suc, sym, take, to_z, unsigned_abs, w64, w8, zero, zero-add, ℕ, ℤ, ◌%◌, ◌*◌, ◌++◌, ◌+◌, ◌/◌, ◌<◌, ◌^◌, ◌∙◌, ◌∷◌, ◌≡◌, le_trans, ◌<ℤ◌, ◌≤ℤ◌, max, pow_mono}
pub use Rattle.std.proofs.KnownBytes.{Appends-nil, Appends-trans, Consumes-nil, Consumes-trans}
pub use Rattle.std.proofs.Math.Nat.{div-le_self, le-min, min-eq_left, min-eq_right, min-le_left, min-le_right, mod-le, pow-suc, mod-eq_of_lt}
pub use Rattle.std.proofs.Math.Seq.{drop-append-add, drop-cons, take-add, take-append-add, take-append_seam}
pub use Rattle.std.proofs.lemmas.Bool.Decides.{Decides-int_eq, nat_tests}
pub use Rattle.std.proofs.lemmas.Cmp.{nat_eq_equiv}
pub use Rattle.std.proofs.lemmas.Fmt.{decimal_digit, decimal_step, first_decimal, length-decimal-le}
pub use Rattle.std.proofs.lemmas.Grind.{common_steps, replicate_next}
pub use Rattle.std.proofs.lemmas.Int.{fits_signed_from_abs, ints, to_z-of_z}
pub use Rattle.std.proofs.lemmas.List.{append_cancel_left, drop-append-le, drop-drop, drop-replicate, drop-take, drop_all, drop_at, drop_more, ext_get_or, get_or-append-add, get_or-drop, get_or-map, get_or-set_other, get_or-set_same, get_or-take, get_or_append_left, get_or_at, get_or_default, length-drop, length-map, length-replicate, length-set, length-take, length-take-le, length_push, map-append, map-set, nil_from_length, replicate-append-replicate, set_at, take-append-drop, take-append-le, take-map, take-replicate, take-take, take_all, take_at, take_min, take_more, take_more_set, take_rest}
pub use Rattle.std.proofs.lemmas.List.Concat.{flat_map-append, get_or-flat_map}
pub use Rattle.std.proofs.lemmas.List.Elements.{All-append, All-cons, All-drop, All-filter, All-from_recursion, All-get_or, All-head, All-map, All-nil, All-push, All-replicate, All-tail, All-take, All-weaker, filter-append, filter_passes, All-set, filter_agree}
pub use Rattle.std.proofs.lemmas.List.Folds.{Any-from_list_any, flat_map-map, list_all-append, list_any-append, list_any-from_Any}
pub use Rattle.std.proofs.lemmas.List.Kept.{IsStrictlyIncreasing-filter}
pub use Rattle.std.proofs.lemmas.List.Quantifiers.{position-Some}
pub use Rattle.std.proofs.lemmas.List.Sums.{fails_before_first, fold-append, prefix_len-le-length, sum_by-append, AllPass-from_list_all, length-filter, sum_by-cons}
pub use Rattle.std.proofs.lemmas.Map.Keys.{IsDistinct-push, IsDistinct-tail, apart_from_distinct}
pub use Rattle.std.proofs.lemmas.Map.Steps.{le-length_from_below}
pub use Rattle.std.proofs.lemmas.Nat.{div-add-mod', and_le_l, leading_length, one_shl, or_lt}
pub use Rattle.std.proofs.lemmas.Nat.Bits.{bit_at-lt, bit_at-trailing_zeros, bit_at_above, bit_at_and, bit_at_clear_other, bit_at_clear_same, bit_at_not, bit_at_set_other, bit_at_set_same}
pub use Rattle.std.proofs.lemmas.Option.{none-some, same_Some}
pub use Rattle.std.proofs.lemmas.Result.{err_from_is_err_and}
pub use Rattle.std.proofs.lemmas.Simd.{bitmask_splat, first_set_mask_l, get_or-zip2, length-zip2, map-map, mask_l-mod, put_chunk_whole}
pub use Rattle.std.proofs.lemmas.Str.{IsUtf8-from_ascii}
pub use Rattle.std.specs.Array.{AllOfLen}
pub use Rattle.std.specs.Bool.{then_some}
unfoldable pub use Rattle.std.specs.Fmt.{digits}
pub use Rattle.std.specs.Fmt.{sign_text}
pub use Rattle.std.specs.Int.{is_negative, bit_at, trailing_zeros, bit_not, leading_zeros}
unfoldable pub use Rattle.std.specs.Int.Count.{count_trailing_zeros}
pub use Rattle.std.specs.Int.Count.{under}
pub use Rattle.std.specs.Int.RustNames.{bit_and, bit_or}
pub use Rattle.std.specs.Io.KnownBytes.{Appends, Consumes, IsAtEnd, prepend_known}
unfoldable pub use Rattle.std.specs.List.{IsDistinct}
pub use Rattle.std.specs.List.{AllByRecursion, list_all, list_any, prefix_len, reduce, sum_by}
pub use Rattle.std.specs.List.Sorted.{IsStrictlyIncreasing}
pub use Rattle.std.specs.Option.{ok_or, option_map_or}
pub use Rattle.std.specs.Prelude.{All, Any, Bool, Err, IfErr, IfNone, IfSome, IsTrue, Ok, OnOk, Result, Some, codes, cond, false, find, flat_map, if◌then◌else◌, is_some, map, min, nat_eq, nat_le, nat_lt, neg_ℤ, not, pos, position, set, slice_get, slice_index, slice_set, true, unwrap_or, ⊤, ◌&&◌, ◌-◌, ◌==◌, ◌||◌, ◌↔◌, ◌≢◌, ◌≤◌, IsSome, count_by}
pub use Rattle.std.specs.Result.{IsErrAnd, result_err}
pub use Rattle.std.specs.Str.{IsAscii, IsUtf8, bytes_eq}
pub use lib.Lanes.{Each1, chunk, digits_l, mask_l, number_l, pick_l, top, zip2}
pub use Rattle.rinex_file.proofs.Judged.{at_some, exactly, is_taken, refused, taken}
pub use Rattle.rinex_file.proofs.ReaderLaws.{HasReadOn, failed_read, fine_read, leaves_all, leaves_more, more_read, none_read}
