-- The names that proofs cite, passed on from one place. Declares nothing.
pub use Rattle.devices.proofs.PrintingLaws.{Printed, kept_appends, longer_part, printed_after, printed_later}
pub use Rattle.devices.specs.Device.{AppendsPrefix, Device, HasFailed}
pub use Rattle.devices.specs.Devices.{HaveFailedBy, Devices, ReaderFailures, Writer, WriterFailures, devices_of, writer_of}
pub use Rattle.devices.specs.Printing.{EndsPrinting, IsDelivered, PrintsPart, PrintsText}
pub use Rattle.gnss_obs.proofs.PlanLaws.{few_below, length_indices}
pub use Rattle.gnss_obs.specs.Plans.{below}
pub use Rattle.gnss_obs.specs.Values.{PlanValue, planned_of}
pub use Rattle.gnss_obs.specs.Weeks.{week, weeks}
pub use Rattle.gnss_obs.specs.declared.civil.Civil.{Civil}
pub use Rattle.gnss_system.proofs.SystemLaws.{system_same, system_self, systems_taken}
pub use Rattle.gnss_system.specs.Satellites.{Satellite, letter, satellites}
pub use Rattle.gnss_system.specs.Signals.{SignalAt, most_signals, table}
pub use Rattle.gnss_system.specs.Systems.{index_of, is_system, systems}
pub use Rattle.gnss_system.specs.declared.system.System.{System}
pub use Rattle.line_texts.proofs.LineLaws.{add_text, end_line}
pub use Rattle.line_texts.specs.Lines.{line, with_words}
pub use Rattle.rinex_file.proofs.ReadingLaws.{AreFine, one_plan, part_fine, plan_known, whole_fine}
pub use Rattle.rinex_file.specs.Blocks.{ReadsPrefix}
pub use Rattle.rinex_file.specs.Counting.{AreCounts, IsSummary, events_in, rows_in}
pub use Rattle.rinex_file.specs.Exact.{IsNoFault, most_lines}
pub use Rattle.rinex_file.specs.File.{file_lines, file_text}
pub use Rattle.rinex_file.specs.FileValues.{AreSatelliteRows, AreSignalValues, IsFileValue, IsPlan, IsSatelliteRow, planned_in, rank_of, time_stamped}
pub use Rattle.rinex_file.specs.Times.{AreTimes, AreTimesOrNone, steps_of}
pub use Rattle.rinex_file.specs.Value.{FileValue, SatelliteRow, SignalValues, Stamped, no_signal_values}
pub use Rattle.rinex_file.specs.declared.read.epochs.EpochReader.{EpochReader}
pub use Rattle.rinex_file.specs.declared.read.epochs.NextEpoch.{NextEpoch}
pub use Rattle.rinex_file.specs.declared.read.fault.ReadFault.{ReadFault}
pub use Rattle.rinex_file.specs.declared.read.file.Counts.{Counts}
pub use Rattle.rinex_file.specs.declared.read.file.FileSummary.{FileSummary}
pub use Rattle.rinex_file.specs.declared.read.times.EpochTimes.{EpochTimes}
pub use Rattle.rinex_file.specs.inner.Read.EpochSteps.{BeginsEpoch, KeepsPlan, begun_in, HasReadEpochs, HasReadRows, IsSummaryRead, ReadsRow, plan_of, row_of, with_read}
unfoldable pub use Rattle.rinex_inspect.specs.CheckOutput.{check_line, complete_line}
pub use Rattle.rinex_inspect.specs.CheckOutput.{IsOutput, all_gaps_if, complete_if, gaps_if, size_of, times_if, times_in}
pub use Rattle.rinex_inspect.specs.Checking.{AcceptsFiles, EndsCheck, IsCheckedOr}
unfoldable pub use Rattle.rinex_inspect.specs.DateTexts.{time_line}
pub use Rattle.rinex_inspect.specs.DateTexts.{clock_text, date_text, moment_words}
pub use Rattle.rinex_inspect.specs.Faults.{culprit}
unfoldable pub use Rattle.rinex_inspect.specs.Gaps.{gap_line}
pub use Rattle.rinex_inspect.specs.Gaps.{AreInside, Completeness, IsCompleteness, all_gaps, all_placed, early, ends_in, first_of, gap_between, gaps_before, gaps_from, indexes_of, intervals_to, is_among, is_inside, number_among, origin_in, origin_of, placed, size_in, start, window_size}
unfoldable pub use Rattle.rinex_inspect.specs.QualityOutput.{present_line, signal_line, tally_line, time_word}
pub use Rattle.rinex_inspect.specs.QualityOutput.{Contents, code_at, contents_of, in_period, last_period, lines_before, lines_of, lost_in, period_line, period_lines, period_of, presence_words, quality_output, satellite_line, satellite_lines, satellite_word, signal_lines, tally_words, texts_below}
pub use Rattle.rinex_inspect.specs.Tallies.{all_rows, from_first, has_line, has_values, is_half, is_lost, is_row_of, last_of, no_tally, presence_of, satellite_at, strength_of, tally, tally_of, times_of, total, up_to_last, values_in}
pub use Rattle.rinex_inspect.specs.declared.check.CheckOptions.{CheckOptions}
pub use Rattle.rinex_inspect.specs.declared.fault.FileFault.{FileFault}
pub use Rattle.rinex_inspect.specs.declared.fault.FileFault.TheVariants.{File, OtherDay, Write}
pub use Rattle.rinex_inspect.specs.declared.gaps.Placed.{Placed}
pub use Rattle.rinex_inspect.specs.declared.gaps.Window.{Window}
pub use Rattle.rinex_inspect.specs.declared.quality.Tables.{Tables}
pub use Rattle.rinex_inspect.specs.declared.quality_lines.Lines.TheVariants.{Period, Satellites, Signals}
pub use Rattle.rinex_inspect.specs.declared.table.SatelliteRecord.{SatelliteRecord}
pub use Rattle.rinex_inspect.specs.declared.table.Table.{Table}
pub use Rattle.rinex_inspect.specs.declared.tally.Presence.{Presence}
pub use Rattle.rinex_inspect.specs.declared.tally.Tally.{Tally}
unfoldable pub use Rattle.rinex_inspect.specs.inner.Missing.{line_but}
pub use Rattle.rinex_inspect.specs.inner.Missing.{Rise, complete_but, end_gap_if, end_missing_if, first_with, gap_with, gaps_to_end, last_with, missing_before, missing_between, missing_from, missing_if, missing_to_end, missing_with, origin_with}
pub use Rattle.rinex_inspect.specs.inner.QualityLines.{IsPrintable, IsSmallTally, all_lines, line_at, line_count, system_lines}
pub use Rattle.rinex_inspect.specs.inner.Rating.{IsStart, AreTables, IsPrintedAfter, RatesEpoch, RatesNext, RatesPeriods, ReadsRows, end_text, period_text, whole_text}
pub use Rattle.rinex_inspect.specs.inner.Reading.{CountsMissing, IsEndOutput, ReadsGaps}
pub use Rattle.rinex_inspect.specs.inner.Tables.{AreBlank, HasAdded, HasAddedRow, HasPlaces, IsBlankRecord, IsBlankTable, IsRecordOf, IsTableOf, added, before_with, begun, capped, capped_tally, contents_in, no_record, plus, present_with, record_at, records_in, tally_at, with_values}
pub use Rattle.rtcm_bits.proofs.SmallLaws.{length-filter-le, passed}
pub use Rattle.rtcm_bits.specs.Prefix.{IsPrefix}
pub use Rattle.std.proofs.Common.{rules, Bool, Err, IfSome, List, None, Ok, Option, Result, Some, [], add-one, ap, append-nil, append_assoc, ap₂, arith, codes, cond, decimal, drop, false, get_or, inl, inr, is_some, length, length-set, map, min, refl, set, subst, suc, sym, take, true, zero, ℕ, ◌%◌, ◌&&◌, ◌*◌, ◌++◌, ◌+◌, ◌-◌, ◌/◌, ◌<◌, ◌==◌, ◌^◌, ◌||◌, ◌∙◌, ◌∷◌, ◌≡◌, ◌≤◌}
pub use Rattle.std.proofs.KnownBytes.{Appends-nil, Keeps-trans}
pub use Rattle.std.proofs.Math.Nat.{div-le_self, div-lt_iff_lt-mul, div-mul-le_self, le-div_iff_mul-le, mod-lt, zero-add}
pub use Rattle.std.proofs.lemmas.Bool.{and_from, and_parts, eq-eqb, eqb-false, eqb-true, lt-ltb, ltb-false, ltb-true, or_parts}
pub use Rattle.std.proofs.lemmas.Grind.{common_steps, flat_map-append}
pub use Rattle.std.proofs.lemmas.List.{get_or-set_other, get_or-set_same, get_or_read, length-append, length-map, map-append, take-append-drop}
pub use Rattle.std.proofs.lemmas.List.Elements.{All-append, All-filter, All-head, All-nil, All-pop, All-push, All-tail, All-weaker, filter-append}
pub use Rattle.std.proofs.lemmas.List.Sums.{count_by-le-length, sum_by-append, sum_by-cons}
pub use Rattle.std.proofs.lemmas.Option.{IfSome_then}
pub use Rattle.std.specs.Bool.{⊤}
pub use Rattle.std.specs.Io.KnownBytes.{Appends, Keeps}
pub use Rattle.std.specs.List.{count_by, list_any, reduce, sum_by}
pub use Rattle.std.specs.List.Sorted.{IsStrictlyIncreasing}
pub use Rattle.std.specs.Prelude.{All, filter, flat_map, nat_lt, ◌≢◌, ◌⊎◌}
pub use Rattle.std.specs.Result.{IsErrAnd}
pub use Rattle.gnss_obs.specs.Dates.{civil_of}
pub use Rattle.gnss_obs.specs.Intervals.{IsInterval}
pub use Rattle.gnss_obs.specs.SignalLists.{indices}
pub use Rattle.rinex_inspect.specs.CheckLaws.{CountsWhatIsThere}
pub use Rattle.rinex_inspect.specs.Quality.{EndsQuality, IsRatedOr, RatesFiles}
pub use Rattle.rinex_inspect.specs.declared.quality_lines.Lines.{Lines}
pub use Rattle.std.proofs.Math.Seq.{take-length}
pub use Rattle.std.proofs.lemmas.Int.{ints}
pub use Rattle.std.proofs.lemmas.List.Concat.{flat_map-cons}
pub use Rattle.std.proofs.lemmas.List.Folds.{list_any-append}
pub use Rattle.std.proofs.lemmas.Nat.{div-mul-add, mod-mul-add}
