-- The names that proofs cite, passed on from one place. Declares nothing.
pub use Rattle.devices.proofs.PrintingLaws.{Printed, printed_later}
pub use Rattle.devices.specs.Device.{AppendsPrefix, Device, HasFailed, WritesText}
pub use Rattle.devices.specs.Devices.{Devices, devices_of, writer_of}
pub use Rattle.gnss_obs.specs.Channels.{AreChannels, ChannelsValue, channel_hertz, hertz_in, most_number, no_channels, number_at, slot_count}
pub use Rattle.gnss_obs.specs.HeardCells.{HeardCell, IsKey}
pub use Rattle.gnss_obs.specs.Plans.{below, between_commas, is_nil, one_signal_more, place_in, plan_by, plan_of, signals_after, signals_in, signals_of}
pub use Rattle.gnss_obs.specs.Values.{PlanValue, plan_with, planned_of}
pub use Rattle.gnss_obs.specs.Weeks.{week, weeks}
pub use Rattle.gnss_obs.specs.declared.civil.Civil.{Civil}
pub use Rattle.gnss_obs.specs.declared.fault.PlanFault.{PlanFault}
pub use Rattle.gnss_obs.specs.declared.fault.PlanFault.TheVariants.{RepeatedCode}
pub use Rattle.gnss_system.proofs.SystemLaws.{any_system, each_after, index_less, is_tabulated, none_any, not_all, some_system, system_same, systems_split, systems_taken, tabulated_same, value_after, value_of_other, value_tabulated}
pub use Rattle.gnss_system.specs.Satellites.{Satellite, name_of, satellites}
pub use Rattle.gnss_system.specs.Signals.{IsSignal, SignalAt, band_of, code_of, signal_of_code, signal_of_id, table}
pub use Rattle.gnss_system.specs.SystemValues.{tabulate, value_of, with_value_of}
pub use Rattle.gnss_system.specs.Systems.{index_of, is_system, systems}
pub use Rattle.gnss_system.specs.declared.by_system.BySystem.{BySystem}
pub use Rattle.gnss_system.specs.declared.system.System.{System}
pub use Rattle.gnss_system.specs.declared.system.System.TheVariants.{Galileo, Glonass, Gps}
pub use Rattle.line_texts.proofs.LengthLaws.{cut_first, size_below, size_unsigned, size_whole}
pub use Rattle.line_texts.proofs.LineLaws.{add_text, add_word, end_line, first_code, is_comma, join-push, last_code, words_after}
pub use Rattle.line_texts.specs.LeapSeconds.{leap_at}
pub use Rattle.line_texts.specs.Lengths.{coordinate_of, cut, length_below, position_of}
pub use Rattle.line_texts.specs.Lines.{line, longest_line, with_words}
pub use Rattle.line_texts.specs.Metres.{metres}
pub use Rattle.obs_epoch.proofs.StartLaws.{given, of_weeks}
pub use Rattle.obs_epoch.specs.Cells.{counts_of_message, has_listed_key, is_planned}
pub use Rattle.obs_epoch.specs.Heard.{Heard, heard, heard_by, heard_in, heard_msm, heard_of, is_own, lock_by, observed, seen_in, tow_of as gps_tow, unlisted_in}
pub use Rattle.obs_epoch.specs.NearWeek.{IsNearestWeek, IsWeekNear, half_week}
pub use Rattle.obs_epoch.specs.Sets.{is_always_decoded, is_decoded, set_of}
pub use Rattle.obs_epoch.specs.SignalCounts.{brings_value, count_of, every_channel, is_of_signal, is_of_station, signal_in, valued}
pub use Rattle.obs_epoch.specs.Starts.{first_week, is_no_week}
pub use Rattle.obs_epoch.specs.Times.{Timed, ahead, greatest_time, is_closed, is_past, max_known, taken_at, timed_after}
pub use Rattle.obs_epoch.specs.declared.setup.GatherSetup.{GatherSetup}
pub use Rattle.obs_epoch.specs.inner.SignalCounts.{AreSignalCounts, CountsMessage, SignalCountsValue, counted, has_any, signal_counts}
pub use Rattle.rtcm_bits.proofs.SmallLaws.{of_ok, passed, prefix_trans}
unfoldable pub use Rattle.rtcm_bits.specs.Bits.{bits_of}
pub use Rattle.rtcm_bits.specs.Bits.{FitsInt, bit, filled, missing, number, uint}
pub use Rattle.rtcm_bits.specs.FrameOf.{frame_bytes, longest_message, longest_message_bits}
pub use Rattle.rtcm_bits.specs.Prefix.{IsPrefix}
pub use Rattle.rtcm_inspect.specs.CountedTimes.{counted_before, counted_set, counted_tows, greatest_at_first, greatest_in, greatest_of, tow_in as counted_in, tow_in, with_tow}
pub use Rattle.rtcm_inspect.specs.Devices.{stream_fault}
unfoldable pub use Rattle.rtcm_inspect.specs.EquipmentLines.{equipment_line, quoted}
pub use Rattle.rtcm_inspect.specs.EquipmentLines.{equipment_fault_words, escaped}
pub use Rattle.rtcm_inspect.specs.FirstMessages.{mixed_of, point_of, sender, stations_of}
pub use Rattle.rtcm_inspect.specs.FirstTwo.{first_two}
unfoldable pub use Rattle.rtcm_inspect.specs.Fitting.{options_line}
pub use Rattle.rtcm_inspect.specs.Fitting.{antenna_words, forms_words, further_words, height_text, number_words, other_words, position_text, position_word, station_words}
unfoldable pub use Rattle.rtcm_inspect.specs.FrameLines.{frame_line, number_word}
pub use Rattle.rtcm_inspect.specs.Inspected.{inspected, inspected_at, inspected_in, inspected_of}
pub use Rattle.rtcm_inspect.specs.Listing.{EndsListing, Lists, ListsAll, ListsDecided, ListsPart, ListsToLimit, ListsUpTo, listing_line, listing_lines, piece_bytes}
pub use Rattle.rtcm_inspect.specs.NearWeek.{IsWeekFor}
pub use Rattle.rtcm_inspect.specs.OptionOutput.{AreOptionsOf, AreOptionsRefused, HasSignals, IsWeekAt, IsWeekRefused, is_denied_at}
pub use Rattle.rtcm_inspect.specs.ReadBack.{AreEncoded, AreKnown, AreReadAs, ReadsBack}
pub use Rattle.rtcm_inspect.specs.SentWeeks.{IsNearestRest, IsOtherTime, first_msm, is_denied, is_in, leap_with, rest_by, rests_in, said_after, said_at, time_in, whole_by, whole_in, within_weeks}
unfoldable pub use Rattle.rtcm_inspect.specs.ShowLines.{fault_line, message_line, msm_line, station_line}
pub use Rattle.rtcm_inspect.specs.ShowLines.{height_words, line_with, read_for, read_line, show_line}
pub use Rattle.rtcm_inspect.specs.SignalLaws.{CellValues, LosesUnknownCarriers, ReadsAll, SkipsOnly, values_by}
unfoldable pub use Rattle.rtcm_inspect.specs.Signals.{count_line}
pub use Rattle.rtcm_inspect.specs.Signals.{AreSignalsOf, AreSignalsRefused, code_list, codes_word, count_lines, forms_had, had, had_below, has_other_value, lines_below, needs_all, plan_had, plan_in, set_had, valued_in, valued_of}
pub use Rattle.rtcm_inspect.specs.StreamChannels.{channels_in, sent_by, sent_in, sent_of, with_first, with_sent}
pub use Rattle.rtcm_inspect.specs.StreamCounts.{is_msm, msm_in, stream_counts}
pub use Rattle.rtcm_inspect.specs.StreamOutput.{EndsStream, ReadsTooMuch}
pub use Rattle.rtcm_inspect.specs.WeekLaws.{IsBelowWeek, IsLeapFree, first_in, first_time, first_tow, tow_of}
pub use Rattle.rtcm_inspect.specs.declared.counting.StreamSignals.{StreamSignals}
pub use Rattle.rtcm_inspect.specs.declared.fault.InspectFault.{InspectFault}
pub use Rattle.rtcm_inspect.specs.declared.fault.InspectFault.TheVariants.{Write}
pub use Rattle.rtcm_inspect.specs.declared.fault.StreamCounts.{StreamCounts}
pub use Rattle.rtcm_inspect.specs.declared.fault.WeekDate.{WeekDate}
pub use Rattle.rtcm_inspect.specs.declared.first_messages.FirstMessages.{FirstMessages}
pub use Rattle.rtcm_inspect.specs.declared.first_tows.FirstTows.{FirstTows}
pub use Rattle.rtcm_inspect.specs.declared.first_tows.MsmTow.{MsmTow}
pub use Rattle.rtcm_inspect.specs.declared.first_tows.SystemTows.{SystemTows}
pub use Rattle.rtcm_inspect.specs.declared.first_two.FirstTwo.{FirstTwo}
pub use Rattle.rtcm_inspect.specs.declared.first_two.FirstTwo.TheVariants.{One, Several, Unknown}
pub use Rattle.rtcm_inspect.specs.declared.listing.Listing.{Listing}
pub use Rattle.rtcm_inspect.specs.declared.printed_week.FirstMsm.{FirstMsm}
pub use Rattle.rtcm_inspect.specs.inner.Counting.{AreFirst, AreFrameCounts, AreSignals, Counts, HasCounted, IsCounted, NeverFails, StopsCounting, Takes, decodes, has_counted}
pub use Rattle.rtcm_inspect.specs.inner.FirstTows.{AreTows, CountsTow, HaveGreatest, IsGreatestAt, IsMsmOf, IsWith, KeepsFirst, earlier_of, earliest, first_of_system, greatest_among, later_by, tow_by, tows_with_greatest, with_greatest}
pub use Rattle.rtcm_inspect.specs.inner.Lines.{first_words, longest_head, longest_plan, longest_quoted, number_start}
pub use Rattle.rtcm_inspect.specs.inner.SaidWeeks.{AreSaid, AreSaidIn}
pub use Rattle.rtcm_msg.proofs.MessageLaws.{message_there, message_value, one_value, zero_read}
pub use Rattle.rtcm_msg.proofs.SetLaws.{inside, outside, refused, value_with, whole_is}
pub use Rattle.rtcm_msg.specs.Channels.{channel_of_1020, sent_channels}
pub use Rattle.rtcm_msg.specs.Decoding.{message_at, message_by, message_with}
pub use Rattle.rtcm_msg.specs.Encoding.{IsEncoding, IsMessage, ReadsMessage, message_bits, number_of, other_of}
pub use Rattle.rtcm_msg.specs.Entries.{entries}
pub use Rattle.rtcm_msg.specs.Equipment.{equipment_in, values_of}
pub use Rattle.rtcm_msg.specs.Msm.{MasksValue, MsmValue, most_pairs, time_of_week}
pub use Rattle.rtcm_msg.specs.Numbers.{have_form, kind_of, whole_set}
pub use Rattle.rtcm_msg.specs.Sets.{has_msm, is_in_set}
pub use Rattle.rtcm_msg.specs.Station.{InRange}
pub use Rattle.rtcm_msg.specs.declared.entry.Entry.{Entry}
pub use Rattle.rtcm_msg.specs.declared.fault.MsgFault.{MsgFault}
pub use Rattle.rtcm_msg.specs.declared.header.MsmHeader.{MsmHeader}
pub use Rattle.rtcm_msg.specs.declared.message.Message.{Message}
pub use Rattle.rtcm_msg.specs.declared.message.Message.TheVariants.{Msm, Other, Station}
pub use Rattle.rtcm_msg.specs.declared.number.Forms.{Forms}
pub use Rattle.rtcm_msg.specs.declared.number.Forms.TheVariants.{FourAndSeven}
pub use Rattle.rtcm_msg.specs.declared.number.MsmSet.{MsmSet}
pub use Rattle.rtcm_msg.specs.declared.station.StationParts.{StationParts}
pub use Rattle.rtcm_msg.specs.declared.view.Form.{Form}
pub use Rattle.rtcm_msg.specs.declared.weeks.SentWeek.{SentWeek}
pub use Rattle.rtcm_msg.specs.Forms.{FormedMsm}
pub use Rattle.rtcm_msg.specs.inner.Viewed.{viewed_message}
pub use Rattle.rtcm_scan.specs.Decided.{decided_frames}
pub use Rattle.rtcm_scan.specs.Drained.{IsDrained}
pub use Rattle.rtcm_scan.specs.Examined.{HasExamined}
pub use Rattle.rtcm_scan.specs.Frames.{AreFrames, Framed, frames_of}
pub use Rattle.rtcm_scan.specs.Known.{known_frames}
pub use Rattle.rtcm_scan.specs.Local.{placed}
pub use Rattle.rtcm_scan.specs.Scan.{FramerValue, most_bytes}
pub use Rattle.rtcm_scan.specs.declared.feed.StreamFault.{StreamFault}
pub use Rattle.rtcm_scan.specs.inner.Passing.{AtFault, BreaksReading, Coming, HasPassedAll, Passes, PassesAll, PassesToLimit, Reads}
pub use Rattle.rtcm_scan.specs.inner.Results.{framed, new_scan}
pub use Rattle.std.proofs.Common.{All, Bool, Err, IfSome, List, None, Ok, OnErr, Option, Result, Some, [], ap, append-nil, append_assoc, ap₂, arith, count_ones, decimal, drop, false, filter, get_or, inl, inr, is_some, length, length-append, length-drop, length-take, map, nat_eq, not, of_z, pos, refl, replicate, rules, subst, suc, sym, take, take-append-drop, to_z, true, w64, zero, ℕ, ℤ, ◌&&◌, ◌*◌, ◌++◌, ◌+◌, ◌-◌, ◌/◌, ◌<◌, ◌==◌, ◌^◌, ◌||◌, ◌∙◌, ◌∷◌, ◌≡◌, ◌≤◌}
pub use Rattle.std.proofs.KnownBytes.{Appends-nil, Appends-trans}
pub use Rattle.std.proofs.lemmas.Bool.{false_from_ne_true, le-leb, le-ltb, lt-leb, lt-ltb, ltb-false, ltb-true, true≢false}
pub use Rattle.std.proofs.lemmas.Bool.Decides.{nat_tests}
pub use Rattle.std.proofs.lemmas.Grind.{common_steps, flat_map-append}
pub use Rattle.std.proofs.lemmas.List.{get_or-replicate, get_or_past, length-replicate, length-set, length-take-le, take-append-le, take_all}
pub use Rattle.std.proofs.lemmas.List.Elements.{All-append, All-cons, All-filter, All-head, All-nil, All-replicate, All-set, All-tail, filter-append, filter_map-append}
pub use Rattle.std.proofs.lemmas.List.Folds.{Any-from_list_any, find-append, list_any-append, list_any_at}
pub use Rattle.std.proofs.lemmas.List.Sums.{AllPass-from_list_all, count_by-le-length, fold-append, length-filter, sum_by-append, sum_by-cons}
pub use Rattle.std.proofs.lemmas.Option.{slice_get-get_or}
pub use Rattle.std.specs.Borrow.{Bor}
pub use Rattle.std.specs.Io.KnownBytes.{Appends}
pub use Rattle.std.specs.List.{before_first, cons_option, count_by, flat_map, list_all, list_any, position_or_len, sum_by}
pub use Rattle.std.specs.Option.{option_map, option_map_or, option_or}
pub use Rattle.std.specs.Prelude.{codes, cond, filter_map, fold, if◌then◌else◌, min, nat_le, nat_lt, option_and_then, option_to_list, position, unwrap_or, ⊤, ◌%◌, ◌⊎◌}
pub use Rattle.std.specs.Str.{bytes_eq}
pub use mathlib.Core.Bool.{and-or_distrib_right, or-false}
pub use Rattle.gnss_obs.specs.LockTimes.{LockTime}
pub use Rattle.obs_epoch.specs.declared.week.Start.{Start}
pub use Rattle.rtcm_inspect.specs.ChannelLaws.{AreFirstChannels, first_valid}
pub use Rattle.rtcm_inspect.specs.FaultWords.{week_date}
pub use Rattle.rtcm_inspect.specs.LengthLaws.{IsFirstInRange}
pub use Rattle.rtcm_inspect.specs.SentWeekLaws.{IsCountedFromStart, IsInSentWeek, own_tows}
pub use Rattle.rtcm_inspect.specs.declared.printed_week.WeekSource.{WeekSource}
pub use Rattle.rtcm_inspect.specs.declared.said_weeks.SaidWeeks.{SaidWeeks}
pub use Rattle.rtcm_msg.specs.Fields.{GivesViewed}
pub use Rattle.rtcm_msg.specs.Weeks.{sent_week}
pub use Rattle.rtcm_msg.specs.declared.view.View.{View}
