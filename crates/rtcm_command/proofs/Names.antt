-- The names that proofs cite, passed on from one place. Declares nothing.
pub use Rattle.clap.proofs.WalkLemmas.{first_value-rows, one_text-rows}
pub use Rattle.clap.specs.Matches.{ReadsOne, first_value, found_of, one_text}
pub use Rattle.clap.specs.Simple.{subcommand_rows, subcommand_rows_of}
pub use Rattle.clap.specs.Values.{kind_of}
pub use Rattle.clap.specs.Walk.{Row, Text, first_of, one_of, rows_of, texts}
pub use Rattle.clap.specs.declared.error.Error.{Error}
pub use Rattle.clap.specs.declared.parser.matches.ArgMatches.{ArgMatches}
pub use Rattle.clap.specs.declared.parser.matches.ArgMatches.TheViews.{out-SubCommand}
pub use Rattle.clap.specs.declared.parser.matches.Found.{Found}
pub use Rattle.clap.specs.declared.parser.matches.SubCommand.{SubCommand}
unfoldable pub use Rattle.command_faults.specs.ErrorLines.{error_line}
pub use Rattle.command_faults.specs.Status.{fault_status, status_of}
pub use Rattle.command_faults.specs.declared.fault.CommandFault.{CommandFault}
pub use Rattle.command_faults.specs.declared.fault.DateOption.{DateOption}
pub use Rattle.command_faults.specs.inner.Printing.{PrintsFault}
pub use Rattle.command_line.specs.CommandLine.{FailsParsing, SelectsCommand}
pub use Rattle.command_line.specs.inner.CommandLine.{IsCommand, IsFoundIn, RefusesWords}
pub use Rattle.devices.specs.Devices.{AreFine, AreUntouched, Culprit, Devices, Ends, HaveFailedBy, NoDevice, Reader, Writer, devices_of, writer_of}
pub use Rattle.devices.specs.Printing.{PrintsLine, PrintsSome}
pub use Rattle.gnss_obs.specs.Channels.{ChannelsValue, no_channels}
pub use Rattle.gnss_obs.specs.Plans.{HasSignal, is_nil, plan_of, with_channels}
pub use Rattle.gnss_obs.specs.Values.{PlanValue, no_values, plan_with, planned_of}
pub use Rattle.gnss_obs.specs.declared.cell.StationValues.{StationValues}
pub use Rattle.gnss_obs.specs.inner.SignalLists.{IsDefined}
pub use Rattle.gnss_system.specs.Satellites.{name_of}
pub use Rattle.gnss_system.specs.SystemValues.{map_by, tabulate}
pub use Rattle.gnss_system.specs.declared.system.System.{System}
pub use Rattle.gnss_system.specs.declared.system.System.TheVariants.{Beidou, Galileo, Glonass, Gps, Qzss, Sbas}
pub use Rattle.line_texts.proofs.LineLaws.{end_line}
pub use Rattle.line_texts.specs.ChannelTexts.{channels_of, channels_text}
pub use Rattle.line_texts.specs.Dates.{IsHourOf, IsTimeOf, IsWeekOf}
pub use Rattle.line_texts.specs.Lengths.{length_below, position_of}
pub use Rattle.obs_epoch.specs.NearWeek.{IsWeekNear}
pub use Rattle.obs_epoch.specs.Sets.{is_always_decoded, is_decoded, set_of}
pub use Rattle.obs_epoch.specs.Starts.{IsNearestFirst, first_week, is_no_week}
pub use Rattle.obs_epoch.specs.declared.week.Start.{Start}
pub use Rattle.obs_epoch.specs.declared.week.Start.TheVariants.{Near, Week}
pub use Rattle.rinex_inspect.specs.declared.fault.FileFault.{FileFault}
pub use Rattle.rtcm_bits.proofs.SmallLaws.{passed, wrapped}
pub use Rattle.rtcm_command.specs.Commands.{AreRefused, AreRefusedBy, EndsCommand, EndsFound, EndsInspection, EndsOnFile, HasCommand, HasCompleted, HasDone, HasStopped, HasStoppedEarly, StopsPrinting, refusal_line}
pub use Rattle.rtcm_command.specs.CompleteOptions.{IsCompleteBy, IsCompleteSet, IsWindowOf, complete_with, is_given, lacks_one, window_with}
pub use Rattle.rtcm_command.specs.Converting.{EndsConverting, StopsConversion}
pub use Rattle.rtcm_command.specs.Devices.{culprit, of_file, of_inspection}
pub use Rattle.rtcm_command.specs.PrintedPlan.{ArePrintedWords, HaveValues, IsDatedAsPrinted, IsDatedAsSent, IsDatedAt, IsStartedAsFound, StartsAsFound, after_prefix, default_of, given, has_equals, leap_option, printed_words}
unfoldable pub use Rattle.rtcm_command.specs.Reports.{report_line}
pub use Rattle.rtcm_command.specs.Reports.{counts_named}
unfoldable pub use Rattle.rtcm_command.specs.SetupOptions.{plan_set}
pub use Rattle.rtcm_command.specs.SetupOptions.{HasSetupFault, IsChoiceSet, IsFromSet, IsGapsSet, IsGiven, IsIntervalSet, IsNumberOf, IsNumberOr, IsPlanSet, IsRefusedAfterChannels, IsRefusedAfterStart, IsSetupRefused, IsSourceRefused, IsStartFault, IsStartOf, IsStartSet, IsTimeBy, IsUntilSet, channels_set, choice_by, options_of, text_set, tolerance_set, usual_leap, values_by, values_in, values_set, window_by}
pub use Rattle.rtcm_convert.specs.Faults.{IsOfNone, IsSentAfter, IsSetupFault}
pub use Rattle.rtcm_convert.specs.Made.{IsMadeEmpty, IsMadeInPart, IsMadeSoFar, IsMadeToLimit}
pub use Rattle.rtcm_convert.specs.SetupValues.{IsBad, setup_value}
pub use Rattle.rtcm_convert.specs.declared.fault.Fault.{Fault}
pub use Rattle.rtcm_convert.specs.declared.fault.Fault.TheVariants.{BadSetup, Failed, Finished, Read, TooLong, Write}
pub use Rattle.rtcm_convert.specs.declared.report.Report.{Report}
pub use Rattle.rtcm_convert.specs.declared.setup.Setup.{Setup}
pub use Rattle.rtcm_inspect.specs.FirstMessages.{first_station}
unfoldable pub use Rattle.rtcm_inspect.specs.Fitting.{options_line}
pub use Rattle.rtcm_inspect.specs.Fitting.{antenna_words, channel_words, forms_words, further_words, height_text, number_words, option_words, other_words, position_text, position_word, station_words}
pub use Rattle.rtcm_inspect.specs.Signals.{codes_word, forms_had, had, plan_in, set_had, valued_in}
pub use Rattle.rtcm_inspect.specs.WeekLaws.{IsBelowWeek, IsDatedByStart, IsLeapFree, first_tow}
pub use Rattle.rtcm_inspect.specs.declared.fault.InspectFault.{InspectFault}
pub use Rattle.rtcm_msg.specs.declared.number.Forms.{Forms}
pub use Rattle.rtcm_msg.specs.declared.station.StationParts.{StationParts}
pub use Rattle.rtcm_scan.specs.Frames.{Framed}
pub use Rattle.std.proofs.Common.{Bool, Global, IfOk, IfSome, IsErrAnd, IsErrOf, List, None, Ok, Option, Result, Some, String, [], ap, append-nil, append_assoc, ap₂, arith, codes, decimal, inl, inr, is_some, length, lit<, option_map, refl, rules, subst, suc, sym, unwrap_or, ℕ, ℤ, ◌^◌, ◌∙◌}
pub use Rattle.std.proofs.lemmas.Grind.{common_steps}
pub use Rattle.std.specs.Borrow.{Bor}
pub use Rattle.std.specs.Box.{box_value}
pub use Rattle.std.specs.Option.{option_map_or, option_or}
pub use Rattle.std.specs.Prelude.{Box, Err, false, flat_map, if◌then◌else◌, nat_le, nat_lt, not, ok_or, option_and_then, string_bytes, true, ⊤, ◌&&◌, ◌*◌, ◌++◌, ◌+◌, ◌/◌, ◌<◌, ◌||◌, ◌↔◌, ◌∷◌, ◌≡◌, ◌≢◌}
pub use Rattle.std.specs.Str.{bytes_eq}
pub use Rattle.std.specs.Str.Parse.{ExplainsUnsignedError, HasUnsignedDigitsIfOk, ParsesUnsigned}
