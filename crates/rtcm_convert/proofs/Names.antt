-- The names that proofs cite, passed on from one place. Declares nothing.
pub use Rattle.devices.specs.Device.{AppendsPrefix, Device, FailsWith, HasFailed, IsBetween, WritesText}
pub use Rattle.gnss_obs.specs.Channels.{AreChannels, ChannelsValue}
pub use Rattle.gnss_obs.specs.GatheredEpochs.{AreGatheredEpochs, AreStationValues, TimesRise}
pub use Rattle.gnss_obs.specs.HeardCells.{HeardCell}
pub use Rattle.gnss_obs.specs.Intervals.{IsInterval}
pub use Rattle.gnss_obs.specs.Values.{Closed, EpochValue, PlanValue, cells_of, same_values, satellites_written}
pub use Rattle.gnss_obs.specs.declared.cell.StationValues.{StationValues}
pub use Rattle.gnss_system.specs.declared.system.System.{System}
pub use Rattle.obs_epoch.specs.Cells.{counts_of, counts_of_message, firsts, is_planned, no_counts, offered, with_skipped}
pub use Rattle.obs_epoch.specs.Epochs.{closed_so_far}
pub use Rattle.obs_epoch.specs.GathererAfter.{GathererValue, locked_in}
pub use Rattle.obs_epoch.specs.GathererHistory.{HasGatheredEpochs, IsAwaited, all_epochs, capped_counts, closed_by, closed_epochs, closed_in, closed_list_at, is_done, known_epochs, plan_in, whole_list}
pub use Rattle.obs_epoch.specs.Heard.{Heard, heard, heard_by, heard_in, heard_msm, heard_of, is_own, unlisted_in}
pub use Rattle.obs_epoch.specs.Kinds.{is_close_first, kind_at, kind_of}
pub use Rattle.obs_epoch.specs.Laws.{AllClosed, ClosedComeFirst, NoneReturned}
pub use Rattle.obs_epoch.specs.Loss.{times}
pub use Rattle.obs_epoch.specs.Reach.{EpochsAreGathered, IsHeard, MessagesAreHeard}
pub use Rattle.obs_epoch.specs.Thinning.{counts_left_out, thin_after}
pub use Rattle.obs_epoch.specs.Times.{Timed, taken_at, timed, timed_after}
pub use Rattle.obs_epoch.specs.declared.choice.Choice.{Choice}
pub use Rattle.obs_epoch.specs.declared.setup.GatherSetup.{GatherSetup}
pub use Rattle.obs_epoch.specs.declared.taken.CellCounts.{CellCounts}
pub use Rattle.obs_epoch.specs.declared.taken.Kind.{Kind}
pub use Rattle.obs_epoch.specs.declared.taken.Taken.{Taken}
pub use Rattle.obs_epoch.specs.inner.Calls.{EndsPendingEpoch, TakesMessage}
pub use Rattle.rinex_file.specs.File.{change_text, closed_text, epoch_text, event_text, file_text, gathered, header_text}
pub use Rattle.rinex_file.specs.FileValues.{AreTexts}
pub use Rattle.rinex_file.specs.Gathered.{AreSignals, HasSatellite, IsGatheredFile}
pub use Rattle.rinex_file.specs.Texts.{HeaderLists}
pub use Rattle.rtcm_bits.proofs.SmallLaws.{length-filter-le, length-filter_map-le, on_failure, passed}
pub use Rattle.rtcm_bits.specs.FrameOf.{longest_frame}
pub use Rattle.rtcm_bits.specs.Prefix.{IsPrefix}
pub use Rattle.rtcm_convert.specs.Broken.{FailedWriting, FailedWritingAtEnd, IsBroken, joined_pieces}
pub use Rattle.rtcm_convert.specs.Conversion.{Completed, CompletedEmpty, CompletesEmptyFile, CompletesFile, Conversion, CutsAtLimit, FailsAtEnd, FailsAtPiece, FailsFeeding, FailsFinishing, HasConverted, ForFinished, HasFinished, IsGoing, LeftBy, RanToFault, RanToLimit, WritesAdded, kept_of, refusal}
unfoldable pub use Rattle.rtcm_convert.specs.Converted.{text_of_epochs}
pub use Rattle.rtcm_convert.specs.Converted.{SetupValue, epoch_counts, epochs_in, file, message_of, messages_of, so_far, text_with, written_epochs}
pub use Rattle.rtcm_convert.specs.Faults.{FailsWithReader, FailsWithWriter, IsFinishFault, IsOfNone, IsPiecesFault, IsRunFault, IsSentAfter, IsSetupFault, fault_of_none}
pub use Rattle.rtcm_convert.specs.Fed.{AppendsBetween, AppendsPrefixBetween, AppendsUpTo}
pub use Rattle.rtcm_convert.specs.Filed.{HasFiledEpochs, HasFiledFrames, Settled, added, epochs_after, interval_in, last_values, opening, values_after, values_following_closed}
pub use Rattle.rtcm_convert.specs.Kept.{IsKeptAtEnd, IsWithinBounds, locks_at, locks_in_all}
pub use Rattle.rtcm_convert.specs.Laws.{AreMessagesPlain, FiledGrows, FiledStays, IsCountedOnce, IsFileText, NothingYet, WrittenGrows, WrittenStays}
pub use Rattle.rtcm_convert.specs.Made.{IsMade, IsMadeEmpty, IsMadeToLimit, IsMadeWith}
pub use Rattle.rtcm_convert.specs.Outcomes.{AreFew, AreFewCells, capped, cell_counts, is_kind, outcome, outcomes, outcomes_after, report_of, report_with, tally_of, tally_with}
pub use Rattle.rtcm_convert.specs.Pieces.{StopsInPieces}
pub use Rattle.rtcm_convert.specs.Readable.{AreSound, HasValue, IsReadable}
pub use Rattle.rtcm_convert.specs.SetupValues.{IsBad, IsBadStart, setup_value}
pub use Rattle.rtcm_convert.specs.Stream.{AppendsDecided, AppendsPrefixOfDecided, Drained, HasDrained}
pub use Rattle.rtcm_convert.specs.declared.fault.Fault.{Fault}
pub use Rattle.rtcm_convert.specs.declared.fault.Fault.TheVariants.{BadSetup, Failed, Finished, Memory, NoEpoch, NoneChosen, Read, TooLong, Write}
pub use Rattle.rtcm_convert.specs.declared.file_writer.FileWriter.{FileWriter}
pub use Rattle.rtcm_convert.specs.declared.report.Report.{Report}
pub use Rattle.rtcm_convert.specs.declared.setup.Setup.{Setup}
pub use Rattle.rtcm_convert.specs.inner.Conversion.{FinishesEmptyNow, FinishesNow, IsFit, KeepsNow, StopsAtEnd, TakesPiece, WritesPrefixOfAdded}
pub use Rattle.rtcm_convert.specs.inner.Steps.{BreaksInMessage, BreaksInNext, BreaksInRest, CountsFrame, EndsFile, IsFinalKind, IsKindOf, IsKindOfNext, IsTakenAgain, TakesNext, WritesFirst}
pub use Rattle.rtcm_convert.specs.inner.Stream.{BreaksAtEndOf, BreaksFiling, EndsBytes, Files, HasDrainedSome}
pub use Rattle.rtcm_msg.specs.Decoding.{message_with}
pub use Rattle.rtcm_msg.specs.Encoding.{IsMessage}
unfoldable pub use Rattle.rtcm_msg.specs.Entries.{chosen}
pub use Rattle.rtcm_msg.specs.Entries.{all_pairs, cell_pairs, entries_in, entry_in}
pub use Rattle.rtcm_msg.specs.Msm.{AreMasks, MasksValue, MsmValue}
pub use Rattle.rtcm_msg.specs.declared.entry.Entry.{Entry}
pub use Rattle.rtcm_msg.specs.declared.fault.MsgFault.{MsgFault}
pub use Rattle.rtcm_msg.specs.declared.message.Message.{Message}
pub use Rattle.rtcm_msg.specs.declared.number.MsmSet.{MsmSet}
pub use Rattle.rtcm_msg.specs.inner.Viewed.{viewed_message}
unfoldable pub use Rattle.rtcm_scan.specs.Decided.{decided_frames, frames_before}
pub use Rattle.rtcm_scan.specs.Decided.{skipped_before}
pub use Rattle.rtcm_scan.specs.Drained.{IsDrained}
pub use Rattle.rtcm_scan.specs.Examined.{HasExamined, HasExaminedSome}
unfoldable pub use Rattle.rtcm_scan.specs.Frames.{frames_from, frames_of}
pub use Rattle.rtcm_scan.specs.Frames.{Framed}
pub use Rattle.rtcm_scan.specs.Known.{known_frames, known_place}
pub use Rattle.rtcm_scan.specs.Scan.{FramerValue, most_bytes}
pub use Rattle.rtcm_scan.specs.declared.feed.StreamFault.{StreamFault}
pub use Rattle.rtcm_scan.specs.declared.feed.StreamFault.TheVariants.{Sink}
pub use Rattle.rtcm_scan.specs.inner.Passing.{AtFault, Breaks, BreaksAfter, BreaksKnown, HasBroken, HasPassedAll, Passes, PassesKnown, PassesToLimit, Reads, ReadsOn, up_to_limit}
pub use Rattle.rtcm_scan.specs.inner.Results.{framed, new_scan}
pub use Rattle.std.proofs.Common.{Bool, Err, IfErr, IfOk, IsErrAnd, List, None, Ok, Option, Result, Some, [], add-zero, ap, append-nil, append_assoc, arith, drop, false, get_or, inl, inr, is_some, length-append, nat_lt, refl, rules, subst, suc, sym, take, true, true≢false, ℕ, ◌*◌, ◌++◌, ◌+◌, ◌-◌, ◌<◌, ◌||◌, ◌∙◌, ◌∷◌, ◌≡◌, ◌≢◌, ◌≤◌, ◌⊎◌}
pub use Rattle.std.proofs.KnownBytes.{Appends-kept, Appends-nil, Appends-trans, Consumes-whole}
pub use Rattle.std.proofs.Math.Seq.{take-length}
pub use Rattle.std.proofs.lemmas.Bool.{cases_Bool, false≢true}
pub use Rattle.std.proofs.lemmas.Bool.Decides.{Decides-int_eq}
pub use Rattle.std.proofs.lemmas.Grind.{common_steps, flat_map-append}
pub use Rattle.std.proofs.lemmas.List.{append_cancel_left, length-map, take-append-drop, take-append-le}
pub use Rattle.std.proofs.lemmas.List.Elements.{filter-append, filter_map-append}
pub use Rattle.std.proofs.lemmas.List.Sums.{count_by-le-length, length-filter}
pub use Rattle.std.proofs.lemmas.Option.{IfSome_then}
pub use Rattle.std.proofs.lemmas.Result.{IfOk-weaker, on_err_weaker, on_ok_weaker}
pub use Rattle.std.specs.Io.KnownBytes.{Appends, Consumes, IsAtEnd, Keeps}
pub use Rattle.std.specs.List.{AllByRecursion, cons_option, filter_map, zip}
pub use Rattle.std.specs.Option.{option_map_or}
pub use Rattle.std.specs.Prelude.{IfSome, IsErrOf, OnErr, OnOk, Vec, count_by, filter, flat_map, if◌then◌else◌, is_none, length, max, option_map, option_to_list, sum_by, ⊤, ◌&&◌}
