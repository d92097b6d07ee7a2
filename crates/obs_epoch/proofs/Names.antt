-- The names that proofs cite, passed on from one place. Declares nothing.
pub use Rattle.gnss_obs.proofs.OrderLaws.{all-insert_by, sort_moves}
pub use Rattle.gnss_obs.proofs.TableLaws.{id_back, ids_within}
pub use Rattle.gnss_obs.specs.Channels.{AreChannels, ChannelsValue, hertz_by, hertz_in, number_at, slot_count}
pub use Rattle.gnss_obs.specs.GatheredEpochs.{AreGathered, AreGatheredEpochs, AreStationValues, IsGathered, IsGatheredEpoch, TimesRise, same_place}
pub use Rattle.gnss_obs.specs.HeardCells.{HeardCell, IsKey, has_same_key, heard_cell, kept_cell}
pub use Rattle.gnss_obs.specs.LockTimes.{LockTime}
pub use Rattle.gnss_obs.specs.Marked.{marked_at, marked_in, with_mark}
pub use Rattle.gnss_obs.specs.Observables.{nearest_doppler, nearest_phase, nearest_pseudorange, nearest_strength}
pub use Rattle.gnss_obs.specs.Order.{AreSortedByPlan, cell_sort_key, insert_by, sort_key_of, sorted}
pub use Rattle.gnss_obs.specs.Plans.{place_in}
unfoldable pub use Rattle.gnss_obs.specs.Values.{written_among}
pub use Rattle.gnss_obs.specs.Values.{CellLists, Closed, EpochValue, IsHeld, PlanValue, cells_of, empty_epoch, is_written, most_cells, no_cells, no_values, plan_with, planned_of, satellites_written}
pub use Rattle.gnss_obs.specs.Weeks.{weeks}
pub use Rattle.gnss_obs.specs.declared.cell.Cell.{Cell}
pub use Rattle.gnss_obs.specs.declared.cell.StationValues.{StationValues}
pub use Rattle.gnss_obs.specs.declared.epoch_cells.Added.{Added}
pub use Rattle.gnss_obs.specs.inner.Arriving.{IsAdded, cells_after, outcome_by, sorted_epoch}
pub use Rattle.gnss_obs.specs.inner.PlanOrder.{HasPlannedCells, IsPlanned, is_held}
pub use Rattle.gnss_system.proofs.SystemLaws.{Below, Passed, any_system, each_after, each_system, equal_values, is_tabulated, listed_of, passed_all, short_table, sum_grown, system_same, system_self, tabulated_same, value_after, value_tabulated, with_same as same_after}
pub use Rattle.gnss_system.specs.Satellites.{IsSatellite, Satellite, satellite_of_id, satellite_set, satellites}
pub use Rattle.gnss_system.specs.Signals.{IsSignal, SignalAt, first_key, id_of, keys_of, most_hertz, most_signals, signal_of_id, table}
pub use Rattle.gnss_system.specs.SystemValues.{of_two, tabulate, value_of, with_value_of}
pub use Rattle.gnss_system.specs.Systems.{is_system, systems}
pub use Rattle.gnss_system.specs.declared.by_system.BySystem.{BySystem}
pub use Rattle.gnss_system.specs.declared.system.System.{System}
pub use Rattle.gnss_system.specs.declared.system.System.TheVariants.{Galileo, Glonass, Gps}
pub use Rattle.gnss_system.specs.declared.tables.ListedSignal.{ListedSignal}
pub use Rattle.obs_epoch.proofs.WholeSteps.{closed_if, end_step, loaded_if, take_step}
pub use Rattle.obs_epoch.specs.Cells.{add, cells_at, cells_counted, counts_of, counts_of_message, firsts, firsts_after, has_listed_key, is_among, is_of_system, is_planned, kept, kept_of_all, kept_without, lacks_channel, no_counts, offered, with_skipped}
pub use Rattle.obs_epoch.specs.Choices.{every_epoch, in_window, is_chosen, on_grid}
pub use Rattle.obs_epoch.specs.Clock.{HasHeardMessages, State, closes_first, is_pending}
pub use Rattle.obs_epoch.specs.Epochs.{cells_with_lli, closed_so_far, closed_times, epoch_at, epochs, is_shut, values_after_message, values_of}
pub use Rattle.obs_epoch.specs.GathererAfter.{GathererValue, HasAsManyCells, HasTakenMessages, Locked, TracksLocks, epoch_in, held_at, lock_place, locked_in, lookup, most_locks, recorded, time_in}
pub use Rattle.obs_epoch.specs.GathererHistory.{AreMarks, HasGatheredEpochs, IsAwaited, all_epochs, before_closing, capped_counts, closed_at, closed_by, closed_list, closed_list_at, closed_so_far_of, is_done, is_lost_in, known_epochs, open_after, returned_epoch, whole_list}
pub use Rattle.obs_epoch.specs.Heard.{GatherSetup, Heard, ends_epoch, heard, heard_by, heard_of, heard_summary, is_own, lock_by, observed, seen_in, tow_of, unlisted_in, without_cells}
pub use Rattle.obs_epoch.specs.Kinds.{is_accepted, is_close_first, kind_after, kind_of, with_counts}
pub use Rattle.obs_epoch.specs.Loss.{has_lost, is_locked, last_of, latest_in, lli_of, lli_with, lock_of, locked_at, previous, times}
pub use Rattle.obs_epoch.specs.Reach.{IsHeard, IsHeardCell}
pub use Rattle.obs_epoch.specs.Sets.{is_always_decoded, is_decoded, set_of}
pub use Rattle.obs_epoch.specs.SignalCounts.{brings_value, count_of, every_channel, is_of_signal, signal_in, valued}
unfoldable pub use Rattle.obs_epoch.specs.Starts.{first_week}
pub use Rattle.obs_epoch.specs.Starts.{IsGivenWeek, IsNearestFirst, IsWeekOfWeeks}
pub use Rattle.obs_epoch.specs.Thinning.{after_latest, all_cells, counts_among, counts_left_out, ends_carrying, has_cell, has_phase, has_satellite, is_left_out, is_marked, lost_before, mark_if, marked_after, marked_epoch, thin, thin_after}
pub use Rattle.obs_epoch.specs.Times.{Timed, ahead, from_first, greatest_time, is_at, is_closed, is_late, is_past, max_known, taken_at, time_of, timed, timed_after}
pub use Rattle.obs_epoch.specs.declared.choice.Choice.{Choice}
pub use Rattle.obs_epoch.specs.declared.locks.KnownLock.{KnownLock}
pub use Rattle.obs_epoch.specs.declared.taken.CellCounts.{CellCounts}
pub use Rattle.obs_epoch.specs.declared.taken.Kind.{Kind}
pub use Rattle.obs_epoch.specs.declared.taken.Kind.TheVariants.{CloseFirst}
pub use Rattle.obs_epoch.specs.inner.Calls.{IsCloseFirstExactly}
pub use Rattle.obs_epoch.specs.inner.GathererSteps.{Loaded, begun_by, cleared_if, closed_noted, epoch_begun, epoch_with, hold, hold_by, load, load_entries, load_entry, load_one, loaded_where, noted, outcome_in, planned_cell, shut_where, thinned, thinned_if, with_more, with_time, with_unlisted}
pub use Rattle.obs_epoch.specs.inner.Held.{CellOutcome, Crowded, Kept, Repeated, Skipped, count_in, no_locks, note, note_all, note_systems, outcome_of, outcome_of_added, put}
pub use Rattle.obs_epoch.specs.inner.Marks.{any_loss, carried_from, carried_to, counted_epoch, has_loss, mark_at, no_marks, note_losses, note_lost, note_systems_lost, with_mark_in}
pub use Rattle.obs_epoch.specs.inner.SignalCounts.{AreSignalCounts, CountsMessage, SignalCountsValue, counted, counted_more, signal_counts}
pub use Rattle.obs_epoch.specs.inner.Step.{KeepsEpoch, closed_of, closed_time, closed_time as closes, ended_where, is_first_at, is_late_at, is_same, kind_by, open_by, step_by}
pub use Rattle.rtcm_bits.proofs.SmallLaws.{length-filter-le, length-filter_map-le, prefix_self, prefix_trans, all_append, all_filter, all_passed, get_or-same}
pub use Rattle.rtcm_bits.specs.Bits.{bits_of, odd}
pub use Rattle.rtcm_bits.specs.Prefix.{IsPrefix}
pub use Rattle.rtcm_msg.specs.Bounds.{EntriesAreMeasured, IsMeasured, PointsAreInRange}
pub use Rattle.rtcm_msg.specs.Decoding.{message_at, message_with}
pub use Rattle.rtcm_msg.specs.Encoding.{IsMessage, other_of}
pub use Rattle.rtcm_msg.specs.Entries.{entries}
pub use Rattle.rtcm_msg.specs.Msm.{week}
pub use Rattle.rtcm_msg.specs.declared.entry.Entry.{Entry}
pub use Rattle.rtcm_msg.specs.declared.message.Message.{Message}
pub use Rattle.rtcm_msg.specs.declared.message.Message.TheVariants.{Msm, Other, Station}
pub use Rattle.rtcm_msg.specs.declared.view.Form.{Form}
pub use Rattle.rtcm_msg.specs.inner.ValueCounts.{has_id, has_listed_value, is_in, value_count}
pub use Rattle.rtcm_msg.specs.Forms.{FormedMsm}
pub use Rattle.rtcm_msg.specs.inner.Viewed.{viewed_message}
pub use Rattle.std.proofs.Common.{All, Bool, Err, IfSome, List, None, Ok, Option, Result, Some, [], ap, append-nil, append_assoc, ap₂, arith, cond, count_by, drop, false, filter, filter_map, find, flat_map, fold, get_or, if◌then◌else◌, inl, inr, is_some, length, length-append, length-set, length-take-le, map, nat_le, nat_lt, not, option_and_then, option_map, option_to_list, pos, position, refl, replicate, rules, set, slice_get, subst, suc, sym, take, take_all, true, unsigned_abs, unwrap_or, zero, ℕ, ℤ, ◌%◌, ◌&&◌, ◌*◌, ◌++◌, ◌+◌, ◌-◌, ◌/◌, ◌<◌, ◌==◌, ◌^◌, ◌||◌, ◌∙◌, ◌∷◌, ◌≡◌, ◌≤ℤ◌, ◌≤◌, ◌⊎◌}
pub use Rattle.std.proofs.Math.Bool.{or-false}
pub use Rattle.std.proofs.lemmas.Bool.{and_parts, cases_lt, eqb-true, le-ltb, leb-true, lt-ltb, ltb-false, ltb-true, true≢false, not-true, or_parts, or_right, both_ways, eq-eqb}
pub use Rattle.std.proofs.lemmas.Grind.{common_steps, flat_map-append}
pub use Rattle.std.proofs.lemmas.List.{get_or-replicate, length-replicate, map-append, append_cancel_right, get_or-set_same, get_or-set_other, length-map}
pub use Rattle.std.proofs.lemmas.List.Elements.{All-nil, All-push, filter-append, filter_map-append}
pub use Rattle.std.proofs.lemmas.List.Folds.{list_any-append}
pub use Rattle.std.proofs.lemmas.Option.{same_Some}
pub use Rattle.std.proofs.lemmas.List.Sorted.{length_permutation, list_any-IsPermutation}
pub use Rattle.std.proofs.lemmas.List.Sums.{fold-append, sum_by-cons, sum_by_push}
pub use Rattle.std.proofs.lemmas.Map.Keys.{IsDistinct-IsPermutation, IsDistinct-head, IsDistinct-push, IsDistinct-tail}
unfoldable pub use Rattle.std.specs.List.{IsDistinct}
pub use Rattle.std.specs.List.{AllByRecursion, cons_option, list_any}
pub use Rattle.std.specs.Option.{option_map_or, option_or}
pub use mathlib.Core.Bool.{beq}
