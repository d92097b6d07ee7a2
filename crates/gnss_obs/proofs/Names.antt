-- The names that proofs cite, passed on from one place. Declares nothing.
pub use Rattle.gnss_obs.specs.Arriving.{sorted_cells}
pub use Rattle.gnss_obs.specs.Channels.{channel_hertz, most_number, slot_count}
pub use Rattle.gnss_obs.specs.Dates.{IsCivil, IsCivilOf, YearMonthDay, civil_of, clock_of, date_of, month_length, month_on, year_length, year_on}
pub use Rattle.gnss_obs.specs.HeardCells.{IsObserved, heard_cell, same_key}
pub use Rattle.gnss_obs.specs.LockTimes.{least4, least7, lost, time_of, times4, times7}
pub use Rattle.gnss_obs.specs.Marked.{marked_at, with_mark}
pub use Rattle.gnss_obs.specs.Observables.{doppler_by, light, nearest_doppler, nearest_phase, nearest_pseudorange, nearest_strength, phase_by, strength_digit}
pub use Rattle.gnss_obs.specs.Order.{AreOrderedBy, AreSorted, IsLeastNext, Rise, RiseTo, SortKey, SortKeysRise, cell_sort_key, insert_by, is_before, unsorted}
pub use Rattle.gnss_obs.specs.Plans.{CodesNameSignals, HasSignal, IsTaken, below, between_commas, has_signal, if_planned, is_first_listed, is_nil, is_none_planned, one_signal_more, place_in, plan_by, plan_of, planned_signal, signals_after, signals_coded, signals_in, signals_of}
pub use Rattle.gnss_obs.specs.Rounding.{IsNearest, IsRounded, nearest, nearest_size}
pub use Rattle.gnss_obs.specs.SignalLists.{indices}
unfoldable pub use Rattle.gnss_obs.specs.Values.{written_among}
pub use Rattle.gnss_obs.specs.Values.{AreHeld, CellLists, IsHeld, PlanValue, cells_of, has_value, is_of_satellite, is_written, no_cells, plan_with, planned_of, run}
pub use Rattle.gnss_obs.specs.Weeks.{week, weeks}
pub use Rattle.gnss_obs.specs.declared.cell.Cell.{Cell}
pub use Rattle.gnss_obs.specs.declared.cells.Cells.{Cells}
pub use Rattle.gnss_obs.specs.declared.civil.Civil.{Civil}
pub use Rattle.gnss_obs.specs.declared.epoch_cells.Added.{Added}
pub use Rattle.gnss_obs.specs.declared.fault.PlanFault.{PlanFault}
pub use Rattle.gnss_obs.specs.declared.fault.PlanFault.TheVariants.{Memory, NothingPlanned, RepeatedCode, UnknownCode}
pub use Rattle.gnss_obs.specs.inner.Arriving.{AddsCell, AreBelow, AreKept, HasSatellites, IsAdded, IsFound, cell_number, has_slot, outcome_by, slot}
pub use Rattle.gnss_obs.specs.inner.PlanOrder.{IsPlanned, is_held}
pub use Rattle.gnss_obs.specs.inner.SignalLists.{AreAdded, AreFound, ArePlanned, AreRead, AreRows, BeginsWithOwn, DoneOr, HasOwn, IsDefined, IsMade, IsMemoryFaultOr, IsOf, IsPlanResult, IsUnfit, IsUnfitAfter, IsUnplanned, MayAdd, MayTakeCode, RefusesCode, TakesCode}
pub use Rattle.gnss_system.proofs.CheckedLaws.{flip_false, passes_at, passes_below, unless_less}
pub use Rattle.gnss_system.proofs.SystemLaws.{Below, Passed, below_all, below_next, each_after, each_system, equal_values, is_tabulated, mapped_after, passed_all, sum_none, sum_some, value_mapped, value_tabulated}
pub use Rattle.gnss_system.specs.Satellites.{Satellite, satellites, satellites as satellites_in}
pub use Rattle.gnss_system.specs.Signals.{IsSignal, SignalAt, after, greatest_signal_id, hertz_of, id_of, most_hertz, most_signals, rows, signal_at, signal_of_code, signal_of_id, signal_where, table}
pub use Rattle.gnss_system.specs.SystemValues.{map_by, value_of, with_value_of}
pub use Rattle.gnss_system.specs.Systems.{index_of, systems}
pub use Rattle.gnss_system.specs.declared.by_system.BySystem.{BySystem}
pub use Rattle.gnss_system.specs.declared.system.System.{System}
pub use Rattle.gnss_system.specs.declared.system.System.TheVariants.{Glonass}
pub use Rattle.gnss_system.specs.declared.tables.ListedSignal.{ListedSignal}
pub use Rattle.jiff_core.proofs.DateLemmas.{cases_date, civil as valid_date, epoch_day-lt, epoch_day_injective, epoch_day_range}
pub use Rattle.jiff_core.proofs.SignedLemmas.{signed_arith}
unfoldable pub use Rattle.jiff_core.specs.Calendar.{day_count, days_from_civil, days_of_months, days_of_years}
pub use Rattle.jiff_core.specs.Calendar.{IsCivilDate, IsDate, IsYear, days_in_month, days_in_year}
pub use Rattle.jiff_core.specs.Date.{IsYmd, epoch_day}
unfoldable pub use Rattle.jiff_core.specs.DateTime.{civil_nanos}
pub use Rattle.jiff_core.specs.declared.civil.date.Date.{Date}
pub use Rattle.std.proofs.Common.{All, Bool, Bor, Box, Err, Fits, FitsSigned, Global, IfErr, IfNone, IfOk, IfSome, IsOk, IsPermutation, IsSome, List, MatchResult, None, Ok, OnErr, Option, Result, Some, T, [], ap, append-nil, ap₂, arith, bytes_eq, codes, cond, drop, false, filter, fold, get_or, if◌then◌else◌, inl, inr, int_div, int_lt, is_err, is_ok, is_some, length, length-set, lit<, map, max, nat_abs, nat_eq, nat_lt, neg_ℤ, negsuc, not, of_z, option_and_then, option_copied, option_map, pos, position, refl, rules, set, slice_get, slice_index_or, slice_set, subst, suc, sym, take, to_z, to_z-of_z, true, true≢false, unsigned_abs, unwrap_or, w16, w32, w64, w8, zero, ℕ, ℤ, ◌%◌, ◌&&◌, ◌*ℤ◌, ◌*◌, ◌++◌, ◌+ℤ◌, ◌+◌, ◌-ℤ◌, ◌-◌, ◌/◌, ◌<ℤ◌, ◌<◌, ◌==◌, ◌^◌, ◌||◌, ◌↔◌, ◌∙◌, ◌∷◌, ◌≡◌, ◌≢◌, ◌≤ℤ◌, ◌≤◌, ◌⊎◌}
pub use Rattle.std.proofs.Math.IntN.{negsuc-*ℤ-pos}
pub use Rattle.std.proofs.lemmas.Bool.{and_parts, eq-eqb, eqb-true, ltb-false, ltb-true, ne_eqb, not-false, not-true}
pub use Rattle.std.proofs.lemmas.Cmp.{nat_eq_equiv}
pub use Rattle.std.proofs.lemmas.Grind.{common_steps, get_or-set_at}
pub use Rattle.std.proofs.lemmas.Int.{ints, unsigned_abs-mul}
pub use Rattle.std.proofs.lemmas.List.{append_assoc, get_or-append-add, get_or-map, get_or-replicate, get_or-set_other, get_or-set_same, get_or_append_left, length-append, length-map, length_push, map-append, take_more}
pub use Rattle.std.proofs.lemmas.List.Elements.{All-append, All-cons, All-from_recursion, All-get_or, All-head, All-map, All-nil, All-push, All-replicate, All-tail, All-weaker, recursion_from_All}
pub use Rattle.std.proofs.lemmas.List.Quantifiers.{position-Some}
pub use Rattle.std.proofs.lemmas.List.Sorted.{All-permutation, IsPermutation-append_right, IsPermutation-cons, IsPermutation-map, IsPermutation-middle, IsPermutation-refl, IsPermutation-sym, IsPermutation-trans, length_permutation}
pub use Rattle.std.proofs.lemmas.Map.Keys.{IsDistinct-IsPermutation, IsDistinct-head, IsDistinct-push, IsDistinct-tail, apart_from_distinct}
pub use Rattle.std.proofs.lemmas.Nat.{and_le_l, mul-le}
pub use Rattle.std.proofs.lemmas.Option.{slice_get-get_or, slice_get_past, slice_get_read}
pub use Rattle.std.proofs.lemmas.Result.{IfOk-at_ok, err_from_is_err_and}
pub use Rattle.std.specs.Int.{IsInRange, bit_at, bit_not, trailing_zeros, w128}
unfoldable pub use Rattle.std.specs.List.{IsDistinct}
pub use Rattle.std.specs.List.{AllByRecursion, after_first, before_first, list_all, list_any, position_from, position_or_len, sum_by}
pub use Rattle.std.specs.Option.{option_map_or}
pub use lib.Signed.{non_neg}
