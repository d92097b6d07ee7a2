-- The names that proofs cite, passed on from one place. Declares nothing.
unfoldable pub use Rattle.rtcm_bits.specs.Bits.{bits_of, number_from, uint}
unfoldable pub use Rattle.rtcm_bits.specs.Crc.{add_front, bits_remainder, crc, generator, remainder}
pub use Rattle.rtcm_bits.specs.FrameOf.{frame_bytes, frame_header, longest_frame, longest_message, preamble, three_bytes}
pub use Rattle.rtcm_bits.specs.Prefix.{IsPrefix}
pub use Rattle.rtcm_bits.proofs.SmallLaws.{on_failure, prefix_self, prefix_trans, wrapped, all_append}
pub use Rattle.rtcm_bits.specs.Window.{WindowValue, looked, looked_through, nothing_held, pushed_all, without_front}
pub use Rattle.rtcm_scan.specs.inner.Candidate.{HasReadMore, HasTaken, wanted_by}
unfoldable pub use Rattle.rtcm_scan.specs.Decided.{decided, decided_frames, frames_before, is_tried, places, tried}
pub use Rattle.rtcm_scan.specs.Decided.{cost, is_inside, is_within, most_undecided, skipped_before}
pub use Rattle.rtcm_scan.specs.Drained.{IsDrained, known_examined, known_most}
pub use Rattle.rtcm_scan.specs.Examined.{AcceptsBytes, HasExamined, HasExaminedSome, IsCountedTo, KeepsHistory}
unfoldable pub use Rattle.rtcm_scan.specs.Frame.{begins_frame, is_open}
pub use Rattle.rtcm_scan.specs.Frame.{frame_length, framed_message, has_preamble, message_length, sent_check}
unfoldable pub use Rattle.rtcm_scan.specs.Frames.{frames_from, frames_of}
pub use Rattle.rtcm_scan.specs.Frames.{AreFrames, Framed, IsFrameOf, IsInside, frame_end, framed_at}
pub use Rattle.rtcm_scan.specs.Known.{known_frames}
pub use Rattle.rtcm_scan.specs.Local.{HasNoOtherFrame, StaysLocal, frame_place, placed, stream_after}
unfoldable pub use Rattle.rtcm_scan.specs.Looks.{greatest_below, spans_now, spans_of, tried_before}
pub use Rattle.rtcm_scan.specs.Looks.{CountsLooks, Span, all_looks, covers, examined, examined_now, examined_spans, looks_at, most, most_looks, most_now, span, spans_at}
pub use Rattle.rtcm_scan.specs.inner.Passing.{AtFault, Breaking, Breaks, BreaksAfter, BreaksKnown, BreaksReading, Coming, Continues, HasBroken, HasPassed, HasPassedAll, HasReadPiece, IsReadingOn, IsSameStream, Passes, PassesAll, PassesKnown, PassesPushed, PassesToLimit, Reads, ReadsOn}
pub use Rattle.rtcm_scan.specs.inner.Pending.{asked, passed, with_candidate_examined}
unfoldable pub use Rattle.rtcm_scan.specs.inner.Results.{decision}
pub use Rattle.rtcm_scan.specs.inner.Results.{frame_at, if_missing, new_scan}
pub use Rattle.rtcm_scan.specs.Scan.{AllPassed, FramerValue, HasFramed, IsPassed, IsScannedOn, Scanned, first_held, most_bytes, scan_of, window_of, with_bytes, with_looks, with_window}
pub use Rattle.rtcm_scan.specs.declared.candidate.Candidate.{Candidate}
pub use Rattle.rtcm_scan.specs.declared.feed.StreamFault.{StreamFault}
pub use Rattle.rtcm_scan.specs.declared.front.Decision.TheVariants.{Found, Open, Passed}
pub use Rattle.std.proofs.Common.{Bool, List, Option, [], add-one, add-zero, ap, arith, cond, drop, false, get_or, inl, inr, leb, length, length-append, length-set, length-take, ltb, map, max, min, nat_eq, not, refl, replicate, set, slice_index, slice_range, subst, suc, sum_by, sym, take, take_all, true, zero, ℕ, ⊎_elim, ◌%◌, ◌&&◌, ◌*◌, ◌++◌, ◌+◌, ◌-◌, ◌/◌, ◌<◌, ◌||◌, ◌↔◌, ◌∙◌, ◌∷◌, ◌≡◌, ◌≢◌, ◌≤◌, ◌⊎◌}
pub use Rattle.std.proofs.KnownBytes.{Consumes-nil, Consumes-trans}
pub use Rattle.std.proofs.Math.Seq.{take-add, take-append-add}
pub use Rattle.std.proofs.lemmas.Bool.{and_cases, and_from, and_left, and_right, cases_Bool, cases_eq, cases_lt, eq-eqb, le-leb, le-ltb, lt-leb, lt-ltb, ltb-false, ne_eqb, or_left, or_right, true≢false}
pub use Rattle.std.proofs.lemmas.Grind.{common_steps}
pub use Rattle.std.proofs.lemmas.List.{append-nil, append_assoc, drop-append-le, drop-drop, drop_all, drop_at, drop_more, get_or-drop, get_or-set_other, get_or-set_same, get_or_append_left, get_or_push, length-drop, length-take-le, length_push, map-append, nil_from_length, take-append-drop, take-append-le, take_at, take_more, take_rest}
pub use Rattle.std.proofs.lemmas.List.Concat.{flat_map-append}
pub use Rattle.std.proofs.lemmas.List.Elements.{All-cons, All-contains, All-drop, All-head, All-nil, All-tail, All-weaker, Contains-append_right, filter-append}
pub use Rattle.std.proofs.lemmas.List.Folds.{list_any-append}
pub use Rattle.std.proofs.lemmas.List.Kept.{AllPairs-cons}
pub use Rattle.std.proofs.lemmas.List.Sums.{prefix_len_is, sum_by-append, sum_by-cons, sum_by_push}
pub use Rattle.std.proofs.lemmas.Result.{on_err_weaker, on_ok_weaker}
pub use Rattle.std.specs.Io.KnownBytes.{Consumes, IsAtEnd}
pub use Rattle.std.specs.List.{All, AllPairs, Any, Contains, count_by, filter, flat_map, list_any}
pub use Rattle.rtcm_bits.proofs.WindowLaws.{looked_on, looked_bytes, looked_left, looked_past, looked_to, looked_length}
