-- What holds at every moment.
use Rattle.rtcm_scan.proofs.Names.{ℕ, ◌≡◌, ◌*◌, ◌≤◌, true, false, List, [], length, refl, arith, Framed, frames_of, frames_from, WindowValue, nothing_held, FramerValue, scan_of, HasFramed, first_held, new_scan, places, tried, decided, decided_frames, frames_before, IsDrained, greatest_below, spans_now, looks_at, spans_at, tried_before, HasExamined, longest_frame, most_looks, most_bytes, Bool}
use Rattle.rtcm_scan.proofs.BoundLemmas.{looks_bound, all_bound, greatest_bound}
use Rattle.rtcm_scan.proofs.HistoryLemmas.{history_end, history_from}

-- the bound on the bytes of the window is one of the held bytes
pub held_within : {v : FramerValue} {limit skipped tried : ℕ} {w : WindowValue} {ended ready : Bool} (place : ℕ) → scan_of limit place w ended ready skipped tried ≡ v → length w.bytes ≤ longest_frame → length v.held ≤ longest_frame
held_within place e h = rw (← e) h

pub most_moment : (v : FramerValue) (b : List ℕ) (fs : List Framed) → length v.held ≤ longest_frame → HasExamined v b fs → v.most ≤ most_looks
most_moment v b fs h x =
    let s : HasFramed v b fs = x.history in
    let g : greatest_below (looks_at (spans_at b fs (first_held v) v.tried)) (length b) ≤ most_looks =
    greatest_bound (looks_at (spans_at b fs (first_held v) v.tried)) (length b) most_looks (λ i. looks_bound v.has_ended b fs (first_held v) v.tried i s.scanned (omega arith)) in
    rw x.counts.greatest_is g

pub examined_moment : (v : FramerValue) (b : List ℕ) (fs : List Framed) → length v.held ≤ longest_frame → HasExamined v b fs → v.examined ≤ most_looks * length b
examined_moment v b fs h x = grind (arith, all_bound)

pub counts_end : (v : FramerValue) (b : List ℕ) (fs : List Framed) → HasExamined v b fs → HasExamined (record v { has_ended = true }) b fs
counts_end v b fs x = record { history = history_end v b fs x.history; limit = x.limit; within = x.within; each = x.each; tried = x.tried; counts = x.counts }

history_new : (limit : ℕ) → HasFramed (new_scan limit) [] []
history_new limit = history_from (new_scan limit) [] [] refl refl (omega arith) ((omega arith, λ q h k. absurd (omega arith))) refl

counts_empty : (limit : ℕ) → limit ≤ most_bytes → HasFramed (new_scan limit) [] [] → HasExamined (new_scan limit) [] []
unfolding tried_before places greatest_below
counts_empty limit h s = grind arith

pub counts_new : (limit tried : ℕ) (w : WindowValue) → limit ≤ most_bytes → w ≡ nothing_held → tried ≡ 0 → HasExamined (scan_of limit 0 w false true 0 tried) [] []
counts_new limit tried w h e z = rw (e, z) (counts_empty limit h (history_new limit))

pub drained_new : (limit tried : ℕ) (w : WindowValue) → w ≡ nothing_held → IsDrained (scan_of limit 0 w false true 0 tried) [] []
unfolding spans_now tried decided decided_frames frames_of frames_before frames_from places greatest_below
drained_new limit tried w e = rw e (record { frames = refl; held = refl; skipped = refl; examined = refl; most = refl })
