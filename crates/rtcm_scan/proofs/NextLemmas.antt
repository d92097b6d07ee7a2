-- The state after the steps of `next`.
use Rattle.rtcm_scan.proofs.Names.{ℕ, ◌≡◌, ◌+◌, ◌-◌, ◌<◌, ◌≤◌, true, false, List, [], ◌∷◌, ◌++◌, length, refl, sym, ap, ◌∙◌, arith, subst, length-drop, nil_from_length, begins_frame, is_open, frame_length, framed_message, Framed, looked_through, without_front, FramerValue, HasFramed, first_held, IsPassed, window_of, with_window, asked, with_candidate_examined, passed, HasExamined, IsCountedTo, message_length, IsDrained, looked_bytes}
use Rattle.rtcm_scan.proofs.StepLemmas.{step_examined, step_give_up, step_take}
use Rattle.rtcm_scan.proofs.KnownLemmas.{counted_empty, counted_open, counted_frame}
use Rattle.rtcm_scan.proofs.FrameLemmas.{length-message, begins_parts}
use Rattle.rtcm_scan.proofs.DecidedLemmas.{none_past, decided_frames_are, decided_is}
use Rattle.rtcm_scan.proofs.DrainedLemmas.{drained_ended}
use Rattle.rtcm_scan.proofs.SkippedLemmas.{given_up_is}

-- the state after take_frame
abbrev frame_taken : FramerValue → ℕ → FramerValue
frame_taken u size = with_window u (without_front (looked_through (window_of u) 3 (size - 6)) size) 0

-- the byte at the front is in no frame
pub counts_passed : {u w : FramerValue} {b : List ℕ} {fs : List Framed} (v : FramerValue) → u ≡ with_candidate_examined v → w ≡ passed u → 0 < length v.held → IsPassed v.has_ended v.held → v.tried ≤ asked v.held
    → HasExamined v b fs → HasExamined w b fs
counts_passed {b} {fs} v e f h p t x = rw (f, e) (step_give_up (with_candidate_examined v) b fs h refl p (step_examined v b fs t x))

-- if a frame begins at the front
pub found_begins : (v u : FramerValue) (size : ℕ) → u ≡ with_candidate_examined v → (begins_frame v.held ≡ true) × (size ≡ frame_length v.held)
    → (begins_frame u.held ≡ true) × (size ≡ frame_length u.held) × (u.tried ≡ asked u.held)
found_begins v u size e f = rw e (f.0, f.1, refl)

pub found_counts : (v u : FramerValue) (b : List ℕ) (fs : List Framed) → u ≡ with_candidate_examined v → v.tried ≤ asked v.held → HasExamined v b fs → HasExamined u b fs
found_counts v u b fs e t x = rw e (step_examined v b fs t x)

abbrev pub found : FramerValue → Framed
found v = record { offset = first_held v; message = framed_message v.held }

pub left_found : (v w : FramerValue) (size : ℕ) → w ≡ frame_taken v size → length w.held ≡ length v.held - size
left_found v w size g = ap (λ (y : FramerValue). length y.held) g ∙ length-drop size _ ∙ ap (λ q. length q - size) (looked_bytes (window_of v) 3 (size - 6))

pub less_found : (v w : FramerValue) (size : ℕ) → w ≡ frame_taken v size → size ≡ frame_length v.held → begins_frame v.held ≡ true → length w.held < length v.held
less_found v w size g z h =
    let a : frame_length v.held ≤ length v.held = (begins_parts v.held h).1 in
    let l : length w.held ≡ length v.held - size = left_found v w size g in
    omega arith

-- the frame at the front is returned
pub counts_found : {w : FramerValue} {b : List ℕ} {fs : List Framed} {size : ℕ} {f : Framed} (v : FramerValue) → w ≡ frame_taken v size → size ≡ frame_length v.held → begins_frame v.held ≡ true
    → f ≡ found v → v.tried ≡ asked v.held → HasExamined v b fs → HasExamined w b (fs ++ f ∷ []) × IsCountedTo w b f.offset (fs ++ f ∷ [])
counts_found {w} {b} {fs} v g z h y t x =
    let r : HasExamined (frame_taken v (message_length v.held + 6)) b (fs ++ found v ∷ []) =
    (let q : message_length v.held ≡ message_length v.held + 6 - 6 = omega arith in
    subst (λ (k : ℕ). HasExamined (with_window v (without_front (looked_through (window_of v) 3 k) (frame_length v.held)) 0) b (fs ++ found v ∷ [])) q
    (step_take v b fs h t x)) in
    let k : frame_taken v (frame_length v.held) ≡ w = sym (rw (g, z) refl) in
    let r' : HasExamined w b (fs ++ found v ∷ []) = subst (λ (y : FramerValue). HasExamined y b (fs ++ found v ∷ [])) k r in
    let s : HasFramed v b fs = x.history in
    let l : length (framed_message v.held) ≡ message_length v.held = length-message v.held h in
    let a : frame_length v.held ≤ length v.held = (begins_parts v.held h).1 in
    let fit : length v.held ≤ v.taken = s.fits in
    let d : length w.held ≡ length v.held - frame_length v.held = left_found v w (frame_length v.held) (sym k) in
    let tk : w.taken ≡ v.taken = ap (λ (y : FramerValue). y.taken) (sym k) in
    let i : first_held w ≡ first_held v + (length (framed_message v.held) + 6) = omega arith in
    let tr : w.tried ≡ 0 = ap (λ (y : FramerValue). y.tried) (sym k) in
    rw y (r', counted_frame w b fs (found v) i tr (none_past v.has_ended b 0 (first_held v) fs s.scanned) r')

pub finish_empty : {v d w : FramerValue} {b : List ℕ} {fs : List Framed} → d ≡ v → w ≡ record d { is_ready = true } → length v.held ≡ 0 → HasExamined v b fs → HasExamined w b fs × IsDrained w b fs
finish_empty {v} {d} {w} {b} {fs} e f h x = grind (arith, counted_empty, nil_from_length, drained_ended, decided_is, decided_frames_are, given_up_is)

pub finish_open : {v u d w : FramerValue} {b : List ℕ} {fs : List Framed} → u ≡ with_candidate_examined v → d ≡ u → w ≡ record d { is_ready = true } → v.has_ended ≡ false → 0 < length v.held → is_open v.held ≡ true → v.tried ≤ asked v.held
    → HasExamined v b fs → HasExamined w b fs × IsDrained w b fs
finish_open {v} {d} {w} {b} {fs} e g f t l o k x = grind (arith, step_examined, counted_open, decided_is, decided_frames_are, given_up_is)
