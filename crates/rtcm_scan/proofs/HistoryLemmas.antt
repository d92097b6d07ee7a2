-- What a framer has accepted after each of its steps.
use Rattle.rtcm_scan.proofs.Names.{ℕ, ◌≡◌, ◌+◌, ◌-◌, ◌<◌, ◌≤◌, Bool, true, false, List, [], ◌∷◌, ◌++◌, length, drop, ap, ◌∙◌, arith, length-append, sum_by, drop-append-le, length-drop, drop-drop, sum_by_push, begins_frame, message_length, frame_length, framed_message, Framed, IsFrameOf, WindowValue, without_front, FramerValue, scan_of, with_window, HasFramed, first_held, IsPassed, Scanned}
use Rattle.rtcm_scan.proofs.FrameLemmas.{begins_parts, length-message}
use Rattle.rtcm_scan.proofs.ScanLemmas.{scanned_skip, scanned_frame, scanned_longer, scanned_ended}
use Rattle.rtcm_scan.proofs.PrefixLemmas.{known_first}

-- with one more byte, without a look
abbrev pub with_byte : FramerValue → ℕ → FramerValue
with_byte v byte = record v { taken = v.taken + 1; held = v.held ++ byte ∷ []; looks = v.looks ++ 0 ∷ []; is_ready = false }

-- the bytes of a frame
abbrev pub size_of : Framed → ℕ
size_of f = length f.message + 6

pub history_from : (v : FramerValue) (b : List ℕ) (fs : List Framed) → v.taken ≡ length b → v.held ≡ drop (first_held v) b → length v.held ≤ v.taken → Scanned v.has_ended b 0 (first_held v) fs
    → v.skipped + sum_by size_of fs ≡ first_held v → HasFramed v b fs
history_from v b fs t h f s k = record { taken = t; held = h; fits = f; scanned = s; first = known_first v.has_ended b (first_held v) fs (omega (arith, t)) s; skipped = k }

pub history_push : (v : FramerValue) (b : List ℕ) (fs : List Framed) (x : ℕ) → v.has_ended ≡ false → HasFramed v b fs
    → HasFramed (with_byte v x) (b ++ x ∷ []) fs
history_push v b fs x n s =
    let l : length (v.held ++ x ∷ []) ≡ length v.held + 1 = length-append v.held (x ∷ []) in
    let m : length (b ++ x ∷ []) ≡ length b + 1 = length-append b (x ∷ []) in
    let t : v.taken ≡ length b = s.taken in
    let f : length v.held ≤ v.taken = s.fits in
    let e : v.taken + 1 - length (v.held ++ x ∷ []) ≡ first_held v = omega arith in
    let d : drop (first_held v) (b ++ x ∷ []) ≡ drop (first_held v) b ++ x ∷ [] = drop-append-le (first_held v) b (x ∷ []) (omega arith) in
    let c : Scanned false b 0 (first_held v) fs = (let k = s.scanned in rw n at k) in
    history_from (with_byte v x) (b ++ x ∷ []) fs
    (omega arith)
    (rw (e, d) (ap (λ h. h ++ x ∷ []) s.held))
    (omega arith)
    (rw (n, e) (scanned_longer b (x ∷ []) 0 (first_held v) fs (omega arith) c))
    (rw e s.skipped)

pub history_end : (v : FramerValue) (b : List ℕ) (fs : List Framed) → HasFramed v b fs → HasFramed (record v { has_ended = true }) b fs
history_end v b fs s = history_from (record v { has_ended = true }) b fs s.taken s.held s.fits (scanned_ended v.has_ended b 0 (first_held v) fs s.scanned) s.skipped

pub history_ready : (v : FramerValue) (b : List ℕ) (fs : List Framed) (r : Bool) → HasFramed v b fs → HasFramed (record v { is_ready = r }) b fs
history_ready v b fs r s = record { taken = s.taken; held = s.held; fits = s.fits; scanned = s.scanned; first = s.first; skipped = s.skipped }

pub history_give_up : (v : FramerValue) (b : List ℕ) (fs : List Framed) → 0 < length v.held → IsPassed v.has_ended v.held → HasFramed v b fs
    → HasFramed (record v { held = drop 1 v.held; skipped = v.skipped + 1 }) b fs
history_give_up v b fs h p s =
    let l : length (drop 1 v.held) ≡ length v.held - 1 = length-drop 1 v.held in
    let f : length v.held ≤ v.taken = s.fits in
    let e : v.taken - length (drop 1 v.held) ≡ first_held v + 1 = omega arith in
    let k : v.skipped + sum_by size_of fs ≡ first_held v = s.skipped in
    let g : IsPassed v.has_ended (drop (first_held v) b) = (let q = s.held in rw q at p) in
    history_from (record v { held = drop 1 v.held; skipped = v.skipped + 1 }) b fs
    s.taken
    (rw e (ap (drop 1) s.held ∙ drop-drop 1 (first_held v) b))
    (omega arith)
    (rw e (scanned_skip v.has_ended b 0 (first_held v) fs s.scanned g))
    (rw e (omega arith))

pub history_take : (v : FramerValue) (b : List ℕ) (fs : List Framed) → begins_frame v.held ≡ true → HasFramed v b fs
    → HasFramed (record v { held = drop (frame_length v.held) v.held }) b (fs ++ record { offset = first_held v; message = framed_message v.held } ∷ [])
history_take v b fs h s =
    let g : Framed = record { offset = first_held v; message = framed_message v.held } in
    let n : ℕ = frame_length v.held in
    let w : frame_length v.held ≤ length v.held = (begins_parts v.held h).1 in
    let m : length (framed_message v.held) ≡ message_length v.held = length-message v.held h in
    let l : length (drop (frame_length v.held) v.held) ≡ length v.held - frame_length v.held = length-drop (frame_length v.held) v.held in
    let f : length v.held ≤ v.taken = s.fits in
    let e : v.taken - length (drop (frame_length v.held) v.held) ≡ first_held v + (length (framed_message v.held) + 6) = omega arith in
    let k : v.skipped + sum_by size_of fs ≡ first_held v = s.skipped in
    let j : sum_by size_of (fs ++ g ∷ []) ≡ sum_by size_of fs + (length (framed_message v.held) + 6) = sum_by_push size_of fs g in
    let i : IsFrameOf b g = record { begins = (let q = s.held in rw q at h); message = ap framed_message s.held } in
    history_from (record v { held = drop (frame_length v.held) v.held }) b (fs ++ record { offset = first_held v; message = framed_message v.held } ∷ [])
    s.taken
    (let x : first_held v + frame_length v.held ≡ v.taken - length (drop (frame_length v.held) v.held) = omega arith in
    ap (drop (frame_length v.held)) s.held ∙ drop-drop (frame_length v.held) (first_held v) b ∙ ap (λ q. drop q b) x)
    (omega arith)
    (rw e (scanned_frame v.has_ended b 0 fs g s.scanned i))
    (rw (e, j) (omega arith))

pub whole_frame : (held bytes : List ℕ) (size : ℕ) → begins_frame held ≡ true → size ≡ frame_length held → bytes ≡ held → (6 ≤ size) × (size ≤ length bytes)
whole_frame held bytes size h e f =
    let w : frame_length held ≤ length held = (begins_parts held h).1 in
    let l : length bytes ≡ length held = ap length f in
    (omega arith, omega arith)

-- the framer's view after its window was changed
pub view_dropped : {v : FramerValue} {limit skipped tried n : ℕ} {w w' : WindowValue} {ended ready : Bool} (place : ℕ) (u : WindowValue) → scan_of limit place w ended ready skipped tried ≡ v → u.bytes ≡ w.bytes
    → w' ≡ without_front u n → n ≤ length w.bytes → scan_of limit (place + n) w' ended ready skipped 0 ≡ with_window v (without_front u n) 0
view_dropped {limit} {skipped} {n} {w} {ended} {ready} place u e g f h = grind (arith, length-drop)
