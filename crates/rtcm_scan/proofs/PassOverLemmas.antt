-- Bytes that begin no frame are dropped together, as if one by one.
use Rattle.rtcm_scan.proofs.Names.{common_steps, ℕ, ◌≡◌, ◌≢◌, ◌+◌, ◌-◌, ◌<◌, ◌≤◌, min, Bool, false, List, [], ◌∷◌, length, take, drop, refl, sym, ap, ◌∙◌, arith, suc, zero, slice_index, subst, drop-drop, length-drop, get_or-drop, ne_eqb, WindowValue, looked_through, without_front, has_preamble, Candidate, HasTaken, Framed, FramerValue, IsPassed, scan_of, window_of, with_window, with_looks, with_candidate_examined, passed, HasExamined, preamble, looked_bytes, looked_left, looked_on, looked_past, looked_to}
use Rattle.rtcm_scan.proofs.FrameLemmas.{none_without}
use Rattle.rtcm_scan.proofs.CandidateLemmas.{taken_more}
use Rattle.rtcm_scan.proofs.NextLemmas.{counts_passed}
use Rattle.rtcm_scan.proofs.HistoryLemmas.{view_dropped}
use Rattle.rtcm_scan.proofs.StepLemmas.{step_examined_to}

-- the first byte by itself, and then the others
front_once : (w : WindowValue) (n : ℕ) → without_front (looked_through w 0 (suc n)) (suc n) ≡ without_front (looked_through (without_front (looked_through w 0 1) 1) 0 n) n
front_once w n =
    let a : 1 + n ≡ suc n = omega arith in
    let u : WindowValue = looked_through (looked_through w 0 1) 1 n in
    let d : without_front (without_front u 1) n ≡ without_front u (1 + n) = rw (drop-drop n 1 u.bytes, drop-drop n 1 u.looks) refl in
    cc (a, looked_on w 0 1 n, d, looked_past (looked_through w 0 1) 1 0 n refl)

-- a framer whose first bytes were looked at once and dropped
abbrev with_given_up : FramerValue → WindowValue → ℕ → FramerValue
with_given_up v w skipped = record (with_window v w 0) { skipped = skipped }

abbrev pub passed_over : FramerValue → ℕ → FramerValue
passed_over v n = with_given_up v (without_front (looked_through (window_of v) 0 n) n) (v.skipped + n)

none_over : (v : FramerValue) → v.tried ≡ 0 → passed_over v 0 ≡ v
none_over v e = let a : v.skipped + 0 ≡ v.skipped = omega arith in ap (λ (k : ℕ). with_given_up v (window_of v) k) a ∙ ap (λ (k : ℕ). let r : FramerValue = record v { tried = k } in r) (sym e)

one_more : (v : FramerValue) (n : ℕ) → v.tried ≡ 0 → has_preamble v.held ≡ false → 0 < length v.held → passed_over v (suc n) ≡ passed_over (passed (with_candidate_examined v)) n
one_more v n e h k = grind (arith, front_once)

-- what each step keeps
all_passed : (s : List ℕ) (e : Bool) → has_preamble s ≡ false → IsPassed e s
all_passed s e h = let n = none_without s h in record { none = n.0; closed = λ r. n.1 }

pub over_counts : (v : FramerValue) (n : ℕ) (b : List ℕ) (fs : List Framed) → v.tried ≡ 0 → n ≤ length v.held → ((i : ℕ) → i < n → slice_index v.held i ≢ preamble) → HasExamined v b fs → HasExamined (passed_over v n) b fs
over_counts v zero b fs e l o s = rw (none_over v e) s
over_counts v (suc n) b fs e l o s =
    let h : has_preamble v.held ≡ false = ne_eqb (slice_index v.held 0) preamble (o 0 (omega arith)) in
    let k : 0 < length v.held = omega (arith, l) in
    grind (arith, one_more, length-drop {A = ℕ}, get_or-drop, counts_passed, all_passed, (over_counts (passed (with_candidate_examined v)) n b fs refl (omega (arith, l, length-drop 1 v.held)) (λ i j q. o (1 + i) (omega (arith, j)) (sym (get_or-drop 1 v.held i 0) ∙ q)) (counts_passed v refl refl k (all_passed v.held v.has_ended h) (omega (arith, e)) s)))

-- a framer that passed over n bytes, and whose next candidate was examined up to k bytes
abbrev pub passed_to : FramerValue → ℕ → ℕ → FramerValue
passed_to v n k = with_looks (passed_over v n) (looked_through (window_of (passed_over v n)) 0 k) k

pub to_counts : {n : ℕ} {b : List ℕ} {fs : List Framed} (v : FramerValue) (k : ℕ) → v.tried ≡ 0 → n ≤ length v.held → ((i : ℕ) → i < n → slice_index v.held i ≢ preamble) → k ≡ min 1 (length v.held - n)
    → HasExamined v b fs → HasExamined (passed_to v n k) b fs
to_counts {n} {b} {fs} v k e l o m x =
    let d : length (passed_over v n).held ≡ length v.held - n = looked_left (window_of v) (window_of (passed_over v n)) 0 n n refl in
    let z : k - 0 ≡ k = omega arith in
    subst (λ (q : ℕ). HasExamined (with_looks (passed_over v n) (looked_through (window_of (passed_over v n)) 0 q) k) b fs) z (step_examined_to (passed_over v n) k b fs (omega arith) (omega (arith, m)) (omega (arith, m, d)) (over_counts v n b fs e l o x))

-- the framer's view afterwards
view_over : {v : FramerValue} {limit skipped tried n : ℕ} {w : WindowValue} {ended ready : Bool} (place : ℕ) → scan_of limit place w ended ready skipped tried ≡ v → n ≤ length w.bytes
    → scan_of limit (place + n) (without_front (looked_through w 0 n) n) ended ready (skipped + n) 0 ≡ passed_over v n
view_over {v} {skipped} {n} {w} place e h =
    let k : skipped ≡ v.skipped = ap (λ (x : FramerValue). x.skipped) e in
    let x : w ≡ window_of v = ap window_of e in
    let d = view_dropped place (looked_through w 0 n) e (looked_bytes w 0 n) refl h in
    grind arith

pub view_passed : {v : FramerValue} {limit skipped tried n : ℕ} {w w' : WindowValue} {ended ready : Bool} (place k : ℕ) → scan_of limit place w ended ready skipped tried ≡ v → w' ≡ without_front (looked_through w 0 (n + k)) n
    → n ≤ length w.bytes → scan_of limit (place + n) w' ended ready (skipped + n) k ≡ passed_to v n k
view_passed {limit} {skipped} {n} {w} {ended} {ready} place k e f h =
    let u : WindowValue = without_front (looked_through w 0 n) n in
    cc (f, looked_to w u n k refl, looked_bytes u 0 k, view_over place e h)

-- the same after the byte at the front, which is in no frame
pub passed_on : {v : FramerValue} {limit skipped tried n : ℕ} {w u w' : WindowValue} {ended ready : Bool} (place k : ℕ) → scan_of limit place w ended ready skipped tried ≡ v → 0 < length v.held
    → u ≡ without_front w 1 → w' ≡ without_front (looked_through u 0 (n + k)) n → n ≤ length u.bytes → ((i : ℕ) → i < n → slice_index u.bytes i ≢ preamble)
    → (scan_of limit (place + (1 + n)) w' ended ready (skipped + (1 + n)) k ≡ passed_to (passed v) n k) × (n ≤ length (passed v).held) × ((i : ℕ) → i < n → slice_index (passed v).held i ≢ preamble)
passed_on {v} {limit} {skipped} {n} {w} {u} {ended} {ready} place k e h g f l o =
    let a : place + (1 + n) ≡ place + 1 + n = omega arith in
    let b : skipped + (1 + n) ≡ skipped + 1 + n = omega arith in
    let d = view_dropped {n = 1} place w e refl g (omega (arith, h, ap (λ (y : FramerValue). length y.held) e)) in
    let s : scan_of limit (place + 1) u ended ready (skipped + 1) 0 ≡ passed v =
    ap (λ (y : FramerValue). let r : FramerValue = record y { skipped = skipped + 1 } in r) d
    ∙ ap (λ (y : FramerValue). let r : FramerValue = record (with_window v (without_front (window_of y) 1) 0) { skipped = y.skipped + 1 } in r) e in
    let held : u.bytes ≡ (passed v).held = ap (λ (y : WindowValue). y.bytes) g ∙ ap (λ (y : FramerValue). drop 1 y.held) e in
    (rw (a, b) (view_passed (place + 1) k s f l), rw (← held) l, rw (← held) o)

-- a candidate that has read the preamble after them
pub taken_preamble : {c : Candidate} {w' : WindowValue} {n : ℕ} (w : WindowValue) (m : ℕ) → w' ≡ without_front (looked_through w 0 m) n → n < length w.bytes → slice_index w.bytes n ≡ preamble → c.count ≡ 1
    → HasTaken c (preamble ∷ []) → HasTaken c (take c.count w'.bytes)
taken_preamble {c} {w'} {n} w m f l e k t = grind (arith, common_steps, looked_bytes, get_or-drop, taken_more, looked_left)
