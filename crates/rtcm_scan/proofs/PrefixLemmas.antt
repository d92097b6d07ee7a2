-- Decided frames stay decided when bytes follow.
use Rattle.rtcm_scan.proofs.Names.{ℕ, ◌≡◌, ◌+◌, ◌-◌, ◌*◌, ◌<◌, ◌≤◌, Bool, true, false, List, [], ◌∷◌, ◌++◌, length, drop, refl, sym, ap, ◌∙◌, arith, suc, zero, ⊎_elim, length-append, cases_Bool, cases_lt, begins_frame, is_open, Framed, IsFrameOf, frame_end, frames_of, frames_from, framed_at, decided, decided_frames, frames_before, IsPrefix, known_frames, AllPassed, Scanned, length-drop, most_undecided}
use Rattle.rtcm_scan.proofs.ScanLemmas.{scanned_le, scanned_longer, frame_within}
use Rattle.rtcm_scan.proofs.DecidedLemmas.{decided_is, decided_frames_are, frames_split}
use Rattle.rtcm_scan.proofs.LawLemmas.{scanned_prepend, framed_valid, frames_scanned}
use Rattle.rtcm_scan.proofs.DecisionLemmas.{open_bound}

-- from a place on, b is scanned up to the place at which bytes are missing
record ScannedOn (b : List ℕ) (from : ℕ) : Type 0 where
  pub to : ℕ
  pub frames : List Framed
  pub scanned : Scanned false b from to frames
  pub within : to ≤ length b
  pub stops : to < length b → is_open (drop to b) ≡ true

scan_on : (d : ℕ) (b : List ℕ) (from : ℕ) → length b - from ≤ d → from ≤ length b → ScannedOn b from
scan_on zero b from k h = record { to = from; frames = []; scanned = (omega arith, λ q h k. absurd (omega arith)); within = h; stops = λ l. absurd (omega arith) }
scan_on (suc d) b from k h = ⊎_elim
    (λ (l : from < length b). ⊎_elim
    (λ (o : is_open (drop from b) ≡ true). let r : ScannedOn b from = record { to = from; frames = []; scanned = (omega arith, λ q h k. absurd (omega arith)); within = h; stops = λ l. o } in r)
    (λ (o : is_open (drop from b) ≡ false). ⊎_elim
    (λ (e : begins_frame (drop from b) ≡ true).
    let v : IsFrameOf b (framed_at b from) = framed_valid b from e in
    let w : frame_end (framed_at b from) ≤ length b = frame_within b (framed_at b from) v in
    let r : ScannedOn b (frame_end (framed_at b from)) = scan_on d b (frame_end (framed_at b from)) (omega arith) w in
    let x : ScannedOn b from = record { to = r.to; frames = framed_at b from ∷ r.frames; scanned = (omega arith, (λ q i j. absurd (omega arith)), v, r.scanned); within = r.within; stops = r.stops } in x)
    (λ (e : begins_frame (drop from b) ≡ false).
    let r : ScannedOn b (from + 1) = scan_on d b (from + 1) (omega arith) (omega arith) in
    let x : ScannedOn b from = record { to = r.to; frames = r.frames; scanned = scanned_prepend false b from r.to r.frames (record { none = e; closed = λ z. o }) r.scanned; within = r.within; stops = r.stops } in x)
    (cases_Bool (begins_frame (drop from b))))
    (cases_Bool (is_open (drop from b))))
    (λ (g : length b ≤ from). let r : ScannedOn b from = record { to = from; frames = []; scanned = (omega arith, λ q h k. absurd (omega arith)); within = h; stops = λ l. absurd (omega arith) } in r)
    (cases_lt from (length b))

passed_join : (b : List ℕ) (from mid to : ℕ) → AllPassed false b from mid → AllPassed false b mid to → AllPassed false b from to
passed_join b from mid to p r = λ q i j. ⊎_elim (λ (l : q < mid). p q i l) (λ (l : mid ≤ q). r q l j) (cases_lt q mid)

scanned_join : (b : List ℕ) (from mid to : ℕ) (fs gs : List Framed) → Scanned false b from mid fs → Scanned false b mid to gs → Scanned false b from to (fs ++ gs)
scanned_join b from mid to [] [] s r = (omega (arith, s.0, r.0), passed_join b from mid to s.1 r.1)
scanned_join b from mid to [] (g ∷ gs) s r = (omega (arith, s.0, r.0), passed_join b from mid g.offset s.1 r.1, r.2, r.3)
scanned_join b from mid to (f ∷ fs) gs s r = (s.0, s.1, s.2, scanned_join b (frame_end f) mid to fs gs s.3 r)

-- the scanned frames are a prefix of the decided frames
scanned_first : (b : List ℕ) (to : ℕ) (fs : List Framed) → to ≤ length b → Scanned false b 0 to fs → IsPrefix fs (decided_frames b) × (to ≤ decided b)
scanned_first b to fs h s =
    let u = scan_on (length b) b to (omega arith) h in
    let j : Scanned false b 0 u.to (fs ++ u.frames) = scanned_join b 0 to u.to fs u.frames s u.scanned in
    let d : decided b ≡ u.to = decided_is b u.to (fs ++ u.frames) u.within j u.stops in
    ((u.frames, decided_frames_are b u.to (fs ++ u.frames) u.within j u.stops), omega (arith, d, scanned_le false b to u.to u.frames u.scanned))

-- the decided frames of b are a prefix of the frames of each longer stream, decided or not
pub stays_decided : (b t : List ℕ) → ((rest : List Framed) × (decided_frames (b ++ t) ≡ decided_frames b ++ rest)) × ((rest : List Framed) × (frames_of (b ++ t) ≡ decided_frames b ++ rest)) × (decided b ≤ decided (b ++ t))
stays_decided b t =
    let r = scan_on (length b) b 0 (omega arith) (omega arith) in
    let d : decided b ≡ r.to = decided_is b r.to r.frames r.within r.scanned r.stops in
    let e : decided_frames b ≡ r.frames = decided_frames_are b r.to r.frames r.within r.scanned r.stops in
    let w : r.to ≤ length (b ++ t) = omega (arith, r.within, length-append b t) in
    let s : Scanned false (b ++ t) 0 r.to r.frames = scanned_longer b t 0 r.to r.frames r.within r.scanned in
    let p = scanned_first (b ++ t) r.to r.frames w s in (
      (p.0.0, p.0.1 ∙ ap (λ q. q ++ p.0.0) (sym e)),
      (frames_from r.to 0 (drop r.to (b ++ t)), frames_split false (b ++ t) r.to r.frames w s ∙ ap (λ q. q ++ frames_from r.to 0 (drop r.to (b ++ t))) (sym e)),
      omega (arith, d, p.1),
    )

-- the scanned frames are a prefix of the known frames
pub known_first : (e : Bool) (b : List ℕ) (to : ℕ) (fs : List Framed) → to ≤ length b → Scanned e b 0 to fs → IsPrefix fs (known_frames e b)
known_first true b to fs h s = (frames_from to 0 (drop to b), frames_split true b to fs h s)
known_first false b to fs h s = (scanned_first b to fs h s).0

-- at most 1,028 bytes are undecided
pub decided_near : (b : List ℕ) → (decided b ≤ length b) × (length b ≤ decided b + most_undecided)
decided_near b =
    let r = scan_on (length b) b 0 (omega arith) (omega arith) in
    let d : decided b ≡ r.to = decided_is b r.to r.frames r.within r.scanned r.stops in
    let w : r.to ≤ length b = r.within in
    let k : length (drop r.to b) ≡ length b - r.to = length-drop r.to b in
    let n : length b ≤ r.to + most_undecided = grind (arith, open_bound) in
    (omega arith, omega arith)

-- no bytes have no decided frames
pub decided_nothing : decided_frames [] ≡ []
unfolding decided_frames frames_of frames_before frames_from
decided_nothing = refl

-- each frame has at least six bytes
scanned_six : (e : Bool) (b : List ℕ) (from to : ℕ) (fs : List Framed) → Scanned e b from to fs → from + 6 * length fs ≤ to
scanned_six e b from to [] s = let h : from ≤ to = s.0 in omega arith
scanned_six e b from to (f ∷ fs) s = omega (arith, (scanned_six e b (frame_end f) to fs s.3))

pub six_each : (b : List ℕ) → 6 * length (frames_of b) ≤ length b
unfolding frames_of
six_each b = let h : 0 + 6 * length (frames_of b) ≤ length b = scanned_six true b 0 (length b) (frames_of b) (frames_scanned (length b) b 0 (omega arith) (omega arith)) in omega arith
