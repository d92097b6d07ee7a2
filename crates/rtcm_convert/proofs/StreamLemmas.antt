-- The file writer as a sink of frames, and a piece of a stream.
use Rattle.rtcm_convert.proofs.PartLemmas.{goes_on-refl, goes_on-trans, goes_on-kept, goes_on-front, breaks_off-before, up_to_whole}
use Rattle.rtcm_convert.proofs.Names.{HasFiledFrames, AppendsBetween, AppendsPrefixBetween, ◌≡◌, ℕ, List, [], ◌∷◌, ◌++◌, ◌+◌, ◌-◌, ◌≤◌, false, refl, sym, ap, subst, suc, arith, length, take, ◌∙◌, Option, Keeps, Device, HasFailed, IsPrefix, Framed, known_frames, Passes, Breaks, HasPassedAll, up_to_limit, FramerValue, SetupValue, so_far, FiledGrows, Drained, HasDrained, HasDrainedSome, Files, BreaksFiling, AppendsDecided, AppendsPrefixOfDecided, FileWriter}

-- the frame was processed, and the epochs that it closes were written
abbrev pub TakesFrame : FileWriter → FileWriter → Framed → Option (List ℕ) → Option (List ℕ) → Type 0
TakesFrame v w f a b = (s : SetupValue) (fs : List Framed) → HasFiledFrames v s fs
    → HasFiledFrames w s (fs ++ f ∷ []) × AppendsBetween a b (so_far s fs) (so_far s (fs ++ f ∷ []))

-- a prefix of what it closes was written
abbrev pub BreaksInFrame : FileWriter → Framed → Option (List ℕ) → Option (List ℕ) → Type 0
BreaksInFrame v f a b = (s : SetupValue) (fs : List Framed) → HasFiledFrames v s fs
    → AppendsPrefixBetween a b (so_far s fs) (so_far s (fs ++ f ∷ []))

pub so_far-front : FiledGrows → (s : SetupValue) (fs gs : List Framed) → IsPrefix fs gs → IsPrefix (so_far s fs) (so_far s gs)
so_far-front grows s fs gs p = rw p.1 (grows s fs p.0)

module _ {W : Type 0} {c : W → Option (List ℕ)} where
  -- one more frame
  pub files_more : {v v' : FileWriter} {o o' : Device W} (f : Framed) → TakesFrame v v' f (c o.inner) (c o'.inner) → (o'.failures ≡ o.failures) × (o'.widest ≡ o.widest)
      → (v0 : FileWriter) (o0 : Device W) (ps fs : List Framed) → Files c v0 o0 ps v o fs → Files c v0 o0 ps v' o' (fs ++ f ∷ [])
  files_more f t same v0 o0 ps fs x = record {
    fine = same.0 ∙ x.fine;
    widest = same.1 ∙ x.widest;
    files = λ s y. (let p = x.files s y in let q = t s fs p.0 in (q.0, goes_on-trans p.1 q.1));
  }

  pub files_part : {v v' : FileWriter} {o o' : Device W} (f : Framed) → BreaksInFrame v f (c o.inner) (c o'.inner) → HasFailed o.failures o'.failures × (o'.widest ≡ o.widest)
      → (v0 : FileWriter) (o0 : Device W) (ps fs : List Framed) → Files c v0 o0 ps v o fs → BreaksFiling c v0 o0 ps v' o' fs (fs ++ f ∷ [])
  files_part {o = o} {o'} f t failed v0 o0 ps fs x = record {
    failed = subst (λ (n : ℕ). HasFailed n o'.failures) x.fine failed.0;
    widest = failed.1 ∙ x.widest;
    part = λ s y. (let p = x.files s y in record { mid = c o.inner; before = p.1; last = t s fs p.0 });
  }

module _ {W : Type 0} (c : W → Option (List ℕ)) where
  pub files_self : (w : FileWriter) (o : Device W) (ps : List Framed) → Files c w o ps w o ps
  files_self w o ps = record { fine = refl; widest = refl; files = λ s x. (x, goes_on-refl (c o.inner) (so_far s ps)) }

  pub files_unsent : {v0 v : FileWriter} {o0 o o' : Device W} {ps fs : List Framed} → Keeps (c o.inner) (c o'.inner) → HasFailed o.failures o'.failures → o'.widest ≡ o.widest → Files c v0 o0 ps v o fs
      → BreaksFiling c v0 o0 ps v o' fs fs
  files_unsent {o' = o'} {fs = fs} k failed widest x = record {
    failed = subst (λ (n : ℕ). HasFailed n o'.failures) x.fine failed;
    widest = widest ∙ x.widest;
    part = λ s y. record { mid = c o'.inner; before = goes_on-kept (x.files s y).1 k; last = goes_on-front (goes_on-refl (c o'.inner) (so_far s fs)) };
  }

  -- all known frames were passed on
  pub passed_here : (v : FramerValue) (w : FileWriter) (o : Device W) (b : List ℕ) → HasDrained v b → HasPassedAll (Files c) v w o (known_frames v.has_ended b) w o b
  passed_here v w o b d = record {
    passed = record { framer = d.framer; taken = files_self w o (known_frames v.has_ended b) };
    drained = d.drained;
  }

  -- a piece was accepted
  pub piece_whole : {v v' : FramerValue} {w w' : FileWriter} {o o' : Device W} (piece : List ℕ) → v.has_ended ≡ false → v'.has_ended ≡ false → Passes (Files c) v w o v' w' o' piece
      → (s : SetupValue) (bytes : List ℕ) → Drained v w s bytes → Drained v' w' s (bytes ++ piece) × AppendsDecided (c o.inner) (c o'.inner) s bytes (bytes ++ piece)
  piece_whole {v} {v'} {w} {o = o} {o'} piece before after k s bytes d =
      let p = k w o (known_frames v.has_ended bytes) bytes (passed_here v w o bytes d.scan) in
      let q = p.passed.taken.files s d.file_writer in (
        record { scan = record { framer = p.passed.framer; drained = p.drained }; file_writer = q.0 },
        rw (before, after) at q.1,
      )

  -- the device failed at it
  pub piece_part : {v : FramerValue} {w w' : FileWriter} {o o' : Device W} → FiledGrows → (piece : List ℕ) → v.has_ended ≡ false → Breaks (Files c) (BreaksFiling c) v w o w' o' piece
      → (s : SetupValue) (bytes : List ℕ) → Drained v w s bytes → AppendsPrefixOfDecided (c o.inner) (c o'.inner) s bytes (bytes ++ piece)
  piece_part {v} {w} {o = o} {o'} grows piece before k s bytes d =
      let p = k w o (known_frames v.has_ended bytes) bytes (passed_here v w o bytes d.scan) in
      let q = breaks_off-before (up_to_whole (p.broken.part s d.file_writer)) (so_far-front grows s p.reached (known_frames v.has_ended (bytes ++ piece)) p.known) in
      rw before at q

  -- the device after a piece, of which all known frames were passed on
  pub piece_fine : {v v' : FramerValue} {w w' : FileWriter} {o o' : Device W} (piece : List ℕ) → Passes (Files c) v w o v' w' o' piece → HasDrainedSome v
      → HasDrainedSome v' × (o'.failures ≡ o.failures) × (o'.widest ≡ o.widest)
  piece_fine {v} {w = w} {o = o} piece k d =
      let p = k w o (known_frames v.has_ended d.0) d.0 (passed_here v w o d.0 d.1) in
      ((d.0 ++ piece, record { framer = p.passed.framer; drained = p.drained }), p.passed.taken.fine, p.passed.taken.widest)

  pub piece_failed : {v : FramerValue} {w w' : FileWriter} {o o' : Device W} (piece : List ℕ) → Breaks (Files c) (BreaksFiling c) v w o w' o' piece → HasDrainedSome v
      → HasFailed o.failures o'.failures × (o'.widest ≡ o.widest)
  piece_failed {v} {w} {o = o} piece k d = let p = k w o (known_frames v.has_ended d.0) d.0 (passed_here v w o d.0 d.1) in (p.broken.failed, p.broken.widest)

take_over : (front piece : List ℕ) (k n : ℕ) → n ≡ length front + k → take n (front ++ piece) ≡ front ++ take k piece
take_over [] piece k n e = let z : n ≡ k = omega (arith, e) in ap (λ (m : ℕ). take m piece) z
take_over (x ∷ front) piece k n e =
    let z : n ≡ suc (length front + k) = omega (arith, e) in
    ap (λ (m : ℕ). take m (x ∷ (front ++ piece))) z ∙ ap (λ (l : List ℕ). x ∷ l) (take_over front piece k (length front + k) refl)

-- the bytes up to the limit
pub to_limit : (v : FramerValue) (bytes piece : List ℕ) → v.taken ≡ length bytes → v.taken ≤ v.limit → bytes ++ up_to_limit v piece ≡ take v.limit (bytes ++ piece)
to_limit v bytes piece e le = sym (take_over bytes piece (v.limit - v.taken) v.limit (omega (arith, e, le)))
