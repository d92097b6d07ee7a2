-- The end of a stream.
use Rattle.rtcm_convert.proofs.ExactLemmas.{counts_whole, tally_whole, whole_epochs, epochs_few, outcomes_length}
use Rattle.rtcm_convert.proofs.PartLemmas.{goes_on-trans, breaks_off-after, breaks_off-before, up_to_whole}
use Rattle.rtcm_convert.proofs.StreamLemmas.{files_self, so_far-front}
use Rattle.rtcm_convert.proofs.Names.{◌≡◌, ℕ, List, ◌++◌, true, false, sym, ap, subst, ◌∙◌, Option, append-nil, [], arith, length, ◌*◌, ◌≤◌, most_bytes, Device, HasFailed, IsPrefix, Framed, frames_of, decided_frames, IsDrained, known_frames, PassesKnown, BreaksKnown, HasPassedAll, HasBroken, FramerValue, SetupValue, so_far, file, epochs_in, AppendsBetween, AppendsPrefixBetween, HasFiledFrames, FiledStays, FiledGrows, WrittenStays, WrittenGrows, outcomes, EndsFile, BreaksInRest, BreaksAtEndOf, EndsBytes, Drained, Files, BreaksFiling, FileWriter}

-- no more bytes were accepted than a stream may have
within : (v : FramerValue) (w : FileWriter) (s : SetupValue) (bytes : List ℕ) → Drained v w s bytes → length bytes ≤ most_bytes
within v w s bytes d = let t = d.scan.framer.history.taken in let a = d.scan.framer.within in let b = d.scan.framer.limit in omega arith

abbrev pub Few : Type 0
Few = (b : List ℕ) → 6 * length (frames_of b) ≤ length b

module _ {W : Type 0} {c : W → Option (List ℕ)} {v v' : FramerValue} {w w' : FileWriter} {o o' : Device W} where
  -- the remaining frames were passed on
  passed_all : PassesKnown (Files c) v w o v' w' o' → (s : SetupValue) (bytes : List ℕ) → Drained v w s bytes → HasPassedAll (Files c) v' w o (known_frames v.has_ended bytes) w' o' bytes
  passed_all k s bytes d = k w o (known_frames v.has_ended bytes) bytes (known_frames v.has_ended bytes) (record { framer = d.scan.framer; taken = files_self c w o (known_frames v.has_ended bytes) })

  filed_all : v.has_ended ≡ false → v'.has_ended ≡ true → PassesKnown (Files c) v w o v' w' o' → (s : SetupValue) (bytes : List ℕ) → Drained v w s bytes
      → HasFiledFrames w' s (frames_of bytes) × AppendsBetween (c o.inner) (c o'.inner) (so_far s (decided_frames bytes)) (so_far s (frames_of bytes))
  filed_all before after k s bytes d = rw (before, after) at ((passed_all k s bytes d).passed.taken.files s d.file_writer)

  -- then the rest of the file was written
  pub ended : {w2 : FileWriter} {e : Option (List ℕ)} → Few → v.has_ended ≡ false → v'.has_ended ≡ true → v'.limit ≡ v.limit → v'.taken ≡ v.taken → PassesKnown (Files c) v w o v' w' o'
      → EndsFile w' w2 (c o'.inner) e → w2.tally ≡ w'.tally → EndsBytes v w v' w2 (c o.inner) e
  ended few before after limit taken k rest tally s bytes d =
      let p = filed_all before after k s bytes d in
      let q = rest s (frames_of bytes) p.0 in
      let a = passed_all k s bytes d in
      let n : length (outcomes s (frames_of bytes)) ≡ length (frames_of bytes) = outcomes_length s [] (frames_of bytes) in
      let t : v.taken ≡ length bytes = d.scan.framer.history.taken in
      let l : v.taken ≤ v.limit = d.scan.framer.within in
      record {
        over = after;
        out = goes_on-trans p.1 q.0;
        epochs = q.1 ∙ whole_epochs (epochs_in s (frames_of bytes)) (length (frames_of bytes)) (length bytes) (epochs_few s (frames_of bytes)) (few bytes) (within v w s bytes d);
        counts = λ empty. q.2 empty ∙ counts_whole s (frames_of bytes) (length bytes) (few bytes) (within v w s bytes d);
        tally = tally ∙ p.0.tally ∙ tally_whole (outcomes s (frames_of bytes)) (length bytes) p.0.few (subst (λ (k : ℕ). 6 * k ≤ length bytes) (sym n) (few bytes)) (within v w s bytes d);
        taken = taken ∙ t;
        within = omega (arith, t, l, limit);
        drained = subst (λ (l : List Framed). IsDrained v' bytes l) (ap (λ h. known_frames h bytes) after) a.drained;
        gathered = q.3;
      }

  -- a prefix of it was written
  pub ended_part : {e : Option (List ℕ)} → v.has_ended ≡ false → v'.has_ended ≡ true → PassesKnown (Files c) v w o v' w' o' → BreaksInRest w' (c o'.inner) e → BreaksAtEndOf v w (c o.inner) e
  ended_part before after k rest s bytes d =
      let p = filed_all before after k s bytes d in
      breaks_off-after p.1 (rest s (frames_of bytes) p.0)

  -- no call of the device failed
  pub ended_fine : PassesKnown (Files c) v w o v' w' o' → (b : List ℕ) → HasPassedAll (Files c) v w o (known_frames v.has_ended b) w o b → (o'.failures ≡ o.failures) × (o'.widest ≡ o.widest)
  ended_fine k b x = let p = k w o (known_frames v.has_ended b) b (known_frames v.has_ended b) x.passed in (p.passed.taken.fine, p.passed.taken.widest)

so_far-file : FiledStays → (s : SetupValue) (fs : List Framed) → IsPrefix (so_far s fs) (file s fs)
so_far-file stays s fs = rw append-nil at (stays s fs [])

-- the device failed before
pub drain_part : {W : Type 0} {c : W → Option (List ℕ)} {v : FramerValue} {w w' : FileWriter} {o o' : Device W} → FiledStays → FiledGrows → v.has_ended ≡ false → BreaksKnown (Files c) (BreaksFiling c) true v w o w' o'
    → BreaksAtEndOf v w (c o.inner) (c o'.inner)
drain_part {c = c} {v} {w} {w'} {o} {o'} stays grows before k s bytes d =
    let p : HasBroken (BreaksFiling c) true w o (known_frames v.has_ended bytes) w' o' (known_frames v.has_ended bytes) bytes =
    k w o (known_frames v.has_ended bytes) bytes (known_frames v.has_ended bytes) (record { framer = d.scan.framer; taken = files_self c w o (known_frames v.has_ended bytes) }) in
    let j : known_frames v.has_ended bytes ≡ decided_frames bytes = ap (λ h. known_frames h bytes) before in
    let out : AppendsPrefixBetween (c o.inner) (c o'.inner) (so_far s (decided_frames bytes)) (so_far s p.reached) =
    subst (λ (l : List Framed). AppendsPrefixBetween (c o.inner) (c o'.inner) (so_far s l) (so_far s p.reached)) j (up_to_whole (p.broken.part s d.file_writer)) in
    breaks_off-before (breaks_off-before out (so_far-front grows s p.reached (frames_of bytes) p.known)) (so_far-file stays s (frames_of bytes))

pub drain_failed : {W : Type 0} {c : W → Option (List ℕ)} {v : FramerValue} {w w' : FileWriter} {o o' : Device W} → BreaksKnown (Files c) (BreaksFiling c) true v w o w' o' → (b : List ℕ)
    → HasPassedAll (Files c) v w o (known_frames v.has_ended b) w o b → HasFailed o.failures o'.failures × (o'.widest ≡ o.widest)
drain_failed {v = v} {w} {o = o} k b x = let p = k w o (known_frames v.has_ended b) b (known_frames v.has_ended b) x.passed in (p.broken.failed, p.broken.widest)

-- the decided frames of some bytes are a prefix of the frames of more bytes, and of their decided frames
abbrev pub FramesStay : Type 0
FramesStay = (b t : List ℕ) → IsPrefix (decided_frames b) (frames_of (b ++ t))

abbrev pub FramesGrow : Type 0
FramesGrow = (b t : List ℕ) → IsPrefix (decided_frames b) (decided_frames (b ++ t))

pub written_stays : FiledStays → FramesStay → WrittenStays
written_stays stays frames s b more = rw (frames b more).1 (stays s (decided_frames b) (frames b more).0)

pub written_grows : FiledGrows → FramesGrow → WrittenGrows
written_grows grows frames s b more = so_far-front grows s (decided_frames b) (decided_frames (b ++ more)) (frames b more)
