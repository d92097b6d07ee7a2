-- A stream that is read to its end.
use Rattle.rtcm_convert.proofs.Names.{length, ◌+◌, TakesPiece, Fault, ◌≡◌, ℕ, List, ◌++◌, sym, subst, Option, append_assoc, Bool, true, false, None, Some, arith, IfSome, if◌then◌else◌, Consumes, IsAtEnd, Consumes-whole, Device, HasFailed, IsPrefix, longest_frame, decided_frames, Framed, known_frames, PassesToLimit, BreaksAfter, Reads, ReadsOn, FramerValue, SetupValue, so_far, AppendsUpTo, FiledGrows, FileWriter, Report, AppendsDecided, BreaksFiling, Files, HasDrainedSome, Conversion, KeepsNow, IsGoing, refusal, CutsAtLimit, RanToFault, RanToLimit, Completed, CompletedEmpty, FinishesNow, FinishesEmptyNow, CompletesFile, CompletesEmptyFile, StopsAtEnd, FailsFeeding, FailsFinishing, Failed, Finished, common_steps}
use Rattle.rtcm_convert.proofs.FeedLemmas.{with_flags, fed_whole, fed_long}
use Rattle.rtcm_convert.proofs.PartLemmas.{goes_on-trans, up_to_earlier, up_to_later}
use Rattle.rtcm_convert.proofs.StreamLemmas.{passed_here, piece_whole, so_far-front}

-- some further bytes were read and accepted, and what they add was written
abbrev pub TakesFromReader : (v w : Conversion) (r r' a b : Option (List ℕ)) → Type 0
TakesFromReader v w r r' a b =
    (front : List ℕ) × Consumes r r' front × (w.scan.taken ≡ v.scan.taken + length front) × TakesPiece v w front a b

flags : (ended failed : Bool) → (if ended then Some Finished else if failed then Some Failed else None) ≡ None → (failed ≡ false) × (ended ≡ false)
flags ended failed e = grind (arith, common_steps)

-- a converter without a refusal has neither failed nor ended
pub going_on : {x v : Conversion} → x ≡ v → refusal v ≡ None → IsGoing x
going_on {v = v} same e = let p = flags v.has_ended v.has_failed e in subst (λ (x : Conversion). IsGoing x) (sym same) (record { fine = p.0; more = p.1 })

pub completed_after : {w : Conversion} {a b c : Option (List ℕ)} {s : SetupValue} {x y : List ℕ} {report : Report} → AppendsDecided a b s x y → Completed w report b c s y y → Completed w report a c s x y
completed_after e f = record { out = goes_on-trans e f.out; some = f.some; report_is = f.report_is; finished = f.finished; kept = f.kept; bounds = f.bounds }

pub empty_after : {w : Conversion} {a b c : Option (List ℕ)} {fault : Fault} {s : SetupValue} {x y : List ℕ} → AppendsDecided a b s x y → CompletedEmpty w fault b c s y y → CompletedEmpty w fault a c s x y
empty_after e f = record { none = f.none; fault_is = f.fault_is; out = goes_on-trans e f.out; finished = f.finished; kept = f.kept; bounds = f.bounds }

pub ran_whole : {v w x : Conversion} {a b c : Option (List ℕ)} {report : Report} (r r' : Option (List ℕ)) → TakesFromReader v w r r' a b → IsAtEnd r' → FinishesNow w x report b c → IfSome r (λ rest. CompletesFile v x report rest a c)
ran_whole {v} {x = x} {a} {c = c} {report} r r' p e f =
    Consumes-whole r r' p.0 (λ rest. CompletesFile v x report rest a c) p.1 e
    (λ s bytes y. let i = p.3 s bytes y in completed_after i.out (f s (bytes ++ p.0) i.converted))

pub run_finishing : {v w : Conversion} (x : Conversion) (r r' : Option (List ℕ)) {a b c : Option (List ℕ)} → TakesFromReader v w r r' a b → IsAtEnd r' → x.scan.taken ≡ w.scan.taken → StopsAtEnd w b c → FailsFinishing v x r r' a c
run_finishing x r r' {b} p e same f = grind arith

pub ran_empty : {v w x : Conversion} (r r' : Option (List ℕ)) {a b c : Option (List ℕ)} {fault : Fault} → TakesFromReader v w r r' a b → IsAtEnd r' → FinishesEmptyNow w x fault b c → IfSome r (λ rest. CompletesEmptyFile v x fault rest a c)
ran_empty {v} {x = x} r r' {a} {c = c} {fault} p e f =
    Consumes-whole r r' p.0 (λ rest. CompletesEmptyFile v x fault rest a c) p.1 e
    (λ s bytes y. let i = p.3 s bytes y in empty_after i.out (f s (bytes ++ p.0) i.converted))

-- the bytes read go over the limit
pub ran_long : {v w : Conversion} (r r' : Option (List ℕ)) {a b : Option (List ℕ)} {front : List ℕ} → Consumes r r' front → CutsAtLimit v w front a b → RanToLimit v w r r' a b
ran_long {v} r r' {front} e k = grind (arith, common_steps)

-- the known frames before the end are the decided ones
failing_at : {a b : Option (List ℕ)} {m : List ℕ} {e : Bool} (s : SetupValue) (bytes front piece : List ℕ) → e ≡ false → IsPrefix (so_far s (decided_frames bytes)) (so_far s (decided_frames (bytes ++ front)))
    → IsPrefix (so_far s (known_frames e (bytes ++ front))) m → AppendsUpTo a b (so_far s (known_frames e bytes)) m (so_far s (known_frames e (bytes ++ (front ++ piece))))
    → AppendsUpTo a b (so_far s (decided_frames bytes)) (so_far s (decided_frames (bytes ++ front))) (so_far s (decided_frames ((bytes ++ front) ++ piece)))
failing_at {a} {b} {m} s bytes front piece before grows first f =
    rw append_assoc (up_to_earlier grows (rw before at first) (rw before at f))

module _ {W : Type 0} {failed over : Bool} {v v' : FramerValue} {w w' : FileWriter} {o o' : Device W} (c : W → Option (List ℕ)) (r r' : Option (List ℕ)) where
  pub rest_taken : KeepsNow (with_flags failed over v' w') → v.has_ended ≡ false → v'.has_ended ≡ false → ReadsOn (Files c) v w o v' w' o' r r' → TakesFromReader (with_flags failed over v w) (with_flags failed over v' w') r r' (c o.inner) (c o'.inner)
  rest_taken keeps before after p = (p.0, p.1, p.2.1, fed_whole p.0 keeps before after p.2.0)

  pub rest_faulty : v.has_ended ≡ false → v'.has_ended ≡ false → ReadsOn (Files c) v w o v' w' o' r r' → RanToFault (with_flags failed over v w) (with_flags true over v' w') r r' (c o.inner) (c o'.inner)
  rest_faulty before after p = (p.0, p.1, p.2.1, λ s bytes h. (piece_whole c p.0 before after p.2.0 s bytes h.drained).1)

  pub rest_long : v.has_ended ≡ false → v'.has_ended ≡ false → Reads r r' (PassesToLimit (Files c) v w o v' w' o') → RanToLimit (with_flags failed over v w) (with_flags true over v' w') r r' (c o.inner) (c o'.inner)
  rest_long before after p = ran_long r r' p.1 (fed_long p.0 before after p.2)

  pub rest_part : FiledGrows → ((b t : List ℕ) → IsPrefix (decided_frames b) (decided_frames (b ++ t))) → v.has_ended ≡ false → BreaksAfter (Files c) (BreaksFiling c) v w o v' w' o' longest_frame r r'
      → FailsFeeding (with_flags failed over v w) (with_flags true over v' w') r r' (c o.inner) (c o'.inner)
  rest_part grows frames before p = (
    p.front,
    p.piece,
    p.consumes,
    record { least = p.least; most = p.greatest },
    λ s bytes h.
        let ps : List Framed = known_frames v.has_ended bytes in
        let here = passed_here c v w o bytes h.drained.scan in
        let k = p.breaks w o ps bytes here in
        let f = up_to_later (so_far-front grows s k.reached (known_frames v.has_ended (bytes ++ (p.front ++ p.piece))) k.known) (k.broken.part s h.drained.file_writer) in
        let out = failing_at s bytes p.front p.piece before (so_far-front grows s (decided_frames bytes) (decided_frames (bytes ++ p.front)) (frames bytes p.front)) (so_far-front grows s (known_frames v.has_ended (bytes ++ p.front)) k.taken k.first) f in
        record { out = out; near = p.near w o ps bytes here },
  )

pub rest_device : {W : Type 0} {c : W → Option (List ℕ)} {v v' : FramerValue} {w w' : FileWriter} {o o' : Device W} {r r' : Option (List ℕ)} → BreaksAfter (Files c) (BreaksFiling c) v w o v' w' o' longest_frame r r' → HasDrainedSome v
    → HasFailed o.failures o'.failures × (o'.widest ≡ o.widest)
rest_device {c = c} {v} {w = w} {o = o} p d = let k = p.breaks w o (known_frames v.has_ended d.0) d.0 (passed_here c v w o d.0 d.1) in (k.broken.failed, k.broken.widest)
