-- A piece that a converter accepts, and the end of its stream.
use Rattle.rtcm_convert.proofs.Names.{Err, FailsWithReader, FailsWithWriter, HasFailed, IsErrOf, longest_frame, common_steps, fault_of_none, Fault, ap, FinishesEmptyNow, sym, ◌≡◌, ◌≢◌, ℕ, ◌<◌, ◌++◌, List, length, Bool, true, false, subst, ◌∙◌, Option, arith, refl, Device, HasExaminedSome, Passes, Breaks, PassesToLimit, AtFault, up_to_limit, FramerValue, StreamFault, Conversion, kept_of, KeepsNow, IsGoing, IsFit, HasConverted, HasFinished, ForFinished, TakesPiece, CutsAtLimit, WritesPrefixOfAdded, FinishesNow, SetupValue, IsKeptAtEnd, IsWithinBounds, skipped_before, frames_of, known_place, report_with, Report, FiledGrows, Files, BreaksFiling, EndsBytes, AppendsDecided, FileWriter}
use Rattle.rtcm_convert.specs.declared.fault.Fault.TheVariants as faults
use Rattle.rtcm_convert.specs.Faults.{stream_fault}
use Rattle.rtcm_scan.specs.inner.Passing.{CountsReads}
use Rattle.rtcm_convert.proofs.StreamLemmas.{piece_whole, piece_part, piece_fine, to_limit}

module _ {A F : Type 0} (f : StreamFault F) {k : Fault} (P Q R : Type 0) (is : k ≡ stream_fault f) (at : AtFault f P Q R) where
  pub read_of : IsErrOf {T = A} (Err k) faults.Read → P
  read_of e = grind (arith, common_steps)

  pub long_of : IsErrOf {T = A} (Err k) faults.TooLong → Q
  long_of e = grind (arith, common_steps)

  pub sink_of : IsErrOf {T = A} (Err k) faults.Write → R
  sink_of e = grind (arith, common_steps)

-- the devices after a fault
pub writer_at : {W F P Q R : Type 0} (A : Type 0) (f : StreamFault F) {k : Fault} (old new : Device W) → k ≡ stream_fault f → AtFault f P Q R → (P → (new.failures ≡ old.failures) × (new.widest ≡ old.widest))
    → (Q → (new.failures ≡ old.failures) × (new.widest ≡ old.widest)) → (R → HasFailed old.failures new.failures × (new.widest ≡ old.widest)) → FailsWithWriter {A = A} (Err k) old new
writer_at A f old new is at p q r = grind arith

pub reader_at : {R F : Type 0} (A B : Type 0) (f : StreamFault F) {k : Fault} (old new : Device R) → k ≡ stream_fault f → CountsReads {A = B} (Err f) old new longest_frame → FailsWithReader {A = A} (Err k) old new
reader_at A B f old new is counts = grind arith

abbrev pub with_flags : Bool → Bool → FramerValue → FileWriter → Conversion
with_flags failed over v w = record { scan = v; file_writer = w; has_failed = failed; has_ended = over }

module _ {W : Type 0} {failed over : Bool} {v v' : FramerValue} {w w' : FileWriter} {o o' : Device W} {c : W → Option (List ℕ)} (piece : List ℕ) where
  pub fed_whole : KeepsNow (with_flags failed over v' w') → v.has_ended ≡ false → v'.has_ended ≡ false → Passes (Files c) v w o v' w' o' piece → TakesPiece (with_flags failed over v w) (with_flags failed over v' w') piece (c o.inner) (c o'.inner)
  fed_whole keeps before after k s bytes h =
      let p = piece_whole c piece before after k s bytes h.drained in
      let now : HasConverted (with_flags failed over v' w') s (bytes ++ piece) = record { going = record { fine = h.going.fine; more = h.going.more }; drained = p.0 } in
      record {
        converted = now;
        out = p.1;
        kept = keeps.values s (bytes ++ piece) now;
        bounds = subst (λ (n : ℕ). IsWithinBounds n (kept_of (with_flags failed over v' w'))) p.0.scan.framer.history.taken keeps.bounds;
      }

  pub fed_fit : IsFit (with_flags failed over v w) → IsGoing (with_flags failed over v w) → w'.gatherer.has_ended ≡ false → v'.is_ready ≡ true → v'.has_ended ≡ v.has_ended → (HasExaminedSome v → HasExaminedSome v')
      → Passes (Files c) v w o v' w' o' piece → IsFit (with_flags failed over v' w')
  fed_fit fit go goes ready ended some k = record {
    going = λ _. goes;
    listening = λ _. ended ∙ fit.listening go;
    ready = λ _. ready;
    drained = λ _. (piece_fine c piece k (fit.drained go)).0;
    examined = some fit.examined;
  }

  pub fed_long : v.has_ended ≡ false → v'.has_ended ≡ false → PassesToLimit (Files c) v w o v' w' o' piece → CutsAtLimit (with_flags failed over v w) (with_flags true over v' w') piece (c o.inner) (c o'.inner)
  fed_long before after k = record {
    adds = λ s bytes h. (subst (λ (l : List ℕ). AppendsDecided (c o.inner) (c o'.inner) s bytes l) (to_limit v bytes piece h.drained.scan.framer.history.taken h.drained.scan.framer.within)
        (piece_whole c (up_to_limit v piece) before after k.passes s bytes h.drained).1);
    full = k.full;
    over = k.over;
  }

pub fed_part : {W : Type 0} {failed over : Bool} {v : FramerValue} {w w' : FileWriter} {o o' : Device W} {c : W → Option (List ℕ)} (piece : List ℕ) → FiledGrows → v.has_ended ≡ false → Breaks (Files c) (BreaksFiling c) v w o w' o' piece
    → WritesPrefixOfAdded (with_flags failed over v w) piece (c o.inner) (c o'.inner)
fed_part {c = c} piece grows before k s bytes h = piece_part c grows piece before k s bytes h.drained

some : (n m : ℕ) → n ≡ m → (n ≡ 0 → ⊥) → 0 < m
some n m e h = grind (arith, common_steps)

-- what is held and was examined after the end
abbrev pub KeepsAtEnd : Conversion → Type 0
KeepsAtEnd x = ForFinished x (λ s b. IsKeptAtEnd s b (kept_of x))

same_report : {m n k l : ℕ} {t u : Report} {d e : ℕ} → m ≡ n → k ≡ l → t ≡ u → d ≡ e → report_with m k t d ≡ report_with n l u e
same_report p q r s = rw (p, q, r, s) refl

module _ {failed over : Bool} {v v' : FramerValue} {w w' : FileWriter} {a b : Option (List ℕ)} (ends : EndsBytes v w v' w' a b)
    (keeps : KeepsAtEnd (with_flags failed true v' w')) (within : IsWithinBounds v'.taken (kept_of (with_flags failed true v' w'))) where
  finished : (s : SetupValue) (bytes : List ℕ) → HasConverted (with_flags failed over v w) s bytes → HasFinished (with_flags failed true v' w') s bytes
  finished s bytes h =
      let p = ends s bytes h.drained in
      record { ended = p.over; taken = p.taken; within = p.within; drained = p.drained; gathered = p.gathered }

  pub finishes_empty : {fault : Fault} → (fault ≡ fault_of_none w'.gatherer.counts) × (w'.epochs ≡ 0) → FinishesEmptyNow (with_flags failed over v w) (with_flags failed true v' w') fault a b
  finishes_empty none s bytes h =
      let p = ends s bytes h.drained in
      let f = finished s bytes h in
      record {
        none = sym p.epochs ∙ none.1;
        fault_is = none.0 ∙ ap fault_of_none (p.counts (sym p.epochs ∙ none.1));
        out = p.out;
        finished = f;
        kept = keeps s bytes f;
        bounds = subst (λ (k : ℕ). IsWithinBounds k (kept_of (with_flags failed true v' w'))) p.taken within;
      }

  pub finishes : {report : Report} → (w'.epochs ≢ 0) × (report ≡ report_with v'.taken v'.skipped w'.tally w'.epochs) → FinishesNow (with_flags failed over v w) (with_flags failed true v' w') report a b
  finishes given s bytes h =
      let p = ends s bytes h.drained in
      let f = finished s bytes h in
      let skipped : v'.skipped ≡ skipped_before (length bytes) (frames_of bytes) = subst (λ (e : Bool). v'.skipped ≡ skipped_before (known_place e bytes) (frames_of bytes)) p.over p.drained.skipped in
      record {
        out = p.out;
        some = some _ _ p.epochs given.0;
        report_is = given.1 ∙ same_report p.taken skipped p.tally p.epochs;
        finished = f;
        kept = keeps s bytes f;
        bounds = subst (λ (k : ℕ). IsWithinBounds k (kept_of (with_flags failed true v' w'))) p.taken within;
      }
