-- What a framer has accepted after many bytes.
use Rattle.rtcm_scan.proofs.Names.{common_steps, ℕ, ◌≡◌, ◌+◌, ◌≤◌, Bool, false, List, [], ◌∷◌, ◌++◌, length, arith, length-append, append_assoc, WindowValue, pushed_all, Framed, FramerValue, scan_of, with_bytes, HasExamined}
use Rattle.rtcm_scan.proofs.HistoryLemmas.{history_ready, with_byte}
use Rattle.rtcm_scan.proofs.StepLemmas.{step_push}

pub step_push_all : (v : FramerValue) (b xs : List ℕ) (fs : List Framed) → v.has_ended ≡ false → v.taken + length xs ≤ v.limit → HasExamined v b fs → HasExamined (with_bytes v xs) (b ++ xs) fs
step_push_all v b [] fs n l h = grind (arith, common_steps, history_ready)
step_push_all v b (x ∷ xs) fs n l h = grind (arith, append_assoc, (step_push_all (with_byte v x) (b ++ x ∷ []) xs fs n (omega (arith, l)) (step_push v b fs x n (omega (arith, l)) h)))

-- a framer that has not ended and has room for n bytes
pub has_room : {v : FramerValue} {limit skipped tried : ℕ} {w : WindowValue} {ready ended : Bool} (place n : ℕ) → scan_of limit place w ended ready skipped tried ≡ v → ended ≡ false
    → place + length w.bytes + n ≤ limit → (v.has_ended ≡ false) × (v.taken + n ≤ v.limit)
has_room place n e f h = rw (← e) (f, h)

-- the framer's view after it
pub view_pushed_all : {v : FramerValue} {limit skipped tried : ℕ} {w w' : WindowValue} {ended ready : Bool} (place : ℕ) (xs : List ℕ) → scan_of limit place w ended ready skipped tried ≡ v → w' ≡ pushed_all w xs
    → scan_of limit place w' ended false skipped tried ≡ with_bytes v xs
view_pushed_all {limit} {skipped} {tried} {w} {ended} place xs e f = grind (arith, length-append)
