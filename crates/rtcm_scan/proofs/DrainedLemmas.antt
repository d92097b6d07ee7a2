-- Everything that can be decided is decided.
use Rattle.rtcm_scan.proofs.Names.{ℕ, ◌≡◌, ◌+◌, true, List, [], length, ap, arith, sum_by, drop_all, Framed, FramerValue, HasFramed, first_held, Scanned, IsDrained}
use Rattle.rtcm_scan.proofs.ScanLemmas.{scanned_all}
use Rattle.rtcm_scan.proofs.SkippedLemmas.{given_up_is}
use Rattle.rtcm_scan.proofs.KnownLemmas.{AreKnownCounts}

-- everything is decided if nothing is held, or if the held bytes are open
pub drained_ended : (v : FramerValue) (b : List ℕ) (fs : List Framed) → v.has_ended ≡ true → v.held ≡ [] → HasFramed v b fs → AreKnownCounts v b → IsDrained v b fs
drained_ended v b fs e h s n =
    let l : length v.held ≡ 0 = ap length h in
    let p : first_held v ≡ length b = omega arith in
    let c : Scanned v.has_ended b 0 (length b) fs = (let k = s.scanned in rw p at k) in
    let k : v.skipped + sum_by (λ f. length f.message + 6) fs ≡ first_held v = s.skipped in
    grind (arith, scanned_all, drop_all, given_up_is)
