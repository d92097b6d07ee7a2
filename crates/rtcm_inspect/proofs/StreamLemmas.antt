-- A new framer, from which a stream is read.
use Rattle.rtcm_inspect.proofs.Names.{◌≡◌, false, ℕ, [], decided_frames, IsDrained, HasExamined, Coming, HasPassedAll, new_scan, FramerValue, arith, common_steps}

-- a new framer with this limit, which has passed on all frames of no bytes
pub record Began {S O : Type 0} (took : Coming S O) (v : FramerValue) (s : S) (o : O) (limit : ℕ) : Type 0 where
  pub new : HasPassedAll took v s o [] s o []
  pub limit_is : v.limit ≡ limit
  pub none : v.taken ≡ 0
  pub going : v.has_ended ≡ false

pub started : {S O : Type 0} {v : FramerValue} {s : S} {o : O} {limit : ℕ} (took : Coming S O) → v ≡ new_scan limit → decided_frames [] ≡ [] → HasExamined v [] [] → IsDrained v [] []
    → took s o [] s o [] → Began took v s o limit
started {v = v} {s} {o} took is empty examined drained same = grind (arith, common_steps)
