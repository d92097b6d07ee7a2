-- The decision about a candidate.
use Rattle.rtcm_scan.proofs.Names.{common_steps, ℕ, ◌≡◌, ◌+◌, ◌*◌, ◌<◌, ◌≤◌, ◌↔◌, Bool, List, [], ◌∷◌, ◌++◌, length, take, get_or, slice_index, arith, take-append-drop, ne_eqb, length-take-le, take_more, crc, Candidate, wanted_by, HasTaken, asked, decision, if_missing, Passed, Found}
use Rattle.rtcm_scan.proofs.FrameLemmas.{preamble_stays}
use Rattle.rtcm_scan.proofs.CandidateLemmas.{wanted_bound}
use Rattle.rtcm_scan.proofs.DecisionLemmas.{decision_without, decision_short, decision_found, decision_wrong}

abbrev AreBytes : List ℕ → Type 0
AreBytes s = (i : ℕ) → slice_index s i < 256

-- the law of the CRC of bytes followed by their CRC
abbrev pub Residue : Type 0
Residue = (bytes : List ℕ) (x y z : ℕ) → x < 256 → y < 256 → z < 256 → ((crc (bytes ++ x ∷ y ∷ z ∷ []) ≡ 0) ↔ (x * 65536 + y * 256 + z ≡ crc bytes))

wanted_take : (s : List ℕ) (k : ℕ) → k ≤ length s → k ≡ wanted_by s → wanted_by (take k s) ≡ wanted_by s
wanted_take s k h e = grind (arith, common_steps, take-append-drop {A = ℕ}, length-take-le {A = ℕ}, wanted_bound, preamble_stays, ne_eqb)

take_three : (s : List ℕ) (n : ℕ) → n + 6 ≤ length s → take (n + 6) s ≡ take (n + 3) s ++ get_or s (n + 3) 0 ∷ get_or s (n + 3 + 1) 0 ∷ get_or s (n + 3 + 2) 0 ∷ []
take_three s n h = grind (arith, common_steps, take_more)

pub judge_missing : (c : Candidate) (e : Bool) (s : List ℕ) → 0 < length s → HasTaken c (take c.count s) → c.count ≡ asked s → c.count < c.wanted → if_missing e ≡ decision e s
judge_missing c e s l t a h = grind (arith, decision_short, wanted_take)

-- a candidate has accepted exactly the bytes that decide it
pub record IsWhole (c : Candidate) (s : List ℕ) : Type 0 where
  pub taken : HasTaken c (take c.count s)
  pub count : c.count ≡ wanted_by s
  pub wanted : c.wanted ≡ wanted_by s
  pub within : c.count ≤ length s

pub whole : (c : Candidate) (s : List ℕ) → HasTaken c (take c.count s) → c.count ≡ asked s → (c.count < c.wanted → ⊥) → IsWhole c s
whole c s t a h = grind (arith, common_steps, length-take-le {A = ℕ}, preamble_stays, take-append-drop {A = ℕ})

pub judge_found : Residue → {c : Candidate} (e : Bool) (s : List ℕ) → AreBytes s → IsWhole c s → 1 < c.wanted → c.register ≡ 0 → Found c.count ≡ decision e s
judge_found law {c} e s b w g r = grind (arith, decision_found, take_three)

pub judge_wrong : Residue → {c : Candidate} (e : Bool) (s : List ℕ) → AreBytes s → IsWhole c s → 1 < c.wanted → (c.register ≡ 0 → ⊥) → Passed ≡ decision e s
judge_wrong law {c} e s b w g r = grind (arith, decision_wrong, take_three)

pub judge_none : (c : Candidate) (e : Bool) (s : List ℕ) → HasTaken c (take c.count s) → c.count ≡ asked s → (c.count < c.wanted → ⊥) → (1 < c.wanted → ⊥) → Passed ≡ decision e s
judge_none c e s t a h g = grind (arith, decision_without)
