-- Whole streams.
use Rattle.rtcm_convert.proofs.Names.{Fault, ◌≡◌, ℕ, ◌+◌, ◌<◌, ◌≤◌, ◌⊎◌, inl, inr, List, [], subst, ◌∙◌, arith, Option, Result, IfOk, length, IfSome, IfSome_then, Appends, Consumes, frames_of, decided_frames, SetupValue, so_far, file, epochs_in, AppendsBetween, AppendsPrefixBetween, NothingYet, AppendsDecided, Setup, setup_value, HasValue, IsMade, IsMadeEmpty, IsMadeWith, IsMadeToLimit, IsBetween, IsBroken, FailedWriting, FailedWritingAtEnd, Conversion, HasConverted, WritesAdded, Completed, CompletedEmpty, CompletesFile, CompletesEmptyFile, FailsAtPiece, RanToLimit, FailsFeeding, FailsFinishing, Report, common_steps}

pub from_nothing : {a b : Option (List ℕ)} {y : List ℕ} → NothingYet → (s : SetupValue) → AppendsBetween a b (so_far s (decided_frames [])) y → Appends a b y
from_nothing {a} {b} {y} nothing s g = grind (arith, common_steps)

-- a call began with a new converter of that setup, and has the same limit at its end
pub record BeganNew (v w : Conversion) (x : Setup) : Type 0 where
  pub nothing : NothingYet
  pub history : HasConverted v (setup_value x) []
  pub same : w.scan.limit ≡ v.scan.limit
  pub limit : v.scan.limit ≡ x.limit

-- the bytes accepted are within the limit of the setup
same_limit : {v w : Conversion} {x : Setup} {n : ℕ} → BeganNew v w x → n ≤ w.scan.limit → n ≤ x.limit
same_limit {n = n} new le = subst (λ (k : ℕ). n ≤ k) (new.same ∙ new.limit) le

-- a file with an epoch is the text of a file value
abbrev pub IsValued : Setup → Type 0
IsValued x = (b : List ℕ) → 0 < epochs_in (setup_value x) (frames_of b) → HasValue (file (setup_value x) (frames_of b))

made : {v w : Conversion} {x : Setup} {a b : Option (List ℕ)} {bytes : List ℕ} {report : Report} → BeganNew v w x → IsValued x → Completed w report a b (setup_value x) [] bytes → IsMade x a b bytes
made {x = x} {bytes = bytes} new valued p = grind (arith, same_limit, from_nothing)

made_empty : {v w : Conversion} {x : Setup} {a b : Option (List ℕ)} {fault : Fault} {bytes : List ℕ} → BeganNew v w x → CompletedEmpty w fault a b (setup_value x) [] bytes → IsMadeEmpty x fault a b bytes
made_empty {x = x} new p = grind (arith, same_limit, from_nothing)

pub run_made : {E : Type 0} {v w : Conversion} {x : Setup} (r a b : Option (List ℕ)) (result : Result Report E) → BeganNew v w x → IsValued x
    → IfOk result (λ report. IfSome r (λ rest. CompletesFile v w report rest a b)) → IfOk result (λ report. IfSome r (IsMadeWith x report a b))
run_made {x = x} r a b result h' h'' h = grind (arith, common_steps, made)

pub run_empty : {v w : Conversion} {x : Setup} (fault : Fault) (r a b : Option (List ℕ)) → BeganNew v w x → IfSome r (λ rest. CompletesEmptyFile v w fault rest a b) → IfSome r (IsMadeEmpty x fault a b)
run_empty {x = x} fault r a b new h = IfSome_then r h (λ l f. made_empty new (f (setup_value x) [] new.history))

pub run_read : {v w : Conversion} {x : Setup} {a b : Option (List ℕ)} (r r' : Option (List ℕ)) → BeganNew v w x → ((front : List ℕ) × Consumes r r' front × (w.scan.taken ≡ v.scan.taken + length front) × WritesAdded v front a b)
    → (front : List ℕ) × Consumes r r' front × Appends a b (so_far (setup_value x) (decided_frames front))
run_read {x = x} r r' new p = (p.0, p.1, from_nothing new.nothing (setup_value x) (p.3 (setup_value x) [] new.history))

pub run_long : {v w : Conversion} {x : Setup} {r r' a b : Option (List ℕ)} → BeganNew v w x → RanToLimit v w r r' a b → IsMadeToLimit x r r' a b
run_long {x = x} {r} {a = a} {b} new p = grind (arith, IfSome_then, from_nothing)

-- what these bytes make was written, and then a prefix of what follows
between : {a b c : Option (List ℕ)} {upper : List ℕ} (s : SetupValue) (front : List ℕ) → NothingYet → AppendsDecided a b s [] front → AppendsPrefixBetween b c (so_far s (decided_frames front)) upper
    → IsBetween a c (so_far s (decided_frames front)) upper
between {a} {b} {c} s front nothing before last = grind (arith, common_steps)

broken : {a b : Option (List ℕ)} {s : SetupValue} {front piece : List ℕ} → NothingYet → FailsAtPiece a b s [] piece front → IsBroken a b s front piece
broken {s = s} {front} nothing p = record { between = between s front nothing p.out.before p.out.last; near = p.near }

pub run_write : {v w : Conversion} {x : Setup} {a b : Option (List ℕ)} (r r' : Option (List ℕ)) → BeganNew v w x → (FailsFeeding v w r r' a b ⊎ FailsFinishing v w r r' a b)
    → FailedWriting r r' a b (setup_value x) ⊎ FailedWritingAtEnd r r' a b (setup_value x)
run_write {x = x} r r' new (inl p) = inl (p.0, p.1, p.2, broken new.nothing (p.4 (setup_value x) [] new.history))
run_write {x = x} r r' new (inr p) = inr (p.0, p.1, p.2, (let f = p.4 (setup_value x) [] new.history in between (setup_value x) p.0 new.nothing f.before f.last))
