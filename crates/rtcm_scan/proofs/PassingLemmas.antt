-- Frames that are passed to a sink, piece by piece.
use Rattle.rtcm_scan.proofs.Names.{common_steps, ◌≡◌, ℕ, ◌+◌, ◌<◌, ◌≤◌, Bool, true, false, List, [], ◌∷◌, ◌++◌, ◌∙◌, ap, sym, refl, arith, length, take, drop, append_assoc, append-nil, subst, take-append-drop, length-drop, slice_range, length-take, take-add, IsPrefix, Framed, frames_of, known_frames, FramerValue, with_bytes, AcceptsBytes, HasExamined, Coming, Breaking, HasPassed, HasPassedAll, PassesPushed, BreaksKnown, Passes, Breaks, Continues, IsSameStream, prefix_self, prefix_trans}
use Rattle.std.specs.Prelude.{Result, Ok, Err, OnErr, MatchResult}
use Rattle.std.specs.Result.{IsErrAnd}
use Rattle.rtcm_scan.proofs.PrefixLemmas.{stays_decided}

pub unwrapped : {T D E P : Type 0} (Q : D → E → Type 0) (r : Result T D) (s : Result T E) (e : E) → OnErr r P → MatchResult r (λ x. s ≡ Ok x) (λ e. IsErrAnd s (Q e)) → s ≡ Err e → P
unwrapped Q (Ok x) s e given is fault = absurd (cc (is, fault))
unwrapped Q (Err d) s e given is fault = given

pub prefix_one_more : {A : Type 0} (xs ys : List A) (z : A) → IsPrefix xs ys → IsPrefix xs (ys ++ z ∷ [])
prefix_one_more xs ys z p = prefix_trans xs ys (ys ++ z ∷ []) p (z ∷ [], refl)

-- known frames stay known
pub known_later : (e : Bool) (b t : List ℕ) → (e ≡ true → length t ≡ 0) → IsPrefix (known_frames e b) (known_frames e (b ++ t))
known_later true b [] h = ([], ap frames_of (append-nil b) ∙ sym (append-nil (frames_of b)))
known_later true b (x ∷ t) h = absurd (omega (arith, h refl))
known_later false b t h = (stays_decided b t).0

pub take_block : (b piece : List ℕ) (n m : ℕ) → (b ++ take n piece) ++ slice_range piece n (n + m) ≡ b ++ take (n + m) piece
take_block b piece n m = grind (arith, common_steps, take-add {A = ℕ})

-- if there is no room, the limit is reached
pub at_limit : (taken limit room : ℕ) → (taken < limit → 0 < room) → room ≡ 0 → taken + room ≤ limit → taken ≡ limit
at_limit taken limit room some none within = grind arith

-- a prefix of the frames that are known with the first n bytes of a piece is a prefix of those known with the whole
-- piece
pub prefix_later : {e u : Bool} (b piece : List ℕ) (n : ℕ) (fs : List Framed) → u ≡ e → (e ≡ true → length piece ≡ 0) → IsPrefix fs (known_frames u (b ++ take n piece)) → IsPrefix fs (known_frames e (b ++ piece))
prefix_later {e} b piece n fs same going q =
    let p : IsPrefix fs (known_frames e (b ++ take n piece)) = subst (λ (x : Bool). IsPrefix fs (known_frames x (b ++ take n piece))) same q in
    let none : e ≡ true → length (drop n piece) ≡ 0 = λ h. omega (arith, going h, length-drop n piece) in
    let whole : (b ++ take n piece) ++ drop n piece ≡ b ++ piece = append_assoc b (take n piece) (drop n piece) ∙ ap (λ (l : List ℕ). b ++ l) (take-append-drop n piece) in
    let later : IsPrefix (known_frames e (b ++ take n piece)) (known_frames e (b ++ piece)) = subst (λ (l : List ℕ). IsPrefix (known_frames e (b ++ take n piece)) (known_frames e l)) whole (known_later e (b ++ take n piece) (drop n piece) none) in
    prefix_trans fs (known_frames e (b ++ take n piece)) (known_frames e (b ++ piece)) p later

-- no further byte was accepted
pub continues_same : {v v1 v2 : FramerValue} {n m : ℕ} → Continues v v1 n → n ≤ m → v2.has_ended ≡ v1.has_ended → IsSameStream v1 v2 → Continues v v2 m
continues_same {v} {v1} {v2} {n} k within ended same = grind arith

-- a block was accepted
pub continues_block : {v v1 v2 : FramerValue} {n m : ℕ} (xs : List ℕ) → length xs ≡ m → Continues v v1 n → v2 ≡ with_bytes v1 xs → v2.taken ≤ v2.limit
    → AcceptsBytes v1 v2 xs → Continues v v2 (n + m)
continues_block {v} {v1} {v2} {n} xs size k push within counts = grind arith

module _ {S O : Type 0} (took : Coming S O) where
  -- bytes were accepted, and at least the frames known before them were passed on, or all if the framer is ready
  abbrev pub PassesPart : FramerValue → S → O → FramerValue → S → O → List ℕ → Type 0
  PassesPart v s o v' s' o' next = (s0 : S) (o0 : O) (ps : List Framed) (b : List ℕ) → HasPassedAll took v s0 o0 ps s o b
      → (fs : List Framed) × IsPrefix (known_frames v.has_ended b) fs × HasPassed took v' s0 o0 ps s' o' (b ++ next) fs
      × (v'.is_ready ≡ true → HasPassedAll took v' s0 o0 ps s' o' (b ++ next))

  -- their frames were passed on
  pub part_drained : {v v' v2 : FramerValue} {s s' s2 : S} {o o' o2 : O} (next : List ℕ) → PassesPart v s o v' s' o' next → PassesPushed took v' s' o' v2 s2 o2
      → Passes took v s o v2 s2 o2 next
  part_drained next p k s0 o0 ps b x = let q = p s0 o0 ps b x in k s0 o0 ps (b ++ next) q.0 q.2 (λ ready going. q.3 ready)

  -- a block after the first n bytes of a piece was accepted
  pub part_pushed : {v v1 v2 : FramerValue} {s s1 : S} {o o1 : O} (piece : List ℕ) (n m : ℕ) → (v.has_ended ≡ true → length piece ≡ 0) → v1.has_ended ≡ v.has_ended
      → Passes took v s o v1 s1 o1 (take n piece) → AcceptsBytes v1 v2 (slice_range piece n (n + m))
      → v2.is_ready ≡ false → PassesPart v s o v2 s1 o1 (take (n + m) piece)
  part_pushed {v} {v1} {v2} piece n m going same p counts pushed s0 o0 ps b x =
      let e : Bool = v.has_ended in
      let k = p s0 o0 ps b x in
      let fs : List Framed = known_frames v1.has_ended (b ++ take n piece) in
      let first : IsPrefix (known_frames e b) fs =
      subst (λ (h : Bool). IsPrefix (known_frames e b) (known_frames h (b ++ take n piece))) (sym same) (known_later e b (take n piece) (λ h. omega (arith, going h, length-take n piece))) in
      (fs, first, record { framer = subst (λ (l : List ℕ). HasExamined v2 l fs) (take_block b piece n m) (counts (b ++ take n piece) fs k.passed.framer); taken = k.passed.taken }, λ ready. absurd (cc (ready, pushed)))

  -- the sink failed at a frame of the first n bytes of a piece
  pub part_breaks : {v v1 : FramerValue} {s s1 s2 : S} {o o1 o2 : O} (broke : Breaking S O) (piece : List ℕ) (n : ℕ) → (v.has_ended ≡ true → length piece ≡ 0)
      → v1.has_ended ≡ v.has_ended → PassesPart v s o v1 s1 o1 (take n piece) → BreaksKnown took broke v1.has_ended v1 s1 o1 s2 o2 → Breaks took broke v s o s2 o2 piece
  part_breaks {v} broke piece n going same p q s0 o0 ps b x =
      let y = p s0 o0 ps b x in
      let k = q s0 o0 ps (b ++ take n piece) y.0 y.2 in
      record {
        taken = k.taken;
        reached = k.reached;
        first = prefix_trans (known_frames v.has_ended b) y.0 k.taken y.1 k.first;
        known = prefix_later b piece n k.reached same going k.known;
        broken = k.broken;
      }

  -- the output was flushed
  pub passes_sent : {v v' : FramerValue} {s s' : S} {o o1 o2 : O} (next : List ℕ) → ((s0 : S) (o0 : O) (ps fs : List Framed) → took s0 o0 ps s' o1 fs → took s0 o0 ps s' o2 fs)
      → Passes took v s o v' s' o1 next → Passes took v s o v' s' o2 next
  passes_sent {v'} next send p s0 o0 ps b x = grind arith

  -- the sink failed at the flush after the first n bytes of a piece
  pub breaks_sent : {v v' : FramerValue} {s s' : S} {o o1 o2 : O} (broke : Breaking S O) (piece : List ℕ) (n : ℕ) → (v.has_ended ≡ true → length piece ≡ 0) → v'.has_ended ≡ v.has_ended
      → Passes took v s o v' s' o1 (take n piece) → ((s0 : S) (o0 : O) (ps fs : List Framed) → took s0 o0 ps s' o1 fs → broke s0 o0 ps s' o2 fs fs) → Breaks took broke v s o s' o2 piece
  breaks_sent {v} {v'} broke piece n going same p send s0 o0 ps b x =
      let e : Bool = v.has_ended in
      let fs : List Framed = known_frames v'.has_ended (b ++ take n piece) in
      record {
        taken = fs;
        reached = fs;
        first = subst (λ (h : Bool). IsPrefix (known_frames e b) (known_frames h (b ++ take n piece))) (sym same) (known_later e b (take n piece) (λ h. omega (arith, going h, length-take n piece)));
        known = prefix_later b piece n fs same going (prefix_self fs);
        broken = send s0 o0 ps fs (p s0 o0 ps b x).passed.taken;
      }
