-- A stream that is read piece by piece.
use Rattle.rtcm_scan.proofs.Names.{◌≡◌, ℕ, ◌+◌, ◌-◌, ◌<◌, ◌≤◌, Bool, true, false, List, [], ◌++◌, ◌∙◌, ap, sym, arith, length, take, max, append_assoc, append-nil, subst, length-append, Option, add-zero, Consumes, IsAtEnd, Consumes-trans, Consumes-nil, Framed, length-drop, take-append-add, length-take-le, longest_frame, decided, IsDrained, known_frames, FramerValue, HasReadPiece, Coming, Breaking, HasPassedAll, HasBroken, Passes, Breaks, Continues, BreaksKnown, PassesKnown, PassesToLimit, PassesAll, BreaksAfter, BreaksReading, Reads, ReadsOn, IsReadingOn, AtFault, StreamFault, most_undecided, prefix_self}
use Rattle.rtcm_scan.proofs.PassingLemmas.{passes_sent}
use Rattle.rtcm_scan.proofs.PrefixLemmas.{decided_near}

-- at each fault, one proposition implies another
pub at_each : {F P Q R P' Q' R' : Type 0} (f : StreamFault F) → (P → P') → (Q → Q') → (R → R') → AtFault f P Q R → AtFault f P' Q' R'
at_each f p q r a = grind arith

-- one piece after others
pub reading_more : {S : Type 0} {can : S → Type 0} {s s' : S} {v v' v2 : FramerValue} {n m k l : ℕ} → IsReadingOn can s v v' n m → can s' → Continues v' v2 l → k ≡ m → IsReadingOn can s' v v2 n k
reading_more i c j e = record { can = c; limit = j.limit ∙ i.limit; ended = j.ended ∙ i.ended; some = λ h. j.some (i.some h); size = e ∙ i.size }

limit_after : (limit taken w : ℕ) (front piece : List ℕ) → w ≡ taken + length front → w ≤ limit → front ++ take (limit - w) piece ≡ take (limit - taken) (front ++ piece)
limit_after limit taken w front piece e le = grind (arith, take-append-add {A = ℕ})

-- a piece that fits into the buffer beside the held bytes
near_held : (v : FramerValue) (b : List ℕ) (n most : ℕ) → v.has_ended ≡ false → IsDrained v b (known_frames v.has_ended b) → length v.held + n ≤ max most (length v.held + 1)
    → (length b - decided b) + n ≤ max most longest_frame
near_held v b n most going d fits = grind (arith, length-drop, decided_near)

module _ {S O : Type 0} (took : Coming S O) (broke : Breaking S O) where
  -- no byte was read, and the output was flushed
  pub reads_none : (v : FramerValue) (s : S) (o o' : O) (r : Option (List ℕ)) → ((s0 : S) (o0 : O) (ps fs : List Framed) → took s0 o0 ps s o fs → took s0 o0 ps s o' fs) → ReadsOn took v s o v s o' r r
  reads_none v s o o' r send = ([], Consumes-nil r, (passes_sent took [] send (λ s0 o0 ps b x. subst (λ (l : List ℕ). HasPassedAll took v s0 o0 ps s o l) (sym (append-nil b)) x), sym (add-zero v.taken)))

  -- one piece after others
  pub passes_more : {v v' v2 : FramerValue} {s s' s2 : S} {o o' o2 : O} (front piece : List ℕ) → Passes took v s o v' s' o' front → Passes took v' s' o' v2 s2 o2 piece → Passes took v s o v2 s2 o2 (front ++ piece)
  passes_more {v2} {s2} {o2} front piece p q s0 o0 ps b x =
      subst (λ (l : List ℕ). HasPassedAll took v2 s0 o0 ps s2 o2 l) (append_assoc b front piece) (q s0 o0 ps (b ++ front) (p s0 o0 ps b x))

  pub reads_more : {v v' v2 : FramerValue} {s s' s2 : S} {o o' o2 : O} (r r' r2 : Option (List ℕ)) → ReadsOn took v s o v' s' o' r r' → ReadsOn took v' s' o' v2 s2 o2 r' r2 → ReadsOn took v s o v2 s2 o2 r r2
  reads_more {v} {v'} {v2} r r' r2 p q =
      let l : length (p.0 ++ q.0) ≡ length p.0 + length q.0 = length-append p.0 q.0 in
      let a : v'.taken ≡ v.taken + length p.0 = p.2.1 in
      let t : v2.taken ≡ v'.taken + length q.0 = q.2.1 in
      (p.0 ++ q.0, Consumes-trans r r' r2 p.0 q.0 p.1 q.1, (passes_more p.0 q.0 p.2.0 q.2.0, omega (arith, l, a, t)))

  -- a piece that goes over the limit, after others
  pub limit_more : {can : S → Type 0} {v v' v2 : FramerValue} {s s' s2 : S} {o o' o2 : O} {r' r2 : Option (List ℕ)} {most size n : ℕ} {buffer : List ℕ} (r : Option (List ℕ))
      → IsReadingOn can s' v v' most size → ReadsOn took v s o v' s' o' r r' → HasReadPiece v' r' r2 size buffer n → Continues v' v2 (length (take n buffer))
      → PassesToLimit took v' s' o' v2 s2 o2 (take n buffer) → Reads r r2 (PassesToLimit took v s o v2 s2 o2)
  limit_more {v} {v'} {v2} {s} {s2} {o} {o2} {r'} {r2} {n} {buffer} r on p read goes q =
      let front : List ℕ = p.0 in
      let piece : List ℕ = take n buffer in
      let a : v'.taken ≡ v.taken + length front = p.2.1 in
      let l : length (front ++ piece) ≡ length front + length piece = length-append front piece in
      let over : v'.limit < v'.taken + length piece = q.over in
      let within : v'.taken ≤ v.limit = omega (arith, goes.least, goes.within, on.limit) in
      let cut : front ++ take (v'.limit - v'.taken) piece ≡ take (v.limit - v.taken) (front ++ piece) = ap (λ (m : ℕ). front ++ take (m - v'.taken) piece) on.limit ∙ limit_after v.limit v.taken v'.taken front piece a within in (
        front ++ piece,
        Consumes-trans r r' r2 front piece p.1 read.consumes,
        record {
          passes = subst (λ (l : List ℕ). Passes took v s o v2 s2 o2 l) cut (passes_more front (take (v'.limit - v'.taken) piece) p.2.0 q.passes);
          full = q.full ∙ on.limit;
          over = omega (arith, l, a, over, on.limit);
        },
      )

  -- the sink failed at a piece after others
  pub breaks_more : {can : S → Type 0} {v v' v2 : FramerValue} {s s' s2 : S} {o o' o2 : O} {r r' r2 : Option (List ℕ)} {most size n : ℕ} {buffer : List ℕ} → (v.has_ended ≡ false) × (length buffer ≡ size)
      → IsReadingOn can s' v v' most size → ReadsOn took v s o v' s' o' r r' → HasReadPiece v' r' r2 size buffer n → Continues v' v2 (length (take n buffer))
      → Breaks took broke v' s' o' s2 o2 (take n buffer) → BreaksAfter took broke v s o v2 s2 o2 most r r2
  breaks_more {v} {v'} {s2} {o2} {r} {r'} {r2} {most} {n} {buffer} (going, len) on p read goes q =
      let piece : List ℕ = take n buffer in
      let l : length (take n buffer) ≡ n = length-take-le n buffer read.within in
      let fits : length v'.held + length (take n buffer) ≤ max most (length v'.held + 1) = omega (arith, l, read.near, on.size) in
      record {
        front = p.0;
        piece = piece;
        consumes = Consumes-trans r r' r2 p.0 piece p.1 read.consumes;
        breaks = λ s0 o0 ps b x. (subst (λ (l : List ℕ). HasBroken broke v.has_ended s0 o0 ps s2 o2 (known_frames v.has_ended (b ++ p.0)) l) (append_assoc b p.0 piece)
            (subst (λ (e : Bool). HasBroken broke e s0 o0 ps s2 o2 (known_frames e (b ++ p.0)) ((b ++ p.0) ++ piece)) on.ended (q s0 o0 ps (b ++ p.0) (p.2.0 s0 o0 ps b x))));
        near = λ s0 o0 ps b x. near_held v' (b ++ p.0) (length piece) most (on.ended ∙ going) (p.2.0 s0 o0 ps b x).drained fits;
        few = omega (arith, l, read.within, len, on.size);
        least = omega (arith, goes.least);
        greatest = omega (arith, goes.most);
      }

  -- the sink failed before any byte was read
  pub breaks_first : {v : FramerValue} {r : Option (List ℕ)} {most : ℕ} (s : S) (o o' : O) → ((s0 : S) (o0 : O) (ps fs : List Framed) → took s0 o0 ps s o fs → broke s0 o0 ps s o' fs fs)
      → BreaksAfter took broke v s o v s o' most r r
  breaks_first {v} {r} s o o' send = record {
    front = [];
    piece = [];
    consumes = Consumes-nil r;
    breaks = λ s0 o0 ps b x. (subst (λ (l : List ℕ). HasBroken broke v.has_ended s0 o0 ps s o' (known_frames v.has_ended l) l) (sym (append-nil b)) (record {
      taken = known_frames v.has_ended b;
      reached = known_frames v.has_ended b;
      first = prefix_self (known_frames v.has_ended b);
      known = prefix_self (known_frames v.has_ended b);
      broken = send s0 o0 ps (known_frames v.has_ended b) x.passed.taken;
    }));
    near = λ s0 o0 ps b x. (let u : length (b ++ []) ≤ decided (b ++ []) + most_undecided = (decided_near (b ++ [])).1 in omega (arith, u));
    few = omega arith;
    least = omega arith;
    greatest = omega arith;
  }

  -- the same for a stream that was to be ended
  pub breaks_reading : {v v' : FramerValue} {s s' : S} {o o' : O} {r r' : Option (List ℕ)} {most : ℕ} → v.has_ended ≡ false → BreaksAfter took broke v s o v' s' o' most r r' → BreaksReading took broke v s o s' o' most r r'
  breaks_reading {v} going q = grind arith

  -- all was read, and the remaining frames were passed on
  pub passes_end : {v v' v2 : FramerValue} {s s' s2 : S} {o o' o2 : O} (r r' : Option (List ℕ)) → IsAtEnd r'
      → ReadsOn took v s o v' s' o' r r' → PassesKnown took v' s' o' v2 s2 o2 → PassesAll took v s o v2 s2 o2 r r'
  passes_end {v'} r r' e p k = (
    (p.0, p.1, λ s0 o0 ps b x. (let d = p.2.0 s0 o0 ps b x in k s0 o0 ps (b ++ p.0) (known_frames v'.has_ended (b ++ p.0)) d.passed)),
    e,
  )

  -- the sink failed at one of them
  pub breaks_end : {v v' : FramerValue} {s s' s2 : S} {o o' o2 : O} {r r' : Option (List ℕ)} {most : ℕ} → v'.has_ended ≡ v.has_ended → IsAtEnd r'
      → ReadsOn took v s o v' s' o' r r' → BreaksKnown took broke true v' s' o' s2 o2 → BreaksReading took broke v s o s2 o2 most r r'
  breaks_end {v} {v'} {s2} {o2} {r} {r'} same e p k = record {
    front = p.0;
    piece = [];
    ended = true;
    consumes = subst (λ (l : List ℕ). Consumes r r' l) (sym (append-nil p.0)) p.1;
    breaks = λ s0 o0 ps b x. (let d = p.2.0 s0 o0 ps b x in
        subst (λ (l : List ℕ). HasBroken broke true s0 o0 ps s2 o2 (known_frames v.has_ended (b ++ p.0)) (b ++ l)) (sym (append-nil p.0))
        (subst (λ (h : Bool). HasBroken broke true s0 o0 ps s2 o2 (known_frames h (b ++ p.0)) (b ++ p.0)) same (k s0 o0 ps (b ++ p.0) (known_frames v'.has_ended (b ++ p.0)) d.passed)));
    few = omega arith;
    at_end = λ _. e;
  }
