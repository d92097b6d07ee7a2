-- A listing as a consumer of frames.
use Rattle.rtcm_inspect.proofs.StreamLemmas.{Began}
use Rattle.rtcm_inspect.proofs.Names.{Err, Ok, OnErr, Result, WritesText, ◌≡◌, ◌∙◌, ◌-◌, ◌<◌, ap, sym, subst, refl, arith, Bool, true, false, ℕ, List, [], ◌∷◌, ◌++◌, Option, append_assoc, append-nil, length, take, Appends, flat_map-append, Appends-nil, Appends-trans, AppendsPrefix, Device, HasFailed, IsPrefix, Framed, decided_frames, known_frames, ⊤, StreamFault, Devices, EndsListing, devices_of, stream_fault, AtFault, BreaksReading, Passes, PassesAll, PassesToLimit, Reads, FramerValue, Listing, Lists, ListsAll, ListsDecided, ListsPart, ListsToLimit, ListsUpTo, listing_line, listing_lines, piece_bytes, prefix_trans}
use Rattle.rtcm_scan.specs.declared.feed.StreamFault.TheVariants as stream

-- the lines of one more frame
lines_more : (k : Listing) (fs : List Framed) (f : Framed) → listing_lines k (fs ++ f ∷ []) ≡ listing_lines k fs ++ listing_line k f
lines_more k fs f = flat_map-append (listing_line k) fs (f ∷ []) ∙ ap (λ (l : List ℕ). listing_lines k fs ++ l) (append-nil (listing_line k f))

-- the lines of a prefix of the frames are a prefix of the lines
first_lines : (k : Listing) (fs gs : List Framed) → IsPrefix fs gs → IsPrefix (listing_lines k fs) (listing_lines k gs)
first_lines k fs gs p = (listing_lines k p.0, ap (listing_lines k) p.1 ∙ flat_map-append (listing_line k) fs p.0)

module _ {W : Type 0} {held : W → Option (List ℕ)} {k0 k : Listing} {o0 o o2 : Device W} {ps fs : List Framed} where
  -- a prefix of the line was written
  stopped_at_line : (f : Framed) → AppendsPrefix (held o.inner) (held o2.inner) (listing_line k f) → HasFailed o.failures o2.failures
      → Lists held k0 o0 ps k o fs → ListsUpTo held k0 o0 ps k o2 fs (fs ++ f ∷ [])
  stopped_at_line f line failed s =
      let part : AppendsPrefix (held o.inner) (held o2.inner) (listing_line k0 f) = subst (λ (x : Listing). AppendsPrefix (held o.inner) (held o2.inner) (listing_line x f)) s.same line in
      let rest : List ℕ = part.0 in
      let sent : List ℕ = part.1.0 in
      record {
        out = λ w a. record {
          out = listing_lines k0 fs ++ sent;
          went = Appends-trans w (held o.inner) (held o2.inner) (listing_lines k0 fs) sent (s.out w a) part.1.2;
          least = (sent, refl);
          most = (rest, lines_more k0 fs f ∙ ap (λ (l : List ℕ). listing_lines k0 fs ++ l) part.1.1 ∙ sym (append_assoc (listing_lines k0 fs) sent rest));
        };
        failed = subst (λ (n : ℕ). HasFailed n o2.failures) s.fine failed;
      }

-- a text, given in other terms, was written or not
pub written_as : {W A E : Type 0} {text same : List ℕ} {held : W → Option (List ℕ)} {o o2 : Device W} {r : Result A E} → text ≡ same → WritesText r held o o2 text → WritesText r held o o2 same
written_as {held = held} {o} {o2} {r} e w = subst (λ (l : List ℕ). WritesText r held o o2 l) e w

-- a frame's line, given in other terms, was written in part
pub part_line : {W A E : Type 0} {text : List ℕ} {held : W → Option (List ℕ)} {o o2 : Device W} (k : Listing) (f : Framed) (r : Result A E) → text ≡ listing_line k f → WritesText r held o o2 text
    → OnErr r ((k0 : Listing) (o0 : Device W) (ps fs : List Framed) → Lists held k0 o0 ps k o fs → ListsUpTo held k0 o0 ps k o2 fs (fs ++ f ∷ []))
part_line k f (Ok u) is w = tt
part_line {held = held} {o} {o2} k f (Err e) is w = λ k0 o0 ps fs. stopped_at_line f (subst (AppendsPrefix (held o.inner) (held o2.inner)) is w.part) w.device.0

-- ---- a stream that is listed from its start

pub new_listing : {W : Type 0} (held : W → Option (List ℕ)) (k : Listing) (o : Device W) → Lists held k o [] k o []
new_listing held k o = record { same = refl; out = λ w a. a; fine = refl }

module _ {R W : Type 0} (left : R → Option (List ℕ)) (held : W → Option (List ℕ)) (waits : W → List ℕ) {v : FramerValue} {k : Listing} {o : Device W} {limit : ℕ} (v2 : FramerValue) (k2 : Listing) (o2 : Device W) (r r2 : Device R) (began : Began (Lists held) v k o limit) where
  abbrev at : Device R → Device W → Devices R W
  at x y = devices_of left held waits x y

  written : (b : List ℕ) → Passes (Lists held) v k o v2 k2 o2 b → Appends (held o.inner) (held o2.inner) (listing_lines k (known_frames v2.has_ended b))
  written b passes = (passes k o [] [] began.new).passed.taken.out (held o.inner) (Appends-nil (held o.inner))

  -- to its end
  pub listed_all : v2.has_ended ≡ true → PassesAll (Lists held) v k o v2 k2 o2 (left r.inner) (left r2.inner) → ListsAll (listing_lines k) (at r o) (at r2 o2) × (o2.failures ≡ o.failures)
  listed_all ended p =
      let b : List ℕ = p.0.0 in
      let out = subst (λ (e : Bool). Appends (held o.inner) (held o2.inner) (listing_lines k (known_frames e b))) ended (written b p.0.2) in
      ((b, p.0.1, p.1, out), (p.0.2 k o [] [] began.new).passed.taken.fine)

  -- up to a failed read
  pub listed_some : v2.has_ended ≡ false → Reads (left r.inner) (left r2.inner) (Passes (Lists held) v k o v2 k2 o2) → ListsDecided (listing_lines k) (at r o) (at r2 o2) × (o2.failures ≡ o.failures)
  listed_some going p =
      let out = subst (λ (e : Bool). Appends (held o.inner) (held o2.inner) (listing_lines k (known_frames e p.0))) going (written p.0 p.2) in
      ((p.0, p.1, out), (p.2 k o [] [] began.new).passed.taken.fine)

  -- up to the limit
  pub listed_to_limit : v2.has_ended ≡ false → Reads (left r.inner) (left r2.inner) (PassesToLimit (Lists held) v k o v2 k2 o2)
      → ListsToLimit limit (listing_lines k) (at r o) (at r2 o2) × (o2.failures ≡ o.failures)
  listed_to_limit going p =
      let is : v.limit ≡ limit = began.limit_is in
      let none : v.taken ≡ 0 = began.none in
      let front : List ℕ = take (v.limit - v.taken) p.0 in
      let out = subst (λ (e : Bool). Appends (held o.inner) (held o2.inner) (listing_lines k (known_frames e front))) going (written front p.2.passes) in
      let size : v.limit - v.taken ≡ limit = omega (arith, is, none) in
      let over : limit < length p.0 = omega (arith, is, none, p.2.over) in (
        (p.0, p.1, over, subst (λ (n : ℕ). Appends (held o.inner) (held o2.inner) (listing_lines k (decided_frames (take n p.0)))) size out),
        (p.2.passes k o [] [] began.new).passed.taken.fine,
      )

  -- up to a piece at which the writer failed
  pub listed_part : BreaksReading (Lists held) (ListsUpTo held) v k o k2 o2 piece_bytes (left r.inner) (left r2.inner)
      → ListsPart (listing_lines k) (at r o) (at r2 o2) × HasFailed o.failures o2.failures
  listed_part p =
      let broke = p.breaks k o [] [] began.new in
      let between = broke.broken.out (held o.inner) (Appends-nil (held o.inner)) in
      let least = subst (λ (e : Bool). IsPrefix (listing_lines k (known_frames e p.front)) (listing_lines k broke.taken)) began.going (first_lines k (known_frames v.has_ended p.front) broke.taken broke.first) in (
        record {
          front = p.front;
          piece = p.piece;
          ended = p.ended;
          consumes = p.consumes;
          few = p.few;
          at_end = p.at_end;
          between = record {
            out = between.out;
            went = between.went;
            least = prefix_trans _ _ between.out least between.least;
            most = prefix_trans between.out _ _ between.most (first_lines k broke.reached (known_frames p.ended (p.front ++ p.piece)) broke.known);
          };
        },
        broke.broken.failed,
      )

-- the listing was stopped by a fault
pub record Stopped {R W F : Type 0} (left : R → Option (List ℕ)) (held : W → Option (List ℕ)) (waits : W → List ℕ) (v v2 : FramerValue) (k k2 : Listing) (o o2 : Device W) (r r2 : Device R) (fault : StreamFault F) : Type 0 where
  pub passed : AtFault fault (Reads (left r.inner) (left r2.inner) (Passes (Lists held) v k o v2 k2 o2)) (Reads (left r.inner) (left r2.inner) (PassesToLimit (Lists held) v k o v2 k2 o2))
      (BreaksReading (Lists held) (ListsUpTo held) v k o k2 o2 piece_bytes (left r.inner) (left r2.inner))
  pub still : AtFault fault (v2.has_ended ≡ false) (v2.has_ended ≡ false) ⊤
  pub sent : AtFault fault (waits o2.inner ≡ []) (waits o2.inner ≡ []) ⊤
  pub failed : AtFault fault (HasFailed r.failures r2.failures) (r2.failures ≡ r.failures) (r2.failures ≡ r.failures)

pub listing_stopped : {R W F : Type 0} {left : R → Option (List ℕ)} {held : W → Option (List ℕ)} {waits : W → List ℕ} {v v2 : FramerValue} {k k2 : Listing} {o o2 : Device W} {r r2 : Device R} {limit : ℕ} (fault : StreamFault F)
    → Began (Lists held) v k o limit → Stopped left held waits v v2 k k2 o o2 r r2 fault → EndsListing {A = ⊤} (Err (stream_fault fault)) limit (listing_lines k) (devices_of left held waits r o) (devices_of left held waits r2 o2)
listing_stopped {left = left} {held} {waits} {v2 = v2} {k2 = k2} {o2 = o2} {r} {r2} stream.Read began s = let listed = listed_some left held waits v2 k2 o2 r r2 began s.still s.passed in ((s.failed, listed.1), (listed.0, s.sent))
listing_stopped {left = left} {held} {waits} {v2 = v2} {k2 = k2} {o2 = o2} {r} {r2} stream.TooLong began s = let listed = listed_to_limit left held waits v2 k2 o2 r r2 began s.still s.passed in ((s.failed, listed.1), (listed.0, s.sent))
listing_stopped {left = left} {held} {waits} {v2 = v2} {k2 = k2} {o2 = o2} {r} {r2} (stream.Sink fault) began s = let listed = listed_part left held waits v2 k2 o2 r r2 began s.passed in ((s.failed, listed.1), listed.0)
