-- Pieces that a converter accepts up to the end of its stream.
use Rattle.rtcm_convert.proofs.Names.{Fault, ◌≡◌, ℕ, ◌+◌, ◌<◌, ◌≤◌, inl, inr, List, ◌++◌, sym, ap, subst, ◌∙◌, arith, Option, append_assoc, length, length-append, take, drop, get_or, flat_map, Vec, take-append-drop, take-append-le, flat_map-append, take-length, joined_pieces, SetupValue, AppendsDecided, AppendsPrefixOfDecided, Conversion, HasConverted, TakesPiece, CutsAtLimit, WritesPrefixOfAdded, StopsAtEnd, FinishesNow, FinishesEmptyNow, CompletesFile, CompletesEmptyFile, FailsAtEnd, StopsInPieces, Report, common_steps}
use Rattle.rtcm_convert.proofs.PartLemmas.{goes_on-trans}
use Rattle.rtcm_convert.proofs.RunLemmas.{completed_after, empty_after}

-- ---- the first pieces

pub pieces_more : {X : Type 0} (bytes : X → List ℕ) (pieces : List X) (i : ℕ) (d : X) (piece : List ℕ) → piece ≡ bytes (get_or pieces i d) → i < length pieces
    → flat_map bytes (take i pieces) ++ piece ≡ flat_map bytes (take (i + 1) pieces)
pieces_more bytes pieces i d piece is lt = grind (arith, common_steps)

pub pieces_all : {X : Type 0} (bytes : X → List ℕ) (pieces : List X) (i : ℕ) → i ≤ length pieces → length pieces ≤ i → flat_map bytes (take i pieces) ≡ flat_map bytes pieces
pieces_all bytes pieces i le ge = let e : i ≡ length pieces = omega arith in ap (λ k. flat_map bytes (take k pieces)) e ∙ ap (flat_map bytes) (take-length pieces)

-- the first pieces and the rest make all
pieces_split : {X : Type 0} (bytes : X → List ℕ) (pieces : List X) (i : ℕ) → flat_map bytes pieces ≡ flat_map bytes (take i pieces) ++ flat_map bytes (drop i pieces)
pieces_split bytes pieces i = ap (flat_map bytes) (sym (take-append-drop i pieces)) ∙ flat_map-append bytes (take i pieces) (drop i pieces)

-- these bytes were accepted, and what they add was written
abbrev pub HasTaken : Conversion → Conversion → Option (List ℕ) → Option (List ℕ) → List ℕ → Type 0
HasTaken v w a b front = (s : SetupValue) (bytes : List ℕ) → HasConverted v s bytes → HasConverted w s (bytes ++ front) × AppendsDecided a b s bytes (bytes ++ front)

pub taken_then : {v w x : Conversion} {a b c : Option (List ℕ)} (front piece : List ℕ) {all : List ℕ} → front ++ piece ≡ all → HasTaken v w a b front → TakesPiece w x piece b c → HasTaken v x a c all
taken_then {x} {a} {c} front piece {all} more f g s bytes y = grind (arith, append_assoc bytes front piece, goes_on-trans (f s bytes y).1 (g s (bytes ++ front) (f s bytes y).0).out)

pub longer_by : (u : ℕ) {v w : ℕ} (front piece : List ℕ) {all : List ℕ} → front ++ piece ≡ all → v ≡ u + length front → w ≡ v + length piece → w ≡ u + length all
longer_by u front piece {all} more d e = let l : length all ≡ length front + length piece = ap length (sym more) ∙ length-append front piece in omega (arith, d, e, l)

module _ {v w : Conversion} {a b : Option (List ℕ)} (front : List ℕ) (came : HasTaken v w a b front) where
  -- ---- the end

  pub pieces_whole : {x : Conversion} {c : Option (List ℕ)} {all : List ℕ} {report : Report} → front ≡ all → FinishesNow w x report b c → CompletesFile v x report all a c
  pieces_whole {x} {c} {report = report} e f = subst (λ (l : List ℕ). CompletesFile v x report l a c) e (λ s bytes y. (let i = came s bytes y in completed_after i.1 (f s (bytes ++ front) i.0)))

  pub pieces_empty : {x : Conversion} {c : Option (List ℕ)} {all : List ℕ} {fault : Fault} → front ≡ all → FinishesEmptyNow w x fault b c → CompletesEmptyFile v x fault all a c
  pieces_empty {x} {c} {fault = fault} e f = subst (λ (l : List ℕ). CompletesEmptyFile v x fault l a c) e (λ s bytes y. (let i = came s bytes y in empty_after i.1 (f s (bytes ++ front) i.0)))

  pub pieces_broke_at_end : {Z : Type 0} {c : Option (List ℕ)} (pieces : List (Vec ℕ Z)) → front ≡ joined_pieces pieces → StopsAtEnd w b c → StopsInPieces v pieces a c
  pieces_broke_at_end {c = c} pieces e stop = inr (λ s bytes y.
      let i = came s bytes y in
      let at : bytes ++ front ≡ bytes ++ joined_pieces pieces = ap (λ l. bytes ++ l) e in
      subst (λ (l : List ℕ). FailsAtEnd a c s bytes l) at (record { mid = b; before = i.1; last = stop s (bytes ++ front) i.0 }))

  -- ---- a piece

  -- a piece that goes over the limit: the bytes written are those of all pieces up to the limit
  pub pieces_long : {x : Conversion} {c : Option (List ℕ)} {all : List ℕ} (piece rest : List ℕ) → w.scan.limit ≡ v.scan.limit → w.scan.taken ≡ v.scan.taken + length front → all ≡ (front ++ piece) ++ rest → CutsAtLimit w x piece b c → CutsAtLimit v x all a c
  pieces_long {c = c} {all} piece rest same taken e q = record {
    adds = λ s bytes y.
        (let i = came s bytes y in
        let out = goes_on-trans i.1 (q.adds s (bytes ++ front) i.0) in
        let whole : bytes ++ all ≡ ((bytes ++ front) ++ piece) ++ rest =
        ap (λ l. bytes ++ l) e ∙ sym (append_assoc bytes (front ++ piece) rest) ∙ ap (λ l. l ++ rest) (sym (append_assoc bytes front piece)) in
        let had : w.scan.taken ≡ length (bytes ++ front) = i.0.drained.scan.framer.history.taken in
        let size : length ((bytes ++ front) ++ piece) ≡ length (bytes ++ front) + length piece = length-append (bytes ++ front) piece in
        let over : w.scan.limit < w.scan.taken + length piece = q.over in
        let room : w.scan.limit ≤ length ((bytes ++ front) ++ piece) = omega (arith, over, had, size) in
        let cut : take w.scan.limit ((bytes ++ front) ++ piece) ≡ take v.scan.limit (bytes ++ all) =
        sym (take-append-le w.scan.limit ((bytes ++ front) ++ piece) rest room) ∙ ap (take w.scan.limit) (sym whole) ∙ ap (λ n. take n (bytes ++ all)) same in
        subst (λ (l : List ℕ). AppendsDecided a c s bytes l) cut out);
    full = q.full ∙ same;
    over = (let l : length all ≡ length (front ++ piece) + length rest = ap length e ∙ length-append (front ++ piece) rest in
        let m : length (front ++ piece) ≡ length front + length piece = length-append front piece in
        let over : w.scan.limit < w.scan.taken + length piece = q.over in
        omega (arith, l, m, over, taken, same));
  }

-- the pieces after the first ones
pub pieces_rest : {X : Type 0} (bytes : X → List ℕ) (pieces : List X) (i : ℕ) (piece : List ℕ) → flat_map bytes (take i pieces) ++ piece ≡ flat_map bytes (take (i + 1) pieces)
    → flat_map bytes pieces ≡ (flat_map bytes (take i pieces) ++ piece) ++ flat_map bytes (drop (i + 1) pieces)
pieces_rest bytes pieces i piece more = pieces_split bytes pieces (i + 1) ∙ ap (λ l. l ++ flat_map bytes (drop (i + 1) pieces)) (sym more)

-- the writer failed at a piece
pub pieces_broke : {Z : Type 0} {v w : Conversion} {a b c : Option (List ℕ)} (pieces : List (Vec ℕ Z)) (i : ℕ) (piece : List ℕ) → HasTaken v w a b (joined_pieces (take i pieces)) → i < length pieces
    → joined_pieces (take i pieces) ++ piece ≡ joined_pieces (take (i + 1) pieces) → WritesPrefixOfAdded w piece b c → StopsInPieces v pieces a c
pieces_broke {b} {c} pieces i piece came less more stop = inl (
  i,
  less,
  λ s bytes y.
      let j = came s bytes y in
      let e : (bytes ++ joined_pieces (take i pieces)) ++ piece ≡ bytes ++ joined_pieces (take (i + 1) pieces) = append_assoc bytes (joined_pieces (take i pieces)) piece ∙ ap (λ l. bytes ++ l) more in
      record { mid = b; before = j.1; last = subst (λ (l : List ℕ). AppendsPrefixOfDecided b c s (bytes ++ joined_pieces (take i pieces)) l) e (stop s (bytes ++ joined_pieces (take i pieces)) j.0) },
)
