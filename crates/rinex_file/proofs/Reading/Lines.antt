-- Bytes that were read ahead and the lines among them; a file that is read line by line.
use Rattle.rinex_file.specs.declared.read.fault.ReadFault.TheVariants.{Memory}
use Rattle.rinex_file.proofs.Writing.Sent.{joined-append}
use Rattle.rinex_file.proofs.Names.{has-append, lacks-append, common_steps, arith, ◌≡◌, ◌∙◌, sym, ap, subst, refl, ℕ, zero, suc, ◌+◌, ◌-◌, ◌<◌, ◌≤◌, true, false, List, [], ◌∷◌, ◌++◌, length, take, drop, get_or, length-append, take-add, append_assoc, append-nil, Option, IfSome, inl, ◌||◌, ◌==◌, nat_eq, nat_lt, min, All, Bool, Consumes, IsAtEnd, prepend_known, min-eq_left, min-eq_right, min-le_left, min-le_right, le-min, false_from_ne_true, or_parts, or_right, append_cancel_left, length-take-le, take-append-drop, length_push, drop-take, drop-drop, take-take, Consumes-nil, Consumes-trans, All-head, All-tail, All-push, IsHeaderBegun, IsAtTypes, is_of_types, ExplainsStored, StopsStoring, StopsReading, inr, Stamped, HasHeader, has, MovesBytes, IsLine, NoFileBegins, IsCutShort, IsTooLong, IsFaulty, ExplainsFault, IsNoFault, most_lines, FileValue, IsFileValue, file_text, file_lines, GoesOnWithLine, ShowsLine, RefusesLine, IsTextOfOnly, IsTaken, joined, ReadFault, Read, CutShort, TooLong, AreBegun, Progress, HasLinesLeft, AreLinesOf, HasReadLines, most_line}

-- ---- bytes that are moved to a line

-- the index of the first line feed, or the number of bytes if there is none
pub record IsFeed (near : List ℕ) (feed : ℕ) : Type 0 where
  pub bound : feed ≤ length near
  pub none : has 10 (take feed near) ≡ false
  pub found : feed < length near → take 1 (drop feed near) ≡ 10 ∷ []

pub moved : {held near new line line' : List ℕ} {room feed count : ℕ} → IsFeed near feed → near ≡ take room held → room ≡ min (length held) (most_line - length line)
    → count ≡ min (feed + 1) room → new ≡ drop count held → line' ≡ line ++ take count near → length line ≤ most_line → MovesBytes (nat_lt feed room) held new line line'
moved at is most e rest pushed short = grind (arith, min-le_left, min-le_right, length-take-le, take-take, take-append-drop, min-eq_left, take-add, min-eq_right, le-min, length-append)

pub moved_of : (b : Bool) (held old new line line' : List ℕ) → held ≡ old → MovesBytes b held new line line' → MovesBytes b old new line line'
moved_of b held old new line line' e m = subst (λ (o : List ℕ). MovesBytes b o new line line') e m

-- the bytes that are left after some were moved
pub left_ahead : (bytes : List ℕ) (at end count : ℕ) → count ≤ end - at → take (end - (at + count)) (drop (at + count) bytes) ≡ drop count (take (end - at) (drop at bytes))
left_ahead bytes at end count few =
    let size : end - at ≡ count + (end - (at + count)) = omega (arith, few) in
    sym (ap (λ n. drop count (take n (drop at bytes))) size ∙ drop-take count (end - (at + count)) (drop at bytes) ∙ ap (take (end - (at + count))) (drop-drop count at bytes))

-- ---- the bytes of a line

pub consumed_none : (a b c : Option (List ℕ)) (bytes : List ℕ) → Consumes a b bytes → Consumes b c [] → Consumes a c bytes
consumed_none a b c bytes first next = subst (Consumes a c) (append-nil bytes) (Consumes-trans a b c bytes [] first next)

pub ahead_moved : (r : Option (List ℕ)) (old new bytes : List ℕ) → old ≡ bytes ++ new → Consumes (prepend_known old r) (prepend_known new r) bytes
ahead_moved v0 old new bytes e = grind (arith, append_assoc)

pub moved_taken : (a b r : Option (List ℕ)) {whole : Bool} {old new line line' : List ℕ} → Consumes a b line → Consumes b (prepend_known old r) [] → MovesBytes whole old new line line'
    → Consumes a (prepend_known new r) line'
moved_taken a b r first none m = grind (arith, Consumes-trans, consumed_none, ahead_moved)

-- the line feed is the last byte of the line
pub line_whole : (old new line line' : List ℕ) → has 10 line ≡ false → MovesBytes true old new line line' → IsLine line'
line_whole old new line line' endless m =
    let (body, shape, none) = m.are in
    (line ++ body, m.to ∙ ap (λ l. line ++ l) shape ∙ sym (append_assoc line body (10 ∷ [])), lacks-append 10 line body endless none)

pub still_endless : (old new line line' : List ℕ) → has 10 line ≡ false → MovesBytes false old new line line' → has 10 line' ≡ false
still_endless old new line line' endless m = ap (has 10) m.to ∙ lacks-append 10 line m.bytes endless m.are

-- nothing was read ahead
pub none_ahead : (r : Option (List ℕ)) (block : List ℕ) → block ≡ [] → prepend_known block r ≡ r
none_ahead r block e = grind arith

-- ---- the bytes of a line if no more is read

pub is_empty : (xs : List ℕ) → true ≡ nat_eq (length xs) 0 → xs ≡ []
is_empty xs same = grind (arith, common_steps)

pub not_empty : (n : ℕ) → false ≡ nat_eq n 0 → 0 < n
not_empty n other = grind arith

-- ---- the first line feed

pub no_feed : (bytes : List ℕ) (n : ℕ) → ((k : ℕ) → k < n → (get_or bytes k 0 == 10) ≡ true → ⊥) → n ≤ length bytes → has 10 (take n bytes) ≡ false
no_feed bytes zero none h = refl
no_feed [] (suc n) none h = refl
no_feed (b ∷ bytes) (suc n) none h =
    ap (λ a. a || has 10 (take n bytes)) (false_from_ne_true (b == 10) (none 0 (omega arith))) ∙ no_feed bytes n (λ k less. none (suc k) (omega (arith, less))) (omega (arith, h))

-- two bodies without line feeds, each with a line feed after it
abbrev SameFront : List ℕ → List ℕ → List ℕ → List ℕ → Type 0
SameFront a b x y = (a ≡ b) × (x ≡ y)

same_body : (a b x y : List ℕ) → has 10 a ≡ false → has 10 b ≡ false → a ++ 10 ∷ x ≡ b ++ 10 ∷ y → SameFront a b x y
same_body [] [] x y h k e = (refl, cc)
same_body (a ∷ us) (b ∷ bs) x y h k e = grind (arith, common_steps, or_parts, same_body us bs x y)
same_body a b x y h k e = grind (arith, or_parts)

shape : (l body x : List ℕ) → l ≡ body ++ 10 ∷ [] → l ++ x ≡ body ++ 10 ∷ x
shape l body x e = ap (λ t. t ++ x) e ∙ append_assoc body (10 ∷ []) x

pub first_line : (l m x y : List ℕ) → IsLine l → IsLine m → l ++ x ≡ m ++ y → SameFront l m x y
first_line l m x y (a, la, na) (b, lb, nb) e = grind (arith, same_body, shape, (same_body a b x y na nb (sym (shape l a x la) ∙ e ∙ shape m b y lb)))

pub not_nil : (m x : List ℕ) → IsLine m → [] ≡ m ++ x → ⊥
not_nil m x (body, e, n) h = grind (arith, length-append, (ap length h), (ap length e))

-- the lines that are left, and the bytes that are left
pub splits : (all done : List (List ℕ)) (rest : List ℕ) → All IsLine all → All IsLine done → joined all ≡ joined done ++ rest
    → (more : List (List ℕ)) × (all ≡ done ++ more) × (rest ≡ joined more)
splits all [] rest h k e = (all, refl, sym e)
splits [] (d ∷ ds) rest h k e = absurd (not_nil d (joined ds ++ rest) (All-head IsLine d ds k) (e ∙ append_assoc d (joined ds) rest))
splits (l ∷ ls) (d ∷ ds) rest h k e =
    let one = first_line l d (joined ls) (joined ds ++ rest) (All-head IsLine l ls h) (All-head IsLine d ds k) (e ∙ append_assoc d (joined ds) rest) in
    grind (arith, one, splits ls ds rest (All-tail IsLine l ls h) (All-tail IsLine d ds k) one.1)

-- a line has a line feed, so bytes that begin with a line have one
pub has-line : (line x : List ℕ) → IsLine line → has 10 (line ++ x) ≡ true
has-line line x (body, e, n) = ap (has 10) (shape line body x e) ∙ has-append 10 body (10 ∷ x) ∙ or_right (has 10 body) true refl

-- ---- lists of lines

are_more : (taken : List (List ℕ)) (line : List ℕ) → All IsLine taken → IsLine line → All IsLine (taken ++ line ∷ [])
are_more taken line are is = All-push IsLine taken line are is

-- bytes without a line feed contain no line
endless_lines : (more : List (List ℕ)) (bytes : List ℕ) → All IsLine more → has 10 bytes ≡ false → bytes ≡ joined more → more ≡ []
endless_lines more bytes are endless e = grind (arith, common_steps, has-line, All-head)

-- a short line isn't within bytes without a line feed
not_within : (body x long rest : List ℕ) → has 10 long ≡ false → length body < length long → body ++ 10 ∷ x ≡ long ++ rest → ⊥
not_within body x [] rest endless less e = absurd (omega (arith, less))
not_within [] x (b ∷ bs) rest endless less e = grind (arith, or_parts)
not_within (a ∷ us) x (b ∷ bs) rest endless less e =
    not_within us x bs rest (or_parts (b == 10) (has 10 bs) endless).1 (omega (arith, less)) cc

-- ---- lines after lines

after_all : (P : List ℕ → Type 0) (lines more : List (List ℕ)) → All P (lines ++ more) → All P more
after_all P [] more all = all
after_all P (l ∷ ls) more all = after_all P ls more (All-tail P l (ls ++ more) all)

abbrev IsShort : List ℕ → Type 0
IsShort l = length l ≤ most_line

not_first : (more : List (List ℕ)) (long rest : List ℕ) → All IsLine more → All IsShort more → length long ≡ most_line → has 10 long ≡ false → long ++ rest ≡ joined more → ⊥
not_first [] long rest are short size endless e = grind (arith, length-append, (ap length e), (length-append long rest))
not_first (m ∷ ms) long rest are short size endless e = grind (arith, length-append, not_within, append_assoc, All-head)

-- ---- what a reader returned

-- what holds of these bytes with any rest holds of the input of a reader that returned them
pub consumed : (a b : Option (List ℕ)) (bytes : List ℕ) (P : List ℕ → Type 0) → Consumes a b bytes → ((rest : List ℕ) → P (bytes ++ rest)) → IfSome a P
consumed v0 b bytes v3 took h = grind arith

-- the same if nothing is left
consumed_all : (a b : Option (List ℕ)) (bytes : List ℕ) (P : List ℕ → Type 0) → Consumes a b bytes → IsAtEnd b → P bytes → IfSome a P
consumed_all v0 b bytes v3 took end h = grind (arith, append-nil)

taken_more : (a b c : Option (List ℕ)) (taken : List (List ℕ)) (line : List ℕ) → Consumes a b (joined taken) → Consumes b c line → Consumes a c (joined (taken ++ line ∷ []))
taken_more a b c taken line first next = subst (Consumes a c) (sym (joined-append taken (line ∷ []) ∙ ap (λ l. joined taken ++ l) (append-nil line))) (Consumes-trans a b c (joined taken) line first next)

-- ---- what was read

-- nothing was read
pub start : (s : Progress) (a : Option (List ℕ)) → ((v : FileValue) → IsFileValue v → HasLinesLeft s v (file_lines v)) → AreLinesOf s [] → IsTaken s 0 a a
start s a new are = grind (arith, Consumes-nil)

-- one more line was read
pub one_more : {old new : Progress} {n : ℕ} {a b c : Option (List ℕ)} (line : List ℕ) → IsTaken old n a b → IsLine line → Consumes b c line → GoesOnWithLine old new line → ShowsLine old new line
    → IsTaken new (n + 1) a c
one_more line t is next more shows = grind (arith, are_more, length_push, taken_more, append_assoc)

-- the next line has too many bytes
pub over_long : {s : Progress} {n : ℕ} {a b : Option (List ℕ)} (c : Option (List ℕ)) (bytes : List ℕ) → IsTaken s n a b → length bytes ≡ most_line → has 10 bytes ≡ false → Consumes b c bytes
    → IfSome a (λ input. IsFaulty input (n + 1))
over_long c bytes t size endless next = grind (arith, consumed, Consumes-trans, append_assoc)

-- a byte follows the largest number of lines
pub too_long : {s : Progress} {n : ℕ} {a b : Option (List ℕ)} (c : Option (List ℕ)) (bytes : List ℕ) → IsTaken s n a b → n ≡ most_lines → 0 < length bytes → Consumes b c bytes → IfSome a IsTooLong
too_long c bytes t most some next = grind (arith, common_steps, length-append)

-- the next line is one of types in a header
pub at_types : {s : Progress} {n : ℕ} {a b : Option (List ℕ)} (c : Option (List ℕ)) (line : List ℕ) (t : IsTaken s n a b) → IsLine line → Consumes b c line → IsHeaderBegun t.lines → is_of_types line ≡ true → IfSome a IsAtTypes
at_types {s} {n} {a} {b} c line t is next begun types =
    consumed a c (joined (t.lines ++ line ∷ [])) IsAtTypes (taken_more a b c t.lines line t.taken next) (λ rest. record {
      lines = t.lines;
      line = line;
      rest = rest;
      first = record { are = are_more t.lines line t.are is; first = refl };
      begun = begun;
      types = types;
    })

module _ (are_lines : (v : FileValue) → IsFileValue v → All IsLine (file_lines v)) where
  refuted : (s : Progress) (taken : List (List ℕ)) (line : List ℕ) → All IsLine (taken ++ line ∷ []) → HasReadLines s taken → RefusesLine s line → NoFileBegins (joined (taken ++ line ∷ []))
  refuted s taken line are history bad v rest is e =
      let (more, lines, text) = splits (file_lines v) (taken ++ line ∷ []) rest (are_lines v is) are e in
      bad v more (history.goes v (line ∷ more) is (lines ∙ append_assoc taken (line ∷ []) more))

  -- the line is refused
  pub refused : {s : Progress} {n : ℕ} {a b : Option (List ℕ)} (c : Option (List ℕ)) (line : List ℕ) → IsTaken s n a b → IsLine line → Consumes b c line → RefusesLine s line → IfSome a (λ input. IsFaulty input (n + 1))
  refused {s} {n} {a} {b} c line t is next bad =
      let all = are_more t.lines line t.are is in
      consumed a c (joined (t.lines ++ line ∷ [])) (λ input. IsFaulty input (n + 1)) (taken_more a b c t.lines line t.taken next) (λ rest. inl (record {
        lines = t.lines ++ line ∷ [];
        rest = rest;
        first = record { are = all; first = refl };
        count = length_push t.lines line ∙ ap (λ (k : ℕ). k + 1) t.many;
        none = refuted s t.lines line all t.history bad;
      }))

  -- the lines of a file after those that were accepted
  after : (v : FileValue) (taken : List (List ℕ)) (bytes : List ℕ) → IsFileValue v → All IsLine taken → joined taken ++ bytes ≡ file_text v → has 10 bytes ≡ false → file_lines v ≡ taken
  after v taken bytes is are e endless =
      let (more, lines, text) = splits (file_lines v) taken bytes (are_lines v is) are (sym e) in
      let none : more ≡ [] = endless_lines more bytes (after_all IsLine taken more (subst (All IsLine) lines (are_lines v is))) endless text in
      lines ∙ ap (λ l. taken ++ l) none ∙ append-nil taken

  -- the input ends before the next line's line feed; if no byte of the line was read, more lines are expected
  pub cut : {s : Progress} {n : ℕ} {a b : Option (List ℕ)} (c : Option (List ℕ)) {bytes : List ℕ} (t : IsTaken s n a b) → AreBegun t.lines → has 10 bytes ≡ false → length bytes < most_line → IsAtEnd c → Consumes b c bytes
      → (bytes ≡ [] → (v : FileValue) → HasLinesLeft s v [] → ⊥) → IfSome a (λ input. IsCutShort input (n + 1))
  cut {s} {n} {a} {b} c {bytes} t begun endless few end next never =
      consumed_all a c (joined t.lines ++ bytes) (λ input. IsCutShort input (n + 1)) (Consumes-trans a b c (joined t.lines) bytes t.taken next) end (record {
        lines = t.lines;
        rest = bytes;
        first = record { are = t.are; first = refl };
        count = ap (λ (k : ℕ). k + 1) t.many;
        endless = endless;
        size = few;
        begun = begun;
        none = λ v is e.
            let same = after v t.lines bytes is t.are e endless in
            never (append_cancel_left (joined t.lines) bytes [] (e ∙ ap joined same ∙ sym (append-nil (joined t.lines)))) v (t.history.goes v [] is (same ∙ sym (append-nil t.lines)));
      })

  -- the input is the text of the file that was read
  pub whole : {s : Progress} {n : ℕ} {a b : Option (List ℕ)} (c : Option (List ℕ)) {bytes : List ℕ} {f : FileValue} (t : IsTaken s n a b) → file_lines f ≡ t.lines → bytes ≡ [] → IsAtEnd c → Consumes b c bytes
      → ((v : FileValue) → HasLinesLeft s v [] → v ≡ f) → IfSome a (IsTextOfOnly f)
  whole {s} {n} {a} {b} c {bytes} {f} t lines none end next only =
      let endless : has 10 bytes ≡ false = ap (has 10) none in
      consumed_all a c (joined t.lines ++ bytes) (IsTextOfOnly f) (Consumes-trans a b c (joined t.lines) bytes t.taken next) end (record {
        same = ap (λ l. joined t.lines ++ l) none ∙ append-nil (joined t.lines) ∙ sym (ap joined lines);
        only = λ v also e. only v (t.history.goes v [] also (after v t.lines bytes also t.are e endless ∙ sym (append-nil t.lines)));
      })

  -- ---- a text of a file is no fault

  module _ (are_short : (v : FileValue) → IsFileValue v → All (λ l. length l ≤ most_line) (file_lines v)) where
    -- the lines after those that were accepted are short, too
    not_long : {v : FileValue} (lines : List (List ℕ)) (long rest : List ℕ) → IsFileValue v → All IsLine lines → length long ≡ most_line → has 10 long ≡ false
        → file_text v ≡ joined lines ++ (long ++ rest) → ⊥
    not_long {v} lines long rest is are size endless e =
        let (more, split, text) = splits (file_lines v) lines (long ++ rest) (are_lines v is) are e in
        not_first more long rest (after_all IsLine lines more (subst (All IsLine) split (are_lines v is))) (after_all IsShort lines more (subst (All (λ l. length l ≤ most_line)) split (are_short v is)))
        size endless text

    not_many : {v : FileValue} (lines : List (List ℕ)) (rest : List ℕ) → IsFileValue v → All IsLine lines → length lines ≡ most_lines → 0 < length rest → length (file_lines v) ≤ most_lines
        → file_text v ≡ joined lines ++ rest → ⊥
    not_many {v} lines rest is are many some few e = grind (arith, common_steps, splits, length-append, (splits (file_lines v) lines rest (are_lines v is) are e))

    faulty_not : (v : FileValue) (input : List ℕ) (k : ℕ) → IsFileValue v → IsFaulty input k → input ≡ file_text v → ⊥
    faulty_not v input k is h1 e = grind (arith, not_long)

    -- a fault that is explained isn't that of a file's text
    not_explained : (v : FileValue) (input : List ℕ) (fault : ReadFault) → IsFileValue v → length (file_lines v) ≤ most_lines → ExplainsFault input fault → input ≡ file_text v → IsNoFault fault
    not_explained v input Memory is few why e = tt
    not_explained v input Read is few why e = tt
    not_explained v input (CutShort k) is few why e = why.none v is e
    not_explained v input TooLong is few why e = not_many why.lines why.rest is why.first.are why.count why.more few (sym e ∙ why.first.first)
    not_explained v input other is few why e = faulty_not v input _ is why.0 e

    pub only_faults : (a : Option (List ℕ)) (fault : ReadFault) (v : FileValue) → IfSome a (λ input. ExplainsFault input fault) → IsFileValue v → length (file_lines v) ≤ most_lines
        → IfSome a (λ input. input ≡ file_text v → IsNoFault fault)
    only_faults v0 fault v why is few = grind (arith, not_explained)

    stored_not : (v : FileValue) (input : List ℕ) (fault : ReadFault) → IsFileValue v → length (file_lines v) ≤ most_lines → ExplainsStored input fault → input ≡ file_text v → IsNoFault fault
    stored_not v input Memory is few why e = tt
    stored_not v input other is few why e = not_explained v input other is few why e

    pub only_stored : (a : Option (List ℕ)) (fault : ReadFault) (v : FileValue) → IfSome a (λ input. ExplainsStored input fault) → IsFileValue v → length (file_lines v) ≤ most_lines
        → IfSome a (λ input. input ≡ file_text v → IsNoFault fault)
    only_stored v0 fault v why is few = grind (arith, stored_not)

-- a property of the input that follows from two others
pub both_said : (a : Option (List ℕ)) (P Q R : List ℕ → Type 0) → ((input : List ℕ) → P input → Q input → R input) → IfSome a P → IfSome a Q → IfSome a R
both_said a P Q R h p q = grind arith

-- a property of the input that follows from another
pub said_of : (a : Option (List ℕ)) (P Q : List ℕ → Type 0) → ((input : List ℕ) → P input → Q input) → IfSome a P → IfSome a Q
said_of a P Q h p = grind arith

-- a fault of the file is one of its storing
stored_fault : (fault : ReadFault) (input : List ℕ) → ExplainsFault input fault → ExplainsStored input fault
stored_fault v0 input why = grind (arith, common_steps)

pub explained : {es : List Stamped} {input left : Option (List ℕ)} {fault : ReadFault} → StopsReading es input left fault → StopsStoring input fault
explained {input = input} {fault = fault} stops = said_of input _ _ (λ bytes h. stored_fault fault bytes h.0) stops.0

-- memory for an epoch ran out
pub out_of_memory : (input : Option (List ℕ)) → IfSome input HasHeader → StopsStoring input Memory
out_of_memory input has = said_of input _ _ (λ bytes h. inr h) has

-- a line has its line feed
pub line_some : (bytes : List ℕ) → IsLine bytes → 0 < length bytes
line_some bytes (body, is, endless) = let size = ap length is ∙ length-append body (10 ∷ []) in omega (arith, size)
