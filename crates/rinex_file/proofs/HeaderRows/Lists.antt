-- The items of a list in lines, before and after one of its lines.
use Rattle.rinex_file.proofs.Names.{IsLineOf, TakesItems, AreSameItems, common_steps, header_line, replicate, joined, left, append_assoc, ◌++◌, ◌∷◌, [], ◌-◌, ◌+◌, get_or, drop, drop_at, drop-drop, flat_map, min, length-take, length-drop, get_or-take, get_or-drop, refl, arith, ◌≡◌, ◌∙◌, ap, sym, ℕ, zero, suc, ◌<◌, ◌≤◌, ◌↔◌, List, length, take, take_all, take-take, nil_from_length}

-- items that are the first of others
pub up_to : {X : Type 0} (n : ℕ) (new all : List X) → new ≡ take n all → take n all ≡ take n new
up_to n new all e = sym (take-take n n all (omega arith)) ∙ ap (take n) (sym e)

-- what is known of a list before one of its lines, by the line before it
pub go_on : {X : Type 0} (begun : ℕ → ℕ) (row count : ℕ) (old all : List X) → begun 0 ≡ 0 → length old ≡ begun row → ((i : ℕ) → row ≡ suc i → AreSameItems begun i count old all)
    → (0 < row → count ≡ length all) × (old ≡ take (begun row) all)
go_on begun zero count old all none size same = (λ l. absurd (omega (arith, l)), nil_from_length old (size ∙ none) ∙ sym (ap (λ n. take n all) none))
go_on begun (suc i) count old all none size same = let s = same i refl in (λ l. s.number, sym (take_all (begun (suc i)) old (omega (arith, size))) ∙ sym s.same)

-- all items begin before a line that isn't there
pub still_same : {X : Type 0} (begun : ℕ → ℕ) (row : ℕ) {count : ℕ} (read all : List X) → count ≡ length all → length read ≤ count → count ≤ begun row → take (begun row) all ≡ take (begun row) read → AreSameItems begun row count read all
still_same begun row read all number few none same = grind (arith, common_steps)

module _ {X : Type 0} (Are : List X → Type 0) (begun : ℕ → ℕ) (shown : ℕ → List X → ℕ → List ℕ) {row before count : ℕ} {line : List ℕ} {old new : List X} (t : TakesItems Are begun shown row line before old count new) (all : List X) where
  pub same_after : IsLineOf Are begun shown row line before old all → AreSameItems begun row count new all
  same_after l = let both = t.taken all l in record { number = sym both.0; same = up_to (begun (suc row)) new all both.1 }

  -- the line depends on the items that begin in the lines up to it alone
  pub line_after_same : ((a b : List X) → take (begun (suc row)) a ≡ take (begun (suc row)) b → shown count a row ≡ shown count b row) → AreSameItems begun row count new all → shown (length all) all row ≡ line
  line_after_same alike s = ap (λ (n : ℕ). shown n all row) (sym s.number) ∙ alike all new s.same ∙ sym t.is

  -- what the lines before said
  pub same_before : (i : ℕ) → i < row → begun (suc i) ≤ begun row → AreSameItems begun i before old all ↔ AreSameItems begun i count new all
  same_before i less few = grind (arith, common_steps, take-take)

-- ---- the columns of an item

abbrev pub After : List ℕ → List ℕ → Type 0
After content line = (rest : List ℕ) × (line ≡ content ++ rest)

-- a line begins with its content
pub content_first : (content label : List ℕ) → After content (header_line content label)
unfolding header_line
content_first content label = (
  replicate (60 - length content) 32 ++ joined (left 20 label ∷ (10 ∷ []) ∷ []),
  append_assoc content (replicate (60 - length content) 32) (joined (left 20 label ∷ (10 ∷ []) ∷ [])),
)

-- items of the same width, of which the one at an index begins at a column
module _ {X : Type 0} (text : X → List ℕ) (width front_width most : ℕ) (column : ℕ → ℕ) (none : column 0 ≡ 0) (more : (q : ℕ) → column (suc q) ≡ width + column q) where
  item_at : (xs : List X) (q : ℕ) (d : X) (rest : List ℕ) → ((i : ℕ) → i < length xs → length (text (get_or xs i d)) ≡ width) → q < length xs → After (text (get_or xs q d)) (drop (column q) (flat_map text xs ++ rest))
  item_at [] q d rest wide less = absurd (omega (arith, less))
  item_at (x ∷ xs) zero d rest wide less = (flat_map text xs ++ rest, ap (λ n. drop n (flat_map text (x ∷ xs) ++ rest)) none ∙ append_assoc (text x) (flat_map text xs) rest)
  item_at (x ∷ xs) (suc q) d rest wide less =
      let item = item_at xs q d rest (λ i h. wide (suc i) (omega (arith, h))) (omega (arith, less)) in
      let after = ap (drop width) (append_assoc (text x) (flat_map text xs) rest) ∙ drop_at (text x) (flat_map text xs ++ rest) width (wide 0 (omega arith)) in
      (item.0, ap (λ n. drop n (flat_map text (x ∷ xs) ++ rest)) (more q) ∙ sym (drop-drop (column q) width (flat_map text (x ∷ xs) ++ rest)) ∙ ap (drop (column q)) after ∙ item.1)

  -- an item of a line of a list, whose first item is at `start`
  pub item_in_line : (front label : List ℕ) (items : List X) (start q : ℕ) (d : X) → length front ≡ front_width → ((i : ℕ) → i < length items → length (text (get_or items i d)) ≡ width) → q < most → start + q < length items
      → After (text (get_or items (start + q) d)) (drop (front_width + column q) (header_line (front ++ flat_map text (take most (drop start items))) label))
  item_in_line front label items start q d wide each few less =
      let here = take most (drop start items) in
      let size : length here ≡ min most (length items - start) = length-take most (drop start items) ∙ ap (min most) (length-drop start items) in
      let there = λ (i : ℕ) (h : i < length here). get_or-take most (drop start items) i d (omega (arith, h, size)) ∙ get_or-drop start items i d in
      let inside : q < length here = omega (arith, size, few, less) in
      let content = content_first (front ++ flat_map text here) label in
      let item = item_at here q d content.0 (λ i h. ap (λ x. length (text x)) (there i h) ∙ each (start + i) (omega (arith, h, size))) inside in
      let line = header_line (front ++ flat_map text here) label in (
        item.0,
        sym (drop-drop (column q) front_width line) ∙ ap (λ l. drop (column q) (drop front_width l)) (content.1 ∙ append_assoc front (flat_map text here) content.0)
            ∙ ap (drop (column q)) (drop_at front (flat_map text here ++ content.0) front_width wide) ∙ item.1 ∙ ap (λ x. text x ++ item.0) (there q inside),
      )
