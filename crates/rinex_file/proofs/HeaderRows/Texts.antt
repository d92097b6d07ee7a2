-- The texts of a header: set one by one, read back from the columns of a line, and without a fault.
use Rattle.rinex_file.proofs.Rows.Trimmed.{filled, trimmed-blank}
use Rattle.rinex_file.proofs.PlainTexts.{both}
use Rattle.rinex_file.proofs.HeaderRows.Types.{content_first}
use Rattle.std.proofs.Math.ListN.{set, length-set}
use Rattle.std.specs.Option.{option_or}
use Rattle.rinex_file.proofs.Names.{get_or-map, AllPass-from_list_all, map-append, common_steps, AreSameTexts, arith, ◌≡◌, ◌∙◌, refl, sym, ap, ap₂, subst, ℕ, Option, suc, ◌+◌, ◌<◌, ◌≤◌, ◌≢◌, List, [], ◌∷◌, length, drop, get_or, add-one, true, Some, None, zero, ◌-◌, ◌++◌, take, replicate, append_assoc, append-nil, length-append, ◌==◌, map, flat_map, list_all, drop-cons, length-map, length-replicate, take_at, drop_at, get_or-set_same, get_or-set_other, get_or_default, ext_get_or, list_all-append, passes_at, is_equal, HeaderField, HeadFault, AntType, trimmed, HeaderLists, text_count, width_of, text_of, is_printable, fault_of, first_fault, fields, fields_of, trimmed_texts, place_of, front_of, label_of, IsText, AreTexts, left, text_columns, texts_line, texts_in, if_fine, RefusesTexts, same_Some, not, list_any, nat_lt, or_parts, ◌||◌, nat_tests, false, Bool, has_row, nil_from_length, nat_le, at_most, line_with, Texts}

pub trimmed-blanks : (k : ℕ) (text : List ℕ) → trimmed (text ++ replicate k 32) ≡ trimmed text
trimmed-blanks zero text = ap trimmed (append-nil text)
trimmed-blanks (suc k) text = grind (arith, common_steps, trimmed-blank, (trimmed-blanks k (text ++ 32 ∷ [])))

-- cutting trailing blanks twice is the same as cutting them once
pub trimmed-trimmed : (text : List ℕ) → trimmed (trimmed text) ≡ trimmed text
trimmed-trimmed text = grind (arith, filled, trimmed-blanks, (filled text))

pub length-left : (width : ℕ) (text : List ℕ) → length text ≤ width → length (left width text) ≡ width
length-left width text short = simp (length-append, length-replicate) (omega (arith, short))

-- ---- a text of a field

field_less : (field : HeaderField) → place_of field < text_count
field_less field = grind arith

pub field_here : (field : HeaderField) (d : HeaderField) → get_or fields (place_of field) d ≡ field
field_here field d = grind arith

pub field_back : (f g : HeaderField) → place_of f ≡ place_of g → f ≡ g
field_back f g e = sym (field_here f f) ∙ ap (λ i. get_or fields i f) e ∙ field_here g f

-- what the table says of each field
pub each_field : (test : HeaderField → Bool) → list_all test fields ≡ true → (field : HeaderField) → test field ≡ true
each_field test all field = sym (ap test (field_here field field)) ∙ AllPass-from_list_all test fields all (place_of field) field (field_less field)

pub place_back : (i : ℕ) → i < text_count → place_of (get_or fields i AntType) ≡ i
place_back i less = is_equal (place_of (get_or fields i AntType)) i (passes_at (λ j. place_of (get_or fields j AntType) == j) text_count i refl less)

pub few_columns : (f : HeaderField) → width_of f ≤ 60
few_columns f = at_most (width_of f) 60 (each_field (λ f. nat_le (width_of f) 60) refl f)

pub equal_or : (P : Type 0) (i j : ℕ) → (i ≡ j → P) → (i ≢ j → P) → P
equal_or P i j same other = grind (arith, is_equal)

module _ (x : HeaderLists) (f : HeaderField) (text : List ℕ) (size : length x ≡ text_count) where
  set_here : text_of (set x (place_of f) text) f ≡ text
  set_here = get_or-set_same x (place_of f) text [] (subst (λ n. place_of f < n) (sym size) (field_less f))

  -- what holds of the text that is set and of the others holds of each
  set_each : (P : HeaderField → List ℕ → Type 0) → P f text → (g : HeaderField) → P g (text_of x g) → P g (text_of (set x (place_of f) text) g)
  set_each P own g other = grind (arith, equal_or, field_back, set_here, get_or-set_other)

pub set_text : (x : HeaderLists) (f : HeaderField) (text : List ℕ) → AreTexts x → IsText (width_of f) text → AreTexts (set x (place_of f) text)
set_text x f text are is =
    record { count = length-set x (place_of f) text ∙ are.count; each = λ g. set_each x f text are.count (λ h t. IsText (width_of h) t) is g (are.each g) }

-- ---- the columns of a line

blanks_printable : (k : ℕ) → list_all is_printable (replicate k 32) ≡ true
blanks_printable zero = refl
blanks_printable (suc k) = blanks_printable k

-- the columns of a text have no fault, and its trailing blanks are cut
no_fault : (f : HeaderField) (text : List ℕ) → IsText (width_of f) text → fault_of f (left (width_of f) text) ≡ None
no_fault f text is = grind (arith, list_all-append, blanks_printable, trimmed-blanks)

-- texts that are read from the columns of those of `x`: in these fields they are the same, and what was the same stays so
pub record Back (x : HeaderLists) (fs : List HeaderField) (column : ℕ) (line : List ℕ) (old : HeaderLists) : Type 0 where
  pub new : HeaderLists
  pub read : texts_in fs column line old ≡ Some new
  pub same : AreSameTexts new x fs
  pub stays : (g : HeaderField) → text_of old g ≡ text_of x g → text_of new g ≡ text_of x g

read_back : {x : HeaderLists} (fs : List HeaderField) {column : ℕ} (front rest : List ℕ) {line : List ℕ} {old : HeaderLists} → AreTexts x → length old ≡ text_count → length front ≡ column
    → line ≡ front ++ (flat_map (text_columns x) fs ++ rest) → Back x fs column line old
read_back [] front rest {old = old} are size at shape = record { new = old; read = refl; same = refl; stays = λ g e. e }
read_back {x} (f ∷ fs) {column} front rest {line} {old} are size at shape =
    let w = width_of f in
    let own = text_columns x f in
    let more = flat_map (text_columns x) fs in
    let wide : length own ≡ w = length-left w (text_of x f) (are.each f).short in
    let columns : take w (drop column line) ≡ own =
    ap (λ l. take w (drop column l)) shape ∙ ap (take w) (drop_at front ((own ++ more) ++ rest) column at ∙ append_assoc own more rest) ∙ take_at own (more ++ rest) w wide in
    let text = trimmed (take w (drop column line)) in
    let is : text ≡ text_of x f = ap trimmed columns ∙ trimmed-blanks (w - length (text_of x f)) (text_of x f) ∙ (are.each f).cut in
    let next = read_back fs (front ++ own) rest {old = set old (place_of f) text} are (length-set old (place_of f) text ∙ size)
    (length-append front own ∙ ap (λ n. n + length own) at ∙ ap (λ n. column + n) wide)
    (shape ∙ ap (λ l. front ++ l) (append_assoc own more rest) ∙ sym (append_assoc front own (more ++ rest))) in
    record {
      new = next.new;
      read = ap (λ fault. if_fine fault (texts_in fs (column + w) line (set old (place_of f) text))) (ap (fault_of f) columns ∙ no_fault f (text_of x f) (are.each f)) ∙ next.read;
      same = ap₂ (λ t l. t ∷ l) (next.stays f (set_here old f text size ∙ is)) next.same;
      stays = λ g e. next.stays g (set_each old f text size (λ h t. t ≡ text_of x h) is g e);
    }

-- the texts of a header are read back from the line of a row
pub texts_back : (x : HeaderLists) → AreTexts x → (r : HeaderField) (line : List ℕ) (old : HeaderLists) → length old ≡ text_count → texts_line x r ≡ line → Back x (fields_of r) (length (front_of r)) line old
texts_back x are r line old size e = grind (arith, read_back, append_assoc, content_first (front_of r ++ flat_map (text_columns x) (fields_of r)) (label_of r))

same_columns : (x y : HeaderLists) (fs : List HeaderField) → AreSameTexts x y fs → flat_map (text_columns x) fs ≡ flat_map (text_columns y) fs
same_columns x y [] same = refl
same_columns x y (f ∷ fs) same = ap₂ (λ t l. left (width_of f) t ++ l) (cc) (same_columns x y fs (cc))

pub same_line : (x y : HeaderLists) (r : HeaderField) → AreSameTexts x y (fields_of r) → texts_line x r ≡ texts_line y r
same_line x y r same = ap (λ l. line_with (Texts r) (front_of r ++ l)) (same_columns x y (fields_of r) same)

-- texts that are the same in each row
pub same_rows : (x y : HeaderLists) → ((r : HeaderField) → AreSameTexts x y (fields_of r)) → (rows : List HeaderField) → AreSameTexts x y (flat_map fields_of rows)
same_rows x y each [] = refl
same_rows x y each (r ∷ rows) = grind (arith, map-append, each r, same_rows x y each rows)

pub same_at : (x y : HeaderLists) (fs : List HeaderField) (i : ℕ) (d : HeaderField) → i < length fs → AreSameTexts x y fs → text_of x (get_or fs i d) ≡ text_of y (get_or fs i d)
same_at x y fs i d less same = sym (get_or-map (text_of x) fs i d [] less) ∙ ap (λ l. get_or l i []) same ∙ get_or-map (text_of y) fs i d [] less

-- texts that are the same in a row are empty or not in both, and empty ones are the same
pub same_some : (x y : HeaderLists) (fs : List HeaderField) → AreSameTexts x y fs → list_any (λ f. nat_lt 0 (length (text_of x f))) fs ≡ list_any (λ f. nat_lt 0 (length (text_of y f))) fs
same_some x y [] same = refl
same_some x y (f ∷ fs) same = ap₂ (λ t b. nat_lt 0 (length t) || b) (cc) (same_some x y fs (cc))

pub none_same : (x y : HeaderLists) (fs : List HeaderField) → list_any (λ f. nat_lt 0 (length (text_of x f))) fs ≡ false → list_any (λ f. nat_lt 0 (length (text_of y f))) fs ≡ false → AreSameTexts x y fs
none_same x y [] p q = refl
none_same x y (f ∷ fs) p q = grind (arith, nat_tests, nil_from_length, or_parts, none_same x y fs)

-- ---- read

pub not_printable : (r : HeaderField) (line : List ℕ) (old : HeaderLists) → length old ≡ text_count → texts_in (fields_of r) (length (front_of r)) line old ≡ None → RefusesTexts r line
not_printable r line old size none x are some e = let back = texts_back x are r line old size e in let read = back.read in cc

pub not_same : (r : HeaderField) (line : List ℕ) (old new : HeaderLists) → length old ≡ text_count → texts_in (fields_of r) (length (front_of r)) line old ≡ Some new
    → (line ≡ texts_line new r → ⊥) → RefusesTexts r line
not_same r line old new size read other x are some e = grind (arith, same_line, texts_back x are r line old size e)

-- a line of these texts has none
pub no_line : (r : HeaderField) (line : List ℕ) (old new : HeaderLists) → length old ≡ text_count → texts_in (fields_of r) (length (front_of r)) line old ≡ Some new → has_row new r ≡ false → RefusesTexts r line
no_line r line old new size read none x are some e = grind (arith, same_some, texts_back x are r line old size e)

-- the field at an index and those after it
pub fields_from : {items fs : List HeaderField} (i : ℕ) (d : HeaderField) → items ≡ fs → i < length items → drop i fs ≡ get_or items i d ∷ drop (i + 1) fs
fields_from {items} i d same less = subst (λ l. drop i l ≡ get_or items i d ∷ drop (i + 1) l) same (rw (add-one i) (drop-cons items i d less))

-- a text that is left has a fault
pub refused_text : {fs rest : List HeaderField} {f : HeaderField} {width : ℕ} {columns : List ℕ} (column : ℕ) (line : List ℕ) (x : HeaderLists) → fs ≡ f ∷ rest
    → width ≡ width_of f → columns ≡ take width (drop column line) → (fault_of f columns ≡ None → ⊥) → texts_in fs column line x ≡ None
refused_text column line x next w at some = grind arith

-- the texts from one without a fault on are it and those after it
pub added_text : {fs rest : List HeaderField} {f : HeaderField} {width : ℕ} {columns : List ℕ} {new : HeaderLists} (column : ℕ) (line : List ℕ) (x : HeaderLists) → fs ≡ f ∷ rest
    → width ≡ width_of f → columns ≡ take width (drop column line) → None ≡ fault_of f columns → new ≡ set x (place_of f) (trimmed columns)
    → texts_in rest (column + width) line new ≡ texts_in fs column line x
added_text column line x next w at is set_is = grind arith

fine_read : (fault : Option HeadFault) (r : Option HeaderLists) (new : HeaderLists) → if_fine fault r ≡ Some new → r ≡ Some new
fine_read fault r new e = grind arith

-- a text that isn't read is unchanged
abbrev pub is_apart : List HeaderField → HeaderField → Bool
is_apart fs g = list_all (λ f. not (place_of f == place_of g)) fs

kept_text : (fs : List HeaderField) (column : ℕ) (line : List ℕ) (old : HeaderLists) {new : HeaderLists} (g : HeaderField) → is_apart fs g ≡ true → texts_in fs column line old ≡ Some new → text_of new g ≡ text_of old g
kept_text [] column line old {new} g all read = ap (λ x. text_of x g) (sym (same_Some old new read))
kept_text (f ∷ fs) column line old {new} g all read =
    let parts = both (not (place_of f == place_of g)) (is_apart fs g) all in
    kept_text fs (column + width_of f) line _ g parts.1 (fine_read _ _ new read)
    ∙ get_or-set_other old (place_of f) (place_of g) (trimmed (take (width_of f) (drop column line))) [] (grind (arith, nat_tests, parts.0))

pub kept_texts : (fs : List HeaderField) (column : ℕ) (line : List ℕ) (old : HeaderLists) {new : HeaderLists} → texts_in fs column line old ≡ Some new → (gs : List HeaderField) → list_all (is_apart fs) gs ≡ true → AreSameTexts new old gs
kept_texts fs column line old read [] all = refl
kept_texts fs column line old read (g ∷ gs) all =
    let parts = both (is_apart fs g) (list_all (is_apart fs) gs) all in
    ap₂ (λ t l. t ∷ l) (kept_text fs column line old g parts.0 read) (kept_texts fs column line old read gs parts.1)

-- ---- texts are printable without trailing blanks

printable_cut : (text : List ℕ) → list_all is_printable text ≡ true → list_all is_printable (trimmed text) ≡ true
unfolding trimmed
printable_cut [] h = refl
printable_cut (b ∷ bs) h =
    let parts = both (is_printable b) (list_all is_printable bs) h in
    (grind (arith, parts.0, printable_cut bs parts.1))

pub cut_text : (f : HeaderField) (text : List ℕ) → list_all is_printable text ≡ true → length (trimmed text) ≤ width_of f → IsText (width_of f) (trimmed text)
cut_text f text printable short = record { short = short; printable = printable_cut text printable; cut = trimmed-trimmed text }

-- ---- one text after the other

module _ (t : HeaderLists) (i : ℕ) (d : HeaderField) (less : i < text_count) where
  fields_next : first_fault t (drop i fields) ≡ option_or (fault_of (get_or fields i d) (text_of t (get_or fields i d))) (first_fault t (drop (suc i) fields))
  fields_next = ap (first_fault t) (drop-cons fields i d less)

  pub fault_here : (fault : HeadFault) → fault_of (get_or fields i d) (text_of t (get_or fields i d)) ≡ Some fault → first_fault t (drop i fields) ≡ Some fault
  fault_here fault e = fields_next ∙ ap (λ found. option_or found (first_fault t (drop (suc i) fields))) e

  pub fine_here : fault_of (get_or fields i d) (text_of t (get_or fields i d)) ≡ None → first_fault t (drop i fields) ≡ first_fault t (drop (i + 1) fields)
  fine_here e =
      let next : suc i ≡ i + 1 = omega arith in
      fields_next ∙ ap (λ found. option_or found (first_fault t (drop (suc i) fields))) e ∙ ap (λ n. first_fault t (drop n fields)) next

-- the texts so far are cut
abbrev pub AreCut : ℕ → HeaderLists → HeaderLists → Type 0
AreCut i t x = (j : ℕ) → j < i → get_or x j [] ≡ trimmed (get_or t j [])

pub one_stored : (t x : HeaderLists) {new : HeaderLists} {i : ℕ} (d : HeaderField) {text : List ℕ} → i < text_count → length x ≡ text_count → AreCut i t x
    → text ≡ text_of t (get_or fields i d) → new ≡ set x (place_of (get_or fields i d)) (trimmed text) → AreCut (i + 1) t new × (length new ≡ text_count)
one_stored t x d less size cut is value = grind (arith, get_or_default, place_back, equal_or, get_or-set_same, get_or-set_other, length-set)

pub all_cut : (t x : HeaderLists) → length t ≡ text_count → length x ≡ text_count → AreCut text_count t x → x ≡ trimmed_texts t
unfolding trimmed
all_cut t x size count cut =
    ext_get_or [] x (map trimmed t) (count ∙ sym size ∙ sym (length-map t trimmed)) (λ j less. cut j (subst (λ n. j < n) count less) ∙ sym (get_or-map trimmed t j [] [] (omega (arith, less, size, count))))
