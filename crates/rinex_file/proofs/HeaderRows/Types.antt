-- A line of types: the columns of the signals that begin in it, and the signals that are read from it.
use Rattle.std.proofs.lemmas.Str.Ascii.{IsAscii-from_all}
use Rattle.rinex_file.proofs.Names.{get_or-map, flat_map-append, AllPass-from_list_all, length-right, digits_in-whole, each_system, few_below, passes_below, get_or-flat_map, common_steps, ◌-◌, length-take, length-drop, arith, rules, ◌≡◌, ◌∙◌, ap, refl, ℕ, zero, suc, ◌+◌, ◌<◌, ◌≤◌, ◌==◌, Bool, true, false, List, [], ◌∷◌, length, take, drop, Some, Option, nat_lt, sym, ◌*◌, ◌/◌, ◌%◌, ◌++◌, get_or, append_assoc, ap₂, subst, decimal, nat_eq, IsAscii, IsUtf8, flat_map, slice_index, list_any, IsDistinct, IsUtf8-from_ascii, cases_lt, length-map, take_more, get_or-drop, take_all, take_at, take-take, take-map, drop-drop, drop-take, All-get_or, apart_from_distinct, IsDistinct-tail, length-decimal-le, System, SignalAt, IsSignal, table, code_of, signal_of_code, passes_at, is_less, is_equal, indices, IsOf, any_index, indices-push, type_of, types_of, codes_of, type_columns, type_front, right, letter, digits_in, AreTypes, signals_begun, HasSignalAt, same_Some, list_all, All-weaker, most_signals, both_ways, flip_false, types_with, add-one, line_with, row_label, Types}
pub use Rattle.rinex_file.proofs.HeaderRows.Lists.{content_first}
use Rattle.rinex_file.proofs.HeaderRows.Lists.{item_in_line}

abbrev signal : System → ℕ → SignalAt
signal system index = record { system = system; index = index }

-- ---- two bytes

abbrev two_bytes : System → ℕ → Bool
two_bytes system i = length (code_of (signal system i)) == 2

pub length-code : (system : System) (i : ℕ) → i < length (table system) → length (code_of (signal system i)) ≡ 2
length-code system i h = is_equal _ _ (passes_at (two_bytes system) (length (table system)) i (each_system (λ s. passes_below (two_bytes s) (length (table s))) system refl) h)

-- ---- ASCII

abbrev ascii_bytes : List ℕ → Bool
ascii_bytes bs = list_all (λ b. nat_lt b 128) bs

abbrev ascii_code : System → ℕ → Bool
ascii_code system i = ascii_bytes (code_of (signal system i))

ascii_from : (bs : List ℕ) → ascii_bytes bs ≡ true → IsAscii bs
ascii_from bs h = IsAscii-from_all bs (All-weaker (λ b. nat_lt b 128 ≡ true) (λ b. b < 128) (λ b less. is_less b 128 less) bs (AllPass-from_list_all (λ b. nat_lt b 128) bs h))

pub utf8-code : (system : System) (i : ℕ) → i < length (table system) → IsUtf8 (code_of (signal system i))
utf8-code system i h = IsUtf8-from_ascii _ (ascii_from _ (passes_at (ascii_code system) (length (table system)) i (each_system (λ s. passes_below (ascii_code s) (length (table s))) system refl) h))

-- ---- one signal

pub code_reads_back : (s : SignalAt) → IsSignal s → signal_of_code s.system (code_of s) ≡ Some s
code_reads_back s h = search rules

pub code_of_one : (system : System) (s : SignalAt) (code : List ℕ) → IsSignal s → s.system ≡ system → code ≡ code_of s → signal_of_code system code ≡ Some s
code_of_one system s code listed same is = grind (arith, code_reads_back)

pub length-types_of : (cs : List (List ℕ)) → length (types_of cs) ≡ 4 * length cs
length-types_of [] = refl
length-types_of (c ∷ cs) = ap (λ n. suc (suc (suc (suc n)))) (length-types_of cs) ∙ (omega arith)

pub types_at : (cs : List (List ℕ)) (q r : ℕ) (d e : List ℕ) → q < length cs → r < 4 → get_or (types_of cs) (4 * q + r) e ≡ type_of r (get_or cs q d)
types_at cs q r d e h k =
    let four = λ (c : List ℕ). type_of 0 c ∷ type_of 1 c ∷ type_of 2 c ∷ type_of 3 c ∷ [] in
    let before : length (types_of (take q cs)) ≡ 4 * q = length-types_of (take q cs) ∙ ap (λ n. 4 * n) (simp length-take (omega (arith, h))) in
    ap (λ n. get_or (types_of cs) (n + r) e) (sym before) ∙ get_or-flat_map four cs q r d e h k ∙ (grind arith)

quarter : (i n : ℕ) → i < 4 * n → i / 4 < n
quarter i n h = omega (arith, h)

fourth : (k : ℕ) → 4 * k / 4 ≡ k
fourth k = omega arith

pub type_here : (cs : List (List ℕ)) (i : ℕ) (e : List ℕ) → i < 4 * length cs → get_or (types_of cs) i e ≡ type_of (i % 4) (get_or cs (i / 4) [])
type_here cs i e h = ap (λ n. get_or (types_of cs) n e) (omega arith) ∙ types_at cs (i / 4) (i % 4) [] e (quarter i (length cs) h) (omega arith)

-- the type at an index of a system's types
pub signal_type : (system : System) (signals : List ℕ) (s : SignalAt) (i : ℕ) → i < 4 * length signals → s.index ≡ slice_index signals (i / 4) → s.system ≡ system
    → type_of (i % 4) (code_of s) ≡ get_or (types_of (codes_of system signals)) i []
signal_type system signals s i h p q = grind (arith, length-map, get_or-map, quarter, type_here)

-- the number of a system's types
pub length-system_types : (system : System) (signals : List ℕ) → length (types_of (codes_of system signals)) ≡ 4 * length signals
length-system_types system signals = length-types_of (codes_of system signals) ∙ ap (λ n. 4 * n) (length-map signals (λ index. code_of (record { system = system; index = index })))

abbrev pub columns : List (List ℕ) → List ℕ
columns types = flat_map (λ t. 32 ∷ t) types

place_of : (start i : ℕ) → start ≤ i → start + (i - start) ≡ i
place_of start i h = omega (arith, h)

-- one more type
pub type_more : (types : List (List ℕ)) {start i : ℕ} {x : List ℕ} (front : List ℕ) {text new : List ℕ} → start ≤ i → i < length types → x ≡ get_or types i []
    → text ≡ front ++ columns (take (i - start) (drop start types)) → new ≡ text ++ 32 ∷ x
    → new ≡ front ++ columns (take ((i + 1) - start) (drop start types))
type_more types front low high is before more = grind (arith, common_steps, length-drop, get_or-drop, place_of, take_more, flat_map-append)

-- the line is full, or all types are in it
pub types_done : (types : List (List ℕ)) (row i : ℕ) (front : List ℕ) {text : List ℕ} → 13 * row ≤ i → i ≤ 13 * row + 13 → (i < 13 * row + 13 → length types ≤ i)
    → text ≡ front ++ columns (take (i - 13 * row) (drop (13 * row) types)) → text ≡ front ++ type_columns types row
types_done types row i front low high end is = grind (arith, cases_lt, length-drop, take_all)

-- ---- signals of a system, at their indices

pub index_here : (ss : List SignalAt) (k : ℕ) (s : SignalAt) → k < length ss → s ≡ get_or ss k s → s.index ≡ slice_index (indices ss) k
index_here [] k s less is = absurd (omega (arith, less))
index_here (x ∷ ss) zero s less is = ap (λ (r : SignalAt). r.index) is
index_here (x ∷ ss) (suc k) s less is = index_here ss k s (omega (arith, less)) is

pub system_here : (system : System) (ss : List SignalAt) (k : ℕ) (s : SignalAt) → IsOf system ss → k < length ss → s ≡ get_or ss k s → s.system ≡ system
system_here system ss k s of less is = grind (arith, All-get_or)

-- ---- the columns of a line

pub length-front : (letter types row : ℕ) → types < 1000 → length (type_front letter types row) ≡ 6
length-front letter types zero few = grind (arith, length-decimal-le, length-right)
length-front letter types (suc row) few = refl

abbrev pub signal_at : System → List ℕ → ℕ → SignalAt
signal_at system all k = record { system = system; index = slice_index all k }

pub listed_at : (system : System) (all : List ℕ) (k : ℕ) → AreTypes system all → k < length all → slice_index all k < length (table system)
listed_at system all k are less = All-get_or (λ i. i < length (table system)) all k 0 less are.listed

type_at : (system : System) (all : List ℕ) (i : ℕ) → i < 4 * length all → get_or (types_of (codes_of system all)) i [] ≡ type_of (i % 4) (code_of (signal_at system all (i / 4)))
type_at system all i less = sym (signal_type system all (signal_at system all (i / 4)) i less refl refl)

-- a blank and three bytes
four_columns : (system : System) (all : List ℕ) → AreTypes system all → (i : ℕ) → i < length (types_of (codes_of system all)) → length (32 ∷ get_or (types_of (codes_of system all)) i []) ≡ 4
four_columns system all are i less = grind (arith, length-system_types, type_at, length-code, listed_at, quarter)

-- the code of a signal is in the line in which its types begin
code_in_line : {system : System} {all : List ℕ} (row q k : ℕ) → AreTypes system all → 4 * length all < 1000 → q < 13 → 13 * row + q ≡ 4 * k → k < length all
    → take 2 (drop (6 + 4 * q + 2) (types_with system (length all) all row)) ≡ code_of (signal_at system all k)
code_in_line {system} {all} row q k are few within place less =
    let line = types_with system (length all) all row in
    let s = signal_at system all k in
    let inside : 13 * row + q < 4 * length all = omega (arith, place, less) in
    let item = item_in_line (λ t. 32 ∷ t) 4 6 13 (λ q. 4 * q) refl (λ q. omega arith) (type_front (letter system) (4 * length all) row) (row_label (Types system row)) (types_of (codes_of system all)) (13 * row) q []
    (length-front (letter system) (4 * length all) row few) (four_columns system all are) within (subst (λ (n : ℕ). 13 * row + q < n) (sym (length-system_types system all)) inside) in
    let letter : get_or (types_of (codes_of system all)) (13 * row + q) [] ≡ 67 ∷ code_of s = type_at system all (13 * row + q) inside ∙ ap (λ (n : ℕ). type_of (n % 4) (code_of (signal_at system all (n / 4)))) place
    ∙ ap₂ (λ (m n : ℕ). type_of m (code_of (signal_at system all n))) (none_left k) (fourth k) in
    sym (ap (take 2) (drop-drop 2 (6 + 4 * q) line)) ∙ ap (λ l. take 2 (drop 2 l)) (item.1 ∙ ap (λ t. 32 ∷ (t ++ item.0)) letter) ∙ take_at (code_of s) item.0 2 (length-code system (slice_index all k) (listed_at system all k are less)) where
      none_left : (k : ℕ) → 4 * k % 4 ≡ 0
      none_left k = omega arith

-- ---- the signals that are read from a line

types_take : (m : ℕ) (cs : List (List ℕ)) → types_of (take m cs) ≡ take (4 * m) (types_of cs)
types_take zero cs = refl
types_take (suc m) [] = sym (take_all (4 * suc m) [] (omega arith))
types_take (suc m) (c ∷ cs) =
    let e : 4 * suc m ≡ suc (suc (suc (suc (4 * m)))) = omega arith in
    ap (λ l. type_of 0 c ∷ type_of 1 c ∷ type_of 2 c ∷ type_of 3 c ∷ l) (types_take m cs) ∙ ap (λ n. take n (types_of (c ∷ cs))) (sym e)

row_take : (ts : List (List ℕ)) (n m : ℕ) → n + 13 ≤ m → take 13 (drop n (take m ts)) ≡ take 13 (drop n ts)
row_take ts n m enough =
    let e : m ≡ n + (m - n) = omega (arith, enough) in
    ap (λ k. take 13 (drop n (take k ts))) e ∙ ap (take 13) (drop-take n (m - n) ts) ∙ take-take 13 (m - n) (drop n ts) (omega (arith, enough))

pub row_shown : (system : System) (all : List ℕ) (row : ℕ) → type_columns (types_of (codes_of system (take (signals_begun (row + 1)) all))) row ≡ type_columns (types_of (codes_of system all)) row
row_shown system all row =
    let f : ℕ → List ℕ = λ index. code_of (record { system = system; index = index }) in
    let m = signals_begun (row + 1) in
    ap (λ cs. columns (take 13 (drop (13 * row) (types_of cs)))) (sym (take-map f m all))
    ∙ ap (λ ts. columns (take 13 (drop (13 * row) ts))) (types_take m (codes_of system all))
    ∙ ap columns (row_take (types_of (codes_of system all)) (13 * row) (4 * m) (omega arith))

-- ---- none comes twice

pub not_before : (all : List ℕ) (k : ℕ) → IsDistinct nat_eq all → k < length all → list_any (nat_eq (slice_index all k)) (take k all) ≡ false
not_before [] k apart less = absurd (omega (arith, less))
not_before (x ∷ all) zero apart less = refl
not_before (x ∷ all) (suc k) apart less = grind (arith, not_before all k (IsDistinct-tail nat_eq x all apart) (omega (arith, less)), flip_false x (slice_index all k) (apart_from_distinct nat_eq (x ∷ all) 0 (suc k) 0 apart (omega arith) less))

-- ---- one more signal

-- the column of the code of the signal at an index, in a line of types
abbrev pub column_of : ℕ → ℕ → ℕ
column_of row place = 6 + 4 * (4 * place - 13 * row) + 2

-- the signal at an index begins in a line of types
pub record IsInLine (system : System) (all line : List ℕ) (row place : ℕ) : Type 0 where
  pub are : AreTypes system all
  pub few : 4 * length all < 1000
  pub is : line ≡ types_with system (length all) all row
  pub low : signals_begun row ≤ place
  pub high : place < signals_begun (row + 1)
  pub less : place < length all

pub code_here : {system : System} {all line : List ℕ} {row place : ℕ} → IsInLine system all line row place → take 2 (drop (column_of row place) line) ≡ code_of (signal_at system all place)
code_here at = grind (arith, code_in_line)

-- the signal that is read from its column
pub read_here : {system : System} {all line : List ℕ} {row place : ℕ} {found : Option SignalAt} → IsInLine system all line row place
    → ((s : SignalAt) → HasSignalAt system line (column_of row place) s → found ≡ Some s) → found ≡ Some (signal_at system all place)
read_here {system} {all} {place = place} at read = read (signal_at system all place) (listed_at system all place at.are at.less, refl, code_here at)

pub index_read : {found : Option SignalAt} {s t : SignalAt} → found ≡ Some t → found ≡ Some s → s.index ≡ t.index
index_read {s = s} {t} here e = ap (λ (x : SignalAt). x.index) (same_Some s t (sym e ∙ here))

pub taken_more : (all : List ℕ) (place : ℕ) (s : SignalAt) (old : List SignalAt) → s.index ≡ slice_index all place → place < length all → indices old ≡ take place all
    → indices (old ++ s ∷ []) ≡ take (place + 1) all
taken_more all place s old same less before = indices-push old s ∙ ap₂ (λ l i. l ++ i ∷ []) before same ∙ sym (take_more all place 0 less)

pub taken_before : {system : System} {all : List ℕ} (place : ℕ) (s : SignalAt) (old : List SignalAt) → AreTypes system all → s.index ≡ slice_index all place → place < length all → list_any (λ (r : SignalAt). s.index == r.index) old ≡ true
    → indices old ≡ take place all → ⊥
taken_before {all} place s old are same less twice before = both_ways _ (any_index s.index old ∙ ap₂ (λ i l. list_any (nat_eq i) l) same before ∙ not_before all place are.apart less) twice

-- ---- the whole line

-- the line depends on the signals whose types begin in the lines up to it alone
pub same_types_line : (system : System) (row count : ℕ) (a b : List ℕ) → take (signals_begun (suc row)) a ≡ take (signals_begun (suc row)) b → types_with system count a row ≡ types_with system count b row
same_types_line system row count a b e = ap (λ l. line_with (Types system row) (type_front (letter system) (4 * count) row ++ l)) (cut a ∙ ap (λ l. type_columns (types_of (codes_of system l)) row) e ∙ sym (cut b)) where
  cut : (all : List ℕ) → type_columns (types_of (codes_of system all)) row ≡ type_columns (types_of (codes_of system (take (signals_begun (suc row)) all))) row
  cut all = sym (row_shown system all row) ∙ ap (λ n. type_columns (types_of (codes_of system (take (signals_begun n) all))) row) (add-one row)

-- ---- the number of signals

pub few_types : (system : System) (all : List ℕ) → AreTypes system all → length all ≤ length (table system)
few_types system all are = few_below (length (table system)) all are.listed are.apart

-- the first line has the number in its columns
pub count_shown : (system : System) (all line : List ℕ) → AreTypes system all → length (table system) ≤ most_signals → line ≡ types_with system (length all) all 0
    → take 3 (drop 3 line) ≡ right 3 (decimal (4 * length all))
count_shown system all line are bound is =
    let types = types_of (codes_of system all) in
    let n = 4 * length all in
    let number = right 3 (decimal n) in
    let few = few_types system all are in
    let digits : length (decimal n) ≤ 3 = length-decimal-le 3 n (omega arith) (omega (arith, few, bound)) (omega (arith, few, bound)) in
    let first = content_first (type_front (letter system) n 0 ++ type_columns types 0) (row_label (Types system 0)) in
    ap (λ l. take 3 (drop 3 l)) (is ∙ first.1 ∙ append_assoc (letter system ∷ 32 ∷ 32 ∷ number) (type_columns types 0) first.0)
    ∙ take_at number (type_columns types 0 ++ first.0) 3 (length-right 3 (decimal n) digits)

pub count_read : (system : System) (all line : List ℕ) → AreTypes system all → length (table system) ≤ most_signals → line ≡ types_with system (length all) all 0
    → digits_in (take 3 (drop 3 line)) / 4 ≡ length all
count_read system all line are bound is = grind (arith, common_steps, few_types, count_shown, digits_in-whole, fourth)

-- the items that were read first are still the first
pub still_grows : {X : Type 0} (old xs ys : List X) → take (length old) xs ≡ old → take (length xs) ys ≡ xs → take (length old) ys ≡ old
still_grows old xs ys e f = grind (arith, length-take, take-take)
