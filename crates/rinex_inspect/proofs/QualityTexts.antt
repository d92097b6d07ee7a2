-- The words of the lines of `quality`.
use Rattle.rinex_inspect.proofs.Names.{IsErrAnd, passed, Result, common_steps, ◌≡◌, ◌∙◌, ◌+◌, ◌<◌, ◌≤◌, ◌++◌, ◌∷◌, [], ℕ, Bool, List, cond, length, codes, decimal, refl, ap, ap₂, sym, append_assoc, arith, Err, drop, take, get_or, subst, ◌-◌, length-append, get_or_read, count_by, sum_by, length_indices, planned_of, SignalAt, most_signals, IsPrintable, IsSmallTally, HasPlaces, contents_in, record_at, records_in, tally_at, SatelliteRecord, Table, no_tally, Writer, EndsPrinting, longer_part, below, PlanValue, System, letter, satellites, end_line, with_words, IsPrefix, clock_text, date_text, present_line, signal_line, tally_line, time_word, Contents, code_at, lost_in, presence_words, satellite_word, tally_words, has_values, total, Presence, Tally, take-length, indices, civil_of}
use Rattle.rinex_inspect.proofs.SumLemmas.{count_more}

pub size : {new : List ℕ} (old part : List ℕ) → new ≡ old ++ part → length new ≡ length old + length part
size old part e = ap length e ∙ length-append old part

-- a time in one word
pub word_is : (t : ℕ) {start new : List ℕ} → start ≡ [] → new ≡ (start ++ 0x20 ∷ date_text (civil_of t)) ++ 84 ∷ clock_text (civil_of t) → new ≡ 0x20 ∷ time_word t
unfolding time_word
word_is t none is =
    is ∙ ap (λ (l : List ℕ). (l ++ 0x20 ∷ date_text (civil_of t)) ++ 84 ∷ clock_text (civil_of t)) none
    ∙ ap (λ (l : List ℕ). 0x20 ∷ l) (sym (append_assoc (date_text (civil_of t)) (84 ∷ []) (clock_text (civil_of t))))

pub word_short : (start new : List ℕ) → start ≡ [] → length new ≤ length start + 24 → length new ≤ 24
word_short start new none few = let same = ap length none in omega (arith, same, few)

pub presence_is : (p : Presence) (old : List ℕ) {a b c d e f w1 w2 : List ℕ} → a ≡ (old ++ 0x20 ∷ codes "epochs") ++ 0x20 ∷ decimal p.epochs → b ≡ (a ++ 0x20 ∷ codes "of") ++ 0x20 ∷ decimal p.span → c ≡ b ++ codes " first"
    → d ≡ c ++ w1 → w1 ≡ 0x20 ∷ time_word p.first → e ≡ d ++ codes " last" → f ≡ e ++ w2 → w2 ≡ 0x20 ∷ time_word p.last → f ≡ with_words old (presence_words p)
presence_is p old e1 e2 e3 e4 first e5 e6 last = grind (arith, common_steps)

pub one_small : (b : Bool) {n : ℕ} → n ≡ cond b 1 0 → n ≤ 1
one_small b e = grind (arith, common_steps)

-- one satellite more is counted
pub counted : {before one : ℕ} {b : Bool} (p : ℕ → Bool) (n : ℕ) → before ≡ count_by p (below n) → one ≡ cond b 1 0 → b ≡ p n → before + one ≡ count_by p (below (n + 1))
counted p n is one same = ap₂ (λ (x y : ℕ). x + y) is (one ∙ ap (λ (b : Bool). cond b 1 0) same) ∙ sym (count_more p n refl)

pub signal_is : (plan : PlanValue) (has : Contents) (s : System) (k : ℕ) {number : ℕ} {t : Tally} {a b c d e f : List ℕ} → number ≡ count_by (λ i. has_values (has.tallies s i k)) (below (satellites s)) → t ≡ total (λ i. has.tallies s i k) (satellites s)
    → a ≡ codes "signal" → b ≡ a ++ 0x20 ∷ letter s ∷ [] → c ≡ b ++ 0x20 ∷ code_at plan s k → d ≡ (c ++ 0x20 ∷ codes "satellites") ++ 0x20 ∷ decimal number → e ≡ with_words d (tally_words t) → f ≡ e ++ 0x0A ∷ []
    → f ≡ signal_line plan has s k
unfolding signal_line
signal_is plan has s k {number} {t} is all e1 e2 e3 e4 e5 e6 =
    end_line [] (codes "signal") ((letter s ∷ []) ∷ code_at plan s k ∷ codes "satellites" ∷ decimal (count_by (λ i. has_values (has.tallies s i k)) (below (satellites s))) ∷ tally_words (total (λ i. has.tallies s i k) (satellites s))) e6
    (e5 ∙ ap₂ (λ (x : List ℕ) (u : Tally). with_words x (tally_words u)) (e4 ∙ ap₂ (λ (x : List ℕ) (n : ℕ). (x ++ 0x20 ∷ codes "satellites") ++ 0x20 ∷ decimal n) (e3 ∙ ap (λ (x : List ℕ). x ++ 0x20 ∷ code_at plan s k) (e2 ∙ ap (λ (x : List ℕ). x ++ 0x20 ∷ letter s ∷ []) e1)) is) all)

words_split : (x : List ℕ) (ws vs : List (List ℕ)) → with_words x (ws ++ vs) ≡ with_words (with_words x ws) vs
words_split x [] vs = refl
words_split x (w ∷ ws) vs = words_split (x ++ 0x20 ∷ w) ws vs

pub present_is : (plan : PlanValue) (has : Contents) (s : System) (i : ℕ) {p : Presence} {lost : ℕ} {a b c d e : List ℕ} → p ≡ has.presences s i → lost ≡ lost_in plan has s i
    → a ≡ codes "satellite" → b ≡ a ++ 0x20 ∷ satellite_word s i → c ≡ with_words b (presence_words p) → d ≡ (c ++ 0x20 ∷ codes "lost") ++ 0x20 ∷ decimal lost → e ≡ d ++ 0x0A ∷ []
    → e ≡ present_line plan has s i
unfolding present_line
present_is plan has s i {p} {lost} here sum e1 e2 e3 e4 e5 = grind (arith, common_steps, end_line, words_split)

pub tally_line_is : (plan : PlanValue) (start : ℕ) (s : System) (i k : ℕ) {t u : Tally} {a b c d e w z : List ℕ} → t ≡ u
    → z ≡ [] → a ≡ z ++ w → w ≡ time_word start → b ≡ a ++ 0x20 ∷ satellite_word s i → c ≡ b ++ 0x20 ∷ code_at plan s k → d ≡ with_words c (tally_words t) → e ≡ d ++ 0x0A ∷ []
    → e ≡ tally_line plan start u s i k
unfolding tally_line
tally_line_is plan start s i k {t} {u} {w = w} same none e1 word e2 e3 e4 e5 =
    end_line [] (time_word start) (satellite_word s i ∷ code_at plan s k ∷ tally_words u) e5
    (e4 ∙ ap₂ (λ (x : List ℕ) (v : Tally). with_words x (tally_words v)) (e3 ∙ ap (λ (x : List ℕ). x ++ 0x20 ∷ code_at plan s k) (e2 ∙ ap (λ (x : List ℕ). x ++ 0x20 ∷ satellite_word s i) (e1 ∙ ap (λ (x : List ℕ). x ++ w) none ∙ word))) same)

-- a text that was written in part is a part of a longer one
pub part_of_more : {A F W : Type 0} (B : Type 0) {failed fault : F} (r : Result A F) (w w2 : Writer W) (x y : List ℕ) → IsErrAnd r (λ e. e ≡ fault) → EndsPrinting {A = B} failed (Err fault) x w w2 → IsPrefix x y → EndsPrinting failed r y w w2
part_of_more B {failed} {fault} r w w2 x y is (same, (fails, part)) more = passed r fault (λ r. EndsPrinting failed r y w w2) is (same, (fails, longer_part _ _ x y part more))

-- ---- what the records of a table have

pub few_satellites : (s : System) → satellites s ≤ 63
few_satellites s = grind arith

module _ (t : Table) (s : System) where
  -- the number of satellites with a value, and their tallies
  pub number_is : (k : ℕ) {l : List SatelliteRecord} {number : ℕ} → l ≡ records_in t s → HasPlaces t → number ≡ count_by (λ i. has_values (tally_at l k i)) (below (length l))
      → number ≡ count_by (λ i. has_values ((contents_in t).tallies s i k)) (below (satellites s))
  number_is k {l} same places e = grind (arith, common_steps)

  pub totals_are : (k : ℕ) {l : List SatelliteRecord} {u : Tally} → l ≡ records_in t s → HasPlaces t → u ≡ total (tally_at l k) (length l)
      → u ≡ total (λ i. (contents_in t).tallies s i k) (satellites s)
  totals_are k {l} same places e = grind (arith, common_steps)

  pub totals_small : (plan : PlanValue) (k : ℕ) {u : Tally} → IsPrintable t plan → k < most_signals → u ≡ total (λ i. (contents_in t).tallies s i k) (satellites s) → IsSmallTally u
  totals_small plan k fits place e = subst IsSmallTally (sym e) (fits.totals s k place)

  -- the record of a satellite
  pub record_is : (i : ℕ) {l : List SatelliteRecord} {r : SatelliteRecord} → l ≡ records_in t s → HasPlaces t → i < satellites s → r ≡ get_or l i r → r ≡ record_at t s i
  record_is i {l} {r} same places few e = grind (arith, common_steps, get_or_read, get_or)

  pub lost_is : (plan : PlanValue) (i : ℕ) {r : SatelliteRecord} (ss : List SignalAt) {n : ℕ} → r ≡ record_at t s i → indices ss ≡ planned_of s plan → n ≡ sum_by (λ k. (get_or r.signals k no_tally).lost) (below (length ss))
      → n ≡ lost_in plan (contents_in t) s i
  lost_is plan i {r} ss same planned e = grind (arith, common_steps, get_or, length_indices)

-- the bytes after the first one
pub rest_is : (w : List ℕ) {b : List ℕ} → b ≡ 0x20 ∷ w → take (length b - 1) (drop 1 b) ≡ w
rest_is w e = ap (λ (b : List ℕ). take (length b - 1) (drop 1 b)) e ∙ ap (λ (n : ℕ). take n w) {x = length (0x20 ∷ w) - 1} {y = length w} (omega arith) ∙ take-length w
