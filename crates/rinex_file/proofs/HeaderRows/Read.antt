-- What is known after each line of a header.
use Rattle.rinex_file.proofs.HeaderRows.Agree.{at_most_a_day, interval-back, types_shown}
use Rattle.rinex_file.proofs.HeaderRows.Lists.{go_on, line_after_same, same_after, same_before}
use Rattle.rinex_file.proofs.HeaderRows.Slots.{same_slots_line, slots_are}
use Rattle.rinex_file.proofs.HeaderRows.Types.{same_types_line}
use Rattle.rinex_file.proofs.HeaderRows.Places.{either, slots_here, types_here}
use Rattle.rinex_file.proofs.HeaderRows.Steps.{left_over}
use Rattle.rinex_file.proofs.HeaderRows.Texts.{each_field, field_back, is_apart, same_line, same_some, kept_texts, texts_back}
use Rattle.rinex_file.proofs.Names.{value_after, value_of_other, IsLineOfTypes, IsThere, common_steps, AreListsAt, IsRowRead, IsRowUnread, arith, ◌≡◌, ◌∙◌, sym, ap, refl, subst, ℕ, suc, ◌+◌, ◌<◌, ◌≤◌, Bool, true, false, List, length, take, min, ◌↔◌, ◌^◌, Some, None, IsTrue, list_all, take-map, SignalAt, table, System, is_less, is_system, indices, planned_of, civil_of, StationValues, length_indices, Types, Version, Texts, Position, Delta, First, row_line, has_line, type_rows, position_line, row_place, Known, Has, HasRow, AreSameTexts, counted, systems_letter, signals_begun, IsPosition, position_of, Shown, IsShown, TakesTypes, RefusesTypes, with_types, IsHeaderLineRead, RefusesHeaderLine, ReadsOrRefuses, ReadsTexts, RefusesTexts, with_texts, with_values, with_first, with_letter, HeaderField, HeaderRow, HeaderLists, fields_of, front_of, IsTime, ReadsExactly, same_Some, ⊤, Slots, slots_of, slots_begun, known_slots, with_slots, AreItemsBefore, types_with, most_type_rows, IsLineOfSlots, TakesSlots, TakesOrRefusesSlots, ChannelsValue, add-one, has_text, is_required, not-true, Interval, IsInterval, with_interval, line_with, row_content, ReadsHeaderRow, version_content, interval_content, first_content, height_content, position_content, slots_with}

-- ---- types

-- a line of types was read, by the signals before and after it
pub row_taken : {system : System} {count before row : ℕ} {line : List ℕ} {old : List SignalAt} (new : List SignalAt) → count ≤ length (table system) → row < type_rows count → (0 < row → before ≡ count)
    → take (length old) new ≡ old → length old ≡ signals_begun row → length new ≡ min (signals_begun (row + 1)) count → line ≡ types_with system count (indices new) row
    → ((all : List ℕ) → IsLineOfTypes system row line before (indices old) all → (length all ≡ count) × (indices new ≡ take (signals_begun (row + 1)) all)) → TakesTypes system row line before (indices old) count (indices new)
row_taken new few rows later grows begun size is taken = grind (arith, length_indices, add-one, take-map)

same_made : (P : ℕ → List ℕ → Type 0) {a b : ℕ} {xs ys : List ℕ} → a ≡ b → xs ≡ ys → P a xs ↔ P b ys
same_made P {a} {b} {xs} {ys} e f = (λ p. subst (λ n. P n ys) e (subst (P a) f p), λ p. subst (P a) (sym f) (subst (λ n. P n ys) (sym e) p))

module _ (s : System) (row : ℕ) (line : List ℕ) (k : Known) (before : AreItemsBefore k (Types s row)) where
  types_line_of : (h : Shown) → IsShown h → Has k (row_place (Types s row)) h → has_line h (Types s row) ≡ true → row_line h (Types s row) ≡ line → IsLineOfTypes s row line (counted k s) (planned_of s k.shown.plan) (planned_of s h.plan)
  unfolding row_line
  types_line_of h is has there e =
      let all = planned_of s h.plan in
      let few = is_less row (type_rows (length all)) there in
      let b = go_on signals_begun row (counted k s) (planned_of s k.shown.plan) all refl before.1 (λ i next. subst (HasRow k h) (types_here s i (earlier i next)) (has.rows (row_place (Types s i)) (omega (arith, next)))) in
      record { are = types_shown s h is (omega (arith, few)); later = b.0; before = b.1; is = sym e } where
        earlier : (i : ℕ) → row ≡ suc i → i < most_type_rows
        earlier i next = let few = before.0 in omega (arith, few, next)

  pub refuse_types : RefusesTypes s row line (counted k s) (planned_of s k.shown.plan) → RefusesHeaderLine k (Types s row) line
  refuse_types refuses h is has there e = refuses (planned_of s h.plan) (types_line_of h is has there e)

  module _ (count : ℕ) (signals : List ℕ) (t : TakesTypes s row line (counted k s) (planned_of s k.shown.plan) count signals) where
    abbrev after : Known
    after = with_types s k count signals

    -- what holds of the number and the signals that were read of this system, and of another
    own_made : (P : ℕ → List ℕ → Type 0) → P count signals ↔ P (counted after s) (planned_of s after.shown.plan)
    own_made P = same_made P (sym (value_after s k.counts count)) (sym (value_after s k.shown.plan.signals signals))

    other_made : (P : ℕ → List ℕ → Type 0) (u : System) → is_system s u ≡ false → P (counted k u) (planned_of u k.shown.plan) ↔ P (counted after u) (planned_of u after.shown.plan)
    other_made P u other = same_made P (sym (value_of_other s u k.counts count other)) (sym (value_of_other s u k.shown.plan.signals signals other))

    -- what holds of the number and the signals of each system, by those of this one and of the others
    each_made : (P : System → ℕ → List ℕ → Type 0) → P s count signals → ((u : System) → P u (counted k u) (planned_of u k.shown.plan)) → (u : System) → P u (counted after u) (planned_of u after.shown.plan)
    each_made P own all u = either (P u (counted after u) (planned_of u after.shown.plan)) s u
        (λ e. subst (λ v. P v (counted after v) (planned_of v after.shown.plan)) (sym e) ((own_made (P s)).0 own))
        (λ other. (other_made (P u) u other).0 (all u))

    size : length signals ≡ min (signals_begun (suc row)) count
    size = t.items.size

    lists : AreListsAt k → AreListsAt after
    lists w = record {
      read = each_made (λ u c xs. length xs ≤ c) (omega (arith, size)) w.read;
      few = each_made (λ u c xs. c ≤ length (table u)) t.few w.few;
      slots_read = w.slots_read;
      room = w.room;
      unplanned = λ none. w.unplanned (grind (arith, common_steps, either, value_after, value_of_other));
    }

    pub types_read : IsHeaderLineRead (Types s row) line k after
    unfolding row_line
    types_read = record { lists = lists; read = (own_made (λ c xs. min (signals_begun (suc row)) c ≤ length xs)).0 (omega (arith, size)); early = early; later = later; there = subst (λ c. row < type_rows c) (sym (value_after s k.counts count)) t.rows; own = own; kept = kept } where
      early : (q : HeaderRow) → row_place q < row_place (Types s row) → IsRowRead k q → IsRowRead after q
      early (Types u i) less before = grind (arith, common_steps, own_made, size, other_made)
      early q less before = before

      later : (q : HeaderRow) → row_place (Types s row) < row_place q → IsRowUnread k q → IsRowUnread after q
      later (Types u i) less before = grind (arith, common_steps, own_made, size, other_made)
      later q less before = before

      own : (h : Shown) → IsShown h → Has k (row_place (Types s row)) h → has_line h (Types s row) ≡ true → (row_line h (Types s row) ≡ line) ↔ HasRow after h (Types s row)
      own h is has there = grind (arith, common_steps, own_made, same_after, types_line_of, line_after_same, same_types_line)

      kept : (h : Shown) (q : HeaderRow) → row_place q < row_place (Types s row) → HasRow k h q ↔ HasRow after h q
      kept h (Types u i) less = grind (arith, common_steps, either, other_made, same_before, own_made)
      kept h other less = (λ e. e, λ e. e)

-- ---- rows that are read exactly

exact : {V : Type 0} {Is : V → Type 0} {text : V → List ℕ} {line : List ℕ} {v : V} → ReadsExactly Is text line (Some v) → (w : V) → Is w → (text w ≡ line) ↔ (w ≡ v)
exact {text = text} r w is = (λ e. r.2 w is (sym e), λ e. ap text e ∙ sym r.1)

-- no header has the line, if the row's content in each is that of a value
pub refuse_exactly : {V : Type 0} (r : HeaderRow) (Is : V → Type 0) (content : V → List ℕ) (k : Known) (line : List ℕ) → ((h : Shown) → IsShown h → has_line h r ≡ true → (v : V) × Is v × (row_content h r ≡ content v))
    → ReadsHeaderRow r Is content line None → RefusesHeaderLine k r line
unfolding row_line
refuse_exactly r Is content k line own read h is before there e = let (v, fits, shows) = own h is there in read v fits (sym e ∙ ap (line_with r) shows)

-- ---- texts

-- no text is in two rows
rows_apart : (q r : HeaderField) → (q ≡ r → ⊥) → list_all (is_apart (fields_of r)) (fields_of q) ≡ true
rows_apart q r other = grind (arith, common_steps, left_over, each_field, field_back)

pub line_texts : (r : HeaderField) (line : List ℕ) (k : Known) (x : HeaderLists) → ReadsTexts r line k.shown.texts x → IsHeaderLineRead (Texts r) line k (with_texts k x)
unfolding row_line
line_texts r line k x read = record { lists = λ w. w; read = tt; early = λ q less before. before; later = later; there = λ o. left_over (is_required r) (has_text x r) read.some (λ e. let f = not-true (is_required r) o in cc); own = own; kept = kept } where
  stay : (q : HeaderField) → (q ≡ r → ⊥) → AreSameTexts x k.shown.texts (fields_of q)
  stay q other = kept_texts (fields_of r) (length (front_of r)) line k.shown.texts read.read (fields_of q) (rows_apart q r other)

  later : (q : HeaderRow) → row_place (Texts r) < row_place q → IsRowUnread k q → IsRowUnread (with_texts k x) q
  later q less blank = grind (arith, same_some, stay)

  own : (h : Shown) → IsShown h → Has k (row_place (Texts r)) h → has_line h (Texts r) ≡ true → (row_line h (Texts r) ≡ line) ↔ AreSameTexts h.texts x (fields_of r)
  own h is before there = (
    λ e.
        let back = texts_back h.texts is.texts r line k.shown.texts read.size e in
        sym (subst (λ y. AreSameTexts y h.texts (fields_of r)) (same_Some back.new x (sym back.read ∙ read.read)) back.same),
    λ a. same_line h.texts x r a ∙ read.shown,
  )

  kept : (h : Shown) (q : HeaderRow) → row_place q < row_place (Texts r) → HasRow k h q ↔ HasRow (with_texts k x) h q
  kept h q less = grind (arith, stay)

pub refuse_texts : (k : Known) (r : HeaderField) (line : List ℕ) → RefusesTexts r line → RefusesHeaderLine k (Texts r) line
unfolding row_line
refuse_texts k r line refuses h is before there e = refuses h.texts is.texts there e

-- ---- station values

no_height : (v : StationValues) → v.height ≡ 0 → v ≡ position_of v
no_height v e = ap (λ (n : ℕ). record v { height = n }) e

pub line_position : (k : Known) (v : StationValues) (line : List ℕ) → ReadsHeaderRow Position IsPosition position_content line (Some v)
    → IsHeaderLineRead Position line k (with_values k (record v { height = k.shown.values.height }))
unfolding row_line
line_position k v line r = record { lists = λ w. w; read = tt; early = λ q less before. before; later = λ q less blank. blank; there = λ o. cc; own = own; kept = kept } where
  own : (h : Shown) → IsShown h → Has k (row_place Position) h → has_line h Position ≡ true → (row_line h Position ≡ line) ↔ (position_of h.values ≡ position_of v)
  own h is before there =
      let e = exact {Is = IsPosition} {text = position_line} r (position_of h.values) (is.values.x, is.values.y, is.values.z, refl) in
      (λ f. e.0 f ∙ no_height v r.0.3, λ f. e.1 (f ∙ sym (no_height v r.0.3)))

  kept : (h : Shown) (q : HeaderRow) → row_place q < row_place Position → HasRow k h q ↔ HasRow (with_values k (record v { height = k.shown.values.height })) h q
  kept h other less = grind (arith, common_steps)

pub line_delta : (k : Known) (height : ℕ) (line : List ℕ) → ReadsHeaderRow Delta (λ h. h < 2 ^ 16) height_content line (Some height)
    → IsHeaderLineRead Delta line k (with_values k (record k.shown.values { height = height }))
unfolding row_line
line_delta k height line r = grind (arith, exact)

-- ---- the interval

pub line_interval : (k : Known) (n : ℕ) (line : List ℕ) → ReadsHeaderRow Interval IsInterval interval_content line (Some n) → IsHeaderLineRead Interval line k (with_interval k n)
unfolding row_line
line_interval k n line r = grind (arith, interval-back, at_most_a_day, exact)

-- a header with the line has an interval
pub given_interval : (h : Shown) → IsShown h → has_line h Interval ≡ true → (n : ℕ) × IsInterval n × (row_content h Interval ≡ interval_content n)
given_interval h is there = grind arith

-- ---- the first epoch

pub line_first : (k : Known) (t : ℕ) (line : List ℕ) → ReadsHeaderRow First IsTime (λ t. first_content (civil_of t)) line (Some t) → IsHeaderLineRead First line k (with_first k t)
unfolding row_line
line_first k t line r = record { lists = λ w. w; read = tt; early = λ q less before. before; later = λ q less blank. blank; there = λ o. cc; own = λ h is before there. exact {Is = IsTime} {text = λ t. line_with First (first_content (civil_of t))} r h.first is.first; kept = kept } where
  kept : (h : Shown) (q : HeaderRow) → row_place q < row_place First → HasRow k h q ↔ HasRow (with_first k t) h q
  kept h First less = absurd (omega (arith, less))
  kept h other less = (λ e. e, λ e. e)

-- ---- lines that are always the same

pub line_fixed : {r : HeaderRow} (t : HeaderRow) {content line : List ℕ} → r ≡ t → (k : Known) (b : Bool) → IsRowRead k t → IsThere k t → ((h : Shown) → row_content h t ≡ content) → ((h : Shown) → HasRow k h t)
    → (IsTrue b ↔ (line ≡ line_with r content)) → ReadsOrRefuses r line k k b
unfolding row_line
line_fixed t same k b read there shows said is = grind (arith, common_steps)

-- ---- slots

-- the slots of a header with what was read before its line
module _ (row : ℕ) (line : List ℕ) (k : Known) (before : AreItemsBefore k (Slots row)) where
  slots_line_of : (h : Shown) → IsShown h → Has k (row_place (Slots row)) h → slots_with (length (slots_of h.plan.channels)) (slots_of h.plan.channels) row ≡ line → IsLineOfSlots row line k.slots (known_slots k) (slots_of h.plan.channels)
  slots_line_of h is has e =
      let b = go_on slots_begun row k.slots (known_slots k) (slots_of h.plan.channels) refl before.1 (λ i next. subst (HasRow k h) (slots_here i (earlier i next)) (has.rows (row_place (Slots i)) (omega (arith, next)))) in
      record { are = slots_are h.plan.channels is.plan.channels; later = b.0; before = b.1; is = sym e } where
        earlier : (i : ℕ) → row ≡ suc i → i < 4
        earlier i next = let few = before.0 in omega (arith, few, next)

  slots_read : (count : ℕ) (channels : ChannelsValue) → TakesSlots row line k.slots (known_slots k) count (slots_of channels) → IsHeaderLineRead (Slots row) line k (with_slots k count channels)
  unfolding row_line
  slots_read count channels t = grind (arith, common_steps, same_after, slots_line_of, line_after_same, same_slots_line, same_before)

  pub line_slots : (count : ℕ) (channels : ChannelsValue) (b : Bool) → TakesOrRefusesSlots row line k.slots (known_slots k) count (slots_of channels) b → ReadsOrRefuses (Slots row) line k (with_slots k count channels) b
  unfolding row_line
  line_slots count channels b t = grind (arith, slots_read, slots_line_of)

-- ---- version and systems

pub line_version : (k : Known) (l : ℕ) (line : List ℕ) → ReadsHeaderRow Version (λ byte. ⊤) version_content line (Some l) → IsHeaderLineRead Version line k (with_letter k l)
unfolding row_line
line_version k l line r = record { lists = λ w. w; read = tt; early = λ q less before. before; later = λ q less blank. blank; there = λ o. cc; own = λ h is before there. exact {Is = λ byte. ⊤} {text = λ byte. line_with Version (version_content byte)} r (systems_letter h.plan) tt; kept = λ h q less. absurd (omega (arith, less)) }
