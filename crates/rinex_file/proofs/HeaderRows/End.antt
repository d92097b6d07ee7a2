-- The last line of a header, the header that was read, and the start.
use Rattle.rinex_file.proofs.Reading.Epochs.{few_signals_of}
use Rattle.rinex_file.proofs.HeaderRows.Agree.{split_at, less_or}
use Rattle.rinex_file.proofs.HeaderRows.Letters.{same_flags}
use Rattle.rinex_file.proofs.HeaderRows.Some.{SomeShown, some_shown}
use Rattle.rinex_file.proofs.HeaderRows.Slots.{no_slots, same_channels, slots_are, slots_room}
use Rattle.rinex_file.proofs.HeaderRows.Places.{known_at, types_early, types_here}
use Rattle.rinex_file.proofs.HeaderRows.Steps.{left_over, rest_next}
use Rattle.rinex_file.proofs.HeaderRows.Texts.{each_field, field_back, place_back, same_at, same_rows}
use Rattle.rinex_file.proofs.PlainTexts.{both}
use Rattle.rinex_file.proofs.Names.{equal_values, value_tabulated, short_table, tabulate, value_of, few_below, listed_by, is_alike, common_steps, AreListsAt, nat_le, ◌||◌, arith, ◌≡◌, ◌∙◌, sym, ap, ap₂, map, refl, subst, ℕ, pos, suc, lit<, lit≤, ◌<◌, true, List, [], ◌∷◌, ◌++◌, length, get_or, replicate, All, nat_eq, AllOfLen, IsDistinct, take_all, ext_get_or, SignalAt, table, System, indices, IsOf, planned_of, StationValues, HeaderField, Texts, Position, Delta, First, End, trimmed, HeaderLists, text_count, text_of, width_of, fields, fields_of, AntType, IsText, AreTexts, AreStationValues, IsTime, row_line, row_place, line_with, Known, Shown, IsShown, AreValid, IsHeadAt, shown_with, lines_before, RefusesHeaderLine, EndsHeader, none_of, row_at, AreSameTexts, Has, HasRow, fits, counted, StrengthUnit, SameFrom, position_of, PlanValue, Slots, Types, AreChannels, known_slots, no_channels, slots_of, HeaderRow, is_equal, is_less, nat_lt, ◌==◌, ◌&&◌, nil_from_length, not-true, flat_map, AreUnread, Interval, IfSome, IsInterval, None}

-- ---- a header with all that was read is the one that was read

pub all_same : (v w : StationValues) → v.x ≡ w.x → v.y ≡ w.y → v.z ≡ w.z → v.height ≡ w.height → v ≡ w
all_same v w a b c d = grind arith

same_plan : (p q : PlanValue) → p.signals ≡ q.signals → p.channels ≡ q.channels → p ≡ q
same_plan p q a b = grind arith

same_shown : (g h : Shown) → g.texts ≡ h.texts → g.interval ≡ h.interval → g.plan ≡ h.plan → g.values ≡ h.values → g.first ≡ h.first → g ≡ h
same_shown g h a i b c d = grind arith

alike_texts : (f : HeaderField) (r : HeaderRow) → is_alike (Texts f) r ≡ true → r ≡ Texts f
alike_texts f r e = grind (arith, common_steps, field_back)

-- the texts of a row are before the last one, if there are any
text_here : (r : HeaderField) → (fields_of r ≡ [] → ⊥) → (row_at (row_place (Texts r)) ≡ Texts r) × (row_place (Texts r) < row_place End)
text_here r some =
    let alike = λ (r : HeaderField). is_alike (Texts r) (row_at (row_place (Texts r))) in
    let far = λ (r : HeaderField). nat_lt (row_place (Texts r)) (row_place End) in
    let test = each_field (λ r. (length (fields_of r) == 0) || (alike r && far r)) refl r in
    let (a, b) = both (alike r) (far r) (left_over (length (fields_of r) == 0) (alike r && far r) test (λ e. some (nil_from_length (fields_of r) (is_equal (length (fields_of r)) 0 e)))) in
    (alike_texts r (row_at (row_place (Texts r))) a, is_less (row_place (Texts r)) (row_place End) b)

-- each text is in a row
rows_whole : flat_map fields_of fields ≡ fields
rows_whole = refl

module _ (k : Known) (h : Shown) (is : IsShown h) (valid : AreValid k) (has : Has k (row_place End) h) where
  texts : h.texts ≡ k.shown.texts
  texts = ext_get_or [] h.texts k.shown.texts (is.texts.count ∙ sym valid.texts.count) (λ i less. at i (subst (λ n. i < n) is.texts.count less)) where
    row_of : (r : HeaderField) → AreSameTexts h.texts k.shown.texts (fields_of r)
    row_of r = by (fields_of r) (λ some. let at = text_here r some in subst (HasRow k h) at.0 (has.rows (row_place (Texts r)) at.1)) where
      by : (fs : List HeaderField) → ((fs ≡ [] → ⊥) → AreSameTexts h.texts k.shown.texts fs) → AreSameTexts h.texts k.shown.texts fs
      by [] same = refl
      by (f ∷ fs) same = same (λ e. cc)

    at : (i : ℕ) → i < text_count → get_or h.texts i [] ≡ get_or k.shown.texts i []
    at i less = subst (λ j. get_or h.texts j [] ≡ get_or k.shown.texts j []) (place_back i less) (same_at h.texts k.shown.texts fields i AntType less (subst (AreSameTexts h.texts k.shown.texts) rows_whole (same_rows h.texts k.shown.texts row_of fields)))

  signals : (s : System) → planned_of s h.plan ≡ planned_of s k.shown.plan
  signals s =
      let row = known_at has (Types s 5) (types_here s 5 (lit< tt)) (omega (arith, types_early s)) in
      let few = few_signals_of h.plan is.plan s in
      let read = few_below (length (table s)) (planned_of s k.shown.plan) (valid.listed s) (valid.apart s) in
      let most = short_table s in
      sym (take_all 20 (planned_of s h.plan) (omega (arith, few))) ∙ row.same ∙ take_all 20 (planned_of s k.shown.plan) (omega (arith, read, most))

  values : h.values ≡ k.shown.values
  values =
      let position : position_of h.values ≡ position_of k.shown.values = has.rows (row_place Position) (lit< tt) in
      all_same h.values k.shown.values (ap (λ (v : StationValues). v.x) position) (ap (λ (v : StationValues). v.y) position) (ap (λ (v : StationValues). v.z) position) (has.rows (row_place Delta) (lit< tt))

  channels : h.plan.channels ≡ k.shown.plan.channels
  channels =
      let slots : HasRow k h (Slots 3) = has.rows (row_place (Slots 3)) (lit< tt) in
      let a = slots_room 0 (slots_of h.plan.channels) (slots_are h.plan.channels is.plan.channels) in
      let b = slots_room 0 (known_slots k) (slots_are k.shown.plan.channels valid.channels) in
      same_channels h.plan.channels k.shown.plan.channels is.plan.channels valid.channels (sym (take_all 32 (slots_of h.plan.channels) (omega (arith, a))) ∙ slots.same ∙ take_all 32 (known_slots k) (omega (arith, b)))

  pub same_header : h ≡ k.shown
  same_header = same_shown h k.shown texts (has.rows (row_place Interval) (lit< tt)) (same_plan h.plan k.shown.plan (equal_values h.plan.signals k.shown.plan.signals signals) channels) values (has.rows (row_place First) (lit< tt))

-- ---- the last line

both_after : (a b n : ℕ) → n < a → n < b → nat_le a n ≡ nat_le b n
both_after a b n low high = grind arith

module _ (k : Known) (line : List ℕ) (from : ℕ) (at : IsHeadAt k from) (same : SameFrom k line from (row_place End)) where
  at_end : IsHeadAt k (row_place End)
  at_end = record {
    valid = at.valid;
    lists = at.lists;
    read = same.read;
    unread = same.unread;
    fitting = λ l. less_or (fits k (row_place End) ≡ true) (row_place StrengthUnit) from
        (λ far. grind (arith, common_steps, same_flags, types_early, both_after)) (λ low. let e = same.none (row_place StrengthUnit) low (lit< tt) in cc);
    expected = lit< tt;
  }

  some : SomeShown k (row_place End)
  some = some_shown k (row_place End) at_end

  whole : shown_with k some.p ≡ k.shown
  whole = same_header k (shown_with k some.p) some.is at.valid some.has

  has_all : Has k (row_place End) k.shown
  has_all = subst (Has k (row_place End)) whole some.has

  is_shown : IsShown k.shown
  is_shown = subst IsShown whole some.is

  pub ends : line ≡ line_with End [] → EndsHeader k from line k
  unfolding row_line
  ends e = record {
    is = is_shown;
    goes = λ h others left on.
        let b = same.goes h others left on in
        (same_header k h b.is at.valid b.has, rest_next (lit< tt) b refl);
    has = same.back k.shown is_shown has_all;
    lines = split_at k.shown (row_place End) ∙ ap (λ l. l ++ line_with End [] ∷ []) (same.lines k.shown is_shown has_all) ∙ ap (λ l. lines_before k.shown from ++ l ∷ []) (sym e);
  }

pub no_end_line : (k : Known) (line : List ℕ) → (line ≡ line_with End [] → ⊥) → RefusesHeaderLine k End line
unfolding row_line
no_end_line k line never h is has there e = never (sym e)

-- ---- the start

pub valid_by : {k made : Known} (signals : System → List SignalAt) → made ≡ k → AreTexts made.shown.texts → IfSome made.shown.interval IsInterval → AreChannels made.shown.plan.channels → AreStationValues made.shown.values → IsTime made.shown.first → ((s : System) → IsOf s (signals s))
    → made.shown.plan.signals ≡ tabulate (λ s. indices (signals s)) → AreValid k
valid_by {made = made} signals e texts interval channels values first of plan = subst AreValid e (record {
  texts = texts;
  interval = interval;
  listed = λ s. subst (All (λ i. i < length (table s))) (here s) (listed_by s (signals s) (of s).each);
  apart = λ s. subst (IsDistinct nat_eq) (here s) (of s).apart;
  channels = channels;
  values = values;
  first = first;
}) where
  here : (s : System) → indices (signals s) ≡ planned_of s made.shown.plan
  here s = sym (ap (value_of s) plan ∙ value_tabulated s (λ t. indices (signals t)))

-- nothing was read
module _ (k : Known) (valid : AreValid k) (blank : k.shown.texts ≡ replicate text_count []) (none : k.shown.interval ≡ None) (counts : (s : System) → counted k s ≡ 0) (planned : (s : System) → planned_of s k.shown.plan ≡ []) (no_count : k.slots ≡ 0)
    (no_channel : k.shown.plan.channels ≡ no_channels) where
  no_known : known_slots k ≡ []
  no_known = ap slots_of no_channel ∙ no_slots

  unread : AreUnread k 0
  unread = grind (arith, common_steps, no_known, not-true, each_field)

  lists : AreListsAt k
  lists = grind (arith, common_steps, no_known)

  pub begins : IsHeadAt k 0
  begins = record { valid = valid; lists = lists; read = λ i less. absurd (omega (arith, less)); unread = unread; fitting = λ less. absurd (omega (arith, less)); expected = lit< tt }

blank_text : (f : HeaderField) → IsText (width_of f) (text_of (replicate text_count []) f)
unfolding trimmed
blank_text f = grind arith

pub blank_texts : (x : HeaderLists) → x ≡ replicate text_count [] → AreTexts x
blank_texts x e = subst AreTexts (sym e) (record { count = refl; each = blank_text })

pub all_blank : (T : Type 0) (bytes : T → List ℕ) (n : ℕ) (xs : List T) → AllOfLen (λ x. bytes x ≡ []) xs n → map bytes xs ≡ replicate n []
all_blank T bytes n xs are = each xs (λ i d less. are.at i d (subst (λ m. i < m) are.long less)) ∙ ap (λ m. replicate m []) are.long where
  each : (xs : List T) → ((i : ℕ) (d : T) → i < length xs → bytes (get_or xs i d) ≡ []) → map bytes xs ≡ replicate (length xs) []
  each [] at = refl
  each (x ∷ xs) at = ap₂ (λ y ys. y ∷ ys) (at 0 x (omega arith)) (each xs (λ i d less. at (suc i) d (omega (arith, less))))

pub none_read : (system : System) (ss : List SignalAt) → ss ≡ [] → IsOf system ss
none_read system ss e = subst (IsOf system) (sym e) (none_of system)

pub zero_time : (t : ℕ) → t ≡ 0 → IsTime t
zero_time t e = subst IsTime (sym e) (lit≤ tt)

pub zero_values : AreStationValues (record { x = pos 0; y = pos 0; z = pos 0; height = 0 })
zero_values = grind arith
