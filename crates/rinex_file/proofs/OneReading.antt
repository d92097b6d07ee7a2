-- A text is that of one value: of a field, of a signal, and of a satellite.
use Rattle.rinex_file.proofs.Rows.Trimmed.{fill-trimmed, length-trimmed, trimmed-front}
use Rattle.rinex_file.proofs.Digits.Padded.{two_digits}
use Rattle.rinex_file.proofs.Fields.Lanes.{lane_is}
use Rattle.rinex_file.proofs.HeaderRows.Texts.{trimmed-trimmed}
use Rattle.rinex_file.proofs.Rows.Sizes.{length-value, length-field, length-room, length-signals, small_value, strength_fits, values_fit, all_values_fit, few_numbers, front_line}
use Rattle.rinex_file.proofs.Names.{has-append, has-right, length-right, number_in-fixed, common_steps, arith, ◌≡◌, ◌∙◌, sym, ap, ap₂, refl, subst, ℕ, zero, suc, ◌+◌, ◌-◌, ◌*◌, ◌/◌, ◌%◌, ◌<◌, ◌≤◌, List, [], ◌∷◌, ◌++◌, length, take, drop, replicate, get_or, ℤ, unsigned_abs, decimal, true, Option, Some, None, IfSome, flat_map, All, is_negative, sign_text, take_at, drop_at, take_all, drop-drop, get_or_at, get_or-append-add, length_push, All-head, All-tail, take-append_seam, System, SignalValues, SatelliteRow, satellite_row, no_signal_values, FitsColumns, AreSignalValues, trimmed, filled_to, IsEnded, right, padded, fixed, field, signal_text, lli_byte, strength_byte, letter, satellite_line, has, number_in, ReadsExactly, IsRowOf, blanks, number_of, satellites, or_right, same_Some, ◌^◌}

-- ---- a field

pub no_field : (lost strength : ℕ) → replicate 16 32 ≡ field None lost strength
unfolding field
no_field lost strength = refl

-- the columns of a value, and its LLI and SSI columns
pub field_parts : (v : ℤ) (lost strength : ℕ) → FitsColumns v
    → (take 14 (field (Some v) lost strength) ≡ right 14 (fixed 3 v)) × (get_or (field (Some v) lost strength) 14 0 ≡ lost) × (get_or (field (Some v) lost strength) 15 0 ≡ strength)
unfolding field
field_parts v lost strength h =
    let text = right 14 (fixed 3 v) in
    let size = length-right 14 (fixed 3 v) (length-value v h) in
    (take_at text (lost ∷ strength ∷ []) 14 size, get_or_at text lost (strength ∷ []) 0 14 size, grind (arith, common_steps, get_or-append-add))

-- a value has a point
pub has-point : (places : ℕ) (z : ℤ) → has 46 (fixed places z) ≡ true
has-point places z = has-append 46 (sign_text (is_negative z) ++ decimal (unsigned_abs z / 10 ^ places)) (46 ∷ padded places (unsigned_abs z % 10 ^ places)) ∙ or_right _ true refl

no_value : (v : ℤ) (a b c d : ℕ) → FitsColumns v → field None a b ≡ field (Some v) c d → ⊥
no_value v a b c d h e = grind (arith, ap (λ t. has 46 (take 14 t)) (no_field a b ∙ e) ∙ ap (has 46) (field_parts v c d h).0 ∙ has-right 46 14 (fixed 3 v) refl ∙ has-point 3 v)

pub field_once : {v w : Option ℤ} (a b c d : ℕ) → IfSome v FitsColumns → IfSome w FitsColumns → field v a b ≡ field w c d → v ≡ w
field_once {v = None} {w = None} a b c d h k e = refl
field_once {v = None} {w = Some w} a b c d h k e = absurd (no_value w a b c d k e)
field_once {v = Some v} {w = None} a b c d h k e = absurd (no_value v c d a b h (sym e))
field_once {v = Some v} {w = Some w} a b c d h k e =
    let same : right 14 (fixed 3 v) ≡ right 14 (fixed 3 w) = sym (field_parts v a b h).0 ∙ ap (take 14) e ∙ (field_parts w c d k).0 in
    ap Some (sym (number_in-fixed 14 3 v (omega arith) (small_value v h)) ∙ ap number_in same ∙ number_in-fixed 14 3 w (omega arith) (small_value w k))

pub value_once : (v w : ℤ) (a b : ℕ) → FitsColumns v → FitsColumns w → field (Some v) a b ≡ field (Some w) a b → v ≡ w
value_once v w a b h k e = same_Some v w (field_once a b a b h k e)

-- columns that are not all blank are those of a value
pub value_of : {xs : List ℕ} (w : Option ℤ) (lost strength : ℕ) {n : ℕ} → IfSome w FitsColumns → xs ≡ field w lost strength → n ≡ blanks xs → (n ≡ 16 → ⊥)
    → (v : ℤ) × FitsColumns v × (xs ≡ field (Some v) lost strength) × (get_or xs 14 0 ≡ lost) × (get_or xs 15 0 ≡ strength)
value_of w lost strength h is count some = grind (arith, common_steps, no_field, field_parts)

-- ---- a signal

-- its four fields
abbrev pub HasFields : List ℕ → SignalValues → Type 0
HasFields text e = (take 16 text ≡ field e.c 32 (strength_byte e.s)) × (take 16 (drop 16 text) ≡ field e.l (lli_byte e.lli) (strength_byte e.s))
    × (take 16 (drop 32 text) ≡ field e.d 32 32) × (take 16 (drop 48 text) ≡ field e.s 32 32)

four : {x : List ℕ} (a b c d : List ℕ) → x ≡ a ++ (b ++ (c ++ d)) → length a ≡ 16 → length b ≡ 16 → length c ≡ 16
    → (take 16 x ≡ a) × (take 16 (drop 16 x) ≡ b) × (take 16 (drop 32 x) ≡ c) × (drop 48 x ≡ d)
four {x} a b c d is k l m =
    let one : drop 16 x ≡ b ++ (c ++ d) = ap (drop 16) is ∙ drop_at a (b ++ (c ++ d)) 16 k in
    let two : drop 32 x ≡ c ++ d = sym (drop-drop 16 16 x) ∙ ap (drop 16) one ∙ drop_at b (c ++ d) 16 l in
    let three : drop 48 x ≡ d = sym (drop-drop 16 32 x) ∙ ap (drop 16) two ∙ drop_at c d 16 m in
    (ap (take 16) is ∙ take_at a (b ++ (c ++ d)) 16 k, ap (take 16) one ∙ take_at b (c ++ d) 16 l, ap (take 16) two ∙ take_at c d 16 m, three)

pub has_fields : (text : List ℕ) (e : SignalValues) → AreSignalValues e → text ≡ signal_text e → HasFields text e
unfolding signal_text
has_fields text e is shown =
    let fits = values_fit e is in
    let (c, l, d, s) = four _ _ _ (field e.s 32 32) shown (length-field e.c 32 (strength_byte e.s) fits.c) (length-field e.l (lli_byte e.lli) (strength_byte e.s) fits.l) (length-field e.d 32 32 fits.d) in
    (c, l, d, ap (take 16) s ∙ take_all 16 (field e.s 32 32) (omega (arith, (length-field e.s 32 32 fits.s))))

-- the LLI column of a phase, or a blank
lli_at : (l : Option ℤ) (lli strength : ℕ) → IfSome l FitsColumns → (l ≡ None → lli ≡ 0) → get_or (field l (lli_byte lli) strength) 14 0 ≡ lli_byte lli
lli_at l lli strength h none = grind (arith, no_field, field_parts)

pub lli_column : (text : List ℕ) (e : SignalValues) → AreSignalValues e → HasFields text e → get_or text 30 0 ≡ lli_byte e.lli
lli_column text e is fields =
    sym (lane_is text 16 14 (omega arith)) ∙ ap (λ r. get_or r 14 0) fields.1 ∙ lli_at e.l e.lli (strength_byte e.s) is.l is.without_phase

pub same_values : (x y : SignalValues) → x.c ≡ y.c → x.l ≡ y.l → x.d ≡ y.d → x.s ≡ y.s → x.lli ≡ y.lli → x ≡ y
same_values x y c l d s m = grind arith

pub signal_once : (e f : SignalValues) → AreSignalValues e → AreSignalValues f → signal_text e ≡ signal_text f → e ≡ f
signal_once e f is also same =
    let text = signal_text f in
    let a = has_fields text e is (sym same) in
    let b = has_fields text f also refl in
    same_values e f
    (field_once 32 (strength_byte e.s) 32 (strength_byte f.s) is.c also.c (sym a.0 ∙ b.0))
    (field_once (lli_byte e.lli) (strength_byte e.s) (lli_byte f.lli) (strength_byte f.s) is.l also.l (sym a.1 ∙ b.1))
    (field_once 32 32 32 32 is.d also.d (sym a.2 ∙ b.2))
    (field_once 32 32 32 32 (strength_fits e.s is.s) (strength_fits f.s also.s) (sym a.3 ∙ b.3))
    (grind (arith, is.lli, also.lli, sym (lli_column text e is a) ∙ lli_column text f also b))

-- these values are read, and no others
pub signal_read : (text : List ℕ) (e : SignalValues) → AreSignalValues e → text ≡ signal_text e → ReadsExactly AreSignalValues signal_text text (Some e)
signal_read text e is shows = (is, shows, λ w also f. signal_once w e also is (sym f ∙ shows))

pub blank_read : (text : List ℕ) (e : SignalValues) → e ≡ no_signal_values → text ≡ signal_text no_signal_values → ReadsExactly AreSignalValues signal_text text (Some e)
blank_read text e none shows = grind (arith, signal_read)

-- no values are read
pub none_read : (text : List ℕ) (r : Option SignalValues) → r ≡ None → ((e : SignalValues) → AreSignalValues e → text ≡ signal_text e → ⊥) → ReadsExactly AreSignalValues signal_text text r
none_read text r none refutes = subst (λ (o : Option SignalValues). ReadsExactly AreSignalValues signal_text text o) (sym none) refutes

length-one : (e : SignalValues) → AreSignalValues e → length (signal_text e) ≡ 64
length-one e is = length-room e (values_fit e is)

pub signals_once : (es fs : List SignalValues) → All AreSignalValues es → All AreSignalValues fs → length es ≡ length fs → flat_map signal_text es ≡ flat_map signal_text fs → es ≡ fs
signals_once [] [] are also size same = refl
signals_once (e ∷ es) (f ∷ fs) are also size same =
    let is = All-head AreSignalValues e es are in
    let it = All-head AreSignalValues f fs also in
    let k = length-one e is in
    let l = length-one f it in
    let first : signal_text e ≡ signal_text f = sym (take_at (signal_text e) (flat_map signal_text es) 64 k) ∙ ap (take 64) same ∙ take_at (signal_text f) (flat_map signal_text fs) 64 l in
    let rest : flat_map signal_text es ≡ flat_map signal_text fs = sym (drop_at (signal_text e) (flat_map signal_text es) 64 k) ∙ ap (drop 64) same ∙ drop_at (signal_text f) (flat_map signal_text fs) 64 l in
    ap₂ (λ x xs. x ∷ xs) (signal_once e f is it first) (signals_once es fs (All-tail AreSignalValues e es are) (All-tail AreSignalValues f fs also) (omega (arith, size)) rest)
signals_once es fs are also size same = absurd (omega (arith, size))

-- the columns of one of the signals
pub signal_at : (es : List SignalValues) (i : ℕ) → All AreSignalValues es → i < length es
    → AreSignalValues (get_or es i no_signal_values) × (take 64 (drop (64 * i) (flat_map signal_text es)) ≡ signal_text (get_or es i no_signal_values))
signal_at [] i are h = absurd (omega (arith, h))
signal_at (e ∷ es) zero are h =
    let is = All-head AreSignalValues e es are in
    (is, take_at (signal_text e) (flat_map signal_text es) 64 (length-one e is))
signal_at (e ∷ es) (suc i) are h =
    let text = signal_text e ++ flat_map signal_text es in
    let (is, at) = signal_at es i (All-tail AreSignalValues e es are) (omega (arith, h)) in
    let place : 64 * suc i ≡ 64 + 64 * i = omega arith in (
      is,
      ap (λ k. take 64 (drop k text)) place ∙ ap (take 64) (sym (drop-drop (64 * i) 64 text) ∙ ap (drop (64 * i)) (drop_at (signal_text e) (flat_map signal_text es) 64 (length-one e (All-head AreSignalValues e es are)))) ∙ at,
    )

-- ---- the line of a satellite

pub number_once : (m n : ℕ) → m < 100 → n < 100 → padded 2 m ≡ padded 2 n → m ≡ n
number_once m n h k e = grind (arith, two_digits)

-- the parts of a satellite's line without its line feed
pub record IsSatelliteText (text : List ℕ) (signals : ℕ) (v : SatelliteRow) : Type 0 where
  pub small : number_of v.system v.row.satellite < 100
  pub long : 3 ≤ length text
  pub short : length text ≤ 3 + 64 * signals
  pub letter : get_or text 0 0 ≡ letter v.system
  pub number : get_or text 1 0 ∷ get_or text 2 0 ∷ [] ≡ padded 2 (number_of v.system v.row.satellite)
  pub columns : filled_to (64 * signals) (drop 3 text) ≡ flat_map signal_text v.row.signal_values

-- a line feed that follows these bytes
feed_cut : (line text : List ℕ) → line ≡ text ++ 10 ∷ [] → take (length line - 1) line ≡ text
feed_cut line text is = grind (arith, common_steps, length_push, take-append_seam)

-- the first three columns are not blank
three_kept : (id : ℕ) (columns : List ℕ) → id < 100 → trimmed (padded 2 id ++ columns) ≡ (48 + id / 10) ∷ (48 + id % 10) ∷ trimmed columns
three_kept id columns h = grind (arith, two_digits, trimmed-front)

pub text_of_line : (system : System) (signals : ℕ) (v : SatelliteRow) (line : List ℕ) → IsRowOf system signals v → line ≡ satellite_line v → IsSatelliteText (take (length line - 1) line) signals v
text_of_line system signals v line (same, is) e =
    let columns = flat_map signal_text v.row.signal_values in
    let id = number_of v.system v.row.satellite in
    let small = few_numbers v.system v.row.satellite (subst (λ s. v.row.satellite ≤ satellites s) (sym same) is.satellite.1) in
    let first = letter v.system in
    let text = first ∷ (48 + id / 10) ∷ (48 + id % 10) ∷ trimmed columns in
    let size : length columns ≡ 64 * signals = length-signals v.row.signal_values (all_values_fit v.row.signal_values is.signal_values) ∙ ap (λ (n : ℕ). 64 * n) is.whole in
    subst (λ (t : List ℕ). IsSatelliteText t signals v) (sym (feed_cut line text (e ∙ front_line v ∙ ap (λ t. first ∷ (t ++ 10 ∷ [])) (three_kept id columns small)))) (record {
      small = small;
      long = omega arith;
      short = omega (arith, size, length-trimmed columns);
      letter = refl;
      number = sym (two_digits id small);
      columns = fill-trimmed (64 * signals) columns size;
    })

same_id : (v w : SatelliteRow) → v.system ≡ w.system → number_of v.system v.row.satellite ≡ number_of w.system w.row.satellite → v.row.satellite ≡ w.row.satellite
same_id v w s e = grind arith

pub line_once : (system : System) (signals : ℕ) {v w : SatelliteRow} {line : List ℕ} → IsRowOf system signals v → IsRowOf system signals w → line ≡ satellite_line v → line ≡ satellite_line w → v ≡ w
line_once system signals {v} {w} {line} is also e f =
    let a = text_of_line system signals v line is e in
    let b = text_of_line system signals w line also f in
    ap₂ (λ r s. satellite_row r s v.row.signal_values) (is.0 ∙ sym also.0) (same_id v w (is.0 ∙ sym also.0) (number_once _ _ a.small b.small (sym a.number ∙ b.number)))
    ∙ ap (satellite_row w.system w.row.satellite) (signals_once v.row.signal_values w.row.signal_values is.1.signal_values also.1.signal_values (is.1.whole ∙ sym also.1.whole) (sym a.columns ∙ b.columns))

-- it ends in a line feed that follows another byte than a blank
pub line_ended : (v : SatelliteRow) (line : List ℕ) → line ≡ satellite_line v → IsEnded line
unfolding satellite_line
line_ended v line e = grind (arith, common_steps, front_line, trimmed-trimmed, length_push)
