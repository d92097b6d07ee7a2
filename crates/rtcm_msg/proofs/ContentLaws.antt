-- The data of one satellite or cell, read field by field.
use Rattle.rtcm_msg.proofs.Names.{ℕ, ℤ, ◌≡◌, ◌+◌, ◌*◌, ◌/◌, ◌%◌, ◌^◌, ◌<◌, ◌==◌, Bool, true, List, [], ◌∷◌, refl, sym, ap, ap₂, subst, ◌∙◌, arith, lit<, mod_low, shr_high, pow-add, length-take, number-fits, pow_mono, signed, raw, div-div-eq-div-mul, div-one, Table, FieldKind, width, widths, Contents, content, total_width, unpacked, field_at, row_at, Form, LastBits, AreLast, satellite_widths, cell_widths, packed, Satellite, Cell, Precision, precision, is_fine, has_rates, satellite_table_by, satellite_of, satellite_data, satellite_contents, satellite_number, cell_table, cell_of, cell_data, cell_number, rate_table, rate_in, cell_table_by, cell_contents, rateless, rateless_number}
use Rattle.rtcm_msg.proofs.LayoutLaws.{below_product}

-- The contents of item i, when the data of n items begin at a bit; the fields before them have k bits.
abbrev pub contents_after : (t : Table) → ℕ → List Bool → ℕ → ℕ → ℕ → Contents t
contents_after [] n bits p k i = tt
contents_after (f ∷ fs) n bits p k i = (content f.1 (field_at bits (p + n * k + i * width f.1) (width f.1)), contents_after fs n bits p (k + width f.1) i)

abbrev pub contents_at : (t : Table) → ℕ → List Bool → ℕ → ℕ → Contents t
contents_at [] n bits p i = tt
contents_at (f ∷ fs) n bits p i = (content f.1 (field_at bits (p + i * width f.1) (width f.1)), contents_after fs n bits p (width f.1) i)

pub field_fits : (bits : List Bool) (p w : ℕ) → field_at bits p w < 2 ^ w
field_fits bits p w = grind (arith, length-take, number-fits, pow_mono)

joined : (m f q t r : ℕ) → (m * q + f) * t + r ≡ m * (q * t) + (f * t + r)
joined m f q t r = grind arith

-- The bits read before are above the fields of these widths.
row_split : (ws : List ℕ) (n : ℕ) (bits : List Bool) (p i m : ℕ) → (r : ℕ) × (r < 2 ^ total_width ws) × (row_at ws n bits p i m ≡ m * 2 ^ total_width ws + r)
unfolding row_at
row_split [] n bits p i m = (0, lit< tt, omega arith)
row_split (w ∷ ws) n bits p i m =
    let here = field_at bits (p + i * w) w in
    let rest = row_split ws n bits (p + n * w) i (m * 2 ^ w + here) in
    let t = 2 ^ total_width ws in (
      here * t + rest.0,
      rw (pow-add 2 w (total_width ws)) (below_product here (2 ^ w) t rest.0 (field_fits bits (p + i * w) w) rest.1),
      rest.2 ∙ rw (pow-add 2 w (total_width ws)) (joined m here (2 ^ w) t rest.0),
    )

first_unpacked : (f : ℕ × FieldKind) (fs : Table) (n : ℕ) (bits : List Bool) (q i m : ℕ) {rest : Contents fs} → unpacked fs (row_at (widths fs) n bits (q + n * width f.1) i (m * 2 ^ width f.1 + field_at bits (q + i * width f.1) (width f.1))) ≡ rest → unpacked (f ∷ fs) (row_at (widths (f ∷ fs)) n bits q i m) ≡ (content f.1 (field_at bits (q + i * width f.1) (width f.1)), rest)
unfolding row_at
first_unpacked f fs n bits q i m e =
    let w = width f.1 in
    let here = field_at bits (q + i * w) w in
    let k = m * 2 ^ w + here in
    let after = row_split (widths fs) n bits (q + n * w) i k in
    let top : row_at (widths fs) n bits (q + n * w) i k / 2 ^ total_width (widths fs) ≡ k = rw after.2 (shr_high k (total_width (widths fs)) after.0 after.1) in
    let low : k % 2 ^ w ≡ here = mod_low m w here (field_fits bits (q + i * w) w) in
    ap₂ (λ a b. (content f.1 a, b)) (ap (λ (x : ℕ). x % 2 ^ w) top ∙ low) e

next_place : (p n k w : ℕ) → p + n * k + n * w ≡ p + n * (k + w)
next_place p n k w = grind arith

unpacked_after : (t : Table) (n : ℕ) (bits : List Bool) (p k i m : ℕ) → unpacked t (row_at (widths t) n bits (p + n * k) i m) ≡ contents_after t n bits p k i
unfolding row_at
unpacked_after [] n bits p k i m = refl
unpacked_after (f ∷ fs) n bits p k i m = first_unpacked f fs n bits (p + n * k) i m (rw (next_place p n k (width f.1)) (unpacked_after fs n bits p (k + width f.1) i _))

pub unpacked_row : (t : Table) (n : ℕ) (bits : List Bool) (p i m : ℕ) → unpacked t (row_at (widths t) n bits p i m) ≡ contents_at t n bits p i
unfolding row_at
unpacked_row [] n bits p i m = refl
unpacked_row (f ∷ fs) n bits p i m = first_unpacked f fs n bits p i m (unpacked_after fs n bits p (width f.1) i _)

-- ---- of a form

-- Satellite i of n in the bits from p on.
pub satellite_read : (f : Form) (rates : Bool) (n : ℕ) (bits : List Bool) (p i : ℕ) (s : Satellite) → has_rates f ≡ rates → s ≡ satellite_of rates (contents_at (satellite_table_by rates) n bits p i)
    → s ≡ satellite_data f (row_at (satellite_widths f) n bits p i 0)
satellite_read f rates n bits p i s is e = grind (arith, unpacked_row)

-- Cell i of n in the bits from p on, with its rate.
pub cell_read : (f : Form) (w : Precision) (n : ℕ) (bits : List Bool) (p i : ℕ) {range phase rate : ℤ} {lock strength : ℕ} {half_cycle : Bool} → precision (is_fine f) ≡ w
    → range ≡ signed w.range (field_at bits (p + i * w.range) w.range)
    → phase ≡ signed w.phase (field_at bits (p + n * w.range + i * w.phase) w.phase)
    → lock ≡ field_at bits (p + n * (w.range + w.phase) + i * w.lock) w.lock
    → half_cycle ≡ (field_at bits (p + n * (w.range + w.phase + w.lock) + i * 1) 1 == 1)
    → strength ≡ field_at bits (p + n * (w.range + w.phase + w.lock + 1) + i * w.strength) w.strength
    → rate ≡ (cell_data f (row_at (cell_widths f) n bits p i 0)).rate
    → record { range = range; phase = phase; lock = lock; half_cycle = half_cycle; strength = strength; rate = rate } ≡ cell_data f (row_at (cell_widths f) n bits p i 0)
cell_read f w n bits p i is range phase lock half_cycle strength rate =
    let u = ap (cell_of (is_fine f) (has_rates f)) (unpacked_row (cell_table f) n bits p i 0) in
    grind arith

-- Where the fields of the first cell end, up to its rate.
pub first_ends : (f : Form) (b : LastBits) {w : Precision} → precision (is_fine f) ≡ w → AreLast (cell_widths f) b → AreLast (w.range ∷ w.phase ∷ w.lock ∷ 1 ∷ w.strength ∷ []) b
first_ends f b e ends = rw (← e) (ends.0, (ends.1.0, (ends.1.1.0, (ends.1.1.1.0, (ends.1.1.1.1.0, tt)))))

-- The rate of a form that has rates.
rate_by : (rates : Bool) (n : ℕ) (bits : List Bool) (p k i : ℕ) → rates ≡ true → signed 15 (field_at bits (p + n * k + i * 15) 15) ≡ rate_in rates (contents_after (rate_table rates) n bits p k i)
rate_by rates n bits p k i h = cc

pub rate_read : (f : Form) (n : ℕ) (bits : List Bool) (p i : ℕ) {rate : ℤ} → has_rates f ≡ true
    → rate ≡ signed 15 (field_at bits (p + n * ((precision (is_fine f)).range + (precision (is_fine f)).phase + (precision (is_fine f)).lock + 1 + (precision (is_fine f)).strength) + i * 15) 15)
    → rate ≡ (cell_data f (row_at (cell_widths f) n bits p i 0)).rate
rate_read f n bits p i has e =
    let u = ap (λ (c : Cell). c.rate) (ap (cell_of (is_fine f) (has_rates f)) (unpacked_row (cell_table f) n bits p i 0)) in
    e ∙ (rate_by (has_rates f) n bits p _ i has ∙ sym u)

-- The satellite that is packed in a number, and back.
pub satellite_unpacked : (f : Form) (rates : Bool) (n : ℕ) (s : Satellite) → has_rates f ≡ rates → s ≡ satellite_of rates (unpacked (satellite_table_by rates) n) → s ≡ satellite_data f n
satellite_unpacked f rates n s is e = subst (λ (b : Bool). s ≡ satellite_of b (unpacked (satellite_table_by b) n)) (sym is) e

pub satellite_packed : (f : Form) (rates : Bool) (s : Satellite) (n : ℕ) → has_rates f ≡ rates → n ≡ packed (satellite_table_by rates) (satellite_contents rates s) → n ≡ satellite_number f s
satellite_packed f rates s n is e = subst (λ (b : Bool). n ≡ packed (satellite_table_by b) (satellite_contents b s)) (sym is) e

-- The same of a cell without its rate.
pub rateless_is : (fine b : Bool) (n : ℕ) (c : Cell) → fine ≡ b → c ≡ rateless b n → c ≡ rateless fine n
rateless_is fine b n c is e = subst (λ (b : Bool). c ≡ rateless b n) (sym is) e

pub rateless_packed : (fine b : Bool) (c : Cell) (n : ℕ) → fine ≡ b → n ≡ rateless_number b c → n ≡ rateless_number fine c
rateless_packed fine b c n is e = subst (λ (b : Bool). n ≡ rateless_number b c) (sym is) e

-- The rate follows the other fields.
shifted : (n k j : ℕ) → 15 + k ≡ j → n / 2 ^ 15 / 2 ^ k ≡ n / 2 ^ j
shifted n k j e = div-div-eq-div-mul n (2 ^ 15) (2 ^ k) ∙ ap (λ (d : ℕ). n / d) (sym (pow-add 2 15 k) ∙ ap (λ (x : ℕ). 2 ^ x) e)

rate_last : (fine : Bool) (n : ℕ) (rate : ℤ) → rate ≡ signed 15 (n % 2 ^ 15) → record (rateless fine (n / 2 ^ 15)) { rate = rate } ≡ cell_of fine true (unpacked (cell_table_by fine true) n)
rate_last fine n rate h = grind (arith, shifted, div-one)

pub cell_unpacked : (f : Form) (n : ℕ) {c : Cell} {rate : ℤ} → has_rates f ≡ true → rate ≡ signed 15 (n % 2 ^ 15) → c ≡ rateless (is_fine f) (n / 2 ^ 15) → record c { rate = rate } ≡ cell_data f n
cell_unpacked f n {c} {rate} has is e = ap (λ (c : Cell). record c { rate = rate }) e ∙ (rate_last (is_fine f) n rate is ∙ ap (λ (b : Bool). cell_of (is_fine f) b (unpacked (cell_table_by (is_fine f) b) n)) (sym has))

with_rate : (fine : Bool) (c : Cell) → rateless_number fine c * 2 ^ 15 + raw 15 c.rate ≡ packed (cell_table_by fine true) (cell_contents fine true c)
with_rate fine c = grind arith

pub cell_packed : (f : Form) (c : Cell) {n rate : ℕ} → has_rates f ≡ true → n ≡ rateless_number (is_fine f) c → rate ≡ raw 15 c.rate → n * 32768 + rate ≡ cell_number f c
cell_packed f c has e r = rw (e, r) (with_rate (is_fine f) c ∙ ap (λ (b : Bool). packed (cell_table_by (is_fine f) b) (cell_contents (is_fine f) b c)) (sym has))
