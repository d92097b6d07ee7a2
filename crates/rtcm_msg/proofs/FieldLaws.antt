-- The fields of a table, read as one: the bits that were read, reading encoded fields, and the fault.
use Rattle.rtcm_msg.proofs.Names.{common_steps, ℕ, true, ◌≡◌, ◌+◌, ◌<◌, ◌≤◌, Bool, List, [], ◌∷◌, ◌++◌, length, drop, Result, Ok, Err, Some, None, refl, subst, ◌∙◌, arith, append_assoc, ◌⊎◌, inl, inr, add_assoc, add-zero, and_parts, cases_lt, length-drop, drop-drop, Table, width, widths, Contents, content, fields_of, Cursor, advanced, unsigned_at, MsgFault, Short, number_at, ◌>>=◌, field_bits, first_past, reading, total_width}
use Rattle.rtcm_msg.proofs.LayoutLaws.{has_sign, have_signs, FitAll, number-content, content_fits, content-number, number_fits}
pub use Rattle.rtcm_msg.specs.Fields.{cursor_at, field_at}
use Rattle.rtcm_msg.proofs.Binds.{ok_inj, number_there, number_short, consumed_at, ok_err}
use Rattle.rtcm_msg.proofs.Combine.{past_here, past_next, cursor, number_again}

-- Reads the fields as one.
abbrev pub fields_at : (t : Table) → Cursor → Result (Contents t × Cursor) MsgFault
fields_at [] c = Ok (tt, c)
fields_at (f ∷ fs) c = number_at (width f.1) c >>= λ here. fields_at fs here.1 >>= λ others. Ok ((content f.1 here.0, others.0), others.1)

pub reading_is : {B : Type 0} (t : Table) (c : Cursor) (next : Contents t × Cursor → Result B MsgFault) → reading t c next ≡ (fields_at t c >>= next)
reading_is [] c next = refl
reading_is (f ∷ fs) c next = go (λ h. reading_is fs h.1 (λ o. next ((content f.1 h.0, o.0), o.1))) (number_at (width f.1) c)
  where
    go : ((h : ℕ × Cursor) → reading fs h.1 (λ o. next ((content f.1 h.0, o.0), o.1)) ≡ (fields_at fs h.1 >>= λ o. next ((content f.1 h.0, o.0), o.1)))
        → (r : Result (ℕ × Cursor) MsgFault) → (r >>= λ h. reading fs h.1 (λ o. next ((content f.1 h.0, o.0), o.1))) ≡ ((r >>= λ here. fields_at fs here.1 >>= λ others. Ok ((content f.1 here.0, others.0), others.1)) >>= next)
    go h1 r = grind arith

-- ---- what was read

-- The contents of the bits after the cursor.
abbrev pub values : (t : Table) → Cursor → Contents t
values [] c = tt
values (f ∷ fs) c = (content f.1 (unsigned_at (width f.1) c), values fs (advanced c (width f.1)))

abbrev pub after : Table → Cursor → Cursor
after [] c = c
after (f ∷ fs) c = after fs (advanced c (width f.1))

pub record FieldsConsumed (t : Table) (c : Cursor) (x : Contents t × Cursor) : Type 0 where
  pub room : total_width (widths t) ≤ length c.rest
  pub fit : FitAll t x.0
  pub bits : c.rest ≡ field_bits (fields_of t x.0) ++ x.1.rest

fields_there : (t : Table) (c : Cursor) → total_width (widths t) ≤ length c.rest → fields_at t c ≡ Ok (values t c, after t c)
fields_there [] c room = refl
fields_there (f ∷ fs) c room = grind (arith, number_there, length-drop, (fields_there fs (advanced c (width f.1)) (omega (arith, length-drop (width f.1) c.rest))))

values_consumed : (t : Table) (c : Cursor) → have_signs t ≡ true → total_width (widths t) ≤ length c.rest → FieldsConsumed t c (values t c, after t c)
unfolding field_bits
values_consumed [] c signs room = record { room = room; fit = tt; bits = refl }
values_consumed (f ∷ fs) c signs room =
    let w = width f.1 in
    let sign = (and_parts (has_sign f.1) (have_signs fs) signs).0 in
    let consumed = consumed_at w c (omega arith) in
    let rest = values_consumed fs (advanced c w) (and_parts (has_sign f.1) (have_signs fs) signs).1 (omega (arith, length-drop w c.rest)) in
    let n = unsigned_at w c in
    let tail = field_bits (fields_of fs (values fs (advanced c w))) in
    grind (arith, common_steps, content_fits, number-content)

pub fields_short : (t : Table) (c : Cursor) → length c.rest < total_width (widths t) → (k : ℕ) × (fields_at t c ≡ Err (Short k)) × (first_past (c.place + length c.rest) c.place (widths t) ≡ Some k)
fields_short [] c h = absurd (omega arith)
fields_short (f ∷ fs) c h = elim (cases_lt (length c.rest) (width f.1)) [
  | inl short ↦ (c.place, rw (number_short (width f.1) c short) refl, past_here (width f.1) (widths fs) (c.place + length c.rest) c.place (omega arith))
  | inr there ↦
      let w = width f.1 in
      let rest = fields_short fs (advanced c w) (omega (arith, length-drop w c.rest)) in
      let same : c.place + w + length (drop w c.rest) ≡ c.place + length c.rest = omega (arith, length-drop w c.rest) in
      (rest.0, rw (number_there w c there, rest.1) refl, past_next w (widths fs) (c.place + length c.rest) c.place (omega arith) ∙ (rw same at rest.2))
]

pub fields_ok : (t : Table) (c : Cursor) (x : Contents t × Cursor) → have_signs t ≡ true → fields_at t c ≡ Ok x → FieldsConsumed t c x
fields_ok t c x signs e = elim (cases_lt (length c.rest) (total_width (widths t))) [
  | inl short ↦ let s = fields_short t c short in absurd (ok_err x (Short s.0) (fields_at t c) e s.1)
  | inr there ↦ subst (FieldsConsumed t c) (ok_inj (values t c, after t c) x (fields_at t c) (fields_there t c there) e) (values_consumed t c signs there)
]

-- ---- reading encoded fields

pub fields_again : (t : Table) (cs : Contents t) (place : ℕ) (rest : List Bool) → have_signs t ≡ true → FitAll t cs → fields_at t (cursor place (field_bits (fields_of t cs) ++ rest)) ≡ Ok (cs, cursor (place + total_width (widths t)) rest)
unfolding field_bits
fields_again [] cs place rest signs fit = rw (add-zero place) refl
fields_again (f ∷ fs) cs place rest signs fit =
    grind (arith, common_steps, and_parts, number_again, number_fits, append_assoc, content-number, add_assoc, fields_again fs cs.1 (place + width f.1) rest)

-- ---- the end of fields

pub past_more : (ws vs : List ℕ) (len place k : ℕ) → first_past len place ws ≡ Some k → first_past len place (ws ++ vs) ≡ Some k
unfolding first_past
past_more [] vs len place k h = cc
past_more (w ∷ ws) vs len place k h = grind (arith, cases_lt, past_here, past_next, past_more ws vs len (place + w) k)

pub past_through : (ws vs : List ℕ) (len place : ℕ) → place + total_width ws ≤ len → first_past len place (ws ++ vs) ≡ first_past len (place + total_width ws) vs
past_through [] vs len place h = rw (add-zero place) refl
past_through (w ∷ ws) vs len place h = past_next w (ws ++ vs) len place (omega arith) ∙ (past_through ws vs len (place + w) (omega arith) ∙ rw (add_assoc place w (total_width ws)) refl)

pub past_none : (ws : List ℕ) (len place : ℕ) → place + total_width ws ≤ len → first_past len place ws ≡ None
unfolding first_past
past_none [] len place h = refl
past_none (w ∷ ws) len place h = past_next w ws len place (omega arith) ∙ past_none ws len (place + w) (omega arith)

-- ---- from a bit on

abbrev pub contents_at : (t : Table) → List Bool → ℕ → Contents t
contents_at [] bits place = tt
contents_at (f ∷ fs) bits place = (content f.1 (field_at bits place (width f.1)), contents_at fs bits (place + width f.1))

pub number_there_at : (w : ℕ) (bits : List Bool) (place : ℕ) → place + w ≤ length bits → number_at w (cursor_at bits place) ≡ Ok (field_at bits place w, cursor_at bits (place + w))
number_there_at w bits place h = number_there w (cursor_at bits place) (omega (arith, length-drop place bits)) ∙ rw (drop-drop w place bits) refl

-- The first of these fields that does not end within the bits.
pub record ShortAt (bits : List Bool) (place : ℕ) (ws : List ℕ) (e : MsgFault) : Type 0 where
  pub first : ℕ
  pub is : e ≡ Short first
  pub past : first_past (length bits) place ws ≡ Some first

pub short_at_more : (ws vs : List ℕ) (bits : List Bool) (place : ℕ) (e : MsgFault) → ShortAt bits place ws e → ShortAt bits place (ws ++ vs) e
short_at_more ws vs bits place e s = record { first = s.first; is = s.is; past = past_more ws vs (length bits) place s.first s.past }

pub short_at_after : (ws vs : List ℕ) (bits : List Bool) (place : ℕ) (e : MsgFault) → place + total_width ws ≤ length bits → ShortAt bits (place + total_width ws) vs e → ShortAt bits place (ws ++ vs) e
short_at_after ws vs bits place e room s = record { first = s.first; is = s.is; past = past_through ws vs (length bits) place room ∙ s.past }

-- The bits contain all of the fields, or one field is the first that does not end within the bits.
abbrev pub FieldsRead : Table → List Bool → ℕ → Type 0
FieldsRead t bits place =
    ((length bits < place + total_width (widths t)) × ((e : MsgFault) × (fields_at t (cursor_at bits place) ≡ Err e) × ShortAt bits place (widths t) e))
    ⊎ ((place + total_width (widths t) ≤ length bits) × (fields_at t (cursor_at bits place) ≡ Ok (contents_at t bits place, cursor_at bits (place + total_width (widths t)))))

pub fields_read : (t : Table) (bits : List Bool) (place : ℕ) → place ≤ length bits → FieldsRead t bits place
fields_read t bits place h = elim (cases_lt (length bits) (place + total_width (widths t))) [
  | inl few ↦
      let s = fields_short t (cursor_at bits place) (omega (arith, length-drop place bits)) in
      let whole : place + length (drop place bits) ≡ length bits = omega (arith, length-drop place bits) in
      inl (few, (Short s.0, s.1, record { first = s.0; is = refl; past = rw whole at s.2 }))
  | inr there ↦ inr (there, all_there t bits place there)
]
  where
    all_there : (t : Table) (bits : List Bool) (place : ℕ) → place + total_width (widths t) ≤ length bits → fields_at t (cursor_at bits place) ≡ Ok (contents_at t bits place, cursor_at bits (place + total_width (widths t)))
    all_there [] bits place h = rw (add-zero place) refl
    all_there (f ∷ fs) bits place h =
        let w = width f.1 in
        let here = number_there_at w bits place (omega arith) in
        let others = all_there fs bits (place + w) (omega arith) in
        rw (here, others, add_assoc place w (total_width (widths fs))) refl
