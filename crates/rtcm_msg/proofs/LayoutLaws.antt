-- Contents and their numbers undo each other, field by field and packed in one number.
use Rattle.rtcm_msg.proofs.Names.{ℕ, ◌≡◌, ◌+◌, ◌*◌, ◌/◌, ◌%◌, ◌^◌, ◌<◌, ◌==◌, ◌&&◌, Bool, true, false, [], ◌∷◌, refl, sym, ◌∙◌, arith, lit<, ◌⊎◌, inl, inr, nat_lt, add_comm, and_parts, shr_high, pow-add, pow_pos, mod_below, mod-eq_of_lt, FitsInt, FieldKind, Table, width, widths, Contents, content, total_width, packed, unpacked, mod-pow-add, add-mul-div_right, add-mul-mod_self_right, mul_assoc, bit}
use Rattle.rtcm_bits.proofs.BitLaws.{raw_fits, raw-signed, signed-raw, signed-fits}
use Rattle.rtcm_msg.specs.Layout.{Uint, Int, Flag, Reserved, Content, number_of}

-- ---- the content of one field

-- A two's complement number has a sign bit.
abbrev pub has_sign : FieldKind → Bool
has_sign (Uint w) = true
has_sign (Int w) = nat_lt 0 w
has_sign Flag = true
has_sign (Reserved w) = true

abbrev pub have_signs : Table → Bool
have_signs [] = true
have_signs (f ∷ fs) = has_sign f.1 && have_signs fs

-- The content fits the field.
abbrev pub FitsKind : (k : FieldKind) → Content k → Type 0
FitsKind (Uint w) n = n < 2 ^ w
FitsKind (Int w) z = FitsInt w z
FitsKind Flag b = Unit {0}
FitsKind (Reserved w) n = n < 2 ^ w

sign_there : (w : ℕ) → nat_lt 0 w ≡ true → 0 < w
sign_there w h = grind arith

flag_back : (n : ℕ) → n < 2 → bit (n == 1) ≡ n
flag_back n h = elim (two n h) [ inl z ↦ rw z refl | inr o ↦ rw o refl ]
  where
    two : (n : ℕ) → n < 2 → (n ≡ 0) ⊎ (n ≡ 1)
    two n h = grind arith

pub number-content : (k : FieldKind) (n : ℕ) → has_sign k ≡ true → n < 2 ^ width k → number_of k (content k n) ≡ n
number-content (Uint w) n sign fits = refl
number-content (Int w) n sign fits = raw-signed w n (sign_there w sign) fits
number-content Flag n sign fits = flag_back n fits
number-content (Reserved w) n sign fits = refl

pub content_fits : (k : FieldKind) (n : ℕ) → has_sign k ≡ true → n < 2 ^ width k → FitsKind k (content k n)
content_fits (Uint w) n sign fits = fits
content_fits (Int w) n sign fits = signed-fits w n (sign_there w sign) fits
content_fits Flag n sign fits = tt
content_fits (Reserved w) n sign fits = fits

pub content-number : (k : FieldKind) (c : Content k) → has_sign k ≡ true → FitsKind k c → content k (number_of k c) ≡ c
content-number (Uint w) n sign fits = refl
content-number (Int w) z sign fits = signed-raw w z (sign_there w sign) fits
content-number Flag true sign fits = refl
content-number Flag false sign fits = refl
content-number (Reserved w) n sign fits = refl

pub number_fits : (k : FieldKind) (c : Content k) → has_sign k ≡ true → FitsKind k c → number_of k c < 2 ^ width k
number_fits (Uint w) n sign fits = fits
number_fits (Int w) z sign fits = raw_fits z w (sign_there w sign) fits
number_fits Flag true sign fits = lit< tt
number_fits Flag false sign fits = lit< tt
number_fits (Reserved w) n sign fits = fits

-- ---- the fields of a table

abbrev pub FitAll : (t : Table) → Contents t → Type 0
FitAll [] cs = Unit {0}
FitAll (f ∷ fs) cs = FitsKind f.1 cs.0 × FitAll fs cs.1

-- ---- packed in one number

pub below_product : (n p q r : ℕ) → n < p → r < q → n * q + r < p * q
below_product n p q r h k = grind arith

pub packed_fits : (t : Table) (cs : Contents t) → have_signs t ≡ true → FitAll t cs
    → packed t cs < 2 ^ total_width (widths t)
packed_fits [] cs signs fit = lit< tt
packed_fits (f ∷ fs) cs signs fit =
    let n = number_fits f.1 cs.0 (and_parts (has_sign f.1) (have_signs fs) signs).0 fit.0 in
    let others = packed_fits fs cs.1 (and_parts (has_sign f.1) (have_signs fs) signs).1 fit.1 in
    rw (pow-add 2 (width f.1) (total_width (widths fs)))
    (below_product (number_of f.1 cs.0) (2 ^ width f.1) (2 ^ total_width (widths fs)) (packed fs cs.1) n others)

-- The field above the other ones.
top_field : (a w t r : ℕ) → (a * 2 ^ (w + t) + r) / 2 ^ t % 2 ^ w ≡ r / 2 ^ t % 2 ^ w
top_field a w t r =
    let high : a * 2 ^ (w + t) ≡ a * 2 ^ w * 2 ^ t = rw (pow-add 2 w t) (sym (mul_assoc a (2 ^ w) (2 ^ t))) in
    rw (high, add_comm (a * 2 ^ w * 2 ^ t) r, add-mul-div_right r (a * 2 ^ w) (pow_pos t))
    (add-mul-mod_self_right (r / 2 ^ t) a (2 ^ w))

-- Only the low bits are used.
unpacked_low : (t : Table) (a r : ℕ) → unpacked t (a * 2 ^ total_width (widths t) + r) ≡ unpacked t r
unpacked_low [] a r = refl
unpacked_low (f ∷ fs) a r =
    let w = width f.1 in
    let u = total_width (widths fs) in
    let high : a * 2 ^ (w + u) ≡ a * 2 ^ w * 2 ^ u = rw (pow-add 2 w u) (sym (mul_assoc a (2 ^ w) (2 ^ u))) in
    let low : unpacked fs (a * 2 ^ (w + u) + r) ≡ unpacked fs r = rw high (unpacked_low fs (a * 2 ^ w) r) in
    rw (top_field a w u r, low) refl

pub unpacked-packed : (t : Table) (cs : Contents t) → have_signs t ≡ true → FitAll t cs → unpacked t (packed t cs) ≡ cs
unpacked-packed [] cs signs fit = refl
unpacked-packed (f ∷ fs) cs signs fit =
    let (sign, signs') = and_parts (has_sign f.1) (have_signs fs) signs in
    let n = number_of f.1 cs.0 in
    let top : (n * 2 ^ total_width (widths fs) + packed fs cs.1) / 2 ^ total_width (widths fs)
    ≡ n = shr_high n (total_width (widths fs)) (packed fs cs.1) (packed_fits fs cs.1 signs' fit.1) in
    let same : n % 2 ^ width f.1 ≡ n = mod-eq_of_lt (number_fits f.1 cs.0 sign fit.0) in
    rw (
      top,
      same,
      content-number f.1 cs.0 sign fit.0,
      unpacked_low fs n (packed fs cs.1),
      unpacked-packed fs cs.1 signs' fit.1,
    ) refl

pub unpacked_fit : (t : Table) (p : ℕ) → have_signs t ≡ true → FitAll t (unpacked t p)
unpacked_fit [] p signs = tt
unpacked_fit (f ∷ fs) p signs = (
  content_fits f.1 (p / 2 ^ total_width (widths fs) % 2 ^ width f.1)
      (and_parts (has_sign f.1) (have_signs fs) signs).0
      (mod_below (p / 2 ^ total_width (widths fs)) (2 ^ width f.1) (pow_pos (width f.1))),
  unpacked_fit fs p (and_parts (has_sign f.1) (have_signs fs) signs).1,
)

packed_mod : (t : Table) (p : ℕ) → have_signs t ≡ true → packed t (unpacked t p) ≡ p % 2 ^ total_width (widths t)
packed_mod [] p signs = omega arith
packed_mod (f ∷ fs) p signs =
    let w = width f.1 in
    let u = total_width (widths fs) in
    let one = number-content f.1 (p / 2 ^ u % 2 ^ w) (and_parts (has_sign f.1) (have_signs fs) signs).0
    (mod_below (p / 2 ^ u) (2 ^ w) (pow_pos w)) in
    rw (one, packed_mod fs p (and_parts (has_sign f.1) (have_signs fs) signs).1) (sym (mod-pow-add p w u))

pub packed-unpacked : (t : Table) (p : ℕ) → have_signs t ≡ true → p < 2 ^ total_width (widths t)
    → packed t (unpacked t p) ≡ p
packed-unpacked t p signs h = packed_mod t p signs ∙ mod-eq_of_lt h
