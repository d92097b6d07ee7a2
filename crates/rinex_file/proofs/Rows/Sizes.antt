-- The sizes of the parts of a satellite's line, and its first letter.
use Rattle.rinex_file.proofs.Rows.Trimmed.{trimmed-front}
use Rattle.rinex_file.proofs.Names.{length-fixed, length-right, not_negative, each_system, arith, ◌≡◌, ℕ, suc, ◌*◌, ◌^◌, ◌<◌, ◌≤◌, List, [], ◌∷◌, ◌++◌, length, refl, ap, length-append, ℤ, pos, negsuc, unsigned_abs, to_z, of_z, w64, Option, IfSome, flat_map, All, ints, to_z-of_z, fits_signed_from_abs, All-head, All-tail, All-weaker, padded, fixed, most_satellites, satellites, System, HasTwelveDigits, SignalValues, SatelliteRow, FitsColumns, HaveRoom, AreSignalValues, IsFrom, trimmed, field, signal_text, satellite_line, letter, number_of, common_steps}

most : (n : ℕ) → FitsColumns (pos n) → n ≤ 9_999_999_999_999
most n h = let high = h.1 in omega (arith, ints)

least : (n : ℕ) → FitsColumns (negsuc n) → suc n ≤ 999_999_999_999
least n h = let low = h.0 in omega (arith, ints)

-- a value of at most twelve digits fits its columns
pub if_fits : (o : Option ℤ) → IfSome o HasTwelveDigits → IfSome o FitsColumns
if_fits o h = grind (arith, ints)

pub length-value : (v : ℤ) → FitsColumns v → length (fixed 3 v) ≤ 14
length-value (pos n) h = grind (arith, common_steps, not_negative, most n h, length-fixed 3 10 (pos n) (omega arith) (omega arith) (omega (arith, most n h)) (omega (arith, most n h)))
length-value (negsuc n) h = let bound = least n h in length-fixed 3 9 (negsuc n) (omega arith) (omega arith) (omega (arith, bound)) (omega (arith, bound))

pub small_value : (v : ℤ) → FitsColumns v → unsigned_abs v < 2 ^ 64
small_value v h = grind (arith, ints, most, least)

-- it fits 64 bits, so the code's value is the number
pub stays : (v : ℤ) → FitsColumns v → to_z w64 (of_z w64 v) ≡ v
stays v h = to_z-of_z w64 v (fits_signed_from_abs w64 v (grind (arith, ints, most, least)))

pub length-field : (v : Option ℤ) (lost strength : ℕ) → IfSome v FitsColumns → length (field v lost strength) ≡ 16
unfolding field
length-field v lost strength h = grind (arith, length-append, length-right, length-value)

pub ruleset sizes = (length-field, stays)

-- ---- the four fields of a signal

pub strength_fits : (s : Option ℤ) → IfSome s (IsFrom (pos 1) (pos 99_999)) → IfSome s FitsColumns
strength_fits s h = grind (arith, ints)

-- values of a file fit their columns
pub values_fit : (e : SignalValues) → AreSignalValues e → HaveRoom e
values_fit e is = record { c = is.c; l = is.l; d = is.d; s = strength_fits e.s is.s; lli = is.lli }

pub all_values_fit : (es : List SignalValues) → All AreSignalValues es → All HaveRoom es
all_values_fit es all = All-weaker AreSignalValues HaveRoom values_fit es all

pub length-room : (e : SignalValues) → HaveRoom e → length (signal_text e) ≡ 64
unfolding signal_text
length-room e h = grind (arith, length-append, length-field, h.c, h.l, h.d, h.s)

pub length-signals : (es : List SignalValues) → All HaveRoom es → length (flat_map signal_text es) ≡ 64 * length es
length-signals [] all = refl
length-signals (e ∷ es) all = grind (arith, length-append, (length-room e (All-head HaveRoom e es all)), (length-signals es (All-tail HaveRoom e es all)))

-- ---- the first letter

letter_is : (s : System) → letter s ≡ 32 → ⊥
letter_is s e = grind arith

pub front_line : (s : SatelliteRow) → satellite_line s ≡ letter s.system ∷ (trimmed (padded 2 (number_of s.system s.row.satellite) ++ flat_map signal_text s.row.signal_values) ++ 10 ∷ [])
unfolding satellite_line
front_line s = ap (λ t. t ++ 10 ∷ []) (trimmed-front (letter s.system) (padded 2 (number_of s.system s.row.satellite) ++ flat_map signal_text s.row.signal_values) (letter_is s.system))

pub few_satellites : (s : System) → satellites s ≤ most_satellites
few_satellites s = grind arith

pub few_numbers : (s : System) (id : ℕ) → id ≤ satellites s → number_of s id < 100
few_numbers s id few = grind (arith, each_system)
