-- No field that is read ends after the first 8,184 bits.
use Rattle.rtcm_msg.proofs.Names.{common_steps, ℕ, ◌≡◌, ◌+◌, ◌*◌, ◌≤◌, Bool, true, false, List, ◌∷◌, ◌++◌, length, take, drop, Result, Ok, Err, Option, refl, sym, ap, ap₂, ◌∙◌, arith, lit≤, append_assoc, nat_lt, nat_le, count_ones, length-append, cases_lt, le-leb, lt-ltb, ones-le, mul-le, length-drop, take-append-le, drop-append-le, take-append-drop, length-take-le, bits_of, number, MsgFault, Message, total_width, message_by, message_with, MsmSet, kind_with, ReadsMessage, IsFault, is_read_msm, set_of, layout_by, Kind, kind_of, is_msm_kind, has_bad_time, has_too_many, repeated, Form, satellite_widths, cell_widths, longest_message, longest_message_bits, bits_of-append, length-bits_of, number-take-fits, number_of}
use Rattle.rtcm_msg.proofs.FormLaws.{narrow}
use Rattle.rtcm_msg.proofs.FieldLaws.{past_none, field_at}
use Rattle.rtcm_msg.proofs.FaultLaws.{total-append, total-repeated, pair_count_of}
use Rattle.rtcm_msg.proofs.MessageLaws.{read_again, message_found, message_fault, message_only_fault, and_all, some_none}
use Rattle.rtcm_msg.specs.declared.number.Kind.TheVariants as kinds
use Rattle.rtcm_msg.proofs.SetLaws.{by_set, message_known, message_other}

-- A field is the same if more bits follow.
pub field_more : (a b : List Bool) (place w : ℕ) → place + w ≤ length a → field_at (a ++ b) place w ≡ field_at a place w
field_more a b place w h = ap number (ap (take w) (drop-append-le place a b (omega arith)) ∙ take-append-le w (drop place a) b (omega (arith, length-drop place a)))

-- The first bytes determine the fields in them.
pub field_in_front : (bytes : List ℕ) (n place w : ℕ) → n ≤ length bytes → place + w ≤ 8 * n → field_at (bits_of (take n bytes)) place w ≡ field_at (bits_of bytes) place w
field_in_front bytes n place w long fits = grind (arith, take-append-drop {A = ℕ}, bits_of-append, length-bits_of, length-take-le {A = ℕ}, field_more)

le_more : (k : ℕ) (a b : List Bool) → k ≤ length a → nat_le k (length (a ++ b)) ≡ nat_le k (length a)
le_more k a b h = le-leb k (length (a ++ b)) (omega (arith, length-append a b, h)) ∙ sym (le-leb k (length a) h)

module _ (a b : List Bool) (long : longest_message_bits ≤ length a) where
  number_more : number_of (a ++ b) ≡ number_of a
  number_more = field_more a b 0 12 (omega (arith, long))

  set_more : set_of (a ++ b) ≡ set_of a
  set_more = rw (number_more, le_more 55 a b (omega (arith, long)), field_more a b 12 12 (omega (arith, long)), field_more a b 54 1 (omega (arith, long))) refl

  reads_more : (v : Message) → ReadsMessage a v → ReadsMessage (a ++ b) v
  reads_more v h = grind (arith, append_assoc, length-append, number_more, Option, Bool, set_more)

  time_more : has_bad_time (a ++ b) ≡ has_bad_time a
  time_more = rw (number_more, le_more 54 a b (omega (arith, long)), field_more a b 24 30 (omega (arith, long))) refl

  few_more : has_too_many (a ++ b) ≡ has_too_many a
  few_more = rw (number_more, le_more 169 a b (omega (arith, long)), field_more a b 73 64 (omega (arith, long)), field_more a b 137 32 (omega (arith, long))) refl

ones_few : (bits : List Bool) (place w : ℕ) → w ≤ 64 → place + w ≤ length bits → count_ones (field_at bits place w) ≤ 64
ones_few bits place w few h = grind (arith, common_steps, number-take-fits, length-drop {A = ℕ}, ones-le)

pairs_are : (bits : List Bool) → is_read_msm (number_of bits) ≡ true → longest_message_bits ≤ length bits → has_too_many bits ≡ false → pair_count_of bits ≤ 64
pairs_are bits msm long few = grind (arith, cases_lt, and_all, nat_le, nat_lt, le-leb, lt-ltb)

-- The largest number of bits of a message.
total_few : (form : Form) (s c p : ℕ) → s ≤ 64 → c ≤ 64 → p ≤ 64 → total_width (12 ∷ 12 ∷ 30 ∷ 1 ∷ 3 ∷ 7 ∷ 2 ∷ 2 ∷ 1 ∷ 3 ∷ 64 ∷ 32 ∷ p ∷ (repeated s (satellite_widths form) ++ repeated c (cell_widths form))) ≤ longest_message_bits
total_few form s c p hs hc hp =
    let sw = satellite_widths form in
    let cw = cell_widths form in
    let one : total_width sw * s ≤ 36 * 64 = mul-le (total_width sw) s 36 64 (narrow form).0 hs in
    let two : total_width cw * c ≤ 80 * 64 = mul-le (total_width cw) c 80 64 (narrow form).1 hc in
    rw (total-append (repeated s sw) (repeated c cw), total-repeated s sw, total-repeated c cw) (omega (arith, one, two, hp))

layout_few : (bits : List Bool) (k : Kind) → kind_of (number_of bits) ≡ k → longest_message_bits ≤ length bits → has_too_many bits ≡ false → total_width (layout_by k bits) ≤ longest_message_bits
layout_few bits (kinds.Station has) e long few = grind (arith, lit≤)
layout_few bits (kinds.Msm form g) e long few =
    let pairs_few = pairs_are bits (ap is_msm_kind e) long few in
    total_few form (count_ones (field_at bits 73 64)) (count_ones (field_at bits 169 (pair_count_of bits))) (pair_count_of bits) (ones_few bits 73 64 (lit≤ tt) (omega (arith, long))) (ones_few bits 169 (pair_count_of bits) pairs_few (omega (arith, long, pairs_few))) pairs_few
layout_few bits kinds.Other e long few = lit≤ tt

fault_more : (a b : List Bool) (e : MsgFault) → longest_message_bits ≤ length a → IsFault a e → IsFault (a ++ b) e
fault_more a b e h k = grind (arith, time_more, few_more, some_none, past_none, layout_few)

message_more : (a b : List Bool) → longest_message_bits ≤ length a → message_by kind_of a ≡ message_by kind_of (a ++ b)
message_more a b long = go (message_by kind_of a) refl
  where
    go : (r : Result Message MsgFault) → message_by kind_of a ≡ r → message_by kind_of a ≡ message_by kind_of (a ++ b)
    go (Ok v) e = e ∙ sym (read_again (a ++ b) v (reads_more a b long v (message_found a v e).reads))
    go (Err f) e = e ∙ sym (message_only_fault (a ++ b) f (fault_more a b f long (message_fault a f e)))

-- The first 1,023 bytes determine the message, and if the MSMs of a set are decoded.
prefix_bits : (bytes : List ℕ) → longest_message ≤ length bytes → (longest_message_bits ≤ length (bits_of (take longest_message bytes))) × (bits_of bytes ≡ bits_of (take longest_message bytes) ++ bits_of (drop longest_message bytes))
prefix_bits bytes h = (let n = length-bits_of (take longest_message bytes) ∙ ap (λ (n : ℕ). 8 * n) (length-take-le longest_message bytes h) in omega (arith, n), ap bits_of (sym (take-append-drop longest_message bytes)) ∙ bits_of-append (take longest_message bytes) (drop longest_message bytes))

with_more : (set : MsmSet) (a b : List Bool) → longest_message_bits ≤ length a → message_by (kind_with set) a ≡ message_by (kind_with set) (a ++ b)
with_more set a b long = grind (arith, length-append, number_more, by_set, message_known, message_more, message_other, ap₂, set_more)

pub with_prefix : (set : MsmSet) (bytes : List ℕ) → longest_message ≤ length bytes → message_with set (take longest_message bytes) ≡ message_with set bytes
with_prefix set bytes h = let p = prefix_bits bytes h in with_more set _ _ p.0 ∙ ap (message_by (kind_with set)) (sym p.1)
