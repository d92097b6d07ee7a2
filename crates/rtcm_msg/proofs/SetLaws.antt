-- Messages if the MSMs of a set are decoded.
use Rattle.rtcm_msg.proofs.Names.{ℕ, ◌≡◌, arith, ◌≤◌, Bool, true, false, List, length, Ok, Err, refl, sym, ap, ◌∙◌, ◌⊎◌, inl, inr, if◌then◌else◌, cases_lt, bits_of, Message, MsgFault, Kind, MsmSet, kind_of, kind_with, kind_within, message_by, message_at, message_with, body_by, other_of, IsMessage, satellite_widths, cell_widths, station_at, msm_at, cursor_at, Short, number_of, whole_set, is_in_set}
use Rattle.rtcm_msg.proofs.Binds.{bind_ok, of_read, ok_err}
use Rattle.rtcm_msg.proofs.MsmLaws.{msm_consumed}
use Rattle.rtcm_msg.proofs.MessageLaws.{message_there, message_none, message_found, other_is}
use Rattle.rtcm_msg.specs.declared.message.Message.TheVariants as messages
use Rattle.rtcm_msg.specs.declared.number.Kind.TheVariants as kinds

-- A kind stays, or its messages aren't decoded.
kept : (set : MsmSet) (k : Kind) → (kind_within set k ≡ k) ⊎ (kind_within set k ≡ kinds.Other)
kept set k = grind arith

pub by_set : (set : MsmSet) (n : ℕ) → (kind_with set n ≡ kind_of n) ⊎ (kind_with set n ≡ kinds.Other)
by_set set n = kept set (kind_of n)

pub same_kind : (k j : ℕ → Kind) (bits : List Bool) → k (number_of bits) ≡ j (number_of bits) → message_by k bits ≡ message_by j bits
same_kind k j bits same = grind (arith, message_none, message_there)

pub message_known : (set : MsmSet) (bits : List Bool) → kind_with set (number_of bits) ≡ kind_of (number_of bits) → message_by (kind_with set) bits ≡ message_by kind_of bits
message_known set bits same = same_kind (kind_with set) kind_of bits same

pub message_other : (set : MsmSet) (bits : List Bool) → 12 ≤ length bits → kind_with set (number_of bits) ≡ kinds.Other → message_by (kind_with set) bits ≡ Ok (other_of bits)
message_other set bits there other = message_there (kind_with set) bits there ∙ (ap (λ (k : Kind). body_by k (number_of bits) (cursor_at bits 12)) other ∙ ap Ok (other_is bits there))

-- The message, or the one that isn't decoded.
with_is : (set : MsmSet) (bytes : List ℕ) → (message_with set bytes ≡ message_at bytes) ⊎ (message_with set bytes ≡ Ok (other_of (bits_of bytes)))
with_is set bytes = grind (arith, by_set, message_known, message_none, message_other)

pub refused : (set : MsmSet) (bytes : List ℕ) (e : MsgFault) → message_at bytes ≡ Err e → (message_with set bytes ≡ Err e) ⊎ (message_with set bytes ≡ Ok (other_of (bits_of bytes)))
refused set bytes e is = elim (with_is set bytes) [ inl same ↦ inl (same ∙ is) | inr other ↦ inr other ]

pub value_with : (set : MsmSet) (bytes : List ℕ) (m : Message) → message_with set bytes ≡ Ok m → IsMessage m
value_with set bytes m e = elim (with_is set bytes) [ inl same ↦ (message_found (bits_of bytes) m (sym same ∙ e)).is_message | inr other ↦ of_read IsMessage (other_of (bits_of bytes)) m (sym other ∙ e) tt ]

-- ---- the whole set

all_kept : (k : Kind) → kind_within whole_set k ≡ k
all_kept k = grind arith

pub whole_is : (bytes : List ℕ) → message_with whole_set bytes ≡ message_at bytes
whole_is bytes = message_known whole_set (bits_of bytes) (all_kept (kind_of (number_of (bits_of bytes))))

-- ---- the messages in a set

-- What a message of this value contains if the MSMs of a set are decoded.
kind_read : (set : MsmSet) (k : Kind) (bits : List Bool) (m : Message) → body_by k (number_of bits) (cursor_at bits 12) ≡ Ok m → kind_within set k ≡ (if is_in_set set m then k else kinds.Other)
kind_read set (kinds.Station h) bits m e = let body = bind_ok (station_at h (cursor_at bits 12)) _ m e in of_read (λ m. kinds.Station h ≡ (if is_in_set set m then kinds.Station h else kinds.Other)) (messages.Station body.0.0) m body.2 refl
kind_read set (kinds.Msm f g) bits m e =
    let body = bind_ok (msm_at (satellite_widths f) (cell_widths f) g (cursor_at bits 12)) _ m e in
    let system = (msm_consumed (satellite_widths f) (cell_widths f) g (cursor_at bits 12) body.0 body.1).system in
    of_read (λ m. kind_within set (kinds.Msm f g) ≡ (if is_in_set set m then kinds.Msm f g else kinds.Other)) (messages.Msm (record { form = f; msm = body.0.0 })) m body.2 (rw system refl)
kind_read set kinds.Other bits m e = of_read (λ m. kinds.Other ≡ (if is_in_set set m then kinds.Other else kinds.Other)) (messages.Other _ _) m e refl

read_there : (bytes : List ℕ) (m : Message) → message_at bytes ≡ Ok m → 12 ≤ length (bits_of bytes)
read_there bytes m e = elim (cases_lt (length (bits_of bytes)) 12) [ inl few ↦ absurd (ok_err m (Short 0) (message_at bytes) e (message_none kind_of (bits_of bytes) few)) | inr there ↦ there ]

pub inside : (set : MsmSet) (bytes : List ℕ) (m : Message) → message_at bytes ≡ Ok m → is_in_set set m ≡ true → message_with set bytes ≡ Ok m
inside set bytes m e is =
    let bits = bits_of bytes in
    let kind = kind_read set (kind_of (number_of bits)) bits m (sym (message_there kind_of bits (read_there bytes m e)) ∙ e) in
    message_known set bits (kind ∙ rw is refl) ∙ e

pub outside : (set : MsmSet) (bytes : List ℕ) (m : Message) → message_at bytes ≡ Ok m → is_in_set set m ≡ false → message_with set bytes ≡ Ok (other_of (bits_of bytes))
outside set bytes m e is =
    let bits = bits_of bytes in
    let there = read_there bytes m e in
    let kind = kind_read set (kind_of (number_of bits)) bits m (sym (message_there kind_of bits there) ∙ e) in
    message_other set bits there (kind ∙ rw is refl)
