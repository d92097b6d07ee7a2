-- The line of a message.
use Rattle.rtcm_inspect.proofs.Names.{◌≡◌, ◌∙◌, ap, sym, ℕ, ℤ, List, Result, Ok, w64, to_z, of_z, arith, FitsInt, Bool, Framed, MsgFault, Message, read_for, message_line, read_line}

pub shown : (all : Bool) (f : Framed) (r : Result Message MsgFault) {bytes : List ℕ} → bytes ≡ f.message → read_for all bytes ≡ r → message_line all f ≡ read_line f r
unfolding message_line
shown all f r {bytes} e h = ap (read_line f) (sym (ap (read_for all) e) ∙ h)

pub shown_value : (all : Bool) (f : Framed) (v m : Message) {bytes : List ℕ} → bytes ≡ f.message → read_for all bytes ≡ Ok v → v ≡ m → message_line all f ≡ read_line f (Ok m)
shown_value all f v m e h same = shown all f (Ok m) e (h ∙ ap (λ (x : Message). Ok x) same)

-- a coordinate as a parameter
pub as_passed : (z : ℤ) → FitsInt 38 z → to_z w64 (of_z w64 z) ≡ z
as_passed z h = grind arith
