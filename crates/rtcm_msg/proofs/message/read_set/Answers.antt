use Rattle.rtcm_msg.proofs.Names.{common_steps, ℕ, ◌/◌, ◌%◌, true, false, nat_le, ◌≡◌, ◌*◌, ◌<◌, ◌≤◌, ◌==◌, length, List, arith, refl, ◌∙◌, Some, None, Option, is_some, System, system_of_tens, bits_of, Cursor, cursor_at, field_at, set_at, set_in, is_any_msm, length-bits_of}
use Rattle.rtcm_msg.proofs.MessageLaws.{other_set}
use Rattle.rtcm_msg.proofs.message.read_set.Goals as goal

set_short : (bytes : List ℕ) → 12 ≤ 8 * length bytes → length bytes < 7 → set_at (cursor_at (bits_of bytes) 12) ≡ None
set_short bytes h few =
    let less : nat_le 55 (length (bits_of bytes)) ≡ false = grind (arith, length-bits_of bytes, few) in
    other_set (bits_of bytes) (rw (length-bits_of bytes) h) ∙ rw less refl

set_there : (bytes : List ℕ) → 12 ≤ 8 * length bytes → 7 ≤ length bytes → set_at (cursor_at (bits_of bytes) 12) ≡ Some (field_at (bits_of bytes) 12 12, field_at (bits_of bytes) 54 1 == 1)
set_there bytes h many =
    let more : nat_le 55 (length (bits_of bytes)) ≡ true = grind (arith, length-bits_of bytes, many) in
    other_set (bits_of bytes) (rw (length-bits_of bytes) h) ∙ rw more refl

is_set : (n : ℕ) (c : Cursor) (found : Option System) → found ≡ system_of_tens (n / 10) → is_some found ≡ true → 1 ≤ n % 10 → n % 10 ≤ 7 → set_at c ≡ set_in n c
is_set n c found e some d f = let any : is_any_msm n ≡ true = grind (arith, e, some, d, f) in rw any refl

pub returns-then-number-lt1 : goal.returns-then-number-lt1
returns-then-number-lt1 c = grind (arith, common_steps, set_short, is_set)

pub returns : goal.returns
returns c = grind (arith, common_steps, set_there, is_set)
