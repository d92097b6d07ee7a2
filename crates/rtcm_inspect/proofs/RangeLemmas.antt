-- The first time of week and the first station message of a stream are in range.
use Rattle.rtcm_inspect.proofs.Names.{message_value, value_with, IsMessage, point_of, IsBelowWeek, ◌≡◌, ◌<◌, subst, refl, arith, ℕ, List, [], ◌∷◌, Option, IfSome, Result, Ok, Err, option_and_then, option_or, Framed, MsgFault, Message, MsmSet, InRange, every_channel, first_tow, heard, heard_of, tow_of, week, IsFirstInRange, common_steps}

either : {A : Type 0} (P : A → Type 0) (a b : Option A) → IfSome a P → IfSome b P → IfSome (option_or a b) P
either P a b h k = grind arith

-- ---- times of week

message_small : (wanted : Option ℕ) (leap : ℕ) (m : Message) → IsMessage m → IfSome (tow_of wanted (heard every_channel leap m)) (λ t. t < week)
message_small wanted leap m is = grind arith

read_small : (wanted : Option ℕ) (leap : ℕ) (r : Result Message MsgFault) → ((m : Message) → r ≡ Ok m → IsMessage m)
    → IfSome (option_and_then (tow_of wanted) (heard_of every_channel leap r)) (λ t. t < week)
read_small wanted leap (Ok m) value = message_small wanted leap m (value m refl)
read_small wanted leap (Err e) value = tt

first_small : (leap : ℕ) (set : MsmSet) (wanted : Option ℕ) (fs : List Framed) → IfSome (first_tow leap set wanted fs) (λ t. t < week)
first_small leap set wanted [] = tt
first_small leap set wanted (f ∷ fs) = grind (arith, read_small, value_with, (first_small leap set wanted fs))

pub below_week : IsBelowWeek
below_week leap set wanted fs tow is = subst (λ (o : Option ℕ). IfSome o (λ t. t < week)) is (first_small leap set wanted fs)

-- ---- station messages

point_in_range : (wanted : Option ℕ) (m : Message) → IsMessage m → IfSome (point_of wanted (heard every_channel 0 m)) InRange
point_in_range wanted m is = grind arith

read_in_range : (wanted : Option ℕ) (r : Result Message MsgFault) → ((m : Message) → r ≡ Ok m → IsMessage m)
    → IfSome (option_and_then (point_of wanted) (heard_of every_channel 0 r)) InRange
read_in_range wanted (Ok m) value = point_in_range wanted m (value m refl)
read_in_range wanted (Err e) value = tt

pub first_in_range : IsFirstInRange
first_in_range wanted [] = tt
first_in_range wanted (f ∷ fs) = grind (arith, common_steps, either, read_in_range, message_value, first_in_range wanted fs)
