-- The steps of a chain of reads that succeeded or failed.
use Rattle.rtcm_msg.proofs.Names.{ℕ, ◌≡◌, ◌+◌, ◌^◌, ◌<◌, ◌≤◌, ◌++◌, length, take, drop, Result, Ok, Err, refl, arith, subst, ◌∙◌, sym, ap, cases_lt, take-append-drop, length-take-le, uint, number, Cursor, advanced, unsigned_at, MsgFault, Short, ◌>>=◌, number_at, number-take-fits, uint-number}

pub bind_ok : {A B : Type 0} (r : Result A MsgFault) (f : A → Result B MsgFault) (y : B) → (r >>= f) ≡ Ok y → (x : A) × (r ≡ Ok x) × (f x ≡ Ok y)
bind_ok r f y h = grind arith

pub number_there : (w : ℕ) (c : Cursor) → w ≤ length c.rest → number_at w c ≡ Ok (unsigned_at w c, advanced c w)
unfolding number_at
number_there w c h = grind arith

pub number_short : (w : ℕ) (c : Cursor) → length c.rest < w → number_at w c ≡ Err (Short c.place)
unfolding number_at
number_short w c h = grind arith

pub ok_inj : {A : Type 0} (x y : A) (r : Result A MsgFault) → r ≡ Ok x → r ≡ Ok y → x ≡ y
ok_inj x y r e f = cc

pub ok_err : {B : Type 0} (x : B) (e : MsgFault) (r : Result B MsgFault) → r ≡ Ok x → r ≡ Err e → ⊥
ok_err x e r a b = cc

abbrev done : {A : Type 0} → A → Result A MsgFault
done x = Ok x

-- A property of the value that was read holds for an equal value.
pub of_read : {A : Type 0} (P : A → Type 0) (x y : A) → done x ≡ done y → P x → P y
of_read P x y e p = subst P (ok_inj x y (done x) refl e) p

-- The properties of a field that was read.
pub record Consumed (w : ℕ) (c : Cursor) (x : ℕ × Cursor) : Type 0 where
  pub fits : x.0 < 2 ^ w
  pub room : w ≤ length c.rest
  pub bits : c.rest ≡ uint w x.0 ++ x.1.rest
  pub place : x.1.place ≡ c.place + w

pub consumed_at : (w : ℕ) (c : Cursor) → w ≤ length c.rest → Consumed w c (unsigned_at w c, advanced c w)
consumed_at w c h = record {
  fits = number-take-fits c.rest w h;
  room = h;
  bits = sym (take-append-drop w c.rest) ∙ ap (λ t. t ++ drop w c.rest) (sym (let P : ℕ → Type 0 = λ n. uint n (number (take w c.rest)) ≡ take w c.rest in subst P (length-take-le w c.rest h) (uint-number (take w c.rest) 0)));
  place = refl;
}

pub number_consumed : (w : ℕ) (c : Cursor) (x : ℕ × Cursor) → number_at w c ≡ Ok x → Consumed w c x
number_consumed w c x e = grind (arith, cases_lt, ok_err, number_short, ok_inj, number_there, consumed_at)
