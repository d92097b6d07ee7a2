-- The message numbers.
use Rattle.rtcm_msg.proofs.Names.{common_steps, ℕ, ◌≡◌, ◌/◌, ◌%◌, ◌==◌, ◌^◌, ◌<◌, Bool, true, List, [], ◌∷◌, Option, refl, subst, arith, if◌then◌else◌, IfSome, find, System, Kind, kind_of, station_number, message_number, Form, msm_tens, system_of_tens, digit_of, form_of_digit, msm_kind, systems}
use Rattle.rtcm_msg.specs.declared.view.Form.TheVariants as forms
use Rattle.rtcm_msg.specs.declared.number.Kind.TheVariants as kinds

-- The number of a kind.
abbrev pub IsNumber : Kind → ℕ → Type 0
IsNumber (kinds.Station has) n = n ≡ station_number has
IsNumber (kinds.Msm form g) n = n ≡ message_number form g
IsNumber kinds.Other n = Unit {0}

row_is : (b : Bool) (n m : ℕ) (k j : Kind) → (n == m) ≡ b → IsNumber k m → IsNumber j n → IsNumber (if b then k else j) n
row_is b n m k j e h t = grind (arith, common_steps)

found_passes : {A : Type 0} (p : A → Bool) (xs : List A) → IfSome (find p xs) (λ x. p x ≡ true)
found_passes p [] = tt
found_passes p (x ∷ xs) = grind (arith, common_steps, found_passes p xs)

msm_number : (n : ℕ) (f : Option Form) (g : Option System) → IfSome f (λ f. (digit_of f == n % 10) ≡ true) → IfSome g (λ g. (msm_tens g == n / 10) ≡ true) → IsNumber (msm_kind f g) n
msm_number n f g h k = grind arith

pub number_is : (n : ℕ) (k : Kind) → kind_of n ≡ k → IsNumber k n
number_is n k e = subst (λ (k : Kind). IsNumber k n) e (row_is (n == 1005) n 1005 _ _ refl refl (row_is (n == 1006) n 1006 _ _ refl refl (msm_number n (form_of_digit (n % 10)) (system_of_tens (n / 10)) (found_passes (λ f. digit_of f == n % 10) (forms.Msm4 ∷ forms.Msm5 ∷ forms.Msm6 ∷ forms.Msm7 ∷ [])) (found_passes (λ g. msm_tens g == n / 10) systems))))

pub of_station : (has : Bool) → (kind_of (station_number has) ≡ kinds.Station has) × (station_number has < 2 ^ 12)
of_station has = grind arith

pub of_msm : (form : Form) (g : System) → (kind_of (message_number form g) ≡ kinds.Msm form g) × (message_number form g < 2 ^ 12)
of_msm form g = grind (arith, common_steps)
