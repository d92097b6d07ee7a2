-- Times counted along a stream, and the greatest time at a first MSM, after one more frame.
use Rattle.rtcm_inspect.proofs.Names.{before_first, position_or_len, not, fold-append, take-append-le, week, weeks, counted_before, counted_set, counted_tows, greatest_in, greatest_of, tow_in, with_tow, IsGreatestAt, common_steps, ◌≡◌, ◌∙◌, ◌+◌, ◌*◌, ◌<◌, ◌++◌, ℕ, Bool, List, [], ◌∷◌, Option, Some, None, ap, ap₂, append-nil, arith, filter_map, filter_map-append, first_tow, is_some, length, length-append, option_or, option_to_list, refl, sym, take, if◌then◌else◌, Framed, MsmSet}
use mathlib.Core.Bool.{cond}

-- ---- the frames before the first MSM of a set

or_parts : {A : Type 0} (a b : Option A) → option_or a b ≡ None → (a ≡ None) × (b ≡ None)
or_parts a b e = grind arith

-- those of a frame and others, by whether it has an MSM of the set
abbrev from : Option ℕ → Framed → List Framed → List Framed
from o g l = if is_some o then [] else g ∷ l

cut : (b : Bool) (n : ℕ) (g : Framed) (fs : List Framed) → take (cond (not b) (1 + n) 0) (g ∷ fs) ≡ (if b then [] else g ∷ take n fs)
cut b n g fs = grind arith

before_more : (set : MsmSet) (wanted : Option ℕ) (g : Framed) (fs : List Framed)
    → before_first (λ f. is_some (tow_in set wanted f)) (g ∷ fs) ≡ from (tow_in set wanted g) g (before_first (λ f. is_some (tow_in set wanted f)) fs)
before_more set wanted g fs = cut (is_some (tow_in set wanted g)) (position_or_len (λ f. is_some (tow_in set wanted f)) fs) g fs

from_same : (o : Option ℕ) (g : Framed) (a b : List Framed) → (o ≡ None → a ≡ b) → from o g a ≡ from o g b
from_same o g a b same = grind arith

-- one more frame after it
before_kept : (set : MsmSet) (wanted : Option ℕ) (fs : List Framed) (f : Framed) {t : ℕ} → first_tow 0 set wanted fs ≡ Some t
    → before_first (λ f. is_some (tow_in set wanted f)) (fs ++ f ∷ []) ≡ before_first (λ f. is_some (tow_in set wanted f)) fs
before_kept set wanted [] f is = cc
before_kept set wanted (g ∷ fs) f is =
    before_more set wanted g (fs ++ f ∷ [])
    ∙ from_same (tow_in set wanted g) g _ _ (λ none. before_kept set wanted fs f (sym (ap (λ (o : Option ℕ). option_or o (first_tow 0 set wanted fs)) none) ∙ is))
    ∙ sym (before_more set wanted g fs)

-- the first MSM of the set
before_all : (set : MsmSet) (wanted : Option ℕ) (fs : List Framed) → first_tow 0 set wanted fs ≡ None → before_first (λ f. is_some (tow_in set wanted f)) fs ≡ fs
before_all set wanted [] none = refl
before_all set wanted (g ∷ fs) none =
    let parts = or_parts (tow_in set wanted g) (first_tow 0 set wanted fs) none in
    before_more set wanted g fs ∙ ap₂ (λ (o : Option ℕ) (l : List Framed). from o g l) parts.0 (before_all set wanted fs parts.1)

before_new : (set : MsmSet) (wanted : Option ℕ) (fs : List Framed) (f : Framed) {t : ℕ} → first_tow 0 set wanted fs ≡ None → tow_in set wanted f ≡ Some t
    → before_first (λ f. is_some (tow_in set wanted f)) (fs ++ f ∷ []) ≡ fs
before_new set wanted [] f none is = before_more set wanted f [] ∙ ap (λ (o : Option ℕ). from o f []) is
before_new set wanted (g ∷ fs) f none is =
    let parts = or_parts (tow_in set wanted g) (first_tow 0 set wanted fs) none in
    before_more set wanted g (fs ++ f ∷ []) ∙ ap₂ (λ (o : Option ℕ) (l : List Framed). from o g l) parts.0 (before_new set wanted fs f parts.1 is)

pub number_kept : (set : MsmSet) (wanted : Option ℕ) (fs : List Framed) (f : Framed) {t : ℕ} → first_tow 0 set wanted fs ≡ Some t → counted_before set wanted (fs ++ f ∷ []) ≡ counted_before set wanted fs
number_kept set wanted fs f is = ap (λ (l : List Framed). length (counted_tows wanted l)) (before_kept set wanted fs f is)

pub number_new : (set : MsmSet) (wanted : Option ℕ) (fs : List Framed) (f : Framed) {t : ℕ} → first_tow 0 set wanted fs ≡ None → tow_in set wanted f ≡ Some t
    → length (counted_tows wanted fs) ≡ counted_before set wanted (fs ++ f ∷ [])
number_new set wanted fs f none is = sym (ap (λ (l : List Framed). length (counted_tows wanted l)) (before_new set wanted fs f none is))

-- ---- the times of week

pub filter_map-push : (F : Framed → Option ℕ) (fs : List Framed) (f : Framed) → filter_map F (fs ++ f ∷ []) ≡ filter_map F fs ++ option_to_list (F f)
filter_map-push F fs f = grind (arith, filter_map-append)

pub none_counted : (wanted : Option ℕ) (fs : List Framed) (f : Framed) → tow_in counted_set wanted f ≡ None → counted_tows wanted (fs ++ f ∷ []) ≡ counted_tows wanted fs
none_counted wanted fs f none = filter_map-push (tow_in counted_set wanted) fs f ∙ ap (λ (o : Option ℕ). counted_tows wanted fs ++ option_to_list o) none ∙ append-nil (counted_tows wanted fs)

pub some_counted : (wanted : Option ℕ) (fs : List Framed) (f : Framed) {tow : ℕ} → tow_in counted_set wanted f ≡ Some tow → counted_tows wanted (fs ++ f ∷ []) ≡ counted_tows wanted fs ++ tow ∷ []
some_counted wanted fs f some = filter_map-push (tow_in counted_set wanted) fs f ∙ ap (λ (o : Option ℕ). counted_tows wanted fs ++ option_to_list o) some

pub greatest_more : (tows : List ℕ) (tow : ℕ) → greatest_of (tows ++ tow ∷ []) ≡ with_tow (greatest_of tows) tow
greatest_more tows tow = fold-append with_tow None tows (tow ∷ [])

-- ---- the greatest time at a first MSM

-- one more time of week is counted
pub at_more : (n : ℕ) (tows : List ℕ) (tow t : ℕ) (o : Option ℕ) → greatest_of (tows ++ tow ∷ []) ≡ Some t → t < weeks * week → IsGreatestAt n tows o → IsGreatestAt n (tows ++ tow ∷ []) (option_or o (Some t))
at_more n tows tow t o is small h = grind (arith, common_steps, length-append {A = Framed}, take-append-le)

-- without a first MSM
pub at_none : (set : MsmSet) (wanted : Option ℕ) (fs : List Framed) → first_tow 0 set wanted fs ≡ None → greatest_of (take (counted_before set wanted fs + 1) (counted_tows wanted fs)) ≡ greatest_in wanted fs
at_none set wanted fs none = grind (arith, common_steps, before_all)
