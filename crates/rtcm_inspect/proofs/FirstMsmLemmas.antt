-- A stream with a cell that has a value has a first MSM.
use Rattle.rtcm_inspect.proofs.Names.{All, All-head, All-tail, ◌≡◌, ◌∙◌, ◌<◌, ◌++◌, ℕ, List, [], ◌∷◌, Option, Some, None, Result, true, arith, is_some, length, option_and_then, option_map_or, option_or, refl, subst, sym, Framed, HeardCell, GatherSetup, Message, MsgFault, MsmSet, ReadsAll, channels_in, every_channel, first_tow, heard_of, inspected_in, plan_in, set_had, tow_of, valued, valued_in, valued_of}
use Rattle.obs_epoch.specs.Kinds.{default_setup}
use Rattle.rtcm_inspect.proofs.PlannedLemmas.{all_planned}
use Rattle.rtcm_inspect.proofs.SetLemmas.{loses_none}
use Rattle.rtcm_inspect.proofs.ValuedLemmas.{valued_keys}
use Rattle.rtcm_inspect.specs.SignalLaws.{HasFirstMsm}

-- a message without a time of week has no cell that counts
none_valued : (leap : ℕ) (wanted : Option ℕ) (r : Result Message MsgFault) → option_and_then (tow_of wanted) (heard_of every_channel leap r) ≡ None
    → option_map_or (valued wanted) (heard_of every_channel 0 r) [] ≡ []
none_valued leap wanted r none = grind arith

-- if all cells that count are read, one of them is of an MSM
some_tow : (leap : ℕ) (set : MsmSet) (s : GatherSetup) (fs : List Framed) → All (ReadsAll set s) fs → 0 < length (valued_in s.station fs) → is_some (first_tow leap set s.station fs) ≡ true
some_tow leap set s [] reads some = grind arith
some_tow leap set s (f ∷ fs) reads some = by (some_tow leap set s fs (All-tail (ReadsAll set s) f fs reads)) (option_and_then (tow_of s.station) (inspected_in leap set f.message)) refl where
  left : option_and_then (tow_of s.station) (inspected_in leap set f.message) ≡ None → 0 < length (valued_in s.station fs)
  left none =
      let empty : valued_of s.station f ≡ [] = sym (All-head (ReadsAll set s) f fs reads) ∙ none_valued leap s.station _ none in
      subst (λ (xs : List HeardCell). 0 < length (xs ++ valued_in s.station fs)) empty some

  by : (0 < length (valued_in s.station fs) → is_some (first_tow leap set s.station fs) ≡ true) → (o : Option ℕ) → option_and_then (tow_of s.station) (inspected_in leap set f.message) ≡ o
      → is_some (option_or o (first_tow leap set s.station fs)) ≡ true
  by more (Some t) is = refl
  by more None is = more (left is)

pub found : (o : Option ℕ) → is_some o ≡ true → (tow : ℕ) × (o ≡ Some tow)
found (Some t) is = (t, refl)
found None is = cc

pub first_msm : HasFirstMsm
first_msm leap wanted fs some =
    let s : GatherSetup = record (default_setup (plan_in wanted fs) 0) { station = wanted } in
    found (first_tow leap (set_had wanted fs) wanted fs)
    (some_tow leap (set_had wanted fs) s fs (loses_none s fs (all_planned (channels_in wanted fs) s (valued_in wanted fs) refl (valued_keys wanted fs))) some)
