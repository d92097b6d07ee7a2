-- A step of the clock adds one message to the list.
use Rattle.obs_epoch.proofs.Names.{◌≡◌, ℕ, zero, suc, ◌+◌, ◌*◌, ◌/◌, ◌<◌, Bool, true, false, not, ◌||◌, ◌&&◌, List, ◌∷◌, ◌++◌, refl, ap, ap₂, ◌∙◌, subst, arith, Option, Some, None, nat_lt, ◌==◌, CloseFirst, CellCounts, GatherSetup, Heard, ends_epoch, is_own, Timed, greatest_time, is_closed, taken_at, ahead, is_late, is_past, time_of, State, is_pending, closes_first, kind_after, kind_by, step_by, is_late_at, is_first_at, ended_where, option_map_or, first_week, week, common_steps, []}
use Rattle.obs_epoch.proofs.TimesLemmas.{next, greatest-push, greatest-present, greater-absent, none-absent, closed-push, closed-new}

-- A message that isn't accepted changes no time, and may close the pending epoch.
pub same_time : (s : GatherSetup) (xs : List Timed) (x : Timed) → x.time ≡ None
    → (greatest_time (xs ++ x ∷ []) ≡ greatest_time xs) × (is_pending s (xs ++ x ∷ []) ≡ (is_pending s xs && not (ends_epoch s x.message)))
same_time s xs x e = grind (arith, common_steps, greatest-push, closed-push, greatest-present)

-- An accepted message of time u is of the greatest time, whose epoch isn't closed, or of a greater time.
pub data Follows (s : GatherSetup) (xs : List Timed) (u : ℕ) : Type 0 where
  first : greatest_time xs ≡ None → Follows s xs u
  greater : (t : ℕ) → greatest_time xs ≡ Some t → t < u → Follows s xs u
  equal : greatest_time xs ≡ Some u → is_closed s u xs ≡ false → Follows s xs u

pub at_self : (u : ℕ) (time : Option ℕ) → time ≡ Some u → option_map_or (λ v. v == u) time false ≡ true
at_self u time e = grind (arith, common_steps, e)

pub new_time : (s : GatherSetup) (xs : List Timed) (x : Timed) (u : ℕ) → x.time ≡ Some u → Follows s xs u
    → (greatest_time (xs ++ x ∷ []) ≡ Some u) × (is_pending s (xs ++ x ∷ []) ≡ not (ends_epoch s x.message))
new_time s xs x u e f = grind (arith, common_steps, at_self, greatest-push, closed-new, none-absent, greater-absent, closed-push, greatest-present)

-- The value of a clock after these messages.
abbrev pub standing : GatherSetup → List Timed → Bool → State
standing s xs shut = record { setup = s; latest = greatest_time xs; pending = is_pending s xs && not shut }

-- The message is one more of the list.
abbrev pub Takes : GatherSetup → List Timed → CellCounts → Heard → Bool → Type 0
Takes s xs n m shut = (kind_by (standing s xs shut) n m ≡ kind_after s xs n m) × (step_by (standing s xs shut) m ≡ standing s (xs ++ next s xs m ∷ []) false)

-- The message isn't of the station.
not_own : (s : GatherSetup) (xs : List Timed) (n : CellCounts) (m : Heard) (shut : Bool) → is_own s m ≡ false → closes_first s xs m ≡ shut → Takes s xs n m shut
not_own s xs n m shut own closes = grind (arith, common_steps, same_time, next)

and_false : (a : Bool) → false ≡ (a && false)
and_false a = grind (arith, common_steps)

abbrev state : GatherSetup → Option ℕ → Bool → State
state s latest pending = record { setup = s; latest = latest; pending = pending }

-- An own message without a time.
no_time : (s : GatherSetup) (xs : List Timed) (n : CellCounts) (m : Heard) (shut : Bool) → is_own s m ≡ true → m.tow ≡ None → closes_first s xs m ≡ shut
    → Takes s xs n m shut
no_time s xs n m shut own none closes = grind (arith, common_steps, same_time, next)

late_same : (s : GatherSetup) (xs : List Timed) (m : Heard) (tow : ℕ) (shut : Bool) → m.tow ≡ Some tow → closes_first s xs m ≡ shut
    → is_late_at (standing s xs shut) tow ≡ is_late s xs tow
late_same s xs m tow shut some closes = grind (arith, common_steps)

-- An own message that is late or after the last week.
not_taken : (s : GatherSetup) (xs : List Timed) (n : CellCounts) (m : Heard) {tow : ℕ} {shut : Bool} → is_own s m ≡ true → m.tow ≡ Some tow → closes_first s xs m ≡ shut
    → (is_late s xs tow || is_past (time_of s xs tow)) ≡ true
    → Takes s xs n m shut
not_taken s xs n m own some closes bad = grind (arith, common_steps, same_time, next, late_same, closes)

pub follows : (s : GatherSetup) (xs : List Timed) (tow : ℕ) → is_late s xs tow ≡ false → Follows s xs (time_of s xs tow)
follows s xs tow early = by (greatest_time xs) refl early where
  at_once : (t u : ℕ) (d : ℕ) → greatest_time xs ≡ Some t → u ≡ t + d → (nat_lt (week / 2) d || ((d == 0) && is_closed s t xs)) ≡ false → Follows s xs u
  at_once t u zero at e early = let same : t ≡ u = omega (arith, e) in subst (λ v. Follows s xs v) same (equal at early)
  at_once t u (suc d) at e early = greater t at (omega (arith, e))

  by : (g : Option ℕ) → greatest_time xs ≡ g → option_map_or (λ t. nat_lt (week / 2) (ahead t tow) || ((ahead t tow == 0) && is_closed s t xs)) g false ≡ false
      → Follows s xs (option_map_or (λ t. t + ahead t tow) g (first_week s.start tow * week + tow))
  by None at early = first at
  by (Some t) at early = at_once t (t + ahead t tow) (ahead t tow) at refl early

no_first : (s : GatherSetup) (xs : List Timed) (m : Heard) {tow : ℕ} {shut : Bool} → is_own s m ≡ true → m.tow ≡ Some tow → closes_first s xs m ≡ shut
    → is_late s xs tow ≡ false → is_past (time_of s xs tow) ≡ false → is_first_at (standing s xs shut) tow ≡ false
no_first s xs m own some closes early within = grind (arith, common_steps)

pub takes : (s : GatherSetup) (xs : List Timed) (n : CellCounts) (m : Heard) (shut : Bool) → closes_first s xs m ≡ shut → Takes s xs n m shut
takes s xs n m shut closes = by_own (is_own s m) m.tow refl refl where
  by_bad : (tow : ℕ) (bad late past : Bool) → is_own s m ≡ true → m.tow ≡ Some tow → is_late s xs tow ≡ late → is_past (time_of s xs tow) ≡ past
      → Takes s xs n m shut
  by_bad tow bad true past own some late is_over = not_taken s xs n m own some closes (ap (λ v. v || is_past (time_of s xs tow)) late)
  by_bad tow bad false true own some late is_over = not_taken s xs n m own some closes (ap₂ (λ v w. v || w) late is_over)
  by_bad tow bad false false own some early within =
      let u = time_of s xs tow in
      let taken : taken_at s xs m ≡ Some u = grind (arith, own, some, early, within) in
      let new = new_time s xs (next s xs m) u taken (follows s xs tow early) in
      let late = late_same s xs m tow shut some closes in
      let none_first = no_first s xs m own some closes early within in
      let step : step_by (standing s xs shut) m ≡ ended_where (ends_epoch s m) (record { setup = s; latest = Some u; pending = true }) =
      grind (arith, own, some, late, early, within, none_first) in
      (grind (arith, own, some, late, early, within, none_first), step ∙ (grind (arith, common_steps)))

  by_own : (own : Bool) (tow : Option ℕ) → is_own s m ≡ own → m.tow ≡ tow → Takes s xs n m shut
  by_own false tow own some = not_own s xs n m shut own closes
  by_own true None own some = no_time s xs n m shut own some closes
  by_own true (Some tow) own some = by_bad tow true _ _ own some refl refl

-- A message that closes first isn't.
pub closes : (s : GatherSetup) (xs : List Timed) (n : CellCounts) (m : Heard) → closes_first s xs m ≡ true
    → (kind_by (standing s xs false) n m ≡ CloseFirst) × (step_by (standing s xs false) m ≡ standing s xs true)
closes s xs n m h = grind (arith, common_steps, and_false)
