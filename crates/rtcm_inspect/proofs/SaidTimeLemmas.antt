-- The weeks that ephemerides say, the time near another one, and the greatest time of a stream with an ephemeris.
use Rattle.rtcm_inspect.proofs.Names.{◌≡◌, ◌+◌, ◌<◌, ◌++◌, ℕ, List, [], ◌∷◌, Option, Some, None, true, append_assoc, ap, arith, common_steps, fold, is_some, length, length-append, length-take, option_and_then, option_to_list, refl, subst, sym, take, Framed, SentWeek, counted_before, counted_tows, greatest_at_first, greatest_in, greatest_of, said_after, said_at, with_tow}
use Rattle.rtcm_msg.specs.Weeks.{sent_week}
use Rattle.rtcm_inspect.proofs.CountedLemmas.{filter_map-push}
use Rattle.rtcm_inspect.proofs.FirstMsmLemmas.{found}
use Rattle.rtcm_inspect.proofs.SentWeekLemmas.{not_less}
use Rattle.rtcm_inspect.specs.SentWeekLaws.{AreWeeksSaid, HasGreatest, IsNearestTime}

pub weeks_said : AreWeeksSaid
weeks_said t d e = (λ is. grind (arith, common_steps), λ is. grind (arith, common_steps))

pub nearest_time : IsNearestTime
nearest_time t tow small late = grind (arith, common_steps)

-- ---- the greatest time

stays : (u : ℕ) (tows : List ℕ) → is_some (fold with_tow (Some u) tows) ≡ true
stays u [] = refl
stays u (tow ∷ tows) = let (v, is, more) = not_less u tow in subst (λ (o : Option ℕ). is_some (fold with_tow o tows) ≡ true) (sym is) (stays v tows)

-- a list of times of week has one, unless it is empty
some_greatest : (tows : List ℕ) → 0 < length tows → is_some (greatest_of tows) ≡ true
some_greatest [] some = grind arith
some_greatest (t ∷ tows) some = stays t tows

some_tows : (tows : List ℕ) (t : ℕ) → greatest_of tows ≡ Some t → 0 < length tows
some_tows [] t is = cc
some_tows (u ∷ tows) t is = grind arith

grows : (wanted : Option ℕ) (fs : List Framed) (f : Framed) → 0 < length (counted_tows wanted fs) → 0 < length (counted_tows wanted (fs ++ f ∷ []))
grows wanted fs f some = grind (arith, filter_map-push, length-append {A = ℕ})

all_grow : (wanted : Option ℕ) (fs more : List Framed) → 0 < length (counted_tows wanted fs) → 0 < length (counted_tows wanted (fs ++ more))
all_grow wanted fs [] some = grind (arith, common_steps)
all_grow wanted fs (f ∷ more) some = grind (arith, append_assoc, grows, all_grow wanted (fs ++ f ∷ []) more (grows wanted fs f some))

-- an ephemeris says a week only after a time
said_later : (says : ℕ → SentWeek → Option ℕ) (wanted : Option ℕ) (earlier fs : List Framed) → 0 < length (said_after says wanted earlier fs) → 0 < length (counted_tows wanted (earlier ++ fs))
said_later says wanted earlier [] some = grind arith
said_later says wanted earlier (f ∷ fs) some = by (said_later says wanted (earlier ++ f ∷ []) fs) (greatest_in wanted earlier) refl where
  by : (0 < length (said_after says wanted (earlier ++ f ∷ []) fs) → 0 < length (counted_tows wanted ((earlier ++ f ∷ []) ++ fs))) → (o : Option ℕ) → greatest_in wanted earlier ≡ o → 0 < length (counted_tows wanted (earlier ++ f ∷ fs))
  by later (Some t) is = all_grow wanted earlier (f ∷ fs) (some_tows (counted_tows wanted earlier) t is)
  by later None is =
      let none : said_at says wanted earlier f ≡ None = ap (λ (o : Option ℕ). option_and_then (λ (t : ℕ). option_and_then (says t) (sent_week f.message)) o) is in
      let rest : 0 < length (said_after says wanted (earlier ++ f ∷ []) fs) = subst (λ (o : Option ℕ). 0 < length (option_to_list o ++ said_after says wanted (earlier ++ f ∷ []) fs)) none some in
      subst (λ (l : List Framed). 0 < length (counted_tows wanted l)) (append_assoc earlier (f ∷ []) fs) (later rest)

some_taken : (n : ℕ) (tows : List ℕ) → 0 < length tows → 0 < length (take (n + 1) tows)
some_taken n tows some = grind (arith, length-take)

pub has_greatest : HasGreatest
has_greatest says set wanted fs some =
    let tows : List ℕ = counted_tows wanted fs in
    found (greatest_at_first set wanted fs) (some_greatest (take (counted_before set wanted fs + 1) tows) (some_taken (counted_before set wanted fs) tows (said_later says wanted [] fs some)))
