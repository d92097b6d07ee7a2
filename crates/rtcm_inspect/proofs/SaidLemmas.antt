-- What the ephemerides of a stream say of the week, after one more frame.
use Rattle.rtcm_inspect.proofs.Names.{◌^◌, IfSome, suc, zero, get_or_past, Any-from_list_any, list_any_at, SentWeek, greatest_in, rest_by, rests_in, said_after, said_at, whole_by, whole_in, AreSaid, AreSaidIn, common_steps, ◌≡◌, ◌∙◌, ◌<◌, ◌==◌, ◌&&◌, ◌||◌, ◌++◌, ℕ, Bool, true, false, List, [], ◌∷◌, Option, Some, None, arith, below, get_or, length, list_any, list_any-append, option_and_then, option_to_list, refl, subst, sym, Framed, sent_week, SaidWeeks}

-- ---- one more frame

said_more : (says : ℕ → SentWeek → Option ℕ) (wanted : Option ℕ) (earlier fs : List Framed) (f : Framed)
    → said_after says wanted earlier (fs ++ f ∷ []) ≡ said_after says wanted earlier fs ++ option_to_list (said_at says wanted (earlier ++ fs) f)
said_more says wanted earlier [] f = grind (arith, common_steps)
said_more says wanted earlier (g ∷ fs) f = grind (arith, common_steps, (said_more says wanted (earlier ++ g ∷ []) fs f))

-- what the frame says, by the message and the greatest time before it
said_of : (says : ℕ → SentWeek → Option ℕ) (wanted : Option ℕ) (fs : List Framed) (f : Framed) (message : List ℕ) {t : Option ℕ} {e : Option SentWeek} → f.message ≡ message → e ≡ sent_week message
    → t ≡ greatest_in wanted fs → said_at says wanted fs f ≡ option_and_then (λ t. option_and_then (says t) e) t
said_of says wanted fs f message is sent greatest = grind arith

pub no_sender : (o : Option ℕ) (says : ℕ → SentWeek → Option ℕ) → option_and_then (λ t. option_and_then (says t) None) o ≡ None
no_sender o says = grind arith

pub said_now : (says : ℕ → SentWeek → Option ℕ) (wanted : Option ℕ) (fs : List Framed) (f : Framed) (message : List ℕ) {t : Option ℕ} {e : Option SentWeek} {said : Option ℕ} → f.message ≡ message → e ≡ sent_week message
    → t ≡ greatest_in wanted fs → option_and_then (λ t. option_and_then (says t) e) t ≡ said
    → said_after says wanted [] (fs ++ f ∷ []) ≡ said_after says wanted [] fs ++ option_to_list said
said_now says wanted fs f message is sent greatest said = grind (arith, common_steps, said_more, said_of)

-- a frame that says nothing
pub nothing_said : {x : SaidWeeks} {wanted : Option ℕ} {fs : List Framed} (f : Framed) (message : List ℕ) {t : Option ℕ} {e : Option SentWeek} → f.message ≡ message → e ≡ sent_week message → t ≡ greatest_in wanted fs
    → ((says : ℕ → SentWeek → Option ℕ) → option_and_then (λ t. option_and_then (says t) e) t ≡ None) → AreSaidIn x wanted fs → AreSaidIn x wanted (fs ++ f ∷ [])
nothing_said f message is sent greatest none h = grind (arith, common_steps, said_now)

-- a frame with an ephemeris, after others that have a greatest time
pub both_said : {x y : SaidWeeks} {wanted : Option ℕ} {fs : List Framed} (f : Framed) (message : List ℕ) (t : ℕ) (e : SentWeek) {whole rest : Option ℕ} → f.message ≡ message → Some e ≡ sent_week message → Some t ≡ greatest_in wanted fs
    → whole ≡ whole_by t e → rest ≡ rest_by t e → (AreSaid x.whole 16_384 (whole_in wanted fs) → AreSaid y.whole 16_384 (whole_in wanted fs ++ option_to_list whole))
    → (AreSaid x.rests 1_024 (rests_in wanted fs) → AreSaid y.rests 1_024 (rests_in wanted fs ++ option_to_list rest)) → AreSaidIn x wanted fs → AreSaidIn y wanted (fs ++ f ∷ [])
both_said {x} {y} {wanted} {fs} f message t e is sent greatest whole rest more rests h = grind (arith, common_steps, said_now)

-- a set has a place for it
pub whole_small : (t : ℕ) (e : SentWeek) {o : Option ℕ} → o ≡ whole_by t e → e.week < 2 ^ 14 → IfSome o (λ n. n < 2 ^ 14)
whole_small t e is small = grind arith

pub rest_small : (t : ℕ) (e : SentWeek) {o : Option ℕ} → o ≡ rest_by t e → IfSome o (λ n. n < 1_024)
rest_small t e is = grind arith

-- ---- the weeks of a set

in_below : (q : ℕ → Bool) (n m : ℕ) → m < n → q m ≡ true → list_any q (below n) ≡ true
in_below q zero m less is = absurd (omega (arith, less))
in_below q (suc n) m less is = list_any-append q (below n) (n ∷ []) ∙ by (m == n) refl (λ apart. in_below q n m apart is) where
  by : (b : Bool) → (m == n) ≡ b → (m < n → list_any q (below n) ≡ true) → (list_any q (below n) || (q n || false)) ≡ true
  by b h1 h2 = grind arith

iff_same : (a b : Bool) → (a ≡ true → b ≡ true) → (b ≡ true → a ≡ true) → a ≡ b
iff_same a b to from = grind arith

within : (added : List Bool) (m : ℕ) → get_or added m false ≡ true → m < length added
within added m e = grind (arith, get_or_past)

pub any_added : (p : ℕ → Bool) (added : List Bool) (size : ℕ) (ns : List ℕ) → length added ≡ size → ((k : ℕ) → get_or added k false ≡ list_any (λ m. m == k) ns)
    → list_any (λ i. get_or added i false && p i) (below size) ≡ list_any p ns
any_added p added size ns is h = iff_same (list_any q (below size)) (list_any p ns) to from where
  q : ℕ → Bool
  q i = get_or added i false && p i

  both : (a b : Bool) → a ≡ true → b ≡ true → (a && b) ≡ true
  both a b h1 h2 = grind arith

  to : list_any q (below size) ≡ true → list_any p ns ≡ true
  to h1 = grind (arith, within, Any-from_list_any, list_any_at)

  from : list_any p ns ≡ true → list_any q (below size) ≡ true
  from some =
      let (j, m, inside, there, holds) = Any-from_list_any p ns some in
      let itself : (m == m) ≡ true = grind arith in
      let added_m : get_or added m false ≡ true = h m ∙ list_any_at (λ k. k == m) ns j m inside (subst (λ (n : ℕ). (n == m) ≡ true) (sym there) itself) in
      let less : m < size = subst (λ (n : ℕ). m < n) is (within added m added_m) in
      in_below q size m less (both (get_or added m false) (p m) added_m holds)
