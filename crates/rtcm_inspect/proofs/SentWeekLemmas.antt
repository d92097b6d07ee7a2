-- Times of a conversion are those counted from week 0, after the begin of the start week.
use Rattle.rtcm_inspect.proofs.Names.{fold, week, weeks, SentWeek, with_tow, half_week, first_week, given, whole_by, ◌≡◌, ◌∙◌, ◌+◌, ◌*◌, ◌/◌, ◌<◌, ◌≤◌, ◌||◌, ◌++◌, ℕ, Bool, true, false, List, [], ◌∷◌, Option, Some, None, ahead, ap, arith, cons_option, greatest_time, is_own, is_past, max_known, nat_lt, option_map, refl, sym, taken_at, timed_after, if◌then◌else◌, GatherSetup, Heard, Timed, Start, IsCountedFromStart, IsInSentWeek, own_tows}
use Rattle.rtcm_inspect.proofs.WeekLemmas.{not_past, placed}

-- ---- the greatest time so far

known_again : (a b c : Option ℕ) → max_known a (max_known b c) ≡ max_known (max_known a b) c
known_again a b c = grind arith

none_known : (o : Option ℕ) → max_known o None ≡ o
none_known o = grind arith

-- of one more message
greatest_more : (xs : List Timed) (x : Timed) → greatest_time (xs ++ x ∷ []) ≡ max_known (greatest_time xs) x.time
greatest_more [] x = none_known x.time
greatest_more (y ∷ ys) x = ap (max_known y.time) (greatest_more ys x) ∙ known_again y.time (greatest_time ys) x.time

-- it doesn't fall
pub not_less : (u tow : ℕ) → (v : ℕ) × (with_tow (Some u) tow ≡ Some v) × (u ≤ v)
not_less u tow = by (nat_lt half_week (ahead u tow) || is_past (u + ahead u tow)) refl where
  by : (b : Bool) → (nat_lt half_week (ahead u tow) || is_past (u + ahead u tow)) ≡ b → (v : ℕ) × ((if b then Some u else Some (u + ahead u tow)) ≡ Some v) × (u ≤ v)
  by true e = (u, refl, omega arith)
  by false e = (u + ahead u tow, refl, omega arith)

some_same : (a b : ℕ) → ◌≡◌ {A = Option ℕ} (Some a) (Some b) → a ≡ b
some_same a b e = cc

at_least : (u t : ℕ) (tows : List ℕ) → fold with_tow (Some u) tows ≡ Some t → u ≤ t
at_least u t [] e = omega (arith, some_same u t e)
at_least u t (tow ∷ tows) e =
    let (v, is, more) = not_less u tow in
    let later : v ≤ t = at_least v t tows (sym (ap (λ (o : Option ℕ). fold with_tow o tows) is) ∙ e) in
    omega (arith, more, later)

-- ---- one more message

abbrev from_start : ℕ → Option ℕ → Option ℕ
from_start w o = option_map (λ t. w * week + t) o

step_some : (s : GatherSetup) (earlier : List Timed) (n u tow v : ℕ) → greatest_time earlier ≡ Some (n * week + u) → with_tow (Some u) tow ≡ Some v → n * week + v < weeks * week
    → max_known (greatest_time earlier) (placed s earlier (greatest_time earlier) tow) ≡ Some (n * week + v)
step_some s earlier n u tow v is next small = grind arith

-- ---- all messages

abbrev own : GatherSetup → Heard → Option ℕ
own s m = if is_own s m then m.tow else None

-- one more message: the greatest time is that which is counted
one_more : (s : GatherSetup) (earlier : List Timed) (m : Heard) (g : Option ℕ) (o : Option ℕ) (tows : List ℕ) (n t : ℕ) → ((tow : ℕ) → first_week s.start tow ≡ n) → own s m ≡ o → greatest_time earlier ≡ from_start n g → fold with_tow g (cons_option o tows) ≡ Some t
    → n * week + t < weeks * week
    → (h : Option ℕ) × (greatest_time (earlier ++ record { message = m; time = taken_at s earlier m } ∷ []) ≡ from_start n h) × (fold with_tow h tows ≡ Some t)
one_more s earlier m g o tows n t begins is before all small = grind (arith, greatest_more, none_known, at_least, not_past, not_less, step_some)

counted_after : (s : GatherSetup) (ms : List Heard) (earlier : List Timed) (g : Option ℕ) (n t : ℕ) → ((tow : ℕ) → first_week s.start tow ≡ n) → greatest_time earlier ≡ from_start n g → fold with_tow g (own_tows s ms) ≡ Some t → n * week + t < weeks * week
    → greatest_time (timed_after s earlier ms) ≡ Some (n * week + t)
counted_after s [] earlier g n t begins before all small = before ∙ ap (from_start n) all
counted_after s (m ∷ ms) earlier g n t begins before all small =
    let (h, now, rest) = one_more s earlier m g (own s m) (own_tows s ms) n t begins refl before all small in
    counted_after s ms (earlier ++ record { message = m; time = taken_at s earlier m } ∷ []) h n t begins now rest small

pub counted_from_start : IsCountedFromStart
counted_from_start s ms n t starts all small = counted_after s ms [] None n t (λ tow. ap (λ (x : Start). first_week x tow) starts ∙ given n tow) refl all small

-- ---- an ephemeris

said_parts : (t start : ℕ) (e : SentWeek) → whole_by t e ≡ Some start → e.week ≡ start + t / week
said_parts t start e h = grind arith

in_week : (start t w : ℕ) → w ≡ start + t / week → w < weeks → (start * week + t < weeks * week) × ((start * week + t) / week ≡ w)
in_week start t w is small = (omega (arith, is, small), omega (arith, is))

pub in_sent_week : IsInSentWeek
in_sent_week s ms n t e starts all says small =
    let (within, same) = in_week n t e.week (said_parts t n e says) small in
    (n * week + t, counted_from_start s ms n t starts all within, same)
