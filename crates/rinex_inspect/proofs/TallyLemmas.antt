-- The tallies of a satellite after one line more, and equal tallies.
use Rattle.rinex_inspect.proofs.Names.{◌≡◌, ◌∙◌, ◌+◌, ◌<◌, ◌∷◌, [], ℕ, zero, suc, List, length, get_or, set, take, refl, ap, ap₂, sym, arith, add-one, SignalValues, Tally, added, with_values}

pub added_none : (ts : List Tally) → added ts [] ≡ ts
added_none [] = refl
added_none (t ∷ ts) = refl

pub length_added : (ts : List Tally) (es : List SignalValues) → length (added ts es) ≡ length ts
length_added [] es = refl
length_added (t ∷ ts) [] = refl
length_added (t ∷ ts) (e ∷ es) = ap suc (length_added ts es)

-- the values of one signal more
pub added_more : (ts : List Tally) (es : List SignalValues) (k : ℕ) (t : Tally) (e : SignalValues) → k < length es → k < length ts
    → set (added ts (take k es)) k (with_values (get_or (added ts (take k es)) k t) (get_or es k e)) ≡ added ts (take (suc k) es)
added_more [] es k t e fits few = absurd (omega (arith, few))
added_more (u ∷ ts) [] k t e fits few = absurd (omega (arith, fits))
added_more (u ∷ ts) (x ∷ es) zero t e fits few = ap (λ (l : List Tally). with_values u x ∷ l) (sym (added_none ts))
added_more (u ∷ ts) (x ∷ es) (suc k) t e fits few = ap (λ (l : List Tally). with_values u x ∷ l) (added_more ts es k t e (omega (arith, fits)) (omega (arith, few)))

pub added_step : {now : List Tally} {r : Tally} (ts : List Tally) (es : List SignalValues) (k : ℕ) (d : Tally) (e : SignalValues) → now ≡ added ts (take k es) → r ≡ with_values (get_or now k d) e → e ≡ get_or es k e → k < length es → k < length ts
    → set now k r ≡ added ts (take (k + 1) es)
added_step ts es k d e is with at fits few =
    ap₂ (λ (l : List Tally) (t : Tally). set l k t) is (with ∙ ap₂ (λ (l : List Tally) (x : SignalValues). with_values (get_or l k d) x) is at)
    ∙ added_more ts es k d e fits few ∙ ap (λ (n : ℕ). added ts (take n es)) (sym (add-one k))

-- equal numbers are equal tallies
pub tally_is : {a b : Tally} → a.c ≡ b.c → a.l ≡ b.l → a.d ≡ b.d → a.s ≡ b.s → a.lost ≡ b.lost → a.half ≡ b.half → a.strength ≡ b.strength → a ≡ b
tally_is c l d s lost half strength = λ i. record { c = c i; l = l i; d = d i; s = s i; lost = lost i; half = half i; strength = strength i }
