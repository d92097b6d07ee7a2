use Rattle.rtcm_command.proofs.Names.{◌≡◌, ◌↔◌, ◌<◌, ◌^◌, ⊤, ap, unwrap_or, ℕ, List, Option, Some, None, Result, Ok, Err, arith, decimal, refl, subst, sym, ◌∙◌, IsNumberOf, IsNumberOr, IsStartOf, IsWeekOf, Start, Week, codes, first_of}
use Rattle.std.proofs.lemmas.Fmt.{parse-decimal}
use Rattle.rtcm_command.proofs.laws.numbers.Goals as goal

number_read : (bits n : ℕ) (found : Option ℕ) → n < 2 ^ bits → n < 2 ^ 64 → IsNumberOf bits (Some (decimal n)) found → found ≡ Some n
number_read bits n None small fits h = absurd (let bad : ◌≡◌ {A = Result ℕ ⊤} (Err tt) (Ok n) = parse-decimal {E = ⊤} bits n (decimal n) (Err tt) small fits refl h in cc)
number_read bits n (Some m) small fits h = let same : ◌≡◌ {A = Result ℕ ⊤} (Ok m) (Ok n) = parse-decimal {E = ⊤} bits n (decimal n) (Ok m) small fits refl h in cc

leap_read : (n m otherwise : ℕ) → n < 2 ^ 8 → IsNumberOr 8 otherwise (Some (decimal n)) m → m ≡ n
leap_read n m otherwise small (found, h, is) = is ∙ ap (λ (o : Option ℕ). unwrap_or o otherwise) (number_read 8 n found small (omega (arith, small)) h)

-- a week alone
week_read : (n : ℕ) (near : Option (List ℕ)) (start : Start) → ((m : ℕ) → IsWeekOf (decimal n) m ↔ (m ≡ n)) → IsStartOf (Some (decimal n)) near start ↔ ((near ≡ None) × (start ≡ Week n))
week_read n None start read = (λ h. (refl, h.2 ∙ ap Week ((read h.0).0 h.1)), λ h. (n, (read n).1 refl, h.1))
week_read n (Some date) start read = (λ h. absurd h, λ h. absurd (let bad : ◌≡◌ {A = Option (List ℕ)} (Some date) None = h.0 in cc))

pub returns : goal.returns
returns c = record {
  week = λ options n start small is. subst (λ (t : Option (List ℕ)). IsStartOf t (first_of (codes "near") options) start ↔ ((first_of (codes "near") options ≡ None) × (start ≡ Week n))) (sym is)
      (week_read n (first_of (codes "near") options) start (λ m. c.near.ensures.read n m small));
  leap = λ options n m otherwise small is h. leap_read n m otherwise small (subst (λ (t : Option (List ℕ)). IsNumberOr 8 otherwise t m) is h);
  station = λ options n found small is h. number_read 16 n found small (omega (arith, small)) (subst (λ (t : Option (List ℕ)). IsNumberOf 16 t found) is h);
}
