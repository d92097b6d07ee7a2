use Rattle.rinex_file.proofs.Fields.Columns.{blank_columns, field_text}
use Rattle.rinex_file.proofs.Digits.Padded.{empty_columns, three_digits}
use Rattle.rinex_file.proofs.Names.{not_negative, arith, ◌≡◌, ◌∙◌, sym, ap, ap₂, refl, ℕ, List, [], ◌∷◌, ◌++◌, ◌+◌, ◌/◌, ◌%◌, ◌<◌, ◌≤◌, length, replicate, decimal, pos, Some, Bool, decimal_digit, decimal_step, field, padded}
use Rattle.rinex_file.proofs.write.lanes.columns_of.Goals as goal

-- a point, the digits of thousandths and two blanks
end : (n : ℕ) → List ℕ
end n = 46 ∷ (48 + n % 1000 / 100) ∷ (48 + n % 1000 % 100 / 10) ∷ (48 + n % 1000 % 100 % 10) ∷ 32 ∷ 32 ∷ []

end_is : (n : ℕ) → end n ≡ 46 ∷ padded 3 (n % 1000) ++ 32 ∷ 32 ∷ []
unfolding end
end_is n = grind (arith, three_digits)

-- a value with these digits before its point
whole : (n start : ℕ) (d : List ℕ) → decimal (n / 1000) ≡ d → start + length d ≡ 10 → replicate start 32 ++ (d ++ end n) ≡ field (Some (pos n)) 32 32
whole n start d is size =
    ap₂ (λ a r. a ++ (d ++ r)) (sym (blank_columns start)) (end_is n)
    ∙ ap₂ (λ (b : Bool) l. empty_columns b start ++ (l ++ (46 ∷ padded 3 (n % 1000) ++ 32 ∷ 32 ∷ []))) (sym (not_negative n)) (sym is)
    ∙ sym (field_text (pos n) start 32 32 (ap (λ l. start + length l) is ∙ size) (λ minus. cc (sym (not_negative n) ∙ minus)))

one_digit : (n : ℕ) → n < 10_000 → replicate 9 32 ++ (48 + n / 1000 % 10) ∷ end n ≡ field (Some (pos n)) 32 32
one_digit n h = whole n 9 _ (decimal_digit (n / 1000) (omega (arith, h)) ∙ ap (λ k. (48 + k) ∷ []) (omega (arith, h))) refl

two_digits : (n : ℕ) → 10_000 ≤ n → n < 100_000 → replicate 8 32 ++ (48 + n / 1000 / 10) ∷ (48 + n / 1000 % 10) ∷ end n ≡ field (Some (pos n)) 32 32
two_digits n h k =
    whole n 8 _ (decimal_step (n / 1000) (omega (arith, h)) (omega (arith, k)) ∙ ap (λ l. l ++ (48 + n / 1000 % 10) ∷ []) (decimal_digit (n / 1000 / 10) (omega (arith, k)))) refl

pub returns-then-value-lt10000 : goal.returns-then-value-lt10000
unfolding end
returns-then-value-lt10000 c = grind (arith, one_digit)

pub returns : goal.returns
unfolding end
returns c = grind (arith, two_digits)
