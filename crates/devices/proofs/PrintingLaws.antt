-- Texts written in one call, and failed calls.
use Rattle.devices.proofs.Names.{◌≡◌, ◌∙◌, ◌++◌, ap, sym, append_assoc, List, Option, Appends, Keeps, AppendsPrefix, Writer, EndsDelivery, EndsPrinting, IsDelivered, PrintsText, IsPrefix, Appends-kept, Appends-trans, common_steps, arith, MatchResult, Err, Ok, Result, ℕ, append-nil, IsErrAnd}

-- a text that was written, and then delivered or not
pub then_delivered : {A F W : Type 0} (failed : F) (r : Result A F) (w w1 w2 : Writer W) (text : List ℕ) → w1.device.failures ≡ w.device.failures
    → Appends w.written w1.written text → EndsDelivery failed r w1 w2 → EndsPrinting failed r text w w2
then_delivered failed r w w1 w2 text fine went h = grind (arith, common_steps, append-nil, Appends-kept)

pub kept_appends : (a b c : Option (List ℕ)) (text : List ℕ) → Keeps a b → Appends b c text → Appends a c text
kept_appends a b c text k h = grind (arith, common_steps)

-- how the printing of a text ended
pub record Printed {A F W : Type 0} (failed : F) (r : Result A F) (w w2 : Writer W) (text : List ℕ) : Type 0 where
  pub ends : EndsPrinting failed r text w w2

-- a text, given in other terms, that was written after a delivery
pub printed_later : {A F W : Type 0} {w : Writer W} {x text : List ℕ} (failed : F) (r : Result A F) (w1 w2 : Writer W)
    → (w1.device.failures ≡ w.device.failures) × IsDelivered w w1 → x ≡ text → EndsPrinting failed r x w1 w2 → Printed failed r w w2 text
printed_later {w = w} failed r w1 w2 kept same h = grind (arith, common_steps, kept_appends)

-- a result whose fault was replaced
pub unmapped : {T D E : Type 0} (Q : D → E → Type 0) (r : Result T D) (s : Result T E) (t : T) → MatchResult r (λ x. s ≡ Ok x) (λ e. IsErrAnd s (Q e)) → s ≡ Ok t → r ≡ Ok t
unmapped Q r s t is ok = grind (arith, common_steps)

part_after : (a b c : Option (List ℕ)) (x y : List ℕ) → Appends a b x → AppendsPrefix b c y → AppendsPrefix a c (x ++ y)
part_after a b c x y first (rest, (sent, split, went)) = (rest, (x ++ sent, ap (λ l. x ++ l) split ∙ sym (append_assoc x sent rest), Appends-trans a b c x sent first went))

-- a text that was written after another one
pub printed_after : {A F W : Type 0} (failed : F) (r : Result A F) (w w1 w2 : Writer W) (x y : List ℕ) → PrintsText x w w1 → EndsPrinting failed r y w1 w2
    → EndsPrinting failed r (x ++ y) w w2
printed_after failed (Ok u) w w1 w2 x y first next = (next.0 ∙ first.0, next.1, Appends-trans _ _ _ x y first.2 next.2)
printed_after failed (Err fault) w w1 w2 x y first next = (next.0, (rw (← first.0) next.1.0, part_after _ _ _ x y first.2 next.1.1))

-- a prefix of a text is one of a longer text
pub longer_part : (a b : Option (List ℕ)) (x y : List ℕ) → AppendsPrefix a b x → IsPrefix x y → AppendsPrefix a b y
longer_part a b x y h p = grind (arith, common_steps)
