-- The table that finds the cell of a key.
use Rattle.gnss_obs.proofs.Names.{◌≡◌, ℕ, suc, zero, ◌<◌, ◌≤◌, Bool, true, false, List, [], ◌∷◌, ◌++◌, map, set, sym, ap, ◌∙◌, arith, length, get_or, nat_eq, AllByRecursion, get_or-set_same, get_or-set_other, get_or_append_left, get_or-append-add, get_or-map, length-map, length-append, map-append, Cell, slot, has_slot, IsFound, common_steps}
use Rattle.gnss_obs.specs.inner.Arriving.{AreFound}

-- ---- whether a key is kept

any_get : (slots : List ℕ) (k s : ℕ) → k < length slots → get_or slots k 0 ≡ s → has_slot s slots ≡ true
any_get [] k s h e = absurd (omega (arith, h))
any_get (t ∷ slots) zero s h e = grind (arith, e)
any_get (t ∷ slots) (suc k) s h e = grind (arith, common_steps, any_get slots k s (omega (arith, h)) e)

found_any : (table slots : List ℕ) (s : ℕ) (rs : List ℕ) → AllByRecursion (IsFound table slots) rs → has_slot s rs ≡ true → IsFound table slots s
found_any table slots s [] all e = cc
found_any table slots s (r ∷ rs) all e = grind (arith, found_any table slots s rs all.1)

-- The key of an entry is kept exactly if the entry is the index of a cell of that key.
found_is : (table slots : List ℕ) (s : ℕ) → AllByRecursion (IsFound table slots) slots → (b : Bool) → has_slot s slots ≡ b
    → ((get_or table s 0 < length slots) × (get_or slots (get_or table s 0) 0 ≡ s) → b ≡ true) × (b ≡ true → (get_or table s 0 < length slots) × (get_or slots (get_or table s 0) 0 ≡ s))
found_is table slots s all b e = ((λ h. sym e ∙ any_get slots (get_or table s 0) s h.0 h.1), λ h. found_any table slots s slots all (e ∙ h))

pub found_here : (table : List ℕ) (cells : List Cell) (s : ℕ) {c : Cell} → AreFound table cells → get_or table s 0 < length cells
    → c ≡ get_or cells (get_or table s 0) c → nat_eq (slot c) s ≡ has_slot s (map slot cells)
found_here table cells s {c} all less is = grind (arith, get_or-map, found_is, length-map)

pub found_none : (table : List ℕ) (cells : List Cell) (s : ℕ) → AreFound table cells → length cells ≤ get_or table s 0 → false ≡ has_slot s (map slot cells)
found_none table cells s all none = grind (arith, found_any, length-map)

-- ---- one more cell

found_one : (table slots : List ℕ) (s : ℕ) → s < length table → IsFound (set table s (length slots)) (slots ++ s ∷ []) s
found_one table slots s h = grind (arith, common_steps, get_or-set_same, length-append, get_or-append-add)

found_more : (table slots : List ℕ) (s : ℕ) → s < length table → (rs : List ℕ) → AllByRecursion (IsFound table slots) rs
    → AllByRecursion (IsFound (set table s (length slots)) (slots ++ s ∷ [])) (rs ++ s ∷ [])
found_more table slots s h [] all = (found_one table slots s h, tt)
found_more table slots s h (r ∷ rs) all = grind (arith, found_one, found_more table slots s h rs all.1, get_or-set_other, length-append, get_or_append_left)

pub slots_push : (cells : List Cell) (s : ℕ) (x : Cell) → s ≡ slot x → map slot (cells ++ x ∷ []) ≡ map slot cells ++ s ∷ []
slots_push cells s x is = map-append slot cells (x ∷ []) ∙ ap (λ k. map slot cells ++ k ∷ []) (sym is)

pub found_push : (table : List ℕ) (cells : List Cell) {s : ℕ} (x : Cell) → s ≡ slot x → s < length table → AreFound table cells → AreFound (set table s (length cells)) (cells ++ x ∷ [])
found_push table cells {s} x is within all = grind (arith, slots_push, length-map, found_more)
