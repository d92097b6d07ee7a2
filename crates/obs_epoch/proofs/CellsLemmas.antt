-- The kept cells of a list after one more cell.
use Rattle.obs_epoch.proofs.Names.{[], ◌≡◌, ℕ, Bool, true, false, not, ◌||◌, ◌&&◌, List, ◌∷◌, ◌++◌, refl, sym, ap, ◌∙◌, arith, take, length, filter, append_assoc, append-nil, nat_le, if◌then◌else◌, filter-append, System, firsts, firsts_after, is_among, is_of_system, kept, add, has_same_key, most_cells, HeardCell, common_steps}
use Rattle.std.specs.Cmp.{IsEquivalence}
use Rattle.std.proofs.lemmas.Map.Views.{any-filter_same}

abbrev pub new_key : List HeardCell → HeardCell → List HeardCell
new_key earlier x = if is_among earlier x then [] else x ∷ []

firsts_after-push : (earlier xs : List HeardCell) (y : HeardCell) → firsts_after earlier (xs ++ y ∷ []) ≡ firsts_after earlier xs ++ new_key (earlier ++ xs) y
firsts_after-push earlier [] y = append-nil (new_key earlier y) ∙ ap (λ l. new_key l y) (sym (append-nil earlier))
firsts_after-push earlier (x ∷ xs) y = grind (arith, common_steps, append_assoc, firsts_after-push (earlier ++ x ∷ []) xs y)

-- One more cell is the first of its key if no earlier cell has its key.
pub firsts-push : (xs : List HeardCell) (y : HeardCell) → firsts (xs ++ y ∷ []) ≡ firsts xs ++ new_key xs y
firsts-push xs y = firsts_after-push [] xs y

-- ---- keys

pub same_key_laws : IsEquivalence has_same_key
same_key_laws = record { refl = λ x. grind (arith, common_steps); symm = λ x y. grind (arith, common_steps); congr = λ x y z h. grind (arith, common_steps) }

-- Cells of the same key are of the same system.
pub key_system : (system : System) (x y : HeardCell) → has_same_key x y ≡ true → is_of_system system x ≡ is_of_system system y
key_system system x y h = grind (arith, common_steps)

-- ---- the first cells have all keys

pub among-push : (xs : List HeardCell) (x y : HeardCell) → is_among (xs ++ x ∷ []) y ≡ (is_among xs y || has_same_key y x)
among-push xs x y = grind (arith, common_steps)

among_after : (earlier xs : List HeardCell) (x y : HeardCell)
    → (is_among (earlier ++ x ∷ []) y || is_among (firsts_after (earlier ++ x ∷ []) xs) y) ≡ (is_among (earlier ++ x ∷ []) y || is_among xs y)
    → (is_among earlier y || is_among ((if is_among earlier x then [] else x ∷ []) ++ firsts_after (earlier ++ x ∷ []) xs) y) ≡ (is_among earlier y || (has_same_key y x || is_among xs y))
among_after earlier xs x y h = grind (arith, common_steps)

firsts_after-among : (earlier xs : List HeardCell) (y : HeardCell) → (is_among earlier y || is_among (firsts_after earlier xs) y) ≡ (is_among earlier y || is_among xs y)
firsts_after-among earlier [] y = refl
firsts_after-among earlier (x ∷ xs) y = among_after earlier xs x y (firsts_after-among (earlier ++ x ∷ []) xs y)

-- ---- the kept cells, cell by cell

-- The first cells of a system, kept or not.
abbrev pub mine : System → List HeardCell → List HeardCell
mine system xs = filter (is_of_system system) (firsts xs)

pub mine-among : (system : System) (xs : List HeardCell) (y : HeardCell) → is_of_system system y ≡ true → is_among (mine system xs) y ≡ is_among xs y
mine-among system xs y of =
    any-filter_same (has_same_key y) (is_of_system system) true (λ k same. sym (key_system system y k same) ∙ of) (firsts xs) ∙ firsts_after-among [] xs y

abbrev add_to : ℕ → List HeardCell → HeardCell → List HeardCell
add_to n ks y = if is_among ks y || nat_le n (length ks) then ks else ks ++ y ∷ []

added_to : (n : ℕ) (l : List HeardCell) (y : HeardCell) (among : Bool) → is_among l y ≡ among
    → take n (l ++ (if among then [] else y ∷ [])) ≡ add_to n (take n l) y
added_to n l y among is = grind (arith, common_steps)

-- The kept cells after one more cell are those before, with that cell added.
pub kept-add : (system : System) (xs : List HeardCell) (y : HeardCell) → kept system (xs ++ y ∷ []) ≡ add system (kept system xs) y
kept-add system xs y = ap (take most_cells) (grind (arith, common_steps, firsts-push, filter-append)) ∙ by (is_of_system system y) refl where
  by : (of : Bool) → is_of_system system y ≡ of
      → take most_cells (mine system xs ++ (if of && not (is_among xs y) then y ∷ [] else []))
      ≡ (if of && not (is_among (kept system xs) y || nat_le most_cells (length (kept system xs))) then kept system xs ++ y ∷ [] else kept system xs)
  by false e = ap (take most_cells) (append-nil (mine system xs))
  by true e =
      ap (λ l. take most_cells (mine system xs ++ l)) (turn (is_among xs y))
      ∙ added_to most_cells (mine system xs) y (is_among xs y) (mine-among system xs y e)
      ∙ turned (is_among (kept system xs) y || nat_le most_cells (length (kept system xs))) where
        turn : (b : Bool) → (if not b then y ∷ [] else []) ≡ (if b then [] else y ∷ [])
        turn b = grind (arith, common_steps)

        turned : (b : Bool) → (if b then kept system xs else kept system xs ++ y ∷ []) ≡ (if not b then kept system xs ++ y ∷ [] else kept system xs)
        turned b = grind (arith, common_steps)
