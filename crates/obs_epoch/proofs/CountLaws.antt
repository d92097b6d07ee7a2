-- How many cells of a message can lack a channel.
use Rattle.obs_epoch.proofs.Names.{◌≡◌, ◌+◌, ◌≤◌, Bool, List, [], ◌∷◌, ◌++◌, arith, length, append_assoc, append-nil, nat_le, if◌then◌else◌, ap, refl, GatherSetup, HeardCell, is_among, kept, kept_without, most_cells}
use Rattle.obs_epoch.proofs.CountsLemmas.{without-push}

at_most_one : (a b : Bool) → (if a then (if b then 1 else 0) else 0) ≤ 1
at_most_one a b = grind arith

-- Each further cell is at most one more.
pub few_without : (s : GatherSetup) (xs ys : List HeardCell) → kept_without s (xs ++ ys) ≤ kept_without s xs + length ys
few_without s xs [] = let none : kept_without s (xs ++ []) ≡ kept_without s xs = ap (kept_without s) (append-nil xs) in omega (arith, none)
few_without s xs (y ∷ ys) = grind (arith, append_assoc, without-push, at_most_one, append_assoc xs (y ∷ []) ys, without-push s xs y (is_among (kept y.satellite.system xs) y) (nat_le most_cells (length (kept y.satellite.system xs))) refl refl, few_without s (xs ++ y ∷ []) ys)
