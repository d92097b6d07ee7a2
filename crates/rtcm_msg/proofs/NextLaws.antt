-- What an iterator over the cells of a message keeps.
use Rattle.rtcm_msg.proofs.Names.{ℕ, ◌≡◌, ◌+◌, ◌<◌, ◌≤◌, List, [], ◌∷◌, length, map, ap, arith, zip, Pair}

pub index_below : (i n m k : ℕ) → i < n → k ≡ m → k ≡ n → i < m
index_below i n m k h e f = omega arith

pub one_less : {x : Pair} {ps qs : List Pair} (next : ℕ) {cells : ℕ} → ps ≡ x ∷ qs → length ps + next ≡ cells → length qs + (next + 1) ≡ cells
one_less next split count = let step = ap length split in omega (arith, count, step)

pub no_more : {X Y Z : Type 0} (f : X × Y → Z) (xs : List X) (ys : List Y) → length (map f (zip xs ys)) ≤ length ys
no_more f [] ys = omega arith
no_more f (x ∷ xs) [] = omega arith
no_more f (x ∷ xs) (y ∷ ys) = omega (arith, no_more f xs ys)
