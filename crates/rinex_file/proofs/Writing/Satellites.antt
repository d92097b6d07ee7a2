-- The cells of one satellite, in a list in the order of satellites.
use Rattle.rinex_file.proofs.Names.{◌≡◌, ℕ, zero, suc, ◌+◌, ◌-◌, ◌<◌, ◌≤◌, Bool, List, [], ◌∷◌, filter, take, drop, refl, arith, length, AllByRecursion, drop-drop, Cell, is_written, is_of_satellite, run, Above, Climb, Left, all_above}

pub climb-drop : (n : ℕ) (cells : List Cell) → Climb cells → Climb (drop n cells)
climb-drop zero cells h = h
climb-drop (suc n) [] h = tt
climb-drop (suc n) (c ∷ cells) h = climb-drop n cells h.1

pub record Parted (id : ℕ) (cells : List Cell) : Type 0 where
  pub group : filter (is_of_satellite id) cells ≡ take (run id cells) cells
  pub above : Above id (drop (run id cells) cells)
  pub rest : (later : ℕ) → id < later → filter (is_of_satellite later) cells ≡ filter (is_of_satellite later) (drop (run id cells) cells)

pub none_above : (n : ℕ) (cells : List Cell) → Above n cells → filter (is_of_satellite n) cells ≡ []
none_above n [] h = refl
none_above n (c ∷ cells) h = grind (arith, (none_above n cells h.1))

parted_by : {n id : ℕ} {c : Cell} {cells : List Cell} (b : Bool) → is_of_satellite id c ≡ b → n < c.satellite.id → id ≡ suc n → AllByRecursion (λ (d : Cell). c.satellite.id ≤ d.satellite.id) cells
    → Parted id cells → Parted id (c ∷ cells)
parted_by b e lt is up h = grind (arith, none_above, all_above)

-- The cells of a satellite come first if no cell of a lower number does.
pub parted : (n id : ℕ) (cells : List Cell) → id ≡ suc n → Climb cells → Above n cells → Parted id cells
parted n id [] is up h = record { group = refl; above = tt; rest = λ later l. refl }
parted n id (c ∷ cells) is up h = parted_by (is_of_satellite id c) refl h.0 is up.0 (parted n id cells is up.1 h.1)

-- Whether a satellite is written depends on its own cells only.
pub any_from : (id : ℕ) (cells : List Cell) → is_written (filter (is_of_satellite id) cells) id ≡ is_written cells id
any_from id [] = refl
any_from id (c ∷ cells) = grind (arith, (any_from id cells))

-- One more satellite.
pub record Further (n from to id : ℕ) (cells : List Cell) : Type 0 where
  pub group : filter (is_of_satellite id) cells ≡ take (to - from) (drop from cells)
  pub left : Left id to cells

pub further : {n from to id : ℕ} {cells : List Cell} → id ≡ suc n → to ≡ from + run id (drop from cells) → to ≤ length cells → Climb cells → Left n from cells → Further n from to id cells
further is at within climb h = grind (arith, parted, climb-drop, drop-drop)
