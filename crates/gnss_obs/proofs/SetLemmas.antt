-- Satellites as the bits of a set.
use Rattle.gnss_obs.proofs.Names.{◌≡◌, ℕ, zero, suc, ◌+◌, ◌*◌, ◌<◌, ◌≤◌, ◌^◌, ◌%◌, Bool, true, false, List, [], ◌∷◌, ◌++◌, refl, sym, ap, ◌∙◌, subst, arith, length, All, nat_lt, nat_eq, max, take, get_or, rules, take_more, and_le_l, bit_at, bit_not, trailing_zeros, w64, All-push, All-weaker, HasSatellites, AreBelow, AreHeld, Cell, IsHeld, System, cell_number, satellites, sorted_cells, common_steps}
use Rattle.std.specs.Int.RustNames.{bit_and, bit_or}
use Rattle.std.specs.Int.Count.{trailing_of_zero}
use Rattle.std.proofs.lemmas.Nat.Bits.{bit_at_and, bit_at_or, bit_at-lt, bit_at-zero, bit_at_set_same, bit_at_set_other, bit_at_clear_same, bit_at_clear_other, bit_at-trailing_zeros}
use Rattle.gnss_obs.proofs.SortLemmas.{Gap, IsFrom, below_all, below_first, below_skip, place_less}

-- ---- the set of the satellites of cells

abbrev IsIn : ℕ → Cell → Type 0
IsIn set c = bit_at set c.satellite.id ≡ 1

abbrev with : ℕ → ℕ → ℕ
with set id = bit_or set (1 * 2 ^ id % 2 ^ 64)

pub satellite_more : (most set : ℕ) (cells : List Cell) (x : Cell) → most < 64 → x.satellite.id ≤ most → HasSatellites most cells set
    → HasSatellites most (cells ++ x ∷ []) (with set x.satellite.id)
satellite_more most set cells x few is h = record {
  listed = λ n e. by n (nat_eq n id) refl e;
  each = All-push (IsIn (with set id)) cells x (All-weaker (IsIn set) (IsIn (with set id)) (λ c e. stays c.satellite.id e) cells h.each) (bit_at_set_same w64 set id low);
} where
  id : ℕ
  id = x.satellite.id

  low : id < 64
  low = omega (arith, few, is)

  by : (n : ℕ) (b : Bool) → nat_eq n id ≡ b → bit_at (with set id) n ≡ 1 → n ≤ most
  by n true same e = let at : n ≡ id = grind (arith, same) in omega (arith, at, is)
  by n false other e = h.listed n (sym (bit_at_set_other w64 set id low n (λ at. absurd (grind (arith, at, other)))) ∙ e)

  stays : (n : ℕ) → bit_at set n ≡ 1 → bit_at (with set id) n ≡ 1
  stays n e = bit_at_or set (1 * 2 ^ id % 2 ^ 64) n ∙ greater (bit_at set n) (bit_at (1 * 2 ^ id % 2 ^ 64) n) e (bit_at-lt (1 * 2 ^ id % 2 ^ 64) n) where
    greater : (a b : ℕ) → a ≡ 1 → b < 2 → max a b ≡ 1
    greater a b e h = omega (arith, e, h)

pub few_satellites : (system : System) → satellites system < 64
few_satellites system = grind (arith, common_steps)

pub one_satellite_more : (system : System) (cells : List Cell) (set i : ℕ) (x : Cell) {id : ℕ} → AreHeld system cells → i < length cells → x ≡ get_or cells i x → id ≡ x.satellite.id
    → HasSatellites (satellites system) (take i cells) set → HasSatellites (satellites system) (take (i + 1) cells) (with set id)
one_satellite_more system cells set i x held less is id h =
    let own = subst (IsHeld system) (sym is) (held.each i x less) in
    let few = subst (λ s. x.satellite.id ≤ satellites s) own.satellite own.number.1 in
    subst (λ n. HasSatellites (satellites system) (take (i + 1) cells) (with set n)) (sym id)
    (subst (λ l. HasSatellites (satellites system) l (with set x.satellite.id)) (ap (λ c. take i cells ++ c ∷ []) is ∙ sym (take_more cells i x less)) (satellite_more (satellites system) set (take i cells) x (few_satellites system) few h))

-- ---- the lowest satellite of a set

abbrev pub lowest : ℕ → ℕ
lowest set = trailing_zeros w64 set

abbrev pub without : ℕ → ℕ → ℕ
without set id = bit_and set (bit_not w64 (1 * 2 ^ id % 2 ^ 64))

lowest_least : (set n : ℕ) → set < 2 ^ 64 → bit_at set n ≡ 1 → lowest set ≤ n
lowest_least zero n small e = absurd (omega (arith, bit_at-zero n, e))
lowest_least (suc m) n small e = let none = bit_at-trailing_zeros w64 (suc m) (omega arith) small in grind (arith, common_steps, none.1, e)

still_set : (set id n : ℕ) → bit_at (without set id) n ≡ 1 → bit_at set n ≡ 1
still_set set id n e = grind (arith, common_steps, bit_at-lt, bit_at_and)

pub lowest_bit : (set : ℕ) → 0 < set → set < 2 ^ 64 → (lowest set < 64) × (bit_at set (lowest set) ≡ 1)
lowest_bit set some small = let at = bit_at-trailing_zeros w64 set some small in (at.0, at.1)

small_without : (set id : ℕ) → set < 2 ^ 64 → without set id < 2 ^ 64
small_without set id small = let le = and_le_l set (bit_not w64 (1 * 2 ^ id % 2 ^ 64)) in omega (arith, le, small)

pub lowest_rises : (set : ℕ) → 0 < set → set < 2 ^ 64 → lowest set + 1 ≤ lowest (without set (lowest set))
lowest_rises set some small = by (without set id) refl where
  id : ℕ
  id = lowest set

  low : id < 64
  low = (lowest_bit set some small).0

  above : (n : ℕ) → id ≤ n → (n ≡ id → ⊥) → id + 1 ≤ n
  above n h other = omega arith

  by : (now : ℕ) → without set id ≡ now → id + 1 ≤ lowest now
  by zero is = let end = trailing_of_zero 64 in omega (arith, low, end)
  by (suc m) is =
      let n = lowest (suc m) in
      let at : bit_at (without set id) n ≡ 1 = subst (λ s. bit_at s n ≡ 1) (sym is) (lowest_bit (suc m) (omega arith) (subst (λ s. s < 2 ^ 64) is (small_without set id small))).1 in
      above n (lowest_least set n small (still_set set id n at))
      (λ same. absurd (omega (arith, bit_at_clear_same w64 set id low, subst (λ k. bit_at (without set id) k ≡ 1) same at)))

-- ---- sorted cells

-- The cells of the satellites below the lowest of the set are sorted, and the set has each other satellite of a cell.
pub record AreSortedTo (most : ℕ) (planned : List ℕ) (cells : List Cell) (set : ℕ) (first : List Cell) : Type 0 where
  pub listed : (n : ℕ) → bit_at set n ≡ 1 → n ≤ most
  pub each : All (λ c. lowest set ≤ c.satellite.id → bit_at set c.satellite.id ≡ 1) cells
  pub below : AreBelow planned (64 * lowest set) cells first

abbrev IsLater : ℕ → Cell → Type 0
IsLater set c = lowest set ≤ c.satellite.id → IsIn set c

pub none_sorted : (most : ℕ) (planned : List ℕ) (cells : List Cell) (set : ℕ) → set < 2 ^ 64 → HasSatellites most cells set → AreSortedTo most planned cells set []
none_sorted most planned cells set small h = record {
  listed = h.listed;
  each = All-weaker (IsIn set) (IsLater set) (λ c e later. e) cells h.each;
  below = below_first planned (64 * lowest set) cells (All-weaker (IsIn set) (IsFrom planned (64 * lowest set)) (λ c e. let least = lowest_least set c.satellite.id small e in omega (arith, least)) cells h.each);
}

pub lowest_sorted : (most : ℕ) (planned : List ℕ) (cells : List Cell) {first more : List Cell} (set : ℕ) → 0 < set → set < 2 ^ 64 → length planned ≤ 64 → most < 64
    → AreSortedTo most planned cells set first → AreBelow planned (64 * (lowest set + 1)) cells more → AreSortedTo most planned cells (without set (lowest set)) more
lowest_sorted most planned cells {more = more} set some small few top h b = record {
  listed = λ n e. h.listed n (still_set set id n e);
  each = All-weaker (IsLater set) (IsLater now) (λ c own later. stays c own (omega (arith, rises, later))) cells h.each;
  below = below_skip planned (64 * (id + 1)) (64 * lowest now) cells more (omega (arith, rises)) (All-weaker (IsLater set) (Gap planned (64 * (id + 1)) (64 * lowest now)) gap cells h.each) b;
} where
  id : ℕ
  id = lowest set

  now : ℕ
  now = without set id

  rises : id + 1 ≤ lowest now
  rises = lowest_rises set some small

  stays : (c : Cell) → IsLater set c → id + 1 ≤ c.satellite.id → IsIn now c
  stays c own above =
      let was = own (omega (arith, above)) in
      let listed = h.listed c.satellite.id was in
      bit_at_clear_other w64 set id (lowest_bit set some small).0 c.satellite.id (omega (arith, listed, top)) (λ same. absurd (omega (arith, same, above))) ∙ was

  gap : (c : Cell) → IsLater set c → 64 * (id + 1) ≤ cell_number planned c → 64 * lowest now ≤ cell_number planned c
  gap c h0 h1 = grind (arith, place_less, lowest_least, small_without, stays, id, now)

pub all_sorted : (most : ℕ) (planned : List ℕ) (cells first : List Cell) → length planned ≤ 64 → AreSortedTo most planned cells 0 first → first ≡ sorted_cells planned cells
all_sorted most planned cells first few h =
    below_all planned (64 * 64) cells first (All-weaker (IsLater 0) (λ c. cell_number planned c < 64 * 64) lower cells h.each) (subst (λ n. AreBelow planned (64 * n) cells first) (trailing_of_zero 64) h.below) where
      lower : (c : Cell) → IsLater 0 c → cell_number planned c < 64 * 64
      lower c own = by (nat_lt c.satellite.id 64) refl where
        by : (b : Bool) → nat_lt c.satellite.id 64 ≡ b → cell_number planned c < 64 * 64
        by b h0 = search (rules, place_less, bit_at-zero)
