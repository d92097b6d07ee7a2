-- Bounds of the values of a cell.
use Rattle.rtcm_msg.proofs.Names.{ℕ, ℤ, ◌^◌, ◌≤◌, Bool, List, [], ◌∷◌, map, unsigned_abs, arith, IfSome, AllByRecursion, Message, Pair, Form, invalid_rough_rate, invalid_fine_rate, rate_joined, MsmValue, entry_in, entries, IsMeasured, Satellite, Cell, entry, IsSatelliteData, IsCellData, FitsIf}
use Rattle.rtcm_msg.proofs.FormLaws.{satellite_in_range, cell_in_range}

-- ---- fractions

rate_within : (rough fine : ℤ) → unsigned_abs rough ≤ 2 ^ 13 → unsigned_abs fine ≤ 2 ^ 14 → IfSome (rate_joined rough fine) (λ v. unsigned_abs v ≤ 10 ^ 8)
rate_within rough fine r f = grind arith

-- ---- cells

pub rough_rate_small : (there : Bool) (z : ℤ) → FitsIf there 14 invalid_rough_rate z → unsigned_abs z ≤ 2 ^ 13
rough_rate_small there z h = grind arith

pub fine_rate_small : (there : Bool) (z : ℤ) → FitsIf there 15 invalid_fine_rate z → unsigned_abs z ≤ 2 ^ 14
fine_rate_small there z h = grind arith

measured : (f : Form) (x : Pair) (s : Satellite) (c : Cell) → IsSatelliteData f s → IsCellData f c → IsMeasured (entry f x s c)
measured f x s c a b = grind (arith, rate_within, rough_rate_small, fine_rate_small)

each : (f : Form) (v : MsmValue) (xs : List (Pair × ℕ)) → AllByRecursion IsMeasured (map (entry_in f v) xs)
each f v [] = tt
each f v (x ∷ xs) = (measured f x.0 _ _ (satellite_in_range f _) (cell_in_range f x.1), each f v xs)

pub entries_measured : (m : Message) → AllByRecursion IsMeasured (entries m)
entries_measured m = grind (arith, each)
