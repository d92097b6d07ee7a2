-- Lines that are written.
use Rattle.rinex_file.proofs.Names.{IsErrAnd, flat_map-append, sum_by-cons, systems, index_of, before, after, satellites_in, systems_split, systems_taken, sum_by, common_steps, arith, ◌≡◌, ◌∙◌, sym, ap, refl, subst, ℕ, zero, suc, ◌+◌, ◌-◌, ◌≤◌, List, [], ◌∷◌, ◌++◌, length, append_assoc, append-nil, length-append, true, false, Result, OnOk, map, if◌then◌else◌, IfErr, map-append, length-map, filter-append, System, Cell, cells_of, flat_map, take, take_all, civil_of, PlanValue, EpochValue, is_written, written_among, satellites_written, joined, written_satellites, row_among, rows_of, satellite_line, epoch_line, StationValues, position_line, height_line, event_line, event_text, line_among, line_or_none, lines_up_to, lines_of_systems, epoch_text}

pub joined-append : (xs ys : List (List ℕ)) → joined (xs ++ ys) ≡ joined xs ++ joined ys
joined-append xs ys = flat_map-append (λ l. l) xs ys

-- ---- an event

pub event_parts : (v : StationValues) → event_text v ≡ event_line ++ (position_line v ++ (height_line v.height ++ []))
unfolding event_text
event_parts v = refl

-- ---- satellite by satellite

lines_suc : (p : PlanValue) (e : EpochValue) (s : System) (n : ℕ) → lines_up_to p e s (suc n) ≡ lines_up_to p e s n ++ line_or_none p e s (suc n)
unfolding lines_up_to line_among
lines_suc p e s n = grind (arith, filter-append, map-append, joined-append, append-nil)

pub lines_more : (p : PlanValue) (e : EpochValue) (s : System) (n m : ℕ) → m ≡ suc n → lines_up_to p e s m ≡ lines_up_to p e s n ++ line_or_none p e s m
lines_more p e s n m is = subst (λ k. lines_up_to p e s k ≡ lines_up_to p e s n ++ line_or_none p e s k) (sym is) (lines_suc p e s n)

pub no_lines : (p : PlanValue) (e : EpochValue) (s : System) → lines_up_to p e s 0 ≡ []
unfolding lines_up_to
no_lines p e s = refl

pub not_written : (p : PlanValue) (s : System) (cells : List Cell) (id : ℕ) → is_written cells id ≡ false → line_among p s cells id ≡ []
unfolding line_among
not_written p s cells id h = ap (λ b. if b then satellite_line (row_among p s cells id) else []) h

pub is_shown : (p : PlanValue) (s : System) (cells : List Cell) (id : ℕ) → is_written cells id ≡ true → line_among p s cells id ≡ satellite_line (row_among p s cells id)
unfolding line_among
is_shown p s cells id h = ap (λ b. if b then satellite_line (row_among p s cells id) else []) h

-- what follows the lines up to a number
lines_rest : (p : PlanValue) (e : EpochValue) (s : System) (n k m : ℕ) → m ≡ n + k → (rest : List ℕ) × (lines_up_to p e s m ≡ lines_up_to p e s n ++ rest)
lines_rest p e s n zero m is = grind (arith, append-nil)
lines_rest p e s n (suc k) m is =
    let same : m ≡ suc (n + k) = omega (arith, is) in
    let (rest, before) = lines_rest p e s n k (n + k) refl in (
      rest ++ line_or_none p e s (suc (n + k)),
      ap (lines_up_to p e s) same ∙ lines_suc p e s (n + k) ∙ ap (λ l. l ++ line_or_none p e s (suc (n + k))) before
          ∙ append_assoc (lines_up_to p e s n) rest (line_or_none p e s (suc (n + k))),
    )

-- the lines are those up to a number, that of the next one, and those after it
pub lines_around : (p : PlanValue) (e : EpochValue) (s : System) {n m : ℕ} (most : ℕ) → m ≡ suc n → m ≤ most
    → (rest : List ℕ) × (lines_up_to p e s most ≡ lines_up_to p e s n ++ (line_or_none p e s m ++ rest))
lines_around p e s {n} {m} most is h =
    let (rest, split) = lines_rest p e s m (most - m) most (omega (arith, h)) in
    (rest, split ∙ ap (λ l. l ++ rest) (lines_more p e s n m is) ∙ append_assoc (lines_up_to p e s n) (line_or_none p e s m) rest)

-- ---- an epoch

length-written : (cells : List Cell) (n : ℕ) → length (written_satellites cells n) ≡ written_among cells n
unfolding written_among
length-written cells zero = refl
length-written cells (suc n) = grind (arith, filter-append, length-append, (length-written cells n))

length-over : (p : PlanValue) (e : EpochValue) (ss : List System) → length (flat_map (rows_of p e) ss) ≡ sum_by (λ s. written_among (cells_of s e) (satellites_in s)) ss
length-over p e [] = refl
length-over p e (s ∷ ss) = grind (arith, common_steps, length-append, length-map, length-written, sum_by-cons, (length-over p e ss))

pub length-rows : (p : PlanValue) (e : EpochValue) → length (flat_map (rows_of p e) systems) ≡ satellites_written e
length-rows p e = length-over p e systems

lines_over : (p : PlanValue) (e : EpochValue) (ss : List System) → joined (map satellite_line (flat_map (rows_of p e) ss)) ≡ lines_of_systems p e ss
unfolding lines_up_to
lines_over p e [] = refl
lines_over p e (s ∷ ss) = grind (arith, map-append, joined-append, (lines_over p e ss))

-- the lines of an epoch: its own, and those of the systems
pub epoch_parts : (p : PlanValue) (e : EpochValue) → epoch_text p e ≡ epoch_line (civil_of e.time) (satellites_written e) ++ lines_of_systems p e systems
unfolding epoch_text
epoch_parts p e =
    ap (λ n. epoch_line (civil_of e.time) n ++ joined (map satellite_line (flat_map (rows_of p e) systems))) (length-rows p e)
    ∙ ap (λ l. epoch_line (civil_of e.time) (satellites_written e) ++ l) (lines_over p e systems)

-- its systems, one after the other
module _ (p : PlanValue) (e : EpochValue) where
  -- those of one more system, and those of the others after them
  pub lines_next : (n : ℕ) (s : System) → index_of s ≡ n → lines_of_systems p e (take (n + 1) systems) ≡ lines_of_systems p e (take n systems) ++ lines_up_to p e s (satellites_in s)
  lines_next n s at = grind (arith, common_steps, systems_taken, flat_map-append, append-nil)

  pub lines_after : (n : ℕ) (s : System) → index_of s ≡ n → lines_of_systems p e systems ≡ lines_of_systems p e (take n systems) ++ (lines_up_to p e s (satellites_in s) ++ lines_of_systems p e (after s))
  lines_after n s at = grind (arith, common_steps, systems_split, flat_map-append)

  pub lines_all : (n : ℕ) → length systems ≤ n → lines_of_systems p e (take n systems) ≡ lines_of_systems p e systems
  lines_all n h = ap (lines_of_systems p e) (take_all n systems h)

-- ---- what holds of a call that failed

-- nothing is promised of it
pub failed : {A E : Type 0} (Q : E → Type 0) (r : Result A E) (P : Type 0) → IsErrAnd r Q → OnOk r P
failed Q r P h = grind arith

pub only_fault : {A E : Type 0} (Q : E → Type 0) (r : Result A E) → IsErrAnd r Q → IfErr r Q
only_fault Q r h = grind arith

pub ruleset failures = (failed, only_fault)
