-- The lines of satellites in ascending order, of which those without cells have none.
use Rattle.rinex_file.proofs.Writing.Satellites.{any_from, climb-drop, further, none_above}
use Rattle.gnss_obs.specs.Order.{AreSorted}
use Rattle.rinex_file.proofs.Writing.Sent.{lines_more, not_written}
use Rattle.rinex_file.proofs.Names.{AreHeld, arith, ◌≡◌, ◌∙◌, sym, ap, refl, subst, ℕ, zero, suc, ◌+◌, ◌-◌, ◌<◌, ◌≤◌, false, List, [], ◌∷◌, ◌++◌, append-nil, length, take, drop, drop_all, drop_more, slice_index_or, Option, Appends, Appends-trans, System, Cell, PlanValue, EpochValue, Above, Climb, Left, satellites, cells_of, is_written, run, sorted_climbs, line_among, lines_up_to, line_or_none, all_above, filter, find, is_of_satellite, is_of_key}

-- ---- the line of a satellite by its own cells

find_from : (id index : ℕ) (cells : List Cell) → find (is_of_key id index) (filter (is_of_satellite id) cells) ≡ find (is_of_key id index) cells
find_from id index [] = refl
find_from id index (c ∷ cells) = grind (arith, (find_from id index cells))

pub same_line : (p : PlanValue) (system : System) (cells all : List Cell) (id : ℕ) (group : List Cell) → filter (is_of_satellite id) cells ≡ group → cells ≡ all
    → line_among p system group id ≡ line_among p system all id
unfolding line_among
same_line p system cells all id group is same = grind (arith, any_from, find_from)

-- the lines of the satellites up to `last` were written, and the cells from `from` on are all of later ones
pub record AreSent (p : PlanValue) (e : EpochValue) (s : System) (from : ℕ) (cells : List Cell) (a b : Option (List ℕ)) : Type 0 where
  pub last : ℕ
  pub most : last ≤ satellites s
  pub left : Left last from cells
  pub out : Appends a b (lines_up_to p e s last)

lower : (n m : ℕ) (cells : List Cell) → n ≤ m → Above m cells → Above n cells
lower n m [] le h = tt
lower n m (c ∷ cells) le h = (omega (arith, le, h.0), lower n m cells le h.1)

none_left : {n from m : ℕ} {cells : List Cell} → Left n from cells → n < m → Above m (drop from cells) → is_written cells m ≡ false
none_left left less above = grind (arith, any_from, none_above)

skipped : (p : PlanValue) (e : EpochValue) (s : System) {n from : ℕ} (cells : List Cell) (k m : ℕ) → cells ≡ cells_of s e → m ≡ n + k → Left n from cells → Above m (drop from cells)
    → lines_up_to p e s m ≡ lines_up_to p e s n
skipped p e s {n} cells zero m all is left above = let same : m ≡ n = omega (arith, is) in ap (lines_up_to p e s) same
skipped p e s {n} {from} cells (suc k) m all is left above =
    let same : m ≡ suc (n + k) = omega (arith, is) in
    let none = subst (λ (l : List Cell). is_written l m ≡ false) all (none_left left (omega (arith, is)) above) in
    lines_more p e s (n + k) m same ∙ ap (λ t. lines_up_to p e s (n + k) ++ t) (not_written p s (cells_of s e) m none) ∙ append-nil (lines_up_to p e s (n + k))
    ∙ skipped p e s cells k (n + k) all refl left (lower (n + k) m (drop from cells) (omega (arith, is)) above)

-- the cells of the next satellite: those of `id`, from `from` to `to`
pub record IsNext (p : PlanValue) (e : EpochValue) (s : System) (from to id : ℕ) (cells : List Cell) (a b : Option (List ℕ)) : Type 0 where
  pub before : ℕ
  pub next : id ≡ suc before
  pub most : id ≤ satellites s
  pub left : Left id to cells
  pub line : line_among p s (take (to - from) (drop from cells)) id ≡ line_or_none p e s id
  pub out : Appends a b (lines_up_to p e s before)

pub next_sent : {p : PlanValue} {e : EpochValue} {s : System} {from to id : ℕ} {cells : List Cell} {a b : Option (List ℕ)} (cell : Cell) → AreSent p e s from cells a b → cells ≡ cells_of s e → AreHeld s cells → AreSorted cells
    → from < length cells → id ≡ (slice_index_or cells from cell).satellite.id → to ≡ from + run id (drop from cells) → to ≤ length cells → IsNext p e s from to id cells a b
next_sent {p} {e} {s} {from} {to} {id} {cells} {a} {b} cell sent all held order less is end within =
    let rest = drop (from + 1) cells in
    let split : drop from cells ≡ slice_index_or cells from cell ∷ rest = drop_more cells from cell less in
    let climb = sorted_climbs cells order in
    let own = held.each from cell less in
    let first = subst (Above sent.last) split sent.left.above in
    let climbs = subst Climb split (climb-drop from cells climb) in
    let above : Above (id - 1) (drop from cells) = subst (Above (id - 1)) (sym split) (omega (arith, first.0, is), all_above (id - 1) _ rest (omega (arith, first.0, is)) climbs.0) in
    let left : Left (id - 1) from cells = record { within = sent.left.within; above = above; rest = λ later h. sent.left.rest later (omega (arith, h, first.0, is)) } in
    let next : id ≡ suc (id - 1) = omega (arith, first.0, is) in
    let part = further next end within climb left in
    let most = subst (λ t. (slice_index_or cells from cell).satellite.id ≤ satellites t) own.satellite own.number.1 in
    record {
      before = id - 1;
      next = next;
      most = omega (arith, is, most);
      left = part.left;
      line = same_line p s cells (cells_of s e) id _ part.group all;
      out = subst (λ t. Appends a b t) (sym (skipped p e s cells (id - 1 - sent.last) (id - 1) all (omega (arith, first.0, is)) sent.left above)) sent.out;
    }

-- its line was written, if it has one
pub one_sent : {p : PlanValue} {e : EpochValue} {s : System} {from to id : ℕ} {cells : List Cell} {a b d : Option (List ℕ)} → IsNext p e s from to id cells a b
    → Appends b d (line_among p s (take (to - from) (drop from cells)) id) → AreSent p e s to cells a d
one_sent h more = grind (arith, lines_more, Appends-trans)

pub all_sent : {p : PlanValue} {e : EpochValue} {s : System} {from : ℕ} {cells : List Cell} {a b : Option (List ℕ)} → AreSent p e s from cells a b → cells ≡ cells_of s e → length cells ≤ from
    → Appends a b (lines_up_to p e s (satellites s))
all_sent {p} {e} {s} {from} {cells} {a} {b} sent all end =
    let above : Above (satellites s) (drop from cells) = subst (Above (satellites s)) (sym (drop_all from cells end)) tt in
    subst (λ t. Appends a b t) (sym (skipped p e s cells (satellites s - sent.last) (satellites s) all (omega (arith, sent.most)) sent.left above)) sent.out
