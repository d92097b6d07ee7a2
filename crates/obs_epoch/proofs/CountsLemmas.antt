-- Counting cell by cell gives the counts of the whole message.
use Rattle.obs_epoch.proofs.Names.{◌≡◌, ℕ, ◌+◌, ◌≤◌, Bool, true, false, not, ◌||◌, ◌&&◌, List, [], ◌∷◌, ◌++◌, filter, refl, sym, ap, ◌∙◌, subst, arith, length, append_assoc, append-nil, length-append, nat_le, if◌then◌else◌, cond, count_by, length-take-le, take_all, flat_map, systems, system_same, any_system, sum_grown, sum_by-cons, System, is_system, list_any, Crowded, Kept, Repeated, Skipped, count_in, GatherSetup, HeardCell, no_counts, counts_of, is_of_system, is_among, kept, kept_of_all, kept_without, lacks_channel, is_planned, has_same_key, most_cells, CellCounts, common_steps, or-false, sum_by_push, list_any-append}
use Rattle.std.proofs.lemmas.List.Concat.{length-flat_map}
use Rattle.obs_epoch.proofs.CellsLemmas.{kept-add, mine, mine-among, among-push, key_system, same_key_laws}
use Rattle.obs_epoch.proofs.NotingLemmas.{kept_apart}
use Rattle.obs_epoch.proofs.LoadLemmas.{counts_after, outcome_after, planned_one}

-- A key is among the kept cells of all systems exactly if it is among those of its system.
among_over : (ss : List System) (xs : List HeardCell) (p : HeardCell) → is_among (flat_map (λ s. kept s xs) ss) p ≡ (list_any (is_system p.satellite.system) ss && is_among (kept p.satellite.system xs) p)
among_over [] xs p = refl
among_over (c ∷ ss) xs p =
    list_any-append (has_same_key p) (kept c xs) (flat_map (λ s. kept s xs) ss) ∙ ap (λ b. is_among (kept c xs) p || b) (among_over ss xs p)
    ∙ by (is_system p.satellite.system c) (list_any (is_system p.satellite.system) ss) refl where
      once : (a b : Bool) → (a || (b && a)) ≡ ((true || b) && a)
      once a b = grind (arith, common_steps)

      by : (a b : Bool) → is_system p.satellite.system c ≡ a → (is_among (kept c xs) p || (b && is_among (kept p.satellite.system xs) p)) ≡ ((a || b) && is_among (kept p.satellite.system xs) p)
      by true b e = cc (system_same p.satellite.system c e, once (is_among (kept p.satellite.system xs) p) b)
      by false b e = ap (λ a. a || (b && is_among (kept p.satellite.system xs) p)) (kept_apart c xs p (grind (arith, e)))

both-among : (xs : List HeardCell) (p : HeardCell) → is_among (kept_of_all xs) p ≡ is_among (kept p.satellite.system xs) p
both-among xs p = among_over systems xs p ∙ ap (λ b. b && is_among (kept p.satellite.system xs) p) (any_system p.satellite.system)

own : (system : System) (x : HeardCell) → x.satellite.system ≡ system → is_of_system system x ≡ true
own system x e = grind (arith, common_steps, e)

-- If there is room, all first cells are kept.
all_kept : (system : System) (xs : List HeardCell) → nat_le most_cells (length (kept system xs)) ≡ false → kept system xs ≡ mine system xs
all_kept system xs h = take_all most_cells (mine system xs) (fits most_cells (length (mine system xs)) (length (kept system xs)) (length-take-le most_cells (mine system xs)) h) where
  fits : (most all few : ℕ) → (most ≤ all → few ≡ most) → nat_le most few ≡ false → all ≤ most
  fits most all few is h = grind (arith, common_steps, is, h)

-- For every next cell, an earlier cell is kept as before.
known-push : (system : System) (xs : List HeardCell) (y p : HeardCell) → is_of_system system p ≡ true → is_among xs p ≡ true → is_among (kept system (xs ++ y ∷ [])) p ≡ is_among (kept system xs) p
known-push system xs y p o there = grind (arith, common_steps, kept-add, or-false, all_kept, mine-among, key_system)

known-more : (system : System) (xs ys : List HeardCell) (p : HeardCell) → is_of_system system p ≡ true → is_among xs p ≡ true → is_among (kept system (xs ++ ys)) p ≡ is_among (kept system xs) p
known-more system xs [] p o there = ap (λ l. is_among (kept system l) p) (append-nil xs)
known-more system xs (y ∷ ys) p o there = grind (arith, append_assoc, known-push, known-more system (xs ++ y ∷ []) ys p o (among-push xs y p ∙ ap (λ b. b || has_same_key p y) there))

length-add : (system : System) (xs : List HeardCell) (y : HeardCell) (b : Bool) → (is_of_system system y && not (is_among (kept system xs) y || nat_le most_cells (length (kept system xs)))) ≡ b
    → length (kept system (xs ++ y ∷ [])) ≡ length (kept system xs) + (if b then 1 else 0)
length-add system xs y b e = grind (arith, common_steps, kept-add, length-append)

not_own : (other : System) (y : HeardCell) → (is_of_system other y ≡ false) → (a n : Bool) → (is_of_system other y && not (a || n)) ≡ false
not_own other y f a n = ap (λ b. b && not (a || n)) f

-- The number of kept cells after one more cell.
both-length : (xs : List HeardCell) (y : HeardCell) (a n : Bool) → is_among (kept y.satellite.system xs) y ≡ a → nat_le most_cells (length (kept y.satellite.system xs)) ≡ n
    → length (kept_of_all (xs ++ y ∷ [])) ≡ length (kept_of_all xs) + (if not (a || n) then 1 else 0)
both-length xs y a n e f =
    length-flat_map (λ s. kept s (xs ++ y ∷ [])) systems
    ∙ sum_grown (λ s. length (kept s xs)) (λ s. length (kept s (xs ++ y ∷ []))) y.satellite.system (if not (a || n) then 1 else 0) (λ t. by t (is_system y.satellite.system t) refl)
    ∙ ap (λ k. k + (if not (a || n) then 1 else 0)) (sym (length-flat_map (λ s. kept s xs) systems)) where
      -- The kept cells of its system, and those of another one.
      own_length : (system : System) → y.satellite.system ≡ system → length (kept system (xs ++ y ∷ [])) ≡ length (kept system xs) + (if not (a || n) then 1 else 0)
      own_length system s = grind (arith, length-add, own)

      other_length : (system : System) → is_of_system system y ≡ false → length (kept system (xs ++ y ∷ [])) ≡ length (kept system xs) + 0
      other_length system other = length-add system xs y false (not_own system y other (is_among (kept system xs) y) (nat_le most_cells (length (kept system xs))))

      by : (t : System) (b : Bool) → is_system y.satellite.system t ≡ b → length (kept t (xs ++ y ∷ [])) ≡ length (kept t xs) + (if b then (if not (a || n) then 1 else 0) else 0)
      by t true h = own_length t (system_same y.satellite.system t h)
      by t false h = other_length t (grind (arith, h))

-- The number of kept cells without a channel after one more cell.
pub without-push : (s : GatherSetup) (xs : List HeardCell) (y : HeardCell) (a n : Bool) → is_among (kept y.satellite.system xs) y ≡ a → nat_le most_cells (length (kept y.satellite.system xs)) ≡ n
    → kept_without s (xs ++ y ∷ []) ≡ kept_without s xs + (if not (a || n) then (if lacks_channel s y then 1 else 0) else 0)
without-push s xs y a n e f = grind (arith, kept-add, system_same, sum_by_push)

-- Whether the key of the new cell is kept then.
now-among : (xs ys : List HeardCell) (y : HeardCell) (a n : Bool) → is_among (kept y.satellite.system xs) y ≡ a → nat_le most_cells (length (kept y.satellite.system xs)) ≡ n
    → is_among (kept_of_all ((xs ++ y ∷ []) ++ ys)) y ≡ (a || not n)
now-among xs ys y a n e f = grind (arith, both-among, known-more, among-push, same_key_laws, kept-add, among-push xs y y)

-- ---- the sums

-- N is n plus these counts; before there were b kept cells, of which l lack a channel, and after there are a, of which m do.
record Sums (N n : CellCounts) (b a l m skipped known crowded : ℕ) : Type 0 where
  pub kept : N.kept + b ≡ n.kept + a
  pub lacks : N.without_channel + l ≡ n.without_channel + m
  pub skips : N.skipped ≡ n.skipped + skipped
  pub knows : N.repeated + N.kept ≡ (n.repeated + n.kept) + known
  pub crowds : N.crowded ≡ n.crowded + crowded

-- One more cell at the beginning.
one_sum : {N n : CellCounts} (p a f g : Bool) {b b' e l l' k skipped known crowded : ℕ} → Sums N (count_in g (if p then (if a then Repeated else (if f then Crowded else Kept)) else Skipped) n) b' e l' k skipped known crowded
    → b' ≡ b + (if p then (if not (a || f) then 1 else 0) else 0)
    → l' ≡ l + (if p then (if not (a || f) then (if g then 1 else 0) else 0) else 0)
    → Sums N n b e l k ((if not p then 1 else 0) + skipped) ((if p then (if (a || not f) then 1 else 0) else 0) + known) ((if p then (if not (a || not f) then 1 else 0) else 0) + crowded)
one_sum b a f g h i j = grind arith

change : {N n : CellCounts} {b e l k u v w u' v' w' : ℕ} → u ≡ u' → v ≡ v' → w ≡ w' → Sums N n b e l k u v w → Sums N n b e l k u' v' w'
change {n} p q r h = record { kept = h.kept; lacks = h.lacks; skips = h.skips ∙ ap (λ k. n.skipped + k) p; knows = h.knows ∙ ap (λ k. (n.repeated + n.kept) + k) q; crowds = h.crowds ∙ ap (λ k. n.crowded + k) r }

abbrev planned : GatherSetup → List HeardCell → List HeardCell
planned s ys = filter (is_planned s) ys

abbrev Tally : GatherSetup → List HeardCell → CellCounts → List HeardCell → Type 0
Tally s xs n ys =
    Sums (counts_after s xs n ys) n (length (kept_of_all xs)) (length (kept_of_all (xs ++ planned s ys))) (kept_without s xs) (kept_without s (xs ++ planned s ys)) (count_by (λ x. not (is_planned s x)) ys)
    (count_by (is_among (kept_of_all (xs ++ planned s ys))) (planned s ys)) (count_by (λ x. not (is_among (kept_of_all (xs ++ planned s ys)) x)) (planned s ys))

count_cons : (p : HeardCell → Bool) (x : HeardCell) (xs : List HeardCell) → count_by p (x ∷ xs) ≡ (if p x then 1 else 0) + count_by p xs
count_cons p x xs = sum_by-cons (λ y. cond (p y) 1 0) x xs

tally_step : (s : GatherSetup) (xs : List HeardCell) (n : CellCounts) (y : HeardCell) (ys : List HeardCell) → Tally s (xs ++ planned_one s y) (count_in (lacks_channel s y) (outcome_after s xs y) n) ys → Tally s xs n (y ∷ ys)
tally_step s xs n y ys h =
    change (sym skips) (sym (knows (is_planned s y))) (sym (crowds (is_planned s y)))
    (one_sum (is_planned s y) a f (lacks_channel s y)
    (subst (λ w. Sums (counts_after s (xs ++ planned_one s y) (count_in (lacks_channel s y) (outcome_after s xs y) n) ys) (count_in (lacks_channel s y) (outcome_after s xs y) n) (length (kept_of_all (xs ++ planned_one s y))) (length (kept_of_all w)) (kept_without s (xs ++ planned_one s y)) (kept_without s w) (count_by (λ x. not (is_planned s x)) ys)
    (count_by (is_among (kept_of_all w)) (planned s ys)) (count_by (λ x. not (is_among (kept_of_all w) x)) (planned s ys))) (whole (is_planned s y)) h)
    (before (is_planned s y)) (lacking (is_planned s y))) where
      a : Bool
      a = is_among (kept y.satellite.system xs) y

      f : Bool
      f = nat_le most_cells (length (kept y.satellite.system xs))

      whole : (b : Bool) → (xs ++ (if b then y ∷ [] else [])) ++ planned s ys ≡ xs ++ cond b (y ∷ planned s ys) (planned s ys)
      whole b = grind (arith, append_assoc)

      before : (b : Bool) → length (kept_of_all (xs ++ (if b then y ∷ [] else []))) ≡ length (kept_of_all xs) + (if b then (if not (a || f) then 1 else 0) else 0)
      before b = grind (arith, both-length, append-nil, a, f)

      lacking : (b : Bool) → kept_without s (xs ++ (if b then y ∷ [] else [])) ≡ kept_without s xs + (if b then (if not (a || f) then (if lacks_channel s y then 1 else 0) else 0) else 0)
      lacking true = without-push s xs y a f refl refl
      lacking false = ap (kept_without s) (append-nil xs) ∙ let none : kept_without s xs ≡ kept_without s xs + 0 = omega arith in none

      skips : count_by (λ x. not (is_planned s x)) (y ∷ ys) ≡ (if not (is_planned s y) then 1 else 0) + count_by (λ x. not (is_planned s x)) ys
      skips = count_cons (λ x. not (is_planned s x)) y ys

      now : is_among (kept_of_all (xs ++ y ∷ planned s ys)) y ≡ (a || not f)
      now = ap (λ l. is_among (kept_of_all l) y) (sym (append_assoc xs (y ∷ []) (planned s ys))) ∙ now-among xs (planned s ys) y a f refl refl

      knows : (b : Bool) → count_by (is_among (kept_of_all (xs ++ cond b (y ∷ planned s ys) (planned s ys)))) (cond b (y ∷ planned s ys) (planned s ys))
          ≡ (if b then (if (a || not f) then 1 else 0) else 0) + count_by (is_among (kept_of_all (xs ++ cond b (y ∷ planned s ys) (planned s ys)))) (planned s ys)
      knows true = cc (count_cons (is_among (kept_of_all (xs ++ y ∷ planned s ys))) y (planned s ys), now)
      knows false = let none : (n : ℕ) → n ≡ 0 + n = λ n. omega arith in none _

      crowds : (b : Bool) → count_by (λ x. not (is_among (kept_of_all (xs ++ cond b (y ∷ planned s ys) (planned s ys))) x)) (cond b (y ∷ planned s ys) (planned s ys))
          ≡ (if b then (if not (a || not f) then 1 else 0) else 0) + count_by (λ x. not (is_among (kept_of_all (xs ++ cond b (y ∷ planned s ys) (planned s ys))) x)) (planned s ys)
      crowds true = grind (arith, count_cons (λ x. not (is_among (kept_of_all (xs ++ y ∷ planned s ys)) x)) y (planned s ys), now)
      crowds false = let none : (n : ℕ) → n ≡ 0 + n = λ n. omega arith in none _

tally : (s : GatherSetup) (xs : List HeardCell) (n : CellCounts) (ys : List HeardCell) → Tally s xs n ys
tally s xs n [] = grind (arith, common_steps, append-nil)
tally s xs n (y ∷ ys) = tally_step s xs n y ys (tally s (xs ++ planned_one s y) (count_in (lacks_channel s y) (outcome_after s xs y) n) ys)

pub counts_are : (s : GatherSetup) (xs ys : List HeardCell) → counts_after s xs no_counts ys ≡ counts_of s xs ys
counts_are s xs ys = grind (arith, common_steps, tally, counts_after)
