-- The lock records: their values after a closing, and their number.
use Rattle.obs_epoch.proofs.Names.{[], ◌≡◌, ℕ, zero, suc, ◌+◌, Bool, true, false, ◌||◌, List, ◌∷◌, ◌++◌, map, filter, refl, sym, ap, ◌∙◌, subst, arith, length, append_assoc, append-nil, length-append, Option, Some, None, is_some, replicate, if◌then◌else◌, cond, find, option_and_then, length-set, option_or, IsDistinct-head, IsDistinct-tail, sum_by-cons, is_among, has_listed_key, has_same_key, lock_of, is_locked, lookup, put, note, note_all, lock_place, most_locks, no_locks, recorded, TracksLocks, HeardCell, heard_cell, KnownLock, Cell, IsDistinct, AllByRecursion, common_steps, get_or-same}
use Rattle.std.proofs.lemmas.Map.Steps.{list_any_congr}
use Rattle.obs_epoch.proofs.CellsLemmas.{same_key_laws, firsts-push, new_key, among-push}

-- ---- the records after one is set

abbrev answer : Bool → KnownLock → Option KnownLock → Option KnownLock
answer same l o = if same then Some l else o

pub note_size : (t : ℕ) (ts : List (Option KnownLock)) (x : HeardCell) → length (note t ts x) ≡ length ts
note_size t ts x = grind (arith, common_steps)

pub note_all_size : (t : ℕ) (ts : List (Option KnownLock)) (ms : List Cell) → length (note_all t ts ms) ≡ length ts
note_all_size t ts [] = refl
note_all_size t ts (m ∷ ms) = note_all_size t (note t ts (heard_cell m)) ms ∙ note_size t ts (heard_cell m)

abbrev pub AllListed : List HeardCell → Type 0
AllListed xs = AllByRecursion (λ x. has_listed_key x ≡ true) xs

-- ---- after all cells of an epoch

abbrev pub seens : List Cell → List HeardCell
seens ms = map (λ (m : Cell). (heard_cell m)) ms

pub find_none : (key : HeardCell) (xs : List HeardCell) → is_among xs key ≡ false → find (has_same_key key) xs ≡ None
find_none key [] h = refl
find_none key (x ∷ xs) h = grind (arith, common_steps, find_none key xs)

head_apart : (x : HeardCell) (xs : List HeardCell) → IsDistinct has_same_key (x ∷ xs) → is_among xs x ≡ false
head_apart x xs d = none xs (IsDistinct-head has_same_key x xs d) where
  none : (ys : List HeardCell) → AllByRecursion (λ y. has_same_key x y ≡ false) ys → is_among ys x ≡ false
  none [] h = refl
  none (y ∷ ys) h = ap (λ b. b || is_among ys x) h.0 ∙ none ys h.1

pub lookup-note_all : (t : ℕ) (ts : List (Option KnownLock)) (ms : List Cell) (key : HeardCell) → IsDistinct has_same_key (seens ms) → AllListed (seens ms) → length ts ≡ most_locks
    → lookup (note_all t ts ms) key ≡ option_or (option_and_then (lock_of t) (find (has_same_key key) (seens ms))) (lookup ts key)
lookup-note_all t ts [] key d k size = refl
lookup-note_all t ts (m ∷ ms) key d k size =
    lookup-note_all t (note t ts (heard_cell m)) ms key (IsDistinct-tail has_same_key (heard_cell m) (seens ms) d) k.1 (note_size t ts (heard_cell m) ∙ size)
    ∙ ap (λ o. option_or (option_and_then (lock_of t) (find (has_same_key key) (seens ms))) o) (grind (arith, common_steps))
    ∙ by (has_same_key key (heard_cell m)) refl where
      by : (b : Bool) → has_same_key key (heard_cell m) ≡ b
          → option_or (option_and_then (lock_of t) (find (has_same_key key) (seens ms))) (option_or (if b then lock_of t (heard_cell m) else None) (lookup ts key))
          ≡ option_or (option_and_then (lock_of t) (if b then Some (heard_cell m) else find (has_same_key key) (seens ms))) (lookup ts key)
      by true e =
          let none : find (has_same_key key) (seens ms) ≡ None =
          find_none key (seens ms) (list_any_congr same_key_laws key (heard_cell m) (seens ms) e ∙ head_apart (heard_cell m) (seens ms) d) in
          ap (λ o. option_or (option_and_then (lock_of t) o) (option_or (lock_of t (heard_cell m)) (lookup ts key))) none
      by false e = refl

-- ---- the number of records: that of the keys of the recorded locked cells

abbrev is_new : List HeardCell → HeardCell → ℕ
is_new xs y = if is_among xs y then 0 else 1

recorded-put : (ts : List (Option KnownLock)) (x : HeardCell) (l : KnownLock) → has_listed_key x ≡ true → length ts ≡ most_locks → recorded (put ts x l) ≡ recorded ts + (if is_some (lookup ts x) then 0 else 1)
recorded-put ts x l k size = grind (arith, common_steps)

pub tracks_put : (ts : List (Option KnownLock)) (noted : List HeardCell) (x : HeardCell) (l : KnownLock) → has_listed_key x ≡ true → TracksLocks ts noted → TracksLocks (put ts x l) (noted ++ x ∷ [])
tracks_put ts noted x l k h = grind (arith, common_steps, among-push, recorded-put, firsts-push, length-append, new_key, length-set)

-- The locked ones of these cells.
abbrev pub locked : List HeardCell → List HeardCell
locked xs = filter is_locked xs

pub tracks_note : (t : ℕ) (rs : List (Option KnownLock)) (noted : List HeardCell) (x : HeardCell) → has_listed_key x ≡ true → TracksLocks rs noted → TracksLocks (note t rs x) (noted ++ locked (x ∷ []))
tracks_note t rs noted x k h = grind (arith, tracks_put rs noted x (record { time = t; lock = x.lock }) k h, append-nil noted)

pub tracks_all : (t : ℕ) (rs : List (Option KnownLock)) (noted : List HeardCell) (ms : List Cell) → AllListed (seens ms) → TracksLocks rs noted → TracksLocks (note_all t rs ms) (noted ++ locked (seens ms))
tracks_all t rs noted [] k h = subst (TracksLocks rs) (sym (append-nil noted)) h
tracks_all t rs noted (m ∷ ms) k h = grind (arith, append_assoc, tracks_all t (note t rs (heard_cell m)) (noted ++ locked ((heard_cell m) ∷ [])) ms k.1 (tracks_note t rs noted (heard_cell m) k.0 h))

-- ---- no records

no_recorded : (n : ℕ) → recorded (replicate n None) ≡ 0
no_recorded zero = refl
no_recorded (suc n) = sum_by-cons (λ o. cond (is_some {T = KnownLock} o) 1 0) None (replicate n None) ∙ ap (λ n. 0 + n) (no_recorded n)

pub none_recorded : recorded no_locks ≡ 0
none_recorded = no_recorded most_locks

pub none_found : (key : HeardCell) → lookup no_locks key ≡ None
none_found key = grind (arith, get_or-same {A = Option KnownLock} None most_locks (lock_place key))
