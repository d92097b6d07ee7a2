-- Masks and rising lists correspond one to one.
use Rattle.rtcm_msg.proofs.Names.{Bool, Each, IsIn, List, Rising, [], ap, arith, cases_eq, chosen, false, ids, if◌then◌else◌, inl, inr, length, length-uint, map, map-id, number, number-fits, number_of-uint, refl, subst, suc, sym, true, uint, uint-number, up_from, zero, ℕ, ◌+◌, ◌<◌, ◌==◌, ◌^◌, ◌∙◌, ◌∷◌, ◌≡◌, ◌≤◌}

pub weaken : (low more high : ℕ) (xs : List ℕ) → low ≤ more → Rising more high xs → Rising low high xs
weaken low more high [] h r = tt
weaken low more high (x ∷ xs) h r = (omega (arith, h, r.0), r.1, r.2)

pub cons_tail : (x y : ℕ) (xs ys : List ℕ) → x ∷ xs ≡ y ∷ ys → xs ≡ ys
cons_tail x y xs ys e = cc

-- ---- items chosen by bits

pub chosen_rising : {A : Type 0} (key : A → ℕ) (low high : ℕ) (bits : List Bool) (xs : List A) → Rising low high (map key xs)
    → Rising low high (map key (chosen bits xs))
unfolding chosen
chosen_rising key low high [] xs r = tt
chosen_rising key low high (b ∷ bits) [] r = tt
chosen_rising key low high (b ∷ bits) (x ∷ xs) r = grind (arith, weaken, chosen_rising key (key x + 1) high bits xs r.2)

not_above : (n high : ℕ) (xs ys : List ℕ) → Rising (n + 1) high ys → n ∷ xs ≡ ys → ⊥
not_above n high xs ys r e = let s : Rising (n + 1) high (n ∷ xs) = subst (Rising (n + 1) high) (sym e) r in omega (arith, s.0)

pub chosen_one : {A : Type 0} (key : A → ℕ) (low high : ℕ) (bs cs : List Bool) (xs : List A) → length bs ≡ length xs → length cs ≡ length xs → Rising low high (map key xs) → map key (chosen bs xs) ≡ map key (chosen cs xs) → bs ≡ cs
unfolding chosen
chosen_one key low high [] [] xs a b r e = refl
chosen_one key low high [] (c ∷ cs) xs a b r e = absurd (omega (arith, a, b))
chosen_one key low high (b ∷ bs) [] xs a c r e = absurd (omega (arith, a, c))
chosen_one key low high (b ∷ bs) (c ∷ cs) [] l m r e = absurd (omega (arith, l))
chosen_one key low high (true ∷ bs) (true ∷ cs) (x ∷ xs) l m r e = ap (λ t. true ∷ t) (chosen_one key (key x + 1) high bs cs xs (omega (arith, l)) (omega (arith, m)) r.2 (cons_tail (key x) (key x) (map key (chosen bs xs)) (map key (chosen cs xs)) e))
chosen_one key low high (false ∷ bs) (false ∷ cs) (x ∷ xs) l m r e = ap (λ t. false ∷ t) (chosen_one key (key x + 1) high bs cs xs (omega (arith, l)) (omega (arith, m)) r.2 e)
chosen_one key low high (true ∷ bs) (false ∷ cs) (x ∷ xs) l m r e = absurd (not_above (key x) high (map key (chosen bs xs)) (map key (chosen cs xs)) (chosen_rising key (key x + 1) high cs xs r.2) e)
chosen_one key low high (false ∷ bs) (true ∷ cs) (x ∷ xs) l m r e = absurd (not_above (key x) high (map key (chosen cs xs)) (map key (chosen bs xs)) (chosen_rising key (key x + 1) high bs xs r.2) (sym e))

pub pick : {A : Type 0} → (A → ℕ) → List A → List A → List Bool
pick key [] ys = []
pick key (x ∷ xs) [] = false ∷ pick key xs []
pick key (x ∷ xs) (y ∷ ys) = if key x == key y then true ∷ pick key xs ys else false ∷ pick key xs (y ∷ ys)

pick_here : {A : Type 0} (key : A → ℕ) (x y : A) (xs ys : List A) → y ≡ x → pick key (x ∷ xs) (y ∷ ys) ≡ true ∷ pick key xs ys
unfolding pick
pick_here key x y xs ys e = grind arith

pick_later : {A : Type 0} (key : A → ℕ) (x y : A) (xs ys : List A) → key x < key y → pick key (x ∷ xs) (y ∷ ys) ≡ false ∷ pick key xs (y ∷ ys)
unfolding pick
pick_later key x y xs ys h = grind arith

in_above : {A : Type 0} (key : A → ℕ) (low high : ℕ) (y : A) (xs : List A) → Rising low high (map key xs) → IsIn y xs → low ≤ key y
in_above key low high y [] r i = absurd i
in_above key low high y (x ∷ xs) r i = grind (arith, in_above key (key x + 1) high y xs r.2)

-- Items after the first one are among the others.
others_in : {A : Type 0} (key : A → ℕ) (high : ℕ) (x : A) (xs ys : List A) → Rising (key x + 1) high (map key ys)
    → Each (λ y. IsIn y (x ∷ xs)) ys → Each (λ y. IsIn y xs) ys
others_in key high x xs [] r h = tt
others_in key high x xs (y ∷ ys) r h =
    grind (arith, (others_in key high x xs ys (weaken (key x + 1) (key y + 1) high (map key ys) (omega (arith, r.0)) r.2) h.1))

pub record Picked {A : Type 0} (key : A → ℕ) (xs ys : List A) : Type 0 where
  pub back : chosen (pick key xs ys) xs ≡ ys
  pub len : length (pick key xs ys) ≡ length xs

pub picked : {A : Type 0} (key : A → ℕ) (low high start : ℕ) (xs ys : List A) → Rising low high (map key xs) → Rising start high (map key ys) → Each (λ y. IsIn y xs) ys → Picked key xs ys
unfolding pick chosen
picked key low high start [] [] r s h = record { back = refl; len = refl }
picked key low high start [] (y ∷ ys) r s h = absurd h.0
picked key low high start (x ∷ xs) [] r s h = let p = picked key (key x + 1) high start xs [] r.2 tt tt in record { back = p.back; len = ap suc p.len }
picked key low high start (x ∷ xs) (y ∷ ys) r s h = elim h.0 [
  | inl e ↦
      let above : Rising (key x + 1) high (map key ys) = subst (λ (n : ℕ). Rising (n + 1) high (map key ys)) (ap key e) s.2 in
      let p = picked key (key x + 1) high (key x + 1) xs ys r.2 above (others_in key high x xs ys above h.1) in
      let here = pick_here key x y xs ys e in
      record { back = rw here (ap (λ t. x ∷ t) p.back ∙ ap (λ z. z ∷ ys) (sym e)); len = rw here (ap suc p.len) }
  | inr i ↦
      let up : key x + 1 ≤ key y = in_above key (key x + 1) high y xs r.2 i in
      let above : Rising (key x + 1) high (map key ys) = weaken (key x + 1) (key y + 1) high (map key ys) (omega (arith, up)) s.2 in
      let p = picked key (key x + 1) high (key y) xs (y ∷ ys) r.2 (omega arith, s.1, s.2) (i, others_in key high x xs ys above h.1) in
      let here = pick_later key x y xs ys (omega (arith, up)) in
      record { back = rw here p.back; len = rw here (ap suc p.len) }
]

-- ---- lists of IDs

-- The numbers from i on.
abbrev numbers : ℕ → ℕ → List ℕ
numbers i zero = []
numbers i (suc n) = i ∷ numbers (i + 1) n

length_numbers : (n i : ℕ) → length (numbers i n) ≡ n
length_numbers zero i = refl
length_numbers (suc n) i = ap suc (length_numbers n (i + 1))

numbers_rising : (n i high : ℕ) → i + n ≤ high + 1 → Rising i high (map (λ m. m) (numbers i n))
numbers_rising zero i high h = tt
numbers_rising (suc n) i high h = (omega arith, omega (arith, h), numbers_rising n (i + 1) high (omega (arith, h)))

in_numbers : (n i y : ℕ) → i ≤ y → y < i + n → IsIn y (numbers i n)
in_numbers zero i y h k = absurd (omega (arith, h, k))
in_numbers (suc n) i y h k = elim (cases_eq y i) [ inl e ↦ inl e | inr other ↦ inr (in_numbers n (i + 1) y (omega (arith, h, other)) (omega (arith, k))) ]

each_in : (w low : ℕ) (xs : List ℕ) → 1 ≤ low → Rising low w xs → Each (λ y. IsIn y (numbers 1 w)) xs
each_in w low [] h r = tt
each_in w low (x ∷ xs) h r = (in_numbers w 1 x (omega (arith, h, r.0)) (omega (arith, r.1)), each_in w (x + 1) xs (omega arith) r.2)

up_is : (i : ℕ) (bits : List Bool) → up_from i bits ≡ chosen bits (numbers i (length bits))
unfolding up_from chosen
up_is i [] = refl
up_is i (b ∷ bits) = ap (λ (ns : List ℕ). if b then i ∷ ns else ns) (up_is (i + 1) bits)

-- The IDs are the numbers from 1 on whose bits are set.
ids_are : (w m : ℕ) → ids w m ≡ chosen (uint w m) (numbers 1 w)
ids_are w m = up_is 1 (uint w m) ∙ ap (λ (k : ℕ). chosen (uint w m) (numbers 1 k)) (length-uint w m)

pub ids_rising : (w m : ℕ) → Rising 1 w (ids w m)
ids_rising w m = rw (ids_are w m) (rw map-id at (chosen_rising (λ n. n) 1 w (uint w m) (numbers 1 w) (numbers_rising w 1 w (omega arith))))

pub ids_one : (w m n : ℕ) → m < 2 ^ w → n < 2 ^ w → ids w m ≡ ids w n → m ≡ n
ids_one w m n a b e =
    let size = sym (length_numbers w 1) in
    let same = ap (map (λ n. n)) (sym (ids_are w m) ∙ (e ∙ ids_are w n)) in
    let bits = chosen_one (λ n. n) 1 w (uint w m) (uint w n) (numbers 1 w) (length-uint w m ∙ size) (length-uint w n ∙ size) (numbers_rising w 1 w (omega arith)) same in
    sym (number_of-uint w m a) ∙ (ap number bits ∙ number_of-uint w n b)

pub ids_all : (w : ℕ) (xs : List ℕ) → Rising 1 w xs → (m : ℕ) × (m < 2 ^ w) × (ids w m ≡ xs)
ids_all w xs r =
    let p = picked (λ n. n) 1 w 1 (numbers 1 w) xs (numbers_rising w 1 w (omega arith)) (rw map-id r) (each_in w 1 xs (omega arith) r) in
    let bits = pick (λ n. n) (numbers 1 w) xs in
    let size : length bits ≡ w = p.len ∙ length_numbers w 1 in
    let P : ℕ → Type 0 = λ n. number bits < 2 ^ n in
    let Q : ℕ → Type 0 = λ n. uint n (number bits) ≡ bits in
    (number bits, subst P size (number-fits bits), ids_are w (number bits) ∙ (ap (λ (bs : List Bool). chosen bs (numbers 1 w)) (subst Q size (uint-number bits 0)) ∙ p.back))
