-- Bytes that are written one part after the other.
use Rattle.rtcm_convert.proofs.Names.{arith, ◌≡◌, ℕ, List, [], ◌++◌, sym, ap, ◌∙◌, Option, None, Some, refl, subst, Err, append_assoc, append-nil, IsErrOf, Appends, Keeps, append_cancel_left, Appends-nil, Appends-kept, AppendsPrefix, IsPrefix, AppendsBetween, AppendsPrefixBetween, AppendsUpTo, Result, IsErrAnd, common_steps}

pub goes_on-refl : (a : Option (List ℕ)) (x : List ℕ) → AppendsBetween a a x x
goes_on-refl a x = record { part = []; text = sym (append-nil x); out = Appends-nil a }

pub goes_on-trans : {a b c : Option (List ℕ)} {x y z : List ℕ} → AppendsBetween a b x y → AppendsBetween b c y z → AppendsBetween a c x z
goes_on-trans {a} {b} {c} {x} f g = grind (arith, common_steps)

pub breaks_off-after : {a b c : Option (List ℕ)} {x y z : List ℕ} → AppendsBetween a b x y → AppendsPrefixBetween b c y z → AppendsPrefixBetween a c x z
breaks_off-after {a} {b} {c} {x} f g = grind (arith, common_steps)

pub breaks_off-before : {a b : Option (List ℕ)} {x y z : List ℕ} → AppendsPrefixBetween a b x y → IsPrefix y z → AppendsPrefixBetween a b x z
breaks_off-before {x} f p = grind (arith, common_steps)

-- all of what the later text adds
pub goes_on-by : (a b : Option (List ℕ)) (x y z : List ℕ) → z ≡ x ++ y → Appends a b y → AppendsBetween a b x z
goes_on-by a b x y z e o = record { part = y; text = e; out = o }

-- a prefix of what it adds
pub breaks_off-by : (a b : Option (List ℕ)) (x y z : List ℕ) → z ≡ x ++ y → AppendsPrefix a b y → AppendsPrefixBetween a b x z
breaks_off-by a b x y z e p = grind (arith, common_steps)

-- a flush keeps the known bytes
pub goes_on-kept : {a b c : Option (List ℕ)} {x y : List ℕ} → AppendsBetween a b x y → Keeps b c → AppendsBetween a c x y
goes_on-kept {a} {b} {c} f k = record { part = f.part; text = f.text; out = Appends-kept a b c f.part f.out k }

-- the whole is also a prefix
pub goes_on-front : {a b : Option (List ℕ)} {x y : List ℕ} → AppendsBetween a b x y → AppendsPrefixBetween a b x y
goes_on-front {x} f = record { part = f.part; rest = []; text = f.text ∙ sym (append-nil (x ++ f.part)); out = f.out }

-- what was written before a point between the earlier and the middle text, and after it
append_split : (a c : Option (List ℕ)) (x y : List ℕ) → Appends a c (x ++ y) → (b : Option (List ℕ)) × Appends a b x × Appends b c y
append_split None c x y h = (None, tt, tt)
append_split (Some l) None x y h = absurd h
append_split (Some l) (Some k) x y h = (Some (l ++ x), refl, h ∙ sym (append_assoc l x y))

pub up_to_earlier : {a b : Option (List ℕ)} {x m y z : List ℕ} → IsPrefix x m → IsPrefix m y → AppendsUpTo a b x y z → AppendsUpTo a b x m z
up_to_earlier {a} {x} p q f =
    let e : f.before.part ≡ p.0 ++ q.0 = append_cancel_left x f.before.part (p.0 ++ q.0) (sym f.before.text ∙ q.1 ∙ ap (λ l. l ++ q.0) p.1 ∙ append_assoc x p.0 q.0) in
    let s = append_split a f.mid p.0 q.0 (subst (λ (l : List ℕ). Appends a f.mid l) e f.before.out) in
    record {
      mid = s.0;
      before = record { part = p.0; text = p.1; out = s.1 };
      last = breaks_off-after (record { part = q.0; text = q.1; out = s.2 }) f.last;
    }

pub up_to_later : {a b : Option (List ℕ)} {x m y z : List ℕ} → IsPrefix y z → AppendsUpTo a b x m y → AppendsUpTo a b x m z
up_to_later p f = record { mid = f.mid; before = f.before; last = breaks_off-before f.last p }

-- the same without the point between
pub up_to_whole : {a b : Option (List ℕ)} {x m y : List ℕ} → AppendsUpTo a b x m y → AppendsPrefixBetween a b x y
up_to_whole f = breaks_off-after f.before f.last

-- the fault of a call that is returned by another
pub same_fault : {T U E : Type 0} (x e : E) → IsErrOf {T = T} {E = E} (Err x) e → IsErrOf {T = U} {E = E} (Err x) e
same_fault x e h = let same : x ≡ e = cc in ap Err same

-- the same by `?`
pub same_passed : {T U E : Type 0} (r : Result T E) (x e : E) → IsErrAnd r (λ y. y ≡ x) → IsErrOf r e → IsErrOf {T = U} {E = E} (Err x) e
same_passed r x e is h = grind (arith, common_steps)
