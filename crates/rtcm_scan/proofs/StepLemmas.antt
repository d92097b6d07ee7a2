-- The counts of a framer, step by step.
use Rattle.rtcm_scan.proofs.Names.{common_steps, ℕ, ◌≡◌, ◌+◌, ◌-◌, ◌*◌, ◌<◌, ◌≤◌, min, max, Bool, true, false, not, List, [], ◌∷◌, ◌++◌, length, map, drop, set, get_or, refl, sym, ap, ◌∙◌, arith, suc, zero, subst, length-set, length-append, length-drop, filter, list_any, get_or-set_same, map-append, filter-append, WindowValue, looked, looked_through, without_front, begins_frame, message_length, frame_length, framed_message, Framed, IsFrameOf, frame_end, places, is_inside, cost, FramerValue, HasFramed, first_held, IsPassed, Scanned, window_of, with_window, with_looks, asked, with_candidate_examined, Span, span, covers, looks_at, all_looks, tried_before, spans_at, CountsLooks, HasExamined, longest_frame, most_looks, most_bytes, all_append, looked_bytes, looked_length}
use Rattle.std.specs.List.{AllByRecursion as ByRecursion}
use Rattle.rtcm_scan.proofs.LooksLemmas.{one_if, looks_push, all_push, counts_look, counts_push, none_cover, greatest_same}
use Rattle.rtcm_scan.proofs.TriedLemmas.{sum_empty, counts_skip, counts_frame, looks_frame, all_frame, empty_covers}
use Rattle.rtcm_scan.proofs.CostLemmas.{spans_longer}
use Rattle.rtcm_scan.proofs.BoundLemmas.{looks_bound, all_bound, no_more}
use Rattle.rtcm_scan.proofs.CandidateLemmas.{wanted_bound}
use Rattle.rtcm_scan.proofs.DecidedLemmas.{none_past}
use Rattle.rtcm_scan.proofs.ScanLemmas.{scanned_le, scanned_frame}
use Rattle.rtcm_scan.proofs.HistoryLemmas.{with_byte, history_push, history_give_up, history_take}
use Rattle.rtcm_scan.proofs.FrameLemmas.{begins_parts, length-message}

-- the counts fit their types
record Fit (xs : List Span) : Type 0 where
  pub looks : (i : ℕ) → looks_at xs i ≤ 65535
  pub all : all_looks xs ≤ 18446744073709551615

fit_less : (xs : List Span) (q k n : ℕ) → k ≤ n → Fit (xs ++ span q n ∷ []) → Fit (xs ++ span q k ∷ [])
fit_less xs q k n h f = record {
  looks = λ i. (let a : looks_at (xs ++ span q k ∷ []) i ≤ looks_at (xs ++ span q n ∷ []) i = grind (arith, common_steps, looks_push) in no_more a (f.looks i));
  all = grind (arith, all_push);
}
  where
    le_sum : (u v x : ℕ) → u ≡ x + k → v ≡ x + n → v ≤ 18446744073709551615 → u ≤ 18446744073709551615
    le_sum u v x a b c = omega arith

abbrev Counted : List Span → ℕ → ℕ → WindowValue → Type 0
Counted xs p n w = CountsLooks xs p n w.looks w.examined w.most

-- the last span, of k bytes, can grow by m looks from `start` on: each at a byte of the stream that has a count, which is not full
record CanGrow (xs : List Span) (q k p n start m : ℕ) (w : WindowValue) : Type 0 where
  pub meets : q + k ≡ p + start
  pub counted : start + m ≤ length w.looks
  pub within : p + (start + m) ≤ n
  pub fit : Fit (xs ++ span q (k + m) ∷ [])

counts_looked : {q k p n j : ℕ} (xs : List Span) (w : WindowValue) → CanGrow xs q k p n j 1 w → Counted (xs ++ span q k ∷ []) p n w → Counted (xs ++ span q (k + 1) ∷ []) p n (looked w j)
counts_looked {q} {k} {p} {n} {j} xs w g c =
    let l : j < length w.looks = omega (arith, g.counted) in
    let d : CountsLooks (xs ++ span q (k + 1) ∷ []) p n (set w.looks j (get_or w.looks j 0 + 1)) (w.examined + 1) (max w.most (get_or w.looks j 0 + 1)) =
    counts_look xs q k g.meets l (omega (arith, g.within)) c in
    let s : get_or (set w.looks j (get_or w.looks j 0 + 1)) j 0 ≡ get_or w.looks j 0 + 1 = get_or-set_same w.looks j (get_or w.looks j 0 + 1) 0 l in
    let a : get_or (set w.looks j (get_or w.looks j 0 + 1)) j 0 ≡ looks_at (xs ++ span q (k + 1) ∷ []) (p + j) = d.each j (omega (arith, l, length-set w.looks j (get_or w.looks j 0 + 1))) in
    rw (fits _ _ _ s a (g.fit.looks (p + j)), fits_all _ _ d.total g.fit.all) d
  where
    fits : (x y z : ℕ) → y ≡ x → y ≡ z → z ≤ 65535 → min x 65535 ≡ x
    fits x y z a b c = omega arith

    fits_all : (x y : ℕ) → x ≡ y → y ≤ 18446744073709551615 → min x 18446744073709551615 ≡ x
    fits_all x y a b = omega arith

counts_through : {q k p n start : ℕ} (xs : List Span) (m : ℕ) (w : WindowValue) → CanGrow xs q k p n start m w
    → Counted (xs ++ span q k ∷ []) p n w → Counted (xs ++ span q (k + m) ∷ []) p n (looked_through w start m)
counts_through {q} {k} {p} {n} xs zero w g c =
    let z : k ≡ k + 0 = omega arith in subst (λ (t : ℕ). Counted (xs ++ span q t ∷ []) p n w) z c
counts_through {q} {k} {p} {n} {start} xs (suc m) w g c =
    let z : k + m + 1 ≡ k + suc m = omega arith in
    let f : Fit (xs ++ span q (k + m) ∷ []) = fit_less xs q (k + m) (k + suc m) (omega arith) g.fit in
    let f' : Fit (xs ++ span q (k + m + 1) ∷ []) = subst (λ (t : ℕ). Fit (xs ++ span q t ∷ [])) (sym z) g.fit in
    let r : Counted (xs ++ span q (k + m) ∷ []) p n (looked_through w start m) =
    counts_through xs m w (record { meets = g.meets; counted = omega (arith, g.counted); within = omega (arith, g.within); fit = f }) c in
    let b : length (looked_through w start m).looks ≡ length w.looks = looked_length w start m in
    subst (λ (t : ℕ). Counted (xs ++ span q t ∷ []) p n (looked_through w start (suc m))) z
    (counts_looked xs (looked_through w start m) (record { meets = omega (arith, g.meets); counted = omega (arith, g.counted, b); within = omega (arith, g.within); fit = f' }) r)

-- at every moment the counts fit
bound_fits : {k : ℕ} (e : Bool) (b : List ℕ) (fs : List Framed) (p : ℕ) → Scanned e b 0 p fs → k ≤ longest_frame → p + k ≤ length b → length b ≤ most_bytes → Fit (spans_at b fs p k)
bound_fits {k} e b fs p s h l t = record {
  looks = λ i. (let r : looks_at (spans_at b fs p k) i ≤ most_looks = looks_bound e b fs p k i s h in small _ r);
  all = (let r : all_looks (spans_at b fs p k) ≤ most_looks * length b = all_bound e b fs p s h l in small_all _ (length b) r t);
}
  where
    small : (x : ℕ) → x ≤ most_looks → x ≤ 65535
    small x h = omega arith

    small_all : (x n : ℕ) → x ≤ most_looks * n → n ≤ most_bytes → x ≤ 18446744073709551615
    small_all x n h k = omega arith

asked_bound : (s : List ℕ) → (asked s ≤ longest_frame) × (asked s ≤ length s)
asked_bound s = let h = (wanted_bound s).1 in (omega arith, omega arith)

-- the candidate at the front is examined up to n of its bytes
pub step_examined_to : (v : FramerValue) (n : ℕ) (b : List ℕ) (fs : List Framed) → v.tried ≤ n → n ≤ longest_frame → n ≤ length v.held → HasExamined v b fs
    → HasExamined (with_looks v (looked_through (window_of v) v.tried (n - v.tried)) n) b fs
step_examined_to v n b fs h a0 a1 x =
    let s : HasFramed v b fs = x.history in
    let sc : Scanned v.has_ended b 0 (first_held v) fs = s.scanned in
    let z : v.tried + (n - v.tried) ≡ n = omega arith in
    let k : Fit (spans_at b fs (first_held v) n) = bound_fits v.has_ended b fs (first_held v) sc a0 (omega arith) (omega arith) in
    let c : Counted (spans_at b fs (first_held v) (v.tried + (n - v.tried))) (first_held v) (length b) (looked_through (window_of v) v.tried (n - v.tried)) =
    counts_through _ (n - v.tried) (window_of v) (record { meets = refl; counted = omega arith; within = omega arith; fit = subst (λ (q : ℕ). Fit (spans_at b fs (first_held v) q)) (sym z) k }) x.counts in
    record {
      history = record { taken = s.taken; held = s.held; fits = s.fits; scanned = s.scanned; first = s.first; skipped = s.skipped };
      limit = x.limit;
      within = x.within;
      each = looked_length (window_of v) v.tried (n - v.tried) ∙ x.each;
      tried = a1;
      counts = subst (λ (q : ℕ). Counted (spans_at b fs (first_held v) q) (first_held v) (length b) (looked_through (window_of v) v.tried (n - v.tried))) z c;
    }

-- the candidate at the front is examined
pub step_examined : (v : FramerValue) (b : List ℕ) (fs : List Framed) → v.tried ≤ asked v.held → HasExamined v b fs → HasExamined (with_candidate_examined v) b fs
step_examined v b fs h x = let a = asked_bound v.held in step_examined_to v (asked v.held) b fs h a.0 a.1 x

-- the counts of a framer whose candidate was examined whole
pub counts_whole : (v : FramerValue) (b : List ℕ) (fs : List Framed) → 0 < length v.held → v.tried ≡ asked v.held → HasExamined v b fs
    → CountsLooks (spans_at b fs (first_held v) (cost b (first_held v))) (first_held v) (length b) v.looks v.examined v.most
counts_whole v b fs l a x = grind arith

-- the byte at a place is dropped
pub step_give_up : (v : FramerValue) (b : List ℕ) (fs : List Framed) → 0 < length v.held → v.tried ≡ asked v.held → IsPassed v.has_ended v.held → HasExamined v b fs
    → HasExamined (record (with_window v (without_front (window_of v) 1) 0) { skipped = v.skipped + 1 }) b fs
step_give_up v b fs h a p x =
    let s : HasFramed v b fs = x.history in
    let n : HasFramed (record v { held = drop 1 v.held; skipped = v.skipped + 1 }) b fs = history_give_up v b fs h p s in
    let l : length (drop 1 v.held) ≡ length v.held - 1 = length-drop 1 v.held in
    let e : first_held v + 1 ≡ v.taken - length (drop 1 v.held) = omega (arith, l, h, s.fits) in
    let d : CountsLooks (spans_at b fs (first_held v + 1) 0) (first_held v + 1) (length b) (drop 1 v.looks) v.examined v.most =
    counts_skip v.has_ended b fs (first_held v) s.scanned (omega (arith, h, x.each)) (counts_whole v b fs h a x) in
    grind (arith, common_steps, length-drop)

-- spans with equal looks
pub counts_same : {p n : ℕ} {looks : List ℕ} {all most : ℕ} (xs ys : List Span) → ((i : ℕ) → looks_at xs i ≡ looks_at ys i) → all_looks xs ≡ all_looks ys → CountsLooks xs p n looks all most → CountsLooks ys p n looks all most
counts_same {p} {n} xs ys e t c = record {
  each = λ j l. c.each j l ∙ e (p + j);
  total = c.total ∙ t;
  greatest_is = c.greatest_is ∙ greatest_same (looks_at xs) (looks_at ys) n (λ i l. e i);
}

pub looks_empty : (xs : List Span) (p i : ℕ) → looks_at xs i ≡ looks_at (xs ++ span p 0 ∷ []) i
looks_empty xs p i = sum_empty (λ x. one_if (covers i x)) xs (span p 0) (empty_covers i p)

pub all_empty : (xs : List Span) (p : ℕ) → all_looks xs ≡ all_looks (xs ++ span p 0 ∷ [])
all_empty xs p = sum_empty (λ x. x.size) xs (span p 0) refl

-- a frame is passed on
pub step_take : (v : FramerValue) (b : List ℕ) (fs : List Framed) → begins_frame v.held ≡ true → v.tried ≡ asked v.held → HasExamined v b fs
    → HasExamined (with_window v (without_front (looked_through (window_of v) 3 (message_length v.held)) (frame_length v.held)) 0) b (fs ++ record { offset = first_held v; message = framed_message v.held } ∷ [])
step_take v b fs h a x =
    let p : ℕ = first_held v in
    let n : ℕ = frame_length v.held in
    let g : Framed = record { offset = first_held v; message = framed_message v.held } in
    let s : HasFramed v b fs = x.history in
    let r : HasFramed (record v { held = drop n v.held }) b (fs ++ g ∷ []) = history_take v b fs h s in
    let w : frame_length v.held ≤ length v.held = (begins_parts v.held h).1 in
    let q : length (framed_message v.held) ≡ message_length v.held = length-message v.held h in
    let l : length (drop (frame_length v.held) v.held) ≡ length v.held - frame_length v.held = length-drop n v.held in
    let i : length v.looks ≡ length v.held = x.each in
    let o : list_any (is_inside p) fs ≡ false = none_past v.has_ended b 0 p fs s.scanned in
    let xs : List Span = spans_at b fs p (cost b p) in
    let c : Counted (xs ++ span (p + 3) 0 ∷ []) p (length b) (window_of v) =
    counts_same xs (xs ++ span (p + 3) 0 ∷ []) (λ j. looks_empty xs (p + 3) j) (all_empty xs (p + 3)) (counts_whole v b fs (omega (arith, w)) a x) in
    let e : IsFrameOf b g = record { begins = (let r = s.held in rw r at h); message = ap framed_message s.held } in
    let k : Fit (spans_at b (fs ++ g ∷ []) (frame_end g) 0) =
    bound_fits {k = 0} v.has_ended b (fs ++ g ∷ []) (frame_end g) (scanned_frame v.has_ended b 0 fs g s.scanned e) (omega arith) (omega arith) (omega (arith, x.limit, x.within)) in
    let fit : Fit (xs ++ span (p + 3) (length g.message) ∷ []) = record {
      looks = λ j. (let r = looks_frame b fs g j o in let u = k.looks j in rw (← r) at u);
      all = (let r = all_frame b fs g o in let u = k.all in rw (← r) at u);
    } in
    let z : length g.message ≡ 0 + message_length v.held = omega (arith, q) in
    let u : WindowValue = looked_through (window_of v) 3 (message_length v.held) in
    let d : Counted (xs ++ span (p + 3) (length g.message) ∷ []) p (length b) u = subst (λ (y : ℕ). Counted (xs ++ span (p + 3) y ∷ []) p (length b) u) (sym z)
    (counts_through xs (message_length v.held) (window_of v) (record { meets = omega arith; counted = omega arith; within = omega arith; fit = subst (λ (y : ℕ). Fit (xs ++ span (p + 3) y ∷ [])) z fit }) c) in
    let m : CountsLooks (spans_at b (fs ++ g ∷ []) (frame_end g) 0) (frame_end g) (length b) (drop (length g.message + 6) u.looks) u.examined u.most =
    counts_frame v.has_ended b fs g s.scanned (omega (arith, w, q, i, looked_length (window_of v) 3 (message_length v.held))) d in
    let bs : drop n u.bytes ≡ drop n v.held = ap (drop n) (looked_bytes (window_of v) 3 (message_length v.held)) in
    let lb : length (drop (frame_length v.held) u.bytes) ≡ length (drop (frame_length v.held) v.held) = ap length bs in
    record {
      history = subst (λ (y : List ℕ). HasFramed (record (with_window v (without_front u n) 0) { held = y }) b (fs ++ g ∷ [])) (sym bs)
          (record { taken = r.taken; held = r.held; fits = r.fits; scanned = r.scanned; first = r.first; skipped = r.skipped });
      limit = x.limit;
      within = x.within;
      each = length-drop n u.looks ∙ ap (λ y. y - n) (looked_length (window_of v) 3 (message_length v.held) ∙ i) ∙ sym l ∙ sym lb;
      tried = omega arith;
      counts = subst (λ (y : ℕ). CountsLooks (spans_at b (fs ++ g ∷ []) y 0) y (length b) (drop n u.looks) u.examined u.most) (omega arith)
          (subst (λ (y : List ℕ). CountsLooks (spans_at b (fs ++ g ∷ []) (frame_end g) 0) (frame_end g) (length b) y u.examined u.most) (ap (λ y. drop (y + 6) u.looks) q) m);
    }

-- a byte follows
spans_end : (b : List ℕ) (t : ℕ → Bool) (n : ℕ) → n ≤ length b → ByRecursion (λ (s : Span). s.start + s.size ≤ length b) (map (λ q. span q (cost b q)) (filter t (places n)))
unfolding places
spans_end b t zero l = tt
spans_end b t (suc n) l = grind (arith, length-drop, filter-append, map-append, all_append, (spans_end b t n (omega arith)))

messages_end : (e : Bool) (b : List ℕ) (from to : ℕ) (fs : List Framed) → Scanned e b from to fs → to ≤ length b → ByRecursion (λ (s : Span). s.start + s.size ≤ length b) (map (λ (f : Framed). span (f.offset + 3) (length f.message)) fs)
messages_end e b from to [] s h = tt
messages_end e b from to (f ∷ fs) s h = let l : frame_end f ≤ to = scanned_le e b (frame_end f) to fs s.3 in (omega arith, messages_end e b (frame_end f) to fs s.3 h)

pub step_push : (v : FramerValue) (b : List ℕ) (fs : List Framed) (x : ℕ) → v.has_ended ≡ false → v.taken < v.limit → HasExamined v b fs
    → HasExamined (with_byte v x) (b ++ x ∷ []) fs
unfolding tried_before
step_push v b fs x n lt h =
    let p = first_held v in
    let s : HasFramed v b fs = h.history in
    let r = history_push v b fs x n s in
    let f : length v.held ≤ v.taken = s.fits in
    let t : v.taken ≡ length b = s.taken in
    let g : length v.looks ≡ length v.held = h.each in
    let k : v.tried ≤ length v.held = h.tried in
    let sc : Scanned false b 0 (first_held v) fs = (let k = s.scanned in rw n at k) in
    let m : length (b ++ x ∷ []) ≡ length b + 1 = length-append b (x ∷ []) in
    let l : length (v.held ++ x ∷ []) ≡ length v.held + 1 = length-append v.held (x ∷ []) in
    let ll : length (v.looks ++ 0 ∷ []) ≡ length v.looks + 1 = length-append v.looks (0 ∷ []) in
    let e : first_held v ≡ v.taken + 1 - length (v.held ++ x ∷ []) = omega arith in
    let z : looks_at (spans_at b fs (first_held v) v.tried) (length b) ≡ 0 = none_cover (spans_at b fs (first_held v) v.tried) (length b)
    (all_append _ _ _ (all_append _ _ _ (spans_end b (λ q. not (list_any (is_inside q) fs)) (first_held v) (omega arith)) (messages_end false b 0 (first_held v) fs sc (omega arith))) (omega arith, tt)) in
    let c : CountsLooks (spans_at b fs (first_held v) v.tried) (first_held v) (length b + 1) (v.looks ++ 0 ∷ []) v.examined v.most =
    counts_push (spans_at b fs (first_held v) v.tried) (omega arith) z h.counts in
    let w : spans_at (b ++ x ∷ []) fs (first_held v) v.tried ≡ spans_at b fs (first_held v) v.tried = spans_longer b (x ∷ []) (first_held v) v.tried fs (omega arith) sc in
    let d : CountsLooks (spans_at (b ++ x ∷ []) fs (first_held v) v.tried) (first_held v) (length (b ++ x ∷ [])) (v.looks ++ 0 ∷ []) v.examined v.most =
    subst (λ (q : ℕ). CountsLooks (spans_at (b ++ x ∷ []) fs (first_held v) v.tried) (first_held v) q (v.looks ++ 0 ∷ []) v.examined v.most) (sym m)
    (subst (λ (q : List Span). CountsLooks q (first_held v) (length b + 1) (v.looks ++ 0 ∷ []) v.examined v.most) (sym w) c) in
    grind arith
