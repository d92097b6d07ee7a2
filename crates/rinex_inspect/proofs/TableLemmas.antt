-- Tables after one epoch or one line more.
use Rattle.rinex_inspect.proofs.Names.{common_steps, append-nil, ◌≡◌, ◌∙◌, ◌+◌, ◌-◌, ◌^◌, ◌<◌, ◌≤◌, ◌==◌, ◌++◌, ◌∷◌, [], ℕ, Bool, true, false, zero, suc, List, cond, get_or, length, refl, ap, sym, subst, arith, append_assoc, map, filter, list_any, sum_by, flat_map-append, length-append, map-append, sum_by-append, Satellite, time_stamped, SatelliteRow, SignalValues, Stamped, no_signal_values, with_read, first_of, all_rows, from_first, has_line, is_row_of, last_of, no_tally, presence_of, tally, tally_of, times_of, values_in, SatelliteRecord, Presence, Tally, HasAdded, IsRecordOf, added, before_with, capped, capped_tally, present_with, with_values}
use Rattle.rinex_inspect.proofs.PresenceLemmas.{any_before, any_last, first_length, length-filtered, length_some, one_first, filter_no, filter_yes, first_kept, last_is, length_first, none_filtered, none_first, span_no, span_yes}
use Rattle.rinex_inspect.proofs.TallyLemmas.{length_added, tally_is}

-- ---- tallies

cap_more : {X : Type 0} (bits : ℕ) (f : X → ℕ) (xs : List X) (x : X) → capped bits (capped bits (sum_by f xs) + f x) ≡ capped bits (sum_by f (xs ++ x ∷ []))
cap_more bits f xs x = let more = sum_by-append f xs (x ∷ []) in let one : sum_by f (x ∷ []) ≡ f x = omega arith in omega (arith, more, one)

-- one entry more
tally_more : (es : List SignalValues) (e : SignalValues) → with_values (capped_tally (tally es)) e ≡ capped_tally (tally (es ++ e ∷ []))
tally_more es e = tally_is (cap_more 32 _ es e) (cap_more 32 _ es e) (cap_more 32 _ es e) (cap_more 32 _ es e) (cap_more 32 _ es e) (cap_more 32 _ es e) (cap_more 64 _ es e)

-- no values leave a tally as it is
capped_again : (bits n : ℕ) → capped bits (capped bits n + 0) ≡ capped bits n
capped_again bits n = omega arith

tally_none : (t : Tally) → with_values (capped_tally t) no_signal_values ≡ capped_tally t
tally_none t = tally_is (capped_again 32 t.c) (capped_again 32 t.l) (capped_again 32 t.d) (capped_again 32 t.s) (capped_again 32 t.lost) (capped_again 32 t.half) (capped_again 64 t.strength)

-- the tally of a signal after a line
added_at : (ts : List Tally) (es : List SignalValues) (k : ℕ) (t : Tally) → k < length ts → get_or ts k no_tally ≡ capped_tally t
    → get_or (added ts es) k no_tally ≡ with_values (capped_tally t) (get_or es k no_signal_values)
added_at [] es k t few is = absurd (omega (arith, few))
added_at (u ∷ ts) [] zero t few is = is ∙ sym (tally_none t)
added_at (u ∷ ts) [] (suc k) t few is = is ∙ sym (tally_none t)
added_at (u ∷ ts) (e ∷ es) zero t few is = ap (λ (x : Tally). with_values x e) is
added_at (u ∷ ts) (e ∷ es) (suc k) t few is = added_at ts es k t (omega (arith, few)) is

-- ---- lines

rows_with : (xs : List Stamped) (e : Stamped) → all_rows (xs ++ e ∷ []) ≡ all_rows xs ++ e.rows
rows_with xs e = flat_map-append (λ (x : Stamped). x.rows) xs (e ∷ []) ∙ ap (λ (l : List SatelliteRow). all_rows xs ++ l) (append-nil e.rows)

rows_more : (xs : List Stamped) (e : Stamped) (r : SatelliteRow) → all_rows (xs ++ with_read e r ∷ []) ≡ all_rows (xs ++ e ∷ []) ++ r ∷ []
rows_more xs e r = rows_with xs (with_read e r) ∙ sym (append_assoc (all_rows xs) e.rows (r ∷ [])) ∙ ap (λ (l : List SatelliteRow). l ++ r ∷ []) (sym (rows_with xs e))

module _ (s : Satellite) (k : ℕ) (xs : List Stamped) (e : Stamped) where
  tally_empty : e.rows ≡ [] → tally_of s k (xs ++ e ∷ []) ≡ tally_of s k xs
  tally_empty none = ap (λ (l : List SatelliteRow). tally (map (values_in k) (filter (is_row_of s) l))) (rows_with xs e ∙ ap (λ (l : List SatelliteRow). all_rows xs ++ l) none ∙ append-nil (all_rows xs))

  tally_other : (r : SatelliteRow) → is_row_of s r ≡ false → tally_of s k (xs ++ with_read e r ∷ []) ≡ tally_of s k (xs ++ e ∷ [])
  tally_other r out = ap (λ (l : List SatelliteRow). tally (map (values_in k) (filter (is_row_of s) l))) (rows_more xs e r) ∙ ap (λ (l : List SatelliteRow). tally (map (values_in k) l)) (filter_no (is_row_of s) (all_rows (xs ++ e ∷ [])) r out)

  tally_this : (r : SatelliteRow) → is_row_of s r ≡ true → with_values (capped_tally (tally_of s k (xs ++ e ∷ []))) (values_in k r) ≡ capped_tally (tally_of s k (xs ++ with_read e r ∷ []))
  tally_this r own = grind (arith, common_steps, tally_more, rows_more, filter_yes, map-append)

-- ---- the epochs of a satellite

presence_is : {a b : Presence} → a.epochs ≡ b.epochs → a.span ≡ b.span → a.first ≡ b.first → a.last ≡ b.last → a ≡ b
presence_is epochs span first last = λ i. record { epochs = epochs i; span = span i; first = first i; last = last i }

module _ (s : Satellite) (xs : List Stamped) (e : Stamped) where
  times_yes : has_line s e ≡ true → times_of s (xs ++ e ∷ []) ≡ times_of s xs ++ e.time ∷ []
  times_yes own = ap (map time_stamped) (filter_yes (has_line s) xs e own) ∙ map-append time_stamped (filter (has_line s) xs) (e ∷ [])

  times_no : has_line s e ≡ false → times_of s (xs ++ e ∷ []) ≡ times_of s xs
  times_no out = ap (map time_stamped) (filter_no (has_line s) xs e out)

  pub presence_no : has_line s e ≡ false → presence_of s (xs ++ e ∷ []) ≡ presence_of s xs
  presence_no out = presence_is (ap length (times_no out)) (ap length (span_no (has_line s) xs e out)) (ap first_of (times_no out)) (ap last_of (times_no out))

  pub presence_yes : has_line s e ≡ true → presence_of s (xs ++ e ∷ []) ≡ record { epochs = length (times_of s xs) + 1; span = length (from_first (has_line s) xs) + 1; first = first_of (times_of s xs ++ e.time ∷ []); last = e.time }
  presence_yes own = presence_is (ap length (times_yes own) ∙ length-append (times_of s xs) (e.time ∷ [])) (span_yes (has_line s) xs e own) (ap first_of (times_yes own)) (ap last_of (times_yes own) ∙ last_is (times_of s xs) e.time)

-- a satellite with an epoch has a line in some of them
some_any : (s : Satellite) (xs : List Stamped) → 0 < length (times_of s xs) → list_any (has_line s) xs ≡ true
some_any s xs some = grind (arith, common_steps, none_filtered)

-- ---- records

-- an epoch without lines
pub record_begun : (r : SatelliteRecord) (s : Satellite) (xs : List Stamped) (e : Stamped) → e.rows ≡ [] → IsRecordOf r s xs → IsRecordOf r s (xs ++ e ∷ [])
record_begun r s xs e none is =
    let out : has_line s e ≡ false = ap (list_any (is_row_of s)) none in
    record {
      size = is.size;
      signals = λ k few. is.signals k few ∙ ap capped_tally (sym (tally_empty s k xs e none));
      presence = is.presence ∙ sym (presence_no s xs e out);
      before = λ some.
          let any = some_any s xs (subst (λ (q : Presence). 0 < q.epochs) is.presence some) in
          let first = length_first (has_line s) xs e any in
          let was = is.before some in
          omega (arith, first, was, length-append xs (e ∷ []));
    }

-- the line of another satellite
pub record_other : (q : SatelliteRecord) (s : Satellite) (xs : List Stamped) (e : Stamped) (r : SatelliteRow) → is_row_of s r ≡ false → IsRecordOf q s (xs ++ e ∷ []) → IsRecordOf q s (xs ++ with_read e r ∷ [])
record_other q s xs e r out is =
    let same : has_line s (with_read e r) ≡ has_line s e = any_before (is_row_of s) e.rows r out in
    record {
      size = is.size;
      signals = λ k few. is.signals k few ∙ ap capped_tally (sym (tally_other s k xs e r out));
      presence = is.presence ∙ sym (by (has_line s e) refl same);
      before = λ some. let was = is.before some in let first = first_length (has_line s) xs (with_read e r) e same in omega (arith, was, first, length-append xs (e ∷ []), length-append xs (with_read e r ∷ []));
    } where
      by : (b : Bool) → has_line s e ≡ b → has_line s (with_read e r) ≡ has_line s e → presence_of s (xs ++ with_read e r ∷ []) ≡ presence_of s (xs ++ e ∷ [])
      by true own same = presence_yes s xs (with_read e r) (same ∙ own) ∙ sym (presence_yes s xs e own)
      by false own same = presence_no s xs (with_read e r) (same ∙ own) ∙ sym (presence_no s xs e own)

-- a line of the satellite
not_none : (m : ℕ) → 0 < m → (m == 0) ≡ false
not_none m h = grind (arith, h)

present_new : (n time : ℕ) (q : SatelliteRecord) → q.presence.epochs ≡ 0 → present_with n time q ≡ record { epochs = capped 64 (q.presence.epochs + 1); span = n - (n - 1); first = time; last = time }
present_new n time q e = ap (λ (b : Bool). record { epochs = capped 64 (q.presence.epochs + 1); span = n - cond b (n - 1) q.before; first = cond b time q.presence.first; last = time }) (ap (λ (m : ℕ). m == 0) e)

present_old : (n time : ℕ) (q : SatelliteRecord) → 0 < q.presence.epochs → present_with n time q ≡ record { epochs = capped 64 (q.presence.epochs + 1); span = n - q.before; first = q.presence.first; last = time }
present_old n time q some = ap (λ (b : Bool). record { epochs = capped 64 (q.presence.epochs + 1); span = n - cond b (n - 1) q.before; first = cond b time q.presence.first; last = time }) (not_none q.presence.epochs some)

before_new : (n : ℕ) (q : SatelliteRecord) → q.presence.epochs ≡ 0 → before_with n q ≡ n - 1
before_new n q e = ap (λ (b : Bool). cond b (n - 1) q.before) (ap (λ (m : ℕ). m == 0) e)

before_old : (n : ℕ) (q : SatelliteRecord) → 0 < q.presence.epochs → before_with n q ≡ q.before
before_old n q some = ap (λ (b : Bool). cond b (n - 1) q.before) (not_none q.presence.epochs some)

module _ (q q2 : SatelliteRecord) (s : Satellite) (xs : List Stamped) (e : Stamped) (r : SatelliteRow) (n : ℕ) (out : has_line s e ≡ false) (own : is_row_of s r ≡ true) (last : n ≡ length xs + 1) (small : n < 2 ^ 63)
    (add : HasAdded n e.time r.row.signal_values q q2) (is : IsRecordOf q s (xs ++ e ∷ [])) where
  was : q.presence ≡ presence_of s xs
  was = is.presence ∙ presence_no s xs e out

  now : presence_of s (xs ++ with_read e r ∷ []) ≡ record { epochs = length (times_of s xs) + 1; span = length (from_first (has_line s) xs) + 1; first = first_of (times_of s xs ++ e.time ∷ []); last = e.time }
  now = presence_yes s xs (with_read e r) (any_last (is_row_of s) e.rows r own)

  few : length (times_of s xs) ≤ length xs
  few = length-filtered (has_line s) xs

  ff : has_line s (with_read e r) ≡ true
  ff = any_last (is_row_of s) e.rows r own

  presence_after : (b : Bool) → list_any (has_line s) xs ≡ b → q2.presence ≡ presence_of s (xs ++ with_read e r ∷ [])
  presence_after b any = grind (arith, common_steps, length_some, was, length_first, present_old, presence_is, few, length-append, first_kept, now, none_filtered, none_first, present_new)

  before_after : (b : Bool) → list_any (has_line s) xs ≡ b → q2.before + length (from_first (has_line s) (xs ++ with_read e r ∷ [])) ≡ length (xs ++ with_read e r ∷ [])
  before_after b any = grind (arith, common_steps, length_some, was, before_old, length_first, length-append, none_filtered, before_new, one_first, ff)

  pub record_this : IsRecordOf q2 s (xs ++ with_read e r ∷ [])
  record_this = record {
    size = ap length add.signals ∙ length_added q.signals r.row.signal_values ∙ is.size;
    signals = λ k less. ap (λ (l : List Tally). get_or l k no_tally) add.signals ∙ added_at q.signals r.row.signal_values k (tally_of s k (xs ++ e ∷ [])) (omega (arith, less, is.size)) (is.signals k less) ∙ tally_this s k xs e r own;
    presence = presence_after (list_any (has_line s) xs) refl;
    before = λ some. before_after (list_any (has_line s) xs) refl;
  }
