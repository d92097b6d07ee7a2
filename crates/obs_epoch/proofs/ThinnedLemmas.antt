-- The epoch closed last, as it is returned.
use Rattle.obs_epoch.proofs.Names.{◌≡◌, ℕ, Bool, true, false, ◌||◌, ◌&&◌, List, [], ◌∷◌, ◌++◌, refl, sym, ap, ap₂, ◌∙◌, subst, Option, Some, None, is_some, IfSome, nat_lt, not, append-nil, if◌then◌else◌, option_to_list, arith, value_tabulated, IsPrefix, satellites_written, Choice, in_window, is_chosen, on_grid, closes_first, is_pending, closed_by, closed_list, closed_list_at, closed_so_far_of, is_done, known_epochs, returned_epoch, whole_list, HasGatheredEpochs, thinned, thinned_if, carried_from, counted_epoch, AreMarks, capped_counts, Cell, Closed, GatherSetup, GathererValue, HasTakenMessages, Heard, Timed, closed_so_far, held_at, timed, counts_left_out, lost_before, marked_epoch, thin, and_parts}
use Rattle.obs_epoch.proofs.LockLemmas.{AllListed, seens}
use Rattle.obs_epoch.proofs.MarksLemmas.{marks_push}
use Rattle.obs_epoch.proofs.NotingLemmas.{are_listed}
use Rattle.obs_epoch.proofs.ThinLemmas.{AllListedCells, HasListedCells, counts_push, marked_length, marks_none, marks_same, none_lost, thin_append, thin_prefix}

-- ---- the cells of an epoch are listed

listed_cells : (xs : List Cell) → AllListed (seens xs) → AllListedCells xs
listed_cells [] h = tt
listed_cells (x ∷ xs) h = (h.0, listed_cells xs h.1)

held_listed : (s : GatherSetup) (xs : List Timed) → HasListedCells (held_at s xs)
held_listed s xs = grind (arith, value_tabulated, listed_cells, are_listed)

-- ---- the epoch that a step closes

-- The epoch that was just closed, chosen or not.
abbrev pub closed_one : GathererValue → List Closed
closed_one w = closed_by (if w.just_closed then Some (w.epoch) else None) w.values

abbrev last_of : GathererValue → Closed
last_of w = record { epoch = w.epoch; values = w.values }

-- It is marked as it is in the list of all.
marked_is : (w : GathererValue) (c : Choice) (before : List Closed) → w.clock.setup.choice ≡ c → HasListedCells w.epoch → AreMarks c w.marks before → on_grid c w.epoch.time ≡ true
    → (thinned w).epoch ≡ marked_epoch (lost_before c before) w.epoch
marked_is w c before same listed h at = grind (arith, marks_same, marks_none, none_lost)

chosen_at : (c : Choice) (t : ℕ) → is_chosen c t ≡ true → on_grid c t ≡ true
chosen_at c t h = (and_parts (in_window c t) (on_grid c t) h).1

-- ---- the history with one more epoch

-- What a step has done before the epoch that it closed is marked, counted and chosen.
pub record Step (w : GathererValue) (s : GatherSetup) (ms : List Heard) (before : List Closed) (again : Option Heard) : Type 0 where
  pub standing : HasTakenMessages w s ms (is_done w s ms again)
  pub list : closed_so_far_of w s ms again ≡ before ++ closed_one w
  pub closed : w.just_closed ≡ true → (w.clock.pending ≡ false) × (w.epoch ≡ held_at s (timed s ms))
  pub known : again ≡ None → closed_so_far_of w s ms again ≡ (if w.has_ended then whole_list s ms else closed_list s ms)
  pub first : IsPrefix (closed_so_far_of w s ms again) (if w.has_ended then whole_list s (ms ++ option_to_list again) else closed_list s (ms ++ option_to_list again))
  pub fits : IfSome again (λ m. closes_first s (timed s ms) m ≡ true)

-- The epochs so far, of the whole list.
pub record Before (w : GathererValue) (s : GatherSetup) (before es : List Closed) : Type 0 where
  pub returned : es ≡ thin s.choice before
  pub marks : AreMarks s.choice w.marks before
  pub counts : w.counts ≡ capped_counts (counts_left_out s.choice before)

gathered : (v w : GathererValue) (s : GatherSetup) (ms : List Heard) (before es : List Closed) (again : Option Heard) → Step w s ms before again → v.clock ≡ w.clock → v.has_ended ≡ w.has_ended
    → HasTakenMessages v s ms (is_done w s ms again) → Before v s (before ++ closed_one w) es → HasGatheredEpochs v s ms es again
gathered v w s ms before es again h clock ended standing b =
    let done : is_done v s ms again ≡ is_done w s ms again = ap (λ e. is_some again || (e && is_pending s (timed s ms))) ended in
    let all = closed_so_far_of w s ms again in
    let list : closed_so_far_of v s ms again ≡ all = ap (λ d. closed_list_at s ms (closed_so_far s (timed s ms) d)) done in
    let returned : es ≡ thin s.choice all = b.returned ∙ ap (thin s.choice) (sym h.list) in
    record {
      standing = subst (HasTakenMessages v s ms) (sym done) standing;
      returned = returned ∙ ap (thin s.choice) (sym list);
      epochs = λ none. returned ∙ ap (thin s.choice) (h.known none) ∙ (grind arith) ∙ ap (λ e. known_epochs e s ms) (sym ended);
      first = subst (λ l. IsPrefix l (known_epochs v.has_ended s (ms ++ option_to_list again))) (sym returned)
          (subst (IsPrefix (thin s.choice all)) ((grind arith) ∙ ap (λ e. known_epochs e s (ms ++ option_to_list again)) (sym ended)) (thin_prefix s.choice all _ h.first));
      fits = h.fits;
      plan = ap (λ (u : GatherSetup). u.plan) standing.clock.setup;
      marks = subst (AreMarks s.choice v.marks) (sym (list ∙ h.list)) b.marks;
      counts = b.counts ∙ ap (λ l. capped_counts (counts_left_out s.choice l)) (sym (list ∙ h.list));
    }

-- The epoch that the step closed is marked, counted and, if it is chosen, returned.
pub thinned_gathers : (w : GathererValue) (s : GatherSetup) (ms : List Heard) (before es : List Closed) (again : Option Heard) → Step w s ms before again → Before w s before es
    → (closed : Bool) → w.just_closed ≡ closed → HasGatheredEpochs (thinned_if closed w) s ms (es ++ returned_epoch (thinned_if closed w)) again
thinned_gathers w s ms before es again h b false has =
    let none : closed_one w ≡ [] = ap (λ c. closed_by (if c then Some (w.epoch) else None) w.values) has in
    let same : before ≡ before ++ closed_one w = sym (append-nil before) ∙ ap (λ l. before ++ l) (sym none) in
    let out : es ++ returned_epoch w ≡ es = ap (λ c. es ++ closed_by (if c && w.chosen then Some (w.epoch) else None) w.values) has ∙ append-nil es in
    gathered w w s ms before (es ++ returned_epoch w) again h refl refl h.standing (record {
      returned = out ∙ b.returned ∙ ap (thin s.choice) same;
      marks = subst (AreMarks s.choice w.marks) same b.marks;
      counts = b.counts ∙ ap (λ l. capped_counts (counts_left_out s.choice l)) same;
    })
thinned_gathers w s ms before es again h b true has =
    let v = thinned w in
    let c = s.choice in
    let choice : w.clock.setup.choice ≡ c = ap (λ (u : GatherSetup). u.choice) h.standing.clock.setup in
    let shut = h.closed has in
    let listed : HasListedCells w.epoch = subst HasListedCells (sym shut.1) (held_listed s (timed s ms)) in
    let one : closed_one w ≡ last_of w ∷ [] = ap (λ k. closed_by (if k then Some (w.epoch) else None) w.values) has in
    let more : before ++ last_of w ∷ [] ≡ before ++ closed_one w = ap (λ l. before ++ l) (sym one) in
    gathered v w s ms before (es ++ returned_epoch v) again h refl refl (grind (arith, marked_length)) (record {
      returned = ap₂ (λ a l. a ++ l) b.returned (grind (arith, marked_is, chosen_at)) ∙ sym (thin_append c [] before (last_of w ∷ [])) ∙ ap (thin c) more;
      marks = subst (AreMarks c v.marks) more (
          subst (λ (d : Choice). AreMarks c (if is_some d.interval then carried_from (on_grid d w.epoch.time) w.marks w.epoch else w.marks) (before ++ last_of w ∷ [])) (sym choice) (marks_push c w.marks before (last_of w) listed b.marks)
          );
      counts = counted c choice ∙ sym (counts_push c before (last_of w)) ∙ ap (λ l. capped_counts (counts_left_out c l)) more;
    }) where
      counted : (c : Choice) → w.clock.setup.choice ≡ c
          → (thinned w).counts ≡ (if not (is_chosen c w.epoch.time) && nat_lt 0 (satellites_written w.epoch) then counted_epoch (in_window c w.epoch.time) (on_grid c w.epoch.time) (capped_counts (counts_left_out s.choice before)) else capped_counts (counts_left_out s.choice before))
      counted c same = cc
