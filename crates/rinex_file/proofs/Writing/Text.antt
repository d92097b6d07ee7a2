-- The text of a file is that of its header and its epochs, one after the other.
use Rattle.rinex_file.proofs.Writing.Sent.{joined-append}
use Rattle.rinex_file.proofs.Names.{arith, common_steps, ◌≡◌, ◌≢◌, ◌∙◌, sym, ap, ap₂, refl, append_assoc, Bool, true, false, Option, Some, None, ℕ, List, [], ◌∷◌, ◌++◌, drop, flat_map, if◌then◌else◌, StationValues, PlanValue, Closed, same_values, joined, left, HeaderLists, stamped_of, stamped_after, all_stamped, header_line, header_lines, row_line, header_text, shown_text, epoch_text, event_text, event_lines, change_lines, change_text, closed_text, stamped_lines, file_text, gathered, Shown}

-- the lines of an epoch that was closed after others
stamped_text : (p : PlanValue) (v : StationValues) (c : Closed) → joined (stamped_lines (stamped_after p v c)) ≡ change_text v c.values ++ epoch_text p c.epoch
unfolding epoch_text event_text
stamped_text p v c = by (same_values v c.values) where
  by : (b : Bool) → joined (change_lines (if b then None else Some c.values) ++ stamped_lines (stamped_of p c.epoch)) ≡ (if b then [] else event_text c.values) ++ joined (stamped_lines (stamped_of p c.epoch))
  by true = refl
  by false = joined-append (event_lines c.values) (stamped_lines (stamped_of p c.epoch))

epochs_text : (p : PlanValue) (v : StationValues) (cs : List Closed) → joined (flat_map stamped_lines (all_stamped p v cs)) ≡ closed_text p v cs
epochs_text p v [] = refl
epochs_text p v (c ∷ cs) =
    joined-append (stamped_lines (stamped_after p v c)) (flat_map stamped_lines (all_stamped p c.values cs))
    ∙ ap₂ (λ (a b : List ℕ). a ++ b) (stamped_text p v c) (epochs_text p c.values cs)
    ∙ append_assoc (change_text v c.values) (epoch_text p c.epoch) (closed_text p c.values cs)

abbrev shown : HeaderLists → Option ℕ → PlanValue → StationValues → ℕ → Shown
shown x i p v first = record { texts = x; interval = i; plan = p; values = v; first = first }

pub file_text-gathered : (x : HeaderLists) (i : Option ℕ) (p : PlanValue) (v : StationValues) (c : Closed) (cs : List Closed)
    → header_text x i p v c.epoch.time ++ closed_text p v (c ∷ cs) ≡ file_text (gathered x i p v (c ∷ cs))
unfolding shown_text
file_text-gathered x i p v c cs =
    ap (λ l. joined (header_lines (shown x i p v c.epoch.time)) ++ l) (sym (epochs_text p v (c ∷ cs)))
    ∙ sym (joined-append (header_lines (shown x i p v c.epoch.time)) (flat_map stamped_lines (all_stamped p v (c ∷ cs))))

-- a line ends in a line feed
some_line : (a b rest : List ℕ) → (a ++ (b ++ (10 ∷ []))) ++ rest ≢ []
some_line [] [] rest e = cc
some_line x0 b rest e = grind (arith, common_steps)

header_line-some : (content label rest : List ℕ) → header_line content label ++ rest ≢ []
unfolding header_line
header_line-some content label rest e = some_line (left 60 content) (left 20 label) rest e

pub header_text-some : (x : HeaderLists) (i : Option ℕ) (p : PlanValue) (v : StationValues) (first : ℕ) → header_text x i p v first ≢ []
unfolding shown_text header_lines row_line
header_text-some x i p v first e =
    header_line-some _ _ (joined (drop 1 (header_lines (shown x i p v first)))) (sym refl ∙ e)
