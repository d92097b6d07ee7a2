-- No count of a stream reaches the greatest number that is counted: a frame has at least six bytes and at most 64
-- cells.
use Rattle.rtcm_convert.proofs.Names.{entries_in, Choice, whole_list, capped_counts, thin_after, epoch_counts, Closed, common_steps, ◌≡◌, ℕ, ◌+◌, ◌*◌, ◌≤◌, most_bytes, List, [], ◌∷◌, ◌++◌, Bool, true, false, refl, sym, ap, subst, arith, rules, length, length-append, add-zero, suc, nat_lt, Option, Some, None, filter, if◌then◌else◌, zip, option_map_or, length-map, length-filter, count_by-le-length, System, Framed, Message, Entry, MasksValue, MsmValue, AreMasks, IsMessage, chosen, cell_pairs, all_pairs, entry_in, Kind, GatherSetup, Heard, heard, heard_by, ChannelsValue, heard_msm, unlisted_in, HeardCell, Timed, timed, timed_after, taken_at, times, counts_of, counts_of_message, no_counts, with_skipped, is_planned, offered, kind_of, kind_at, SetupValue, messages_of, epochs_in, outcomes_after, capped, tally_of, tally_with, cell_counts, AreFewCells, count_by, sum_by, AreFew, CellCounts, length-filter-le, length-filter_map-le}
use Rattle.rtcm_msg.specs.declared.view.Form.{Form}
use Rattle.obs_epoch.proofs.CountLaws.{few_without}
use Rattle.rtcm_msg.specs.declared.message.Message.TheVariants as message
use Rattle.obs_epoch.specs.declared.taken.Kind.TheVariants as kind
use Rattle.rtcm_bits.proofs.BitLaws.{length-uint}

-- ---- the cells of a message

chosen_few : {X : Type 0} (bits : List Bool) (xs : List X) → length (chosen bits xs) ≤ length bits
unfolding chosen
chosen_few [] xs = omega arith
chosen_few (b ∷ bits) [] = omega arith
chosen_few (true ∷ bits) (x ∷ xs) = let i = chosen_few bits xs in omega arith
chosen_few (false ∷ bits) (x ∷ xs) = let i = chosen_few bits xs in omega arith

zip_few : {A B : Type 0} (xs : List A) (ys : List B) → length (zip xs ys) ≤ length xs
zip_few [] ys = omega arith
zip_few (x ∷ xs) [] = omega arith
zip_few (x ∷ xs) (y ∷ ys) = let i = zip_few xs ys in omega arith

cell_pairs_few : {B : Type 0} (s : MasksValue) (ys : List B) → AreMasks s → length (zip (cell_pairs s) ys) ≤ 64
cell_pairs_few s ys h = grind (arith, common_steps, zip_few, chosen_few, all_pairs, length-uint)

entries_few : (form : Form) (v : MsmValue) → AreMasks v.sets → length (entries_in form v) ≤ 64
entries_few form v h = subst (λ (n : ℕ). n ≤ 64) (sym (length-map (zip (cell_pairs v.sets) v.cells) (entry_in form v))) (cell_pairs_few v.sets v.cells h)

unlisted_few : (channels : ChannelsValue) (form : Form) (system : System) (es : List Entry) → unlisted_in channels form system es ≤ length es
unlisted_few channels form system [] = omega arith
unlisted_few channels form system (e ∷ es) = grind (arith, common_steps, unlisted_few channels form system es)

-- the content of a message has at most 64 cells, and at most 64 unlisted ones
record HasFew (m : Heard) : Type 0 where
  cells : length m.cells ≤ 64
  unlisted : m.unlisted ≤ 64

heard_msm_few : (channels : ChannelsValue) (leap : ℕ) (form : Form) (v : MsmValue) (es : List Entry) → length es ≤ 64 → HasFew (heard_msm channels leap form v es)
heard_msm_few channels leap form v es le = grind (arith, common_steps, length-filter_map-le, unlisted_few)

heard_few : (channels : ChannelsValue) (leap : ℕ) (m : Message) → IsMessage m → HasFew (heard channels leap m)
heard_few channels leap (message.Station s) h = record { cells = omega arith; unlisted = omega arith }
heard_few channels leap (message.Msm v) h = heard_msm_few channels leap v.form v.msm (entries_in v.form v.msm) (entries_few v.form v.msm h.sets)
heard_few channels leap (message.Other n set) h = record { cells = omega arith; unlisted = omega arith }

-- ---- the counts of a message

planned_few : (s : GatherSetup) (xs : List HeardCell) → length (filter (is_planned s) xs) ≤ length xs
planned_few s xs = subst (λ (n : ℕ). n ≤ length xs) (sym (length-filter (is_planned s) xs)) (count_by-le-length (is_planned s) xs)

without_few : (s : GatherSetup) (before : List HeardCell) (m : Heard) → HasFew m → (counts_of s before m.cells).without_channel ≤ 128
without_few s before m h = omega (arith, few_without s before (filter (is_planned s) m.cells), planned_few s m.cells, h.cells)

counts_few : (s : GatherSetup) (before : List HeardCell) (m : Heard) → HasFew m → AreFewCells (with_skipped m.unlisted (counts_of s before m.cells))
counts_few s before m h = grind (arith, common_steps, count_by-le-length, planned_few, without_few)

counts_few_at : (s : GatherSetup) (xs : List Timed) (m : Heard) (o : Option ℕ) → HasFew m
    → AreFewCells (option_map_or (λ u. with_skipped m.unlisted (counts_of s (offered s u xs) m.cells)) o no_counts)
counts_few_at s xs m o h = grind (arith, common_steps, counts_few)

-- ---- what a frame adds to each count

pub refused_few : AreFewCells (cell_counts None)
refused_few = search rules

timed_few : (late past : Bool) (n : CellCounts) → AreFewCells n → AreFewCells (cell_counts (Some (if late then kind.Late else (if past then kind.PastWeeks else kind.Kept n))))
timed_few late past n h = grind (arith, common_steps)

own_few : (s : GatherSetup) (xs : List Timed) (n : CellCounts) (tow : Option ℕ) → AreFewCells n → AreFewCells (cell_counts (Some (option_map_or (kind_at s xs n) tow kind.Station)))
own_few s xs n tow h = grind (arith, common_steps, timed_few)

heard_kind_few : (s : GatherSetup) (ms : List Heard) (m : Heard) → HasFew m → AreFewCells (cell_counts (Some (kind_of s ms m)))
heard_kind_few s ms m h = grind (arith, own_few s (timed s ms) (counts_of_message s (timed s ms) m) m.tow (counts_few_at s (timed s ms) m (taken_at s (timed s ms) m) h), counts_few_at s (timed s ms) m (taken_at s (timed s ms) m) h)

pub message_few : (s : GatherSetup) (ms : List Heard) (m : Message) → IsMessage m → AreFewCells (cell_counts (Some (kind_of s ms (heard_by s m))))
message_few s ms m h = heard_kind_few s ms (heard_by s m) (heard_few s.plan.channels s.leap_seconds m h)

pub few_more : (os : List (Option Kind)) (o : Option Kind) → AreFew os → AreFewCells (cell_counts o) → AreFew (os ++ o ∷ [])
few_more [] o h k = (k, tt)
few_more (p ∷ os) o h k = (h.0, few_more os o h.1 k)

-- ---- so that no count is capped

total_few : (count : CellCounts → ℕ) → ((n : CellCounts) → AreFewCells n → count n ≤ 128) → (os : List (Option Kind)) → AreFew os → sum_by (λ o. count (cell_counts o)) os ≤ 128 * length os
total_few count below [] h = omega arith
total_few count below (o ∷ os) h = grind (arith, common_steps, total_few count below os h.1)

frames_few : (p : Option Kind → Bool) (os : List (Option Kind)) → count_by p os ≤ 128 * length os
frames_few p os = omega (arith, count_by-le-length p os)

whole_count : (n k most : ℕ) → n ≤ 128 * k → 6 * k ≤ most → most ≤ most_bytes → capped n ≡ n
whole_count n k most a b c = omega arith

same_tally : (f g : ℕ → ℕ) (os : List (Option Kind)) → AreFew os → ((n : ℕ) → n ≤ 128 * length os → f n ≡ g n) → tally_with f os ≡ tally_with g os
same_tally f g os few same =
    let frames : (p : Option Kind → Bool) → f (count_by p os) ≡ g (count_by p os) = λ p. same (count_by p os) (frames_few p os) in
    let cells : (count : CellCounts → ℕ) → ((n : CellCounts) → AreFewCells n → count n ≤ 128) → f (sum_by (λ o. count (cell_counts o)) os) ≡ g (sum_by (λ o. count (cell_counts o)) os) = λ count below. same (sum_by (λ o. count (cell_counts o)) os) (total_few count below os few) in
    simp (same (length os) (omega arith), frames, cells (λ n. n.skipped) (λ n h. h.skipped), cells (λ n. n.repeated) (λ n h. h.repeated), cells (λ n. n.crowded) (λ n h. h.crowded), cells (λ n. n.without_channel) (λ n h. h.without)) refl

pub tally_whole : (os : List (Option Kind)) (most : ℕ) → AreFew os → 6 * length os ≤ most → most ≤ most_bytes → tally_with capped os ≡ tally_of os
tally_whole os most few short small = same_tally capped (λ n. n) os few (λ n le. whole_count n (length os) most le short small)

pub outcomes_length : (s : SetupValue) (before fs : List Framed) → length (outcomes_after s before fs) ≡ length fs
outcomes_length s before [] = refl
outcomes_length s before (f ∷ fs) = ap (λ n. suc n) (outcomes_length s (before ++ f ∷ []) fs)

-- ---- at most as many epochs as frames

timed_step : (o : Option ℕ) (ts : List ℕ) (n : ℕ) → length ts ≤ n → length (option_map_or (λ t. t ∷ filter (λ u. nat_lt t u) ts) o ts) ≤ suc n
timed_step o ts n le = grind (arith, common_steps, length-filter, count_by-le-length)

times_few : (xs : List Timed) → length (times xs) ≤ length xs
times_few [] = omega arith
times_few (x ∷ xs) = timed_step x.time (times xs) (length xs) (times_few xs)

timed_length : (s : GatherSetup) (earlier : List Timed) (ms : List Heard) → length (timed_after s earlier ms) ≡ length earlier + length ms
timed_length s earlier [] = sym (add-zero (length earlier))
timed_length s earlier (m ∷ ms) =
    let x : Timed = record { message = m; time = taken_at s earlier m } in
    let a = timed_length s (earlier ++ x ∷ []) ms in
    let b : length (earlier ++ x ∷ []) ≡ length earlier + 1 = length-append earlier (x ∷ []) in
    omega (arith, a, b)

-- no more epochs are returned than there are
thin_few : (c : Choice) (earlier es : List Closed) → length (thin_after c earlier es) ≤ length es
thin_few c earlier [] = omega arith
thin_few c earlier (e ∷ es) = grind (arith, common_steps, thin_few c (earlier ++ e ∷ []) es)

whole_few : (s : SetupValue) (fs : List Framed) → length (whole_list s.gatherer (messages_of s fs)) ≤ length fs
whole_few s fs = grind (arith, common_steps, length-map, times_few, timed_length, length-filter_map-le)

pub epochs_few : (s : SetupValue) (fs : List Framed) → epochs_in s fs ≤ length fs
epochs_few s fs = grind (arith, common_steps, length-filter-le, thin_few, whole_few)

pub whole_epochs : (n k most : ℕ) → n ≤ k → 6 * k ≤ most → most ≤ most_bytes → capped n ≡ n
whole_epochs n k most a b c = omega arith

pub counts_whole : (s : SetupValue) (fs : List Framed) (most : ℕ) → 6 * length fs ≤ most → most ≤ most_bytes → capped_counts (epoch_counts s fs) ≡ epoch_counts s fs
counts_whole s fs most short small = grind (arith, common_steps, length-filter-le, whole_few, whole_epochs)
