-- A message and a frame that are processed whole.
use Rattle.rtcm_convert.proofs.Names.{EndsPendingEpoch, AllClosed, NoneReturned, BreaksInMessage, BreaksInNext, BreaksInRest, IsFinalKind, IsKindOf, IsKindOfNext, IsTakenAgain, TakesNext, WritesFirst, interval_in, ◌≡◌, ℕ, List, [], ◌∷◌, ◌++◌, true, false, refl, sym, ap, subst, ◌∙◌, Option, Some, None, Result, Ok, Err, IfOk, OnOk, append-nil, arith, common_steps, filter_map-append, AppendsPrefix, Framed, Message, MsgFault, MsmSet, message_with, IsMessage, Kind, Closed, Heard, heard_by, kind_of, GathererValue, closed_in, plan_in, closed_epochs, SetupValue, text_with, messages_of, outcome, outcomes, outcomes_after, AreFew, AreFewCells, CountsFrame, capped, cell_counts, tally_with, AppendsBetween, AppendsPrefixBetween, added, HasFiledEpochs, Settled, HasFiledFrames, EndsFile, Report, FileWriter}
use Rattle.rtcm_convert.specs.inner.Steps.{TakesMessage}
use Rattle.rtcm_convert.proofs.PartLemmas.{goes_on-refl, goes_on-trans, breaks_off-after, breaks_off-by}
use Rattle.rtcm_convert.proofs.TextLemmas.{text-closed}
use Rattle.rtcm_convert.proofs.ExactLemmas.{few_more, message_few, refused_few}
use Rattle.rtcm_convert.proofs.StepLemmas.{Wrote, wrote_all, part_of}
use Rattle.rtcm_convert.proofs.StreamLemmas.{BreaksInFrame, TakesFrame}

-- the epochs written after these, and their text
abbrev pub Written : FileWriter → SetupValue → List Heard → Option Heard → Option (List ℕ) → Option (List ℕ) → List Closed → Type 0
Written w s ms again a b es = (all : List Closed) × HasFiledEpochs w s ms all again × AppendsBetween a b (text_with s es) (text_with s all)

abbrev pub Goes : Option (List ℕ) → Option (List ℕ) → SetupValue → List Heard → List Heard → Type 0
Goes a b s ms ns = AppendsBetween a b (text_with s (closed_epochs s.gatherer ms)) (text_with s (closed_epochs s.gatherer ns))

abbrev pub Breaks : Option (List ℕ) → Option (List ℕ) → SetupValue → List Heard → List Heard → Type 0
Breaks a b s ms ns = AppendsPrefixBetween a b (text_with s (closed_epochs s.gatherer ms)) (text_with s (closed_epochs s.gatherer ns))

pub settle : {w : FileWriter} {s : SetupValue} {ms : List Heard} {a b : Option (List ℕ)} (es : List Closed) → w.gatherer.has_ended ≡ false
    → Written w s ms None a b es → Settled w s ms × AppendsBetween a b (text_with s es) (text_with s (closed_epochs s.gatherer ms))
settle {w} {s} {ms} {a} {b} es going p = grind (arith, common_steps)

pub settle_again : {w x : FileWriter} {s : SetupValue} {ms ns : List Heard} {m : Heard} {a b c : Option (List ℕ)} → x.gatherer.has_ended ≡ false
    → (first : Written w s ms (Some m) a b (closed_epochs s.gatherer ms)) → Written x s ns None b c first.0 → Settled x s ns × Goes a c s ms ns
settle_again going first p = grind (arith, settle, goes_on-trans)

pub part_alone : {v : FileWriter} {a b : Option (List ℕ)} (m : Message) → BreaksInMessage v m a b → BreaksInNext v m a b
part_alone m p s ms x = p s ms (closed_epochs s.gatherer ms) None tt x

pub part_again : {v w : FileWriter} {a b c : Option (List ℕ)} (m : Message) → WritesFirst v w m a b → BreaksInMessage w m b c → BreaksInNext v m a c
part_again m first p s ms x = grind (arith, breaks_off-after (first s ms (closed_epochs s.gatherer ms) x).2 (p s ms (first s ms (closed_epochs s.gatherer ms) x).0 (Some (heard_by s.gatherer m)) refl (first s ms (closed_epochs s.gatherer ms) x).1))

-- what is read of a frame with the file writer's set is read with that of the settings
in_set : {v : FileWriter} {s : SetupValue} {fs : List Framed} {r : Result Message MsgFault} → HasFiledFrames v s fs → (f : Framed) → message_with v.set f.message ≡ r → message_with s.set f.message ≡ r
in_set y f read = ap (λ (set : MsmSet). message_with set f.message) (sym y.settled.set) ∙ read

-- the messages of one more frame
messages_more : (s : SetupValue) (fs : List Framed) (f : Framed) (m : Message) → message_with s.set f.message ≡ Ok m → messages_of s (fs ++ f ∷ []) ≡ messages_of s fs ++ heard_by s.gatherer m ∷ []
messages_more s fs f m e = grind (arith, common_steps, filter_map-append)

messages_same : (s : SetupValue) (fs : List Framed) (f : Framed) (d : MsgFault) → message_with s.set f.message ≡ Err d → messages_of s (fs ++ f ∷ []) ≡ messages_of s fs
messages_same s fs f d e = grind (arith, common_steps, filter_map-append, append-nil)

-- one more outcome
outcomes_after-one : (s : SetupValue) (before fs : List Framed) (f : Framed) → outcomes_after s before (fs ++ f ∷ []) ≡ outcomes_after s before fs ++ outcome s (before ++ fs) f ∷ []
outcomes_after-one s before [] f = ap (λ l. outcome s l f ∷ []) (sym (append-nil before))
outcomes_after-one s before (g ∷ fs) f = grind (arith, common_steps, outcomes_after-one s (before ++ g ∷ []) fs f)

tally_one : (s : SetupValue) (fs : List Framed) (f : Framed) {r r' : Report} {o : Option Kind} → o ≡ outcome s fs f → r ≡ tally_with capped (outcomes s fs) → CountsFrame r r' o → r' ≡ tally_with capped (outcomes s (fs ++ f ∷ []))
tally_one s fs f is old counts = counts (outcomes s fs) old ∙ ap (tally_with capped) (ap (λ x. outcomes s fs ++ x ∷ []) is ∙ sym (outcomes_after-one s [] fs f))

-- one more frame has few cells, too, so that no count is capped
few_one : (s : SetupValue) (fs : List Framed) (f : Framed) (o : Option Kind) → o ≡ outcome s fs f → AreFew (outcomes s fs) → AreFewCells (cell_counts o) → AreFew (outcomes s (fs ++ f ∷ []))
few_one s fs f o is few one = grind (arith, common_steps, outcomes_after-one, few_more)

outcome_ok : (s : SetupValue) (fs : List Framed) (f : Framed) (m : Message) (k : Kind) → message_with s.set f.message ≡ Ok m → k ≡ kind_of s.gatherer (messages_of s fs) (heard_by s.gatherer m) → Some k ≡ outcome s fs f
outcome_ok s fs f m k e is = rw e (ap Some is)

outcome_err : (s : SetupValue) (fs : List Framed) (f : Framed) (d : MsgFault) → message_with s.set f.message ≡ Err d → None ≡ outcome s fs f
outcome_err s fs f d e = rw e refl

pub files_more : {v w : FileWriter} (f : Framed) (t : Report) {m : Message} {k : Kind} {a b : Option (List ℕ)} → message_with v.set f.message ≡ Ok m → IsMessage m → TakesNext v w m a b → IsKindOfNext v m k
    → w.tally ≡ v.tally → CountsFrame w.tally t (Some k) → TakesFrame v (record w { tally = t }) f a b
files_more {w = w} f t {m} {k} {a} {b} read valid takes kind same counts s fs y =
    let e = in_set y f read in
    let p = takes s (messages_of s fs) y.settled in
    let ms = sym (messages_more s fs f m e) in
    let z : Settled w s (messages_of s (fs ++ f ∷ [])) = subst (λ (ms : List Heard). Settled w s ms) ms p.0 in (
      record {
        settled = record { texts = z.texts; set = z.set; gatherer = z.gatherer; epochs = z.epochs; values = z.values };
        tally = tally_one s fs f (outcome_ok s fs f m k e (kind s (messages_of s fs) y.settled)) (same ∙ y.tally) counts;
        few = few_one s fs f (Some (kind_of s.gatherer (messages_of s fs) (heard_by s.gatherer m))) (outcome_ok s fs f m _ e refl) y.few (message_few s.gatherer (messages_of s fs) m valid);
      },
      subst (λ (ns : List Heard). Goes a b s (messages_of s fs) ns) ms p.1,
    )

pub files_same : {v : FileWriter} (f : Framed) (t : Report) {d : MsgFault} {a : Option (List ℕ)} → message_with v.set f.message ≡ Err d → CountsFrame v.tally t None → TakesFrame v (record v { tally = t }) f a a
files_same {v} f t {d} {a} read counts s fs y = grind (arith, refused_few, goes_on-refl, messages_same, tally_one, few_one, in_set y f read, messages_same s fs f d (in_set y f read), outcome_err s fs f d (in_set y f read), tally_one s fs f (outcome_err s fs f d (in_set y f read)) y.tally counts)

pub files_part : {v : FileWriter} (f : Framed) {m : Message} {a b : Option (List ℕ)} → message_with v.set f.message ≡ Ok m → BreaksInNext v m a b → BreaksInFrame v f a b
files_part f {m} {a} {b} read t s fs x = grind (arith, messages_more, in_set)

-- the rest of the file
pub file_whole : AllClosed → NoneReturned → (v w : FileWriter) (g : GathererValue) (a b : Option (List ℕ)) → Wrote v w g a b → v.gatherer.has_ended ≡ false → g.has_ended ≡ true → EndsPendingEpoch v.gatherer g → EndsFile v w a b
file_whole all_closed none v w g a b o going over t s fs x = grind (arith, wrote_all o x.settled (t s.gatherer (messages_of s fs) (closed_epochs s.gatherer (messages_of s fs)) x.settled.gatherer going))

pub file_part : {v : FileWriter} {g : GathererValue} {a b : Option (List ℕ)} → AppendsPrefix a b (added v.texts (interval_in g) (plan_in g) v.values (closed_in g) g.values) → v.gatherer.has_ended ≡ false → g.has_ended ≡ true → EndsPendingEpoch v.gatherer g → BreaksInRest v a b
file_part {g = g} {a} {b} p going over t s fs x = grind (arith, part_of, breaks_off-by, text-closed, part_of g a b x.settled (t s.gatherer (messages_of s fs) (closed_epochs s.gatherer (messages_of s fs)) x.settled.gatherer going).standing.clock.setup p, text-closed s (closed_epochs s.gatherer (messages_of s fs)) (closed_in g) g.values)

-- a message that is passed twice
pub taken_again : {E : Type 0} {v w : FileWriter} (x : FileWriter) (m : Message) {a b : Option (List ℕ)} (c : Option (List ℕ)) (r : Result Kind E) → x.gatherer.has_ended ≡ false
    → WritesFirst v w m a b → IfOk r (λ k. IsFinalKind k → TakesMessage w x m b c) → IfOk r (IsTakenAgain w m) → OnOk r (TakesNext v x m a c)
taken_again {v} {w} x m {a} {b} c (Ok k) going first taken again = λ s ms y.
    let one : Written w s ms (Some (heard_by s.gatherer m)) a b (closed_epochs s.gatherer ms) = first s ms (closed_epochs s.gatherer ms) y in
    settle_again going one (taken (again s ms one.0 one.1) s ms one.0 (Some (heard_by s.gatherer m)) refl one.1)
taken_again x m c (Err e) going first taken again = tt

pub kind_again : {E : Type 0} {v w : FileWriter} {a b : Option (List ℕ)} (m : Message) (r : Result Kind E) → WritesFirst v w m a b → IfOk r (λ k. IsFinalKind k → IsKindOf w m k) → IfOk r (IsTakenAgain w m)
    → IfOk r (IsKindOfNext v m)
kind_again {w = w} {a} {b} m (Ok k) first kind again = λ s ms y.
    let one : Written w s ms (Some (heard_by s.gatherer m)) a b (closed_epochs s.gatherer ms) = first s ms (closed_epochs s.gatherer ms) y in
    kind (again s ms one.0 one.1) s ms one.0 (Some (heard_by s.gatherer m)) refl one.1
kind_again m (Err e) first kind again = tt
