-- One message passed to the gatherer, and what it adds to the file.
use Rattle.rtcm_convert.proofs.Names.{arith, common_steps, TakesMessage, Taken, interval_in, ◌≡◌, ℕ, List, [], ◌∷◌, ◌++◌, Bool, false, append-nil, sym, ap, subst, Option, Some, None, inl, inr, option_to_list, Appends, cases_Bool, AppendsPrefix, IsPrefix, Closed, GatherSetup, Heard, is_close_first, GathererValue, HasGatheredEpochs, IsAwaited, closed_by, closed_in, plan_in, closed_epochs, known_epochs, SetupValue, text_with, AppendsBetween, AppendsPrefixBetween, added, epochs_after, values_after, HasFiledEpochs, FileWriter}
use Rattle.rtcm_convert.proofs.PartLemmas.{goes_on-by, breaks_off-by, breaks_off-before}
use Rattle.rtcm_convert.proofs.TextLemmas.{last, text-closed, count-closed, last-closed, text-more}

-- what the file writer wrote for the epoch that was closed
pub record Wrote (old new : FileWriter) (now : GathererValue) (a b : Option (List ℕ)) : Type 0 where
  pub gatherer : new.gatherer ≡ now
  pub texts : new.texts ≡ old.texts
  pub set : new.set ≡ old.set
  pub epochs : new.epochs ≡ epochs_after old.epochs (closed_in now)
  pub values : new.values ≡ values_after old.values (closed_in now) now.values
  pub out : Appends a b (added old.texts (interval_in now) (plan_in now) old.values (closed_in now) now.values)

pub wrote_all : {v w : FileWriter} {g : GathererValue} {a b : Option (List ℕ)} {s : SetupValue} {ms ms' : List Heard} {es : List Closed} {again again' : Option Heard}
    → Wrote v w g a b → HasFiledEpochs v s ms es again → HasGatheredEpochs g s.gatherer ms' (es ++ closed_by (closed_in g) g.values) again'
    → (all : List Closed) × HasFiledEpochs w s ms' all again' × AppendsBetween a b (text_with s es) (text_with s all)
wrote_all {w} {g} {a} {b} {s} {es} o x y = grind (arith, common_steps, last, count-closed, last-closed, goes_on-by, text-closed)

-- a gatherer with that setup, and a prefix of the epochs that these messages close
abbrev Front : GathererValue → GatherSetup → List Heard → List Closed → Type 0
Front g s ms es = (g.clock.setup ≡ s) × IsPrefix es (closed_epochs s ms)

front : (g : GathererValue) (s : GatherSetup) (ms : List Heard) (es : List Closed) (again : Option Heard) → g.has_ended ≡ false → HasGatheredEpochs g s ms es again → Front g s (ms ++ option_to_list again) es
front g s ms es again going x = (x.standing.clock.setup, subst (λ (e : Bool). IsPrefix es (known_epochs e s (ms ++ option_to_list again))) going x.first)

front_none : (g : GathererValue) (s : GatherSetup) (ms : List Heard) (es : List Closed) → g.has_ended ≡ false → HasGatheredEpochs g s ms es None → Front g s ms es
front_none g s ms es going x = subst (λ (l : List Heard). Front g s l es) (append-nil ms) (front g s ms es None going x)

-- the closed epochs are a prefix of those that the messages close
closed_front : {v g : GathererValue} {k : Taken} {m : Heard} {s : GatherSetup} {ms : List Heard} {es : List Closed} (again : Option Heard)
    → TakesMessage v g m k → IsAwaited again m → HasGatheredEpochs v s ms es again → Front g s (ms ++ m ∷ []) (es ++ closed_by (closed_in g) g.values)
closed_front {g} {k} {m} {s} {ms} {es} None t f x = elim (cases_Bool (is_close_first k.kind)) [
  | inl shut ↦ front g s ms _ (Some m) t.going (t.first s ms es x shut)
  | inr stays ↦ front_none g s (ms ++ m ∷ []) _ t.going (t.taken s ms es None x f stays)
]
closed_front {v} {g} {m} {s} {ms} {es} (Some n) t f x =
    let y : HasGatheredEpochs v s ms es (Some m) = subst (λ (q : Heard). HasGatheredEpochs v s ms es (Some q)) (sym f) x in
    front_none g s (ms ++ m ∷ []) _ t.going (t.taken s ms es (Some n) x f (t.again s ms es y))

-- the part added, in the terms of the definitions
pub part_of : {v : FileWriter} (g : GathererValue) (a b : Option (List ℕ)) {s : SetupValue} {ms : List Heard} {es : List Closed} {again : Option Heard} → HasFiledEpochs v s ms es again → g.clock.setup ≡ s.gatherer
    → AppendsPrefix a b (added v.texts (interval_in g) (plan_in g) v.values (closed_in g) g.values) → AppendsPrefix a b (added s.texts s.gatherer.choice.interval s.gatherer.plan (last es) (closed_in g) g.values)
part_of g a b x setup p = rw (← x.texts, ← ap (λ (u : GatherSetup). u.choice.interval) setup, ← ap (λ (u : GatherSetup). u.plan) setup, ← x.values) p

pub wrote_part : {v : FileWriter} {g : GathererValue} {k : Taken} {m : Heard} {a b : Option (List ℕ)}
    → TakesMessage v.gatherer g m k → AppendsPrefix a b (added v.texts (interval_in g) (plan_in g) v.values (closed_in g) g.values)
    → (s : SetupValue) (ms : List Heard) (es : List Closed) (again : Option Heard) → IsAwaited again m → HasFiledEpochs v s ms es again
    → AppendsPrefixBetween a b (text_with s es) (text_with s (closed_epochs s.gatherer (ms ++ m ∷ [])))
wrote_part {g} {a} {b} t p s ms es again f x =
    let c = closed_front again t f x.gatherer in
    let out : AppendsPrefix a b (added s.texts s.gatherer.choice.interval s.gatherer.plan (last es) (closed_in g) g.values) = part_of g a b x c.0 p in
    breaks_off-before (breaks_off-by a b _ _ _ (text-closed s es (closed_in g) g.values) out)
    (text-more s _ _ c.1)
