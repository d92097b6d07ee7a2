-- A message that closes the epoch is to be passed again; any other is the next one of the list, and its cells are
-- loaded if it is accepted.
use Rattle.obs_epoch.proofs.Names.{◌++◌, ◌∷◌, [], sym, ap, ◌∙◌, subst, Some, None, ◌≡◌, Bool, ap₂, is_some, arith, viewed_message, heard_by, Heard, heard_summary, without_cells, timed, GathererValue, State, take_step, Loaded, begun_by, ended_where, loaded_where, is_close_first, is_accepted, with_counts, IsCloseFirstExactly, HasGatheredEpochs, returned_epoch, no_counts, closed_noted, shut_where, thinned_if, kind_by, step_by, closed_time, common_steps}
use Rattle.obs_epoch.proofs.TakeLemmas.{no_point, given_alone, closed_is, ended_is, handed_is, loaded_by, loaded_clock, loads}
use Rattle.obs_epoch.proofs.HeardLemmas.{opens, closes_open}
use Rattle.obs_epoch.proofs.ValueLemmas.{heard_setup}
use Rattle.obs_epoch.proofs.ReturnedLemmas.{gathers_first, gathers_taken, thinned_ended}
use Rattle.obs_epoch.proofs.KindLemmas.{counted_kind, exactly_first, again_taken, fits_now, kind_taken}
use Rattle.obs_epoch.proofs.gather.Gatherer.take_view.Goals as goal

abbrev message : goal.After-has_closed → Heard
message c = heard_by c.args.self.now.clock.setup (viewed_message c.args.view.now)

said_is : (c : goal.After-has_closed) → heard_summary c.summary_of-said.result ≡ without_cells (message c)
said_is c = grind (arith, common_steps)

kind_is : (c : goal.After-has_closed) → c.hear-kind.result.0 ≡ kind_by c.args.self.now.clock no_counts (message c)
kind_is c = c.hear-kind.ensures.kind ∙ ap (kind_by c.args.self.now.clock no_counts) (said_is c)

begun_is : (c : goal.After-has_closed) → c.hear-kind.new.self ≡ begun_by c.args.self.now (message c)
begun_is c = c.hear-kind.ensures.step ∙ ap (begun_by c.args.self.now) (said_is c)

abbrev loaded : goal.After-has_closed → Loaded
loaded c = loaded_where (is_accepted c.hear-kind.result.0) c.hear-kind.new.self (heard_by c.hear-kind.new.self.clock.setup (viewed_message c.args.view.now))

loaded_is : (c : goal.After-has_closed) → loaded c ≡ loaded_where (is_accepted (kind_by c.args.self.now.clock no_counts (message c))) (begun_by c.args.self.now (message c)) (message c)
loaded_is c = grind (arith, common_steps, heard_setup, kind_is, begun_is)

counts_are : (c : goal.After-has_closed) → (loaded c).counts ≡ (loads c.args.self.now (message c)).counts
counts_are c = ap (λ (l : Loaded). l.counts) (loaded_is c ∙ loaded_by c.args.self.now (message c))

stepped_is : (c : goal.After-has_closed) → closed_noted (shut_where c.hear-kind.result.1 c.load-kind.new.self) ≡ (take_step c.args.self.now (message c)).state
stepped_is c =
    ap (λ (g : GathererValue). closed_noted (shut_where c.hear-kind.result.1 g)) c.load-kind.ensures.state
    ∙ closed_is c.args.self.now (message c) (loaded c) c.hear-kind.result.1 (loaded_is c)
    (c.hear-kind.ensures.closed ∙ ap (λ m. is_some (closed_time c.args.self.now.clock m)) (said_is c))
    (ap (ended_where c.hear-kind.result.1) (sym (ap (λ (g : GathererValue). g.clock) (begun_is c))) ∙ c.hear-kind.ensures.ended ∙ ap (step_by c.args.self.now.clock) (said_is c))

abbrev closes_now : goal.After-has_closed → Bool
closes_now c = c.hear-kind.result.1

has_closed_is : (c : goal.After-has_closed) → (take_step c.args.self.now (message c)).state.just_closed ≡ closes_now c
has_closed_is c = handed_is c.args.self.now (message c) ∙ sym (c.hear-kind.ensures.closed ∙ ap (λ m. is_some (closed_time c.args.self.now.clock m)) (said_is c))

step_is : (c : goal.After-has_closed) → c.note_closed.new.self ≡ thinned_if (closes_now c) (take_step c.args.self.now (message c)).state
step_is c = c.note_closed.ensures ∙ ap (thinned_if (closes_now c)) (stepped_is c)

pub load-kind-requires : goal.load-kind-requires
load-kind-requires c = grind (arith, common_steps, opens)

pub note_closed-requires : goal.note_closed-requires
note_closed-requires c = λ e.
    ap (λ (g : GathererValue). g.clock.pending) c.load-kind.ensures.state
    ∙ ap (λ (k : State). k.pending) (loaded_clock (is_accepted c.hear-kind.result.0) c.hear-kind.new.self (heard_by c.hear-kind.new.self.clock.setup (viewed_message c.args.view.now)))
    ∙ ap (λ (g : GathererValue). g.clock.pending) c.hear-kind.ensures.step
    ∙ closes_open c.args.self.now.clock (heard_summary c.summary_of-said.result) (sym c.hear-kind.ensures.closed ∙ e)

pub returns : goal.returns
returns c =
    let read = viewed_message c.args.view.now in
    let m = message c in
    let now = c.args.self.now in
    let kind = c.load-kind.ensures.kind ∙ ap₂ with_counts (counts_are c) (kind_is c) ∙ counted_kind now.clock (take_step now m).counts m in
    let step = step_is c in
    let same = ap is_close_first kind in
    let exactly : IsCloseFirstExactly now m c.load-kind.result = λ s ms es h.
    same ∙ exactly_first m (take_step now m).counts h c.requires (no_point s now.clock.setup (timed s ms) read) in
    record {
      exactly = exactly;
      first = λ s ms es h early.
          let first = sym (exactly s ms es h) ∙ early in
          subst (λ (g : GathererValue). HasGatheredEpochs g s ms (es ++ returned_epoch g) (Some m)) (sym step)
          (gathers_first m h c.requires first (no_point s now.clock.setup (timed s ms) read first) (closes_now c) (has_closed_is c));
      again = λ s ms es h. same ∙ again_taken (take_step now m).counts h c.requires;
      taken = λ s ms es again h fit other.
          let early = fits_now again m (take_step now m).counts h c.requires (no_point s now.clock.setup (timed s ms) read) fit (sym same ∙ other) in
          subst (λ (g : GathererValue). HasGatheredEpochs g s (ms ++ m ∷ []) (es ++ returned_epoch g) None) (sym step)
          (gathers_taken m h c.requires early (given_alone now.clock.setup read) (closes_now c) (has_closed_is c));
      kind = λ s ms es again h fit other.
          let early = fits_now again m (take_step now m).counts h c.requires (no_point s now.clock.setup (timed s ms) read) fit (sym same ∙ other) in
          kind ∙ kind_taken m h c.requires early;
      closed = c.has_closed.ensures;
      going = ap (λ (g : GathererValue). g.has_ended) step ∙ thinned_ended (closes_now c) (take_step now m).state ∙ ended_is now m ∙ c.requires;
    }
