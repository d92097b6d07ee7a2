-- The first pair with a cell and the next cell give the first entry; the invariant holds for what is left after them.
use Rattle.rtcm_msg.proofs.Names.{ℕ, ◌≡◌, ◌<◌, ◌∙◌, List, count_ones, length, ap, sym, subst, slice_index, satellite_data, Form, MasksValue, IsCached, Satellite}
use Rattle.rtcm_msg.proofs.NextLaws.{index_below, one_less}
use Rattle.rtcm_msg.proofs.view.Entries.next_in.Goals as goal
use Rattle.rtcm_msg.proofs.view.Entries.next_in.Goals.{then-pair-self, else-pair-self}

read_before : (form : Form) (satellites : List ℕ) {i j : ℕ} {x cached : Satellite} → i ≡ j → IsCached form satellites j cached → x ≡ cached → i < length satellites → x ≡ satellite_data form (slice_index satellites i)
read_before form satellites {cached = cached} e known is h = is ∙ subst (λ (n : ℕ). IsCached form satellites n cached) (sym e) known h

pub read_satellite_in-satellite-requires-clause-there : goal.read_satellite_in-satellite-requires-clause-there
read_satellite_in-satellite-requires-clause-there g c =
    index_below c.in_ok-pair.pair.index _ _ _ (c.in_ok-pair.ensures.indices (count_ones c.self.inside.view.now.msm.sets.satellites) c.self.invariant.0.left.3).0 c.satellites.ensures.count c.satellites.ensures.set

pub entry-entry-requires-clause-satellite : goal.entry-entry-requires-clause-satellite
entry-entry-requires-clause-satellite g c = elim c.if-pair-self.branch [
  | then-pair-self w ↦
      read_before c.self.inside.view.now.form c.self.inside.view.now.msm.satellites w.if-pair-self.true c.self.invariant.1 w.satellite-is
      (index_below c.in_ok-pair.pair.index _ _ _ (c.in_ok-pair.ensures.indices (count_ones c.self.inside.view.now.msm.sets.satellites) c.self.invariant.0.left.3).0 c.satellites.ensures.count c.satellites.ensures.set)
  | else-pair-self w ↦ w.satellite-is ∙ w.read_satellite_in-satellite.ensures
]

pub invariant_of-self : goal.invariant_of-self
invariant_of-self g c =
    let some = c.in_ok-pair.ensures.some in
    let sets = c.self.inside.view.now.msm.sets in (
      record {
        left = (some.1, some.2, some.3, (c.in_ok-pair.ensures.indices (count_ones sets.satellites) c.self.invariant.0.left.3).1);
        next = one_less c.self.inside.cells.next (rw (c.cells.ensures.value ∙ ap (λ (s : MasksValue). s.cells) c.masks.ensures) at some.0) c.self.invariant.0.next;
      },
      λ h. elim c.if-pair-self.branch [
        | then-pair-self w ↦ read_before c.self.inside.view.now.form c.self.inside.view.now.msm.satellites w.if-pair-self.true c.self.invariant.1 w.satellite-is h
        | else-pair-self w ↦ w.satellite-is ∙ w.read_satellite_in-satellite.ensures
      ],
    )
