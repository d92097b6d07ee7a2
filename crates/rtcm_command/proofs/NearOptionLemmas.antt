-- A conversion with `--near`.
use Rattle.rtcm_command.proofs.Names.{first_of, IsWeekNear, IsNearestFirst, first_week, is_no_week, IsBelowWeek, IsDatedByStart, setup_value, ◌≡◌, ◌∙◌, ℕ, List, Option, Some, None, ap, codes, subst, sym, IsHourOf, IsNumberOr, IsStartOf, Near, Start, usual_leap}
use Rattle.rtcm_command.specs.NearOption.{IsDatedByNear}
use Rattle.rtcm_command.proofs.PrintedPlanLemmas.{usual_read}

-- with the text of a date the start is noon of that date
near_set : (week near : Option (List ℕ)) (text : List ℕ) (start : Start) → near ≡ Some text → IsStartOf week near start → (noon : ℕ) × IsHourOf 12 text noon × (start ≡ Near noon)
near_set None near text start is h = subst (λ (o : Option (List ℕ)). IsStartOf None o start) is h
near_set (Some week) near text start is h = absurd (subst (λ (o : Option (List ℕ)). IsStartOf (Some week) o start) is h)

pub dated_by_near : IsNearestFirst → IsDatedByStart → IsBelowWeek → IsDatedByNear
dated_by_near nearest dated small options text fs x set is =
    let found = near_set (first_of (codes "week") options) (first_of (codes "near") options) text x.gatherer.start is set.start in
    let noon : ℕ = found.0 in
    let start : x.gatherer.start ≡ Near noon = found.2 in (
      noon,
      found.1,
      (λ tow first. (
        first_week x.gatherer.start tow,
        subst (λ (s : Start). IsWeekNear noon tow (first_week s tow)) (sym start) (nearest noon tow),
        dated (setup_value x).set x.gatherer fs tow (ap is_no_week start) (small x.gatherer.leap_seconds (setup_value x).set x.gatherer.station fs tow first) first,
      )),
      λ none. usual_read x.gatherer.leap_seconds (usual_leap x.gatherer.start) (subst (λ (t : Option (List ℕ)). IsNumberOr 8 (usual_leap x.gatherer.start) t x.gatherer.leap_seconds) none set.leap) ∙ ap usual_leap start,
    )
