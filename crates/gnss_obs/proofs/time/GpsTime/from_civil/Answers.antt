use Rattle.gnss_obs.proofs.Names.{◌≡◌, ◌-ℤ◌, ◌<◌, ◌*◌, ◌↔◌, ℕ, pos, arith, ◌∙◌, sym, ap, ap₂, rules, Option, Some, None, IsSome, IfSome, IfNone, days_from_civil, civil_nanos, week, weeks, civil_of, clock_of, IsCivilOf, Civil, common_steps}
use Rattle.gnss_obs.proofs.WalkLaws.{walk_is, same_number}
use Rattle.gnss_obs.proofs.CivilLemmas.{since_of, since_range, is_of, only_one, not_below, below_none, cast_fits, cast_is}
use Rattle.gnss_obs.proofs.time.GpsTime.from_civil.Goals as goal

none_of : (r : Option ℕ) (ms : ℕ) (civil : Civil) → (IsSome r ↔ (ms < 100_000 * 604_800_000)) → ((t : ℕ) → IsCivilOf t civil → t ≡ ms)
    → IfNone r ((t : ℕ) → t < 100_000 * 604_800_000 → ¬ IsCivilOf t civil)
none_of (Some v) ms civil iff same = tt
none_of None ms civil iff same = λ t lt is. let e = same t is in let some = iff.1 (omega (arith, e, lt)) in absurd (grind (arith, some))

within_weeks : (r : Option ℕ) (ms : ℕ) (civil : Civil) → (IsSome r ↔ (ms < weeks * week)) → IfSome r (λ t. t ≡ ms) → IfSome r (λ t. IsCivilOf t civil) → IfSome r (λ t. civil ≡ civil_of t)
within_weeks None ms civil some value is = tt
within_weeks (Some t) ms civil some value is = walk_is t civil (rw value (some.0 (search rules))) is

pub returns-then-since-lt0-clause-none : goal.returns-then-since-lt0-clause-none
returns-then-since-lt0-clause-none c = λ t small is.
    let civil = c.args.civil.now in
    let e = since_of _ c.as_millis-since.result (days_from_civil (pos civil.year) civil.month civil.day) (clock_of civil)
    (c.duration_since.ensures ∙ ap₂ (λ a b. a -ℤ b) c.in_ok-at_of.ensures.some.1 c.beginning.ensures) c.as_millis-since.ensures in
    below_none c.as_millis-since.result t (only_one civil t _ e is) small c.if-since-lt0.true

pub overflow_cast-since : goal.overflow_cast-since
overflow_cast-since c =
    let range = since_range c.in_ok-at_of.field-0 _ c.as_millis-since.result (c.duration_since.ensures ∙ ap (λ b. civil_nanos c.in_ok-at_of.field-0 -ℤ b) c.beginning.ensures) c.as_millis-since.ensures in
    let s = not_below c.as_millis-since.result range c.if-since-lt0.false in
    cast_fits c.as_millis-since.result s.0 s.1.back s.1.small

pub returns-clause-some : goal.returns-clause-some
returns-clause-some c = grind (arith, common_steps, since_of, since_range, not_below, is_of, cast_is)

pub returns-clause-walk : goal.returns-clause-walk
returns-clause-walk c = within_weeks c.new.result _ c.args.civil.now c.new.ensures.some c.new.ensures.value (returns-clause-some c)

pub returns-clause-none : goal.returns-clause-none
returns-clause-none c =
    let civil = c.args.civil.now in
    let e = since_of _ c.as_millis-since.result (days_from_civil (pos civil.year) civil.month civil.day) (clock_of civil)
    (c.duration_since.ensures ∙ ap₂ (λ a b. a -ℤ b) c.in_ok-at_of.ensures.some.1 c.beginning.ensures) c.as_millis-since.ensures in
    let range = since_range c.in_ok-at_of.field-0 _ c.as_millis-since.result (c.duration_since.ensures ∙ ap (λ b. civil_nanos c.in_ok-at_of.field-0 -ℤ b) c.beginning.ensures) c.as_millis-since.ensures in
    let s = not_below c.as_millis-since.result range c.if-since-lt0.false in
    none_of c.new.result _ civil c.new.ensures.some
    (λ t is. same_number t s.0 (sym (only_one civil t _ e is) ∙ s.1.is) ∙ sym (cast_is c.as_millis-since.result s.0 s.1.back))
