use Rattle.rinex_file.proofs.Reading.Dates.{ShowDate, HasColumns, epoch_shown, first_shown, has_columns, kept, kept_second, same_civil, of_numbers, found, one_time}
use Rattle.rinex_file.proofs.Names.{arith, ◌≡◌, ◌∙◌, ◌<◌, ◌*◌, ap, subst, sym, ℕ, Option, Some, None, IfSome, IfNone, Civil, IsCivilOf, civil_of, week, weeks, IsTime, digits_in}
use Rattle.rinex_file.proofs.read.other_lines.time_in.Goals.{After-from_civil}
use Rattle.rinex_file.proofs.read.other_lines.time_in.Goals as goal

room : (c : After-from_civil) (t : ℕ) → IsTime t → HasColumns (civil_of t)
room c t is = has_columns t (c.calendar.ensures.civil t is) (c.calendar.ensures.small t is)

-- the date and time of day that the line shows was read
read : (c : After-from_civil) (t : ℕ) → IsTime t → ShowDate (civil_of t) c.args.width c.args.second c.args.line.now
    → of_numbers c.min.result c.min-2.result c.min-3.result c.min-4.result c.min-5.result c.min-6.result ≡ civil_of t
read c t is s =
    let has = room c t is in
    same_civil _ (civil_of t) (kept 65_535 c.min.ensures (c.digits_in.ensures.value ∙ ap digits_in c.columns.ensures.value ∙ s.year) (omega (arith, has.year)))
    (kept 255 c.min-2.ensures (c.digits_in-2.ensures.value ∙ ap digits_in c.columns-2.ensures.value ∙ s.month) (omega (arith, has.month)))
    (kept 255 c.min-3.ensures (c.digits_in-3.ensures.value ∙ ap digits_in c.columns-3.ensures.value ∙ s.day) (omega (arith, has.day)))
    (kept 255 c.min-4.ensures (c.digits_in-4.ensures.value ∙ ap digits_in c.columns-4.ensures.value ∙ s.hour) (omega (arith, has.hour)))
    (kept 255 c.min-5.ensures (c.digits_in-5.ensures.value ∙ ap digits_in c.columns-5.ensures.value ∙ s.minute) (omega (arith, has.minute)))
    (kept_second c.min-6.ensures (c.digits_in-6.ensures.value ∙ ap digits_in c.columns-6.ensures.value ∙ s.second) has.millisecond)

-- a date and time of day is that of its time
timed : (r : Option ℕ) (civil : Civil) (t : ℕ) → civil ≡ civil_of t → IsCivilOf t (civil_of t) → t < weeks * week → IfSome r (λ u. IsCivilOf u civil)
    → IfNone r ((u : ℕ) → u < weeks * week → ¬ IsCivilOf u civil) → r ≡ Some t
timed None civil t same is small some none = absurd (none t small (found civil t same is))
timed (Some u) civil t same is small some none = ap Some (one_time u t civil some (found civil t same is))

at_time : (c : After-from_civil) (t : ℕ) → IsTime t → ShowDate (civil_of t) c.args.width c.args.second c.args.line.now → c.from_civil.result ≡ Some t
at_time c t is s = timed c.from_civil.result _ t (read c t is s) (c.calendar.ensures.civil t is) is c.from_civil.ensures.some c.from_civil.ensures.none

pub returns-clause-first : goal.returns-clause-first
returns-clause-first c = λ t is w k e.
    let here = (goal.at.returns-clause-first c).After-from_civil in
    let s = first_shown (civil_of t) c.args.line.now (room here t is) e in
    at_time here t is (subst (λ (w : ℕ). ShowDate (civil_of t) w c.args.second c.args.line.now) (sym w) (subst (λ (k : ℕ). ShowDate (civil_of t) 6 k c.args.line.now) (sym k) s))

pub returns-clause-epoch : goal.returns-clause-epoch
returns-clause-epoch c = λ t n is few w k e.
    let here = (goal.at.returns-clause-epoch c).After-from_civil in
    let s = (epoch_shown (civil_of t) n c.args.line.now (room here t is) (omega (arith, few)) e).0 in
    at_time here t is (subst (λ (w : ℕ). ShowDate (civil_of t) w c.args.second c.args.line.now) (sym w) (subst (λ (k : ℕ). ShowDate (civil_of t) 3 k c.args.line.now) (sym k) s))
