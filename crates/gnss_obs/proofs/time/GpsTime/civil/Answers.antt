use Rattle.gnss_obs.proofs.Names.{common_steps, ◌<◌, arith, ◌∙◌, IfOk-at_ok}
use Rattle.gnss_obs.proofs.WalkLaws.{walk_is}
use Rattle.gnss_obs.proofs.Days.{plain_year, casts}
use Rattle.gnss_obs.proofs.CivilLemmas.{moment_of, made_of, year_in, back, back_thousands, day_below}
use Rattle.gnss_obs.proofs.time.GpsTime.civil.Goals as goal

pub overflow_cast-result : goal.overflow_cast-result
overflow_cast-result c = grind (arith, common_steps, moment_of, year_in, casts)

pub returns-clause-relation : goal.returns-clause-relation
returns-clause-relation c =
    let at = c.unwrap-at.result in
    let moment = moment_of (IfOk-at_ok _ c.unwrap-at.ensures c.checked_add.ensures.value) c.beginning.ensures c.from_millis-since.ensures c.milliseconds.ensures.bound c.milliseconds.ensures.value in
    let year = year_in at c.args.self c.year.result moment c.year.ensures in
    let month : at.date.month < 128 = omega (arith, at.date.month_in.1) in
    made_of at moment
    (record { year = plain_year c.year.result year.0 year.1 ∙ c.year.ensures; month = back c.month.result _ c.month.ensures month; day = back c.day.result _ c.day.ensures (day_below at.date) })
    (back c.hour.result _ c.hour.ensures (omega (arith, at.time.hour_in))) (back c.minute.result _ c.minute.ensures (omega (arith, at.time.minute_in)))
    (back c.second.result _ c.second.ensures (omega (arith, at.time.second_in)))
    (back_thousands c.millisecond.result _ c.millisecond.ensures (omega (arith, at.time.subsec_in)))

pub returns-clause-walk : goal.returns-clause-walk
returns-clause-walk c = walk_is c.args.self _ (rw c.milliseconds.ensures.value at c.milliseconds.ensures.bound) (returns-clause-relation c)
