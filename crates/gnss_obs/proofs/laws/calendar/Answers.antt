use Rattle.gnss_obs.proofs.Names.{arith, ◌≡◌, ℕ, ◌+◌, ◌*◌, ◌/◌, ◌%◌, ◌≤◌, pos, IsCivilDate, date_of, common_steps}
use Rattle.gnss_obs.proofs.WalkLaws.{date_of_is, hours}
use Rattle.gnss_obs.proofs.laws.calendar.Goals as goal

clock_is : (c : ℕ) → c / 3_600_000 * 3_600_000 + c / 60_000 % 60 * 60_000 + c % 60_000 ≡ c
clock_is c = omega arith

small : (y m d : ℕ) → IsCivilDate (pos y) m d → (y ≤ 9999) × (m ≤ 12) × (d ≤ 31)
small y m d is = grind (arith, common_steps)

pub returns-clause-small : goal.returns-clause-small
returns-clause-small c = λ t less. let d = date_of (t / 86_400_000) in small d.year d.month d.day (date_of_is (t / 86_400_000) (omega (arith, less))).0

pub returns-clause-civil : goal.returns-clause-civil
returns-clause-civil c = λ t less.
    let there = date_of_is (t / 86_400_000) (omega (arith, less)) in
    record {
      valid = record { date = there.0; hour = hours (t % 86_400_000) (omega arith); minute = omega arith; millisecond = omega arith };
      days = there.1;
      clock = clock_is (t % 86_400_000);
    }
