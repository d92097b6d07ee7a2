-- Lock times in milliseconds.
use Rattle.std.specs.Prelude.{ℕ, ◌+◌, ◌-◌, ◌*◌, ◌/◌, ◌^◌, ◌==◌, ◌||◌, ◌<◌, ◌≤◌, ◌⊎◌, nat_lt, nat_le, if◌then◌else◌}
use Rattle.std.specs.Prelude.{Bool, false, Option, Some, None}
use Rattle.std.specs.Option.{IsSomeAnd, unwrap_or}

-- the least lock time in milliseconds, and the excluded upper bound; `None` is unknown
pub record LockTime : Type 0 where
  pub least : Option ℕ
  pub upper : Option ℕ

-- the word stored in place of a time if there is none
abbrev pub no_time : ℕ
no_time = 2 ^ 32 - 1

-- the word stored for a time, and the time stored as a word
abbrev pub word_of : Option ℕ → ℕ
word_of t = unwrap_or t no_time

abbrev pub time_of : ℕ → Option ℕ
time_of word = if word == no_time then None else Some word

-- the last indicator of MSM4 and MSM5 (DF402)
abbrev pub last4 : ℕ
last4 = 15

-- the last indicator of MSM6 and MSM7 (DF407) that has a time; from 705 on the lock is unknown
abbrev pub last7 : ℕ
last7 = 704

-- the least time of an indicator of MSM4 and MSM5: 0 for 0, 32 for 1, and twice the one before from 2 on
abbrev pub least4 : ℕ → ℕ
least4 i = if i == 0 then 0 else 2 ^ (i + 4)

-- the upper bound is the least time of the next indicator; the last one has none
abbrev pub times4 : ℕ → LockTime
times4 i = record {
  least = Some (least4 i);
  upper = if i == last4 then None else Some (least4 (i + 1));
}

-- the number of doublings of the unit of the least time at an indicator of MSM6 and MSM7
abbrev pub doublings : ℕ → ℕ
doublings i = i / 32 - 1

-- the least time of an indicator of MSM6 and MSM7, from 0 to the last that has one
abbrev pub least7 : ℕ → ℕ
least7 i = (i - 32 * doublings i) * 2 ^ doublings i

-- the upper bound is the least time of the next indicator; the last one has none, and those above it are unknown
abbrev pub times7 : ℕ → LockTime
times7 i =
    if nat_lt last7 i
    then record { least = None; upper = None }
    else record {
      least = Some (least7 i);
      upper = if i == last7 then None else Some (least7 (i + 1));
    }

-- lock was lost between two times that are `elapsed` milliseconds apart: both locks are known, and the least time of
-- the later one is below that of the earlier one, or its upper bound is at most the elapsed time
abbrev pub IsLost : LockTime → LockTime → ℕ → Type 0
IsLost earlier later elapsed =
    IsSomeAnd earlier.least (λ before. IsSomeAnd later.least (λ least.
    (least < before) ⊎ IsSomeAnd later.upper (λ upper. upper ≤ elapsed)))

-- the same as a test
abbrev pub has_passed : Option ℕ → ℕ → Bool
has_passed None elapsed = false
has_passed (Some upper) elapsed = nat_le upper elapsed

abbrev pub lost : Option ℕ → Option ℕ → Option ℕ → ℕ → Bool
lost None now upper elapsed = false
lost (Some before) None upper elapsed = false
lost (Some before) (Some now) upper elapsed = nat_lt now before || has_passed upper elapsed
