-- The week that is printed near a date. Times are in milliseconds.
use Rattle.std.specs.Prelude.{◌≡◌, ℕ, Option, Some, None}
use Rattle.obs_epoch.specs.NearWeek.{IsWeekNear}

-- The week that is printed for the noon of a date and the first MSM: none without a date or without an MSM.
abbrev pub IsWeekFor : (near tow w : Option ℕ) → Type 0
IsWeekFor None tow w = w ≡ None
IsWeekFor (Some noon) None w = w ≡ None
IsWeekFor (Some noon) (Some tow) w = (n : ℕ) × (w ≡ Some n) × IsWeekNear noon tow n
