-- The window of a conversion, and that of a check of its file.
use Rattle.std.specs.Prelude.{◌≡◌, ◌≤◌, ℕ, Some, true}
use Rattle.obs_epoch.specs.Choices.{in_window}
use Rattle.obs_epoch.specs.declared.choice.Choice.{Choice}
use Rattle.rinex_inspect.specs.Gaps.{Completeness, is_inside}

-- the window is that of the choice of epochs, whose tolerance is at most half a second, and the interval is 1 s or more
pub record HasWindowOf (c : Choice) (g : Completeness) : Type 0 where
  pub window : g.window ≡ Some (record { from = c.from; until = c.until })
  pub tolerance : c.tolerance ≤ 500
  pub interval : 1000 ≤ g.interval

-- a time in the window of the choice is inside of that of the check
abbrev pub AreChosenInside : Type 0
AreChosenInside = (c : Choice) (g : Completeness) (t : ℕ) → HasWindowOf c g → in_window c t ≡ true → is_inside (Some g) t ≡ true
