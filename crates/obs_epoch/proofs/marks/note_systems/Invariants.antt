use Rattle.obs_epoch.proofs.Names.{◌≡◌, take, systems, note_systems_lost}
use Rattle.obs_epoch.proofs.marks.note_systems.Given as goal

abbrev pub invariant-loop-i : goal.invariant-loop-i
invariant-loop-i l = l.marks ≡ note_systems_lost l.on_grid l.epoch.epoch l.fn.marks (take l.i systems)
