use Rattle.obs_epoch.proofs.Names.{◌≡◌, take, systems, note_systems, any_loss}
use Rattle.obs_epoch.proofs.locks.note_systems.Given as goal

abbrev pub invariant-loop-i : goal.invariant-loop-i
invariant-loop-i l = record {
  locks : l.locks ≡ note_systems l.epoch.epoch l.fn.locks (take l.i systems);
  loss : l.has_loss ≡ any_loss l.epoch.epoch (take l.i systems);
}
