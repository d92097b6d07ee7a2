use Rattle.rinex_file.proofs.Names.{◌≡◌, ◌++◌, take, length, flat_map, civil_of, joined, change_lines, epoch_line, satellite_line}
use Rattle.rinex_file.proofs.write.file.write_stored.Given as goal

-- the change, the epoch line and the satellites so far were written
abbrev pub invariant-loop-stored : goal.invariant-loop-stored
invariant-loop-stored l = l.text.inner.items
    ≡ ((l.fn.text.inner.items ++ joined (change_lines l.epoch.change)) ++ epoch_line (civil_of l.epoch.time) (length l.rows)) ++ flat_map satellite_line (take l.stored-index l.rows)
