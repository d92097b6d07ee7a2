use Rattle.rinex_file.proofs.Names.{◌≡◌, ◌++◌, take, get_or, flat_map, Stamped, shown_text, stamped_text, shown_of}
use Rattle.rinex_file.proofs.write.file.write_file.Given as goal

-- the header and the epochs so far were written
abbrev pub invariant-loop-epoch : goal.invariant-loop-epoch
invariant-loop-epoch l =
    (first : Stamped) × (first ≡ get_or l.epochs 0 first)
    × (l.text.inner.items
    ≡ (l.fn.text.inner.items ++ shown_text (shown_of l.file first.time)) ++ flat_map stamped_text (take l.epoch-index l.epochs))
