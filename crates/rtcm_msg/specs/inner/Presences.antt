-- Whether a cell of a message has a value.
use Rattle.std.specs.Prelude.{◌||◌, Bool, is_some}
use Rattle.rtcm_msg.specs.declared.entry.Entry.{Entry}

-- The cell has a phase range, a phase range rate or a strength.
abbrev pub has_rest : Entry → Bool
has_rest e = is_some e.phase || is_some e.rate || is_some e.strength

-- The cell has a pseudorange, a phase range, a phase range rate or a strength.
abbrev pub has_value : Entry → Bool
has_value e = is_some e.range || has_rest e
