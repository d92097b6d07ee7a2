-- The largest sizes of a line and of its parts.
use Rattle.std.specs.Prelude.{ℕ, ◌+◌, ◌*◌}
use Rattle.gnss_system.specs.Signals.{most_signals}

-- a value: F14.3 plus the LLI and SSI columns
abbrev pub value_columns : ℕ
value_columns = 16

-- a signal: pseudorange, phase, Doppler shift and strength
abbrev pub signal_columns : ℕ
signal_columns = 64

-- a header line: its content, and the label after it
abbrev pub content_columns : ℕ
content_columns = 60

abbrev pub label_columns : ℕ
label_columns = 20

-- a line with its line feed: three columns for a satellite, and those of its signals
abbrev pub most_line : ℕ
most_line = 3 + signal_columns * most_signals + 1
