-- A header whose parts are passed together.
use Rattle.std.specs.Prelude.{ℕ, List}
use Rattle.rinex_file.specs.declared.header.head.Head.{Head}
use Rattle.rinex_file.specs.File.{shown_text}
use Rattle.rinex_file.specs.Header.{Shown}

-- its contents
abbrev pub shown_by : Head → Shown
shown_by h =
    record { texts = h.texts.now; interval = h.interval; plan = h.plan.now; values = h.values; first = h.first }

-- the text of a header
abbrev pub head_text : Head → List ℕ
head_text h = shown_text (shown_by h)
