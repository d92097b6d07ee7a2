-- GPS times as text, and the lines of `check --times`.
use Rattle.std.specs.Prelude.{ℕ, ◌+◌, ◌*◌, ◌/◌, List, [], ◌∷◌, ◌++◌, codes, decimal, Option, Some, None}
use Rattle.gnss_obs.specs.Dates.{civil_of}
use Rattle.gnss_obs.specs.declared.civil.Civil.{Civil}
use Rattle.rinex_file.specs.declared.read.times.EpochTimes.{EpochTimes}
use Rattle.line_texts.specs.Digits.{calendar_text, three_digits, two_digits}
use Rattle.line_texts.specs.Lines.{line}

-- year, month and day
abbrev pub date_text : Civil → List ℕ
date_text c = calendar_text c.year c.month c.day

-- hour, minute and second with three decimals
abbrev pub clock_text : Civil → List ℕ
clock_text c =
    two_digits c.hour ++ codes ":" ++ two_digits c.minute ++ codes ":" ++ two_digits (c.millisecond / 1000) ++ codes "."
    ++ three_digits c.millisecond

-- the bytes of such a text and of a separator before it
abbrev pub clock_bytes : ℕ
clock_bytes = 3 * (1 + 2) + 1 + 3

-- a number of thousandths, as milliseconds in seconds, with three decimals
abbrev pub thousandths_text : ℕ → List ℕ
thousandths_text n = decimal (n / 1000) ++ codes "." ++ three_digits n

-- the date and the time of day of a time
abbrev pub moment_words : ℕ → List (List ℕ)
moment_words t = date_text (civil_of t) ∷ clock_text (civil_of t) ∷ []

-- the bytes of these texts and of a blank before each
abbrev pub moment_bytes : ℕ
moment_bytes = 11 + clock_bytes

-- a name, and the date and the time of day of a time
unfoldable pub time_line : List ℕ → ℕ → List ℕ
time_line name t = line (name ∷ moment_words t)

-- the smallest step between epochs, if there are two
abbrev pub step_line : Option ℕ → List ℕ
step_line None = []
step_line (Some n) = line (codes "step" ∷ thousandths_text n ∷ [])

-- the most bytes of the lines of the times
abbrev pub longest_times : ℕ
longest_times = 2 * 40 + 30

-- the times of the first and of the last epoch, and the step
abbrev pub times_lines : EpochTimes → List ℕ
times_lines t = time_line (codes "first") t.first ++ time_line (codes "last") t.last ++ step_line t.step
