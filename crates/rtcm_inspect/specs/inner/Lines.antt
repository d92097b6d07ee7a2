-- The most bytes of parts of lines.
use Rattle.std.specs.Prelude.{ℕ, ◌+◌, ◌*◌, ◌++◌, List, [], ◌∷◌, Option, Some, None, codes, decimal, length}
use Rattle.gnss_system.specs.declared.system.System.TheVariants.{Gps, Galileo}
use Rattle.gnss_system.specs.Signals.{most_signals}
use Rattle.gnss_system.specs.Systems.{systems}
use Rattle.gnss_obs.specs.Values.{PlanValue}
use Rattle.line_texts.specs.Lines.{longest_line, longest_number, with_words}
use Rattle.rtcm_msg.specs.Equipment.{longest_text}
use Rattle.rtcm_inspect.specs.Signals.{codes_word}

-- the most bytes before the line of a frame or a message
abbrev pub longest_prefix : ℕ
longest_prefix = 80

-- the most bytes of the option of the signals of a system, after a blank, and of it and the further options of GLONASS
abbrev pub longest_codes : ℕ
longest_codes = 72

abbrev pub longest_plan : ℕ
longest_plan = 300

-- room for the line of the options of a conversion: the first words and the last ones, and those of each system
abbrev pub longest_options : ℕ
longest_options = 2 * longest_line + longest_plan * length systems

-- the most bytes of the line of a signal, and room for the lines of as many signals of each system as any has
abbrev pub longest_signal : ℕ
longest_signal = 26

abbrev pub longest_signals : ℕ
longest_signals = longest_signal * most_signals * length systems

-- the most bytes of four numbers, and of a text in quotation marks after a blank, in the line of an antenna and a receiver
abbrev pub longest_head : ℕ
longest_head = 4 * (1 + longest_number)

abbrev pub longest_quoted : ℕ
longest_quoted = 3 + 4 * longest_text

-- ---- the first words of a line

-- an option with a number and a blank, if there is a number
abbrev pub number_start : List ℕ → Option ℕ → List ℕ
number_start name None = []
number_start name (Some n) = name ++ 0x20 ∷ (decimal n ++ 0x20 ∷ [])

-- the first words of the options, up to the signals of Galileo
abbrev pub first_words : (week station : Option ℕ) → PlanValue → List ℕ
first_words week station p =
    with_words ((number_start (codes "--week") week ++ number_start (codes "--station") station) ++ codes "--gps")
    (codes_word Gps p.signals.gps ∷ codes "--galileo" ∷ codes_word Galileo p.signals.galileo ∷ [])
