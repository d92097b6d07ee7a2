-- The names of faults, and what they carry, as words. They agree with the manual page.
use Rattle.std.specs.Prelude.{ℕ, ◌/◌, List, [], ◌∷◌, codes, decimal}
use Rattle.gnss_system.specs.Satellites.{letter}
use Rattle.gnss_obs.specs.Dates.{civil_of}
use Rattle.gnss_obs.specs.Weeks.{week}
use Rattle.gnss_obs.specs.declared.fault.PlanFault.{PlanFault}
use Rattle.gnss_obs.specs.declared.fault.PlanFault.TheVariants as plans
use Rattle.rinex_file.specs.Texts.{field_name}
use Rattle.rinex_file.specs.declared.header.fault.HeadFault.{HeadFault}
use Rattle.rinex_file.specs.declared.header.fault.HeadFault.TheVariants as header
use Rattle.line_texts.specs.Digits.{calendar_text}
use Rattle.rtcm_inspect.specs.declared.fault.InspectFault.{InspectFault}
use Rattle.rtcm_inspect.specs.declared.fault.InspectFault.TheVariants as inspect
use Rattle.rtcm_inspect.specs.declared.fault.WeekDate.{WeekDate}

-- a text of the header, by the name of its option
abbrev pub header_words : HeadFault → List (List ℕ)
header_words (header.TooLong field) = codes "TooLong" ∷ field_name field ∷ []
header_words (header.NotPrintable field) = codes "NotPrintable" ∷ field_name field ∷ []
header_words header.Write = codes "Write" ∷ []

-- a planned code, by the letter of its system and its place in the list, counted from 0
abbrev pub plan_words : PlanFault → List (List ℕ)
plan_words (plans.UnknownCode system place) = codes "UnknownCode" ∷ (letter system ∷ []) ∷ decimal place ∷ []
plan_words (plans.RepeatedCode system place) = codes "RepeatedCode" ∷ (letter system ∷ []) ∷ decimal place ∷ []
plan_words plans.NothingPlanned = codes "NothingPlanned" ∷ []
plan_words plans.BadWeek = codes "BadWeek" ∷ []
plan_words plans.BadStation = codes "BadStation" ∷ []
plan_words plans.Memory = codes "Memory" ∷ []

-- the week and the date of a time
abbrev pub week_date : ℕ → WeekDate
week_date t = record { week = t / week; year = (civil_of t).year; month = (civil_of t).month; day = (civil_of t).day }

abbrev pub week_words : WeekDate → List (List ℕ)
week_words date = decimal date.week ∷ calendar_text date.year date.month date.day ∷ []

-- a command that reads a stream
abbrev pub inspection_words : InspectFault → List (List ℕ)
inspection_words inspect.Read = codes "Read" ∷ []
inspection_words inspect.Write = codes "Write" ∷ []
inspection_words inspect.Memory = codes "Memory" ∷ []
inspection_words inspect.TooLong = codes "TooLong" ∷ []
inspection_words (inspect.SeveralStations a b) = codes "SeveralStations" ∷ decimal a ∷ decimal b ∷ []
inspection_words (inspect.NoSignal counts) =
    codes "NoSignal" ∷ codes "bytes" ∷ decimal counts.bytes ∷ codes "frames" ∷ decimal counts.frames
    ∷ codes "msm" ∷ decimal counts.msm ∷ []
inspection_words inspect.NoWeek = codes "NoWeek" ∷ []
inspection_words (inspect.SeveralWeeks a b) = codes "SeveralWeeks" ∷ decimal a ∷ decimal b ∷ []
inspection_words (inspect.OtherWeek date) = codes "OtherWeek" ∷ week_words date
