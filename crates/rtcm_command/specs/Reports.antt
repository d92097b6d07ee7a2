-- The line of a conversion's report, on standard error.
use Rattle.std.specs.Prelude.{Bool, List, ℕ, [], ◌∷◌, ◌++◌, codes, decimal, if◌then◌else◌}
use Rattle.rtcm_convert.specs.declared.report.Report.{Report}
use Rattle.line_texts.specs.Lines.{line}

-- the number of cells of GLONASS without a channel, after its name, if a signal of GLONASS is planned
abbrev pub channel_count : (glonass : Bool) → Report → List (List ℕ)
channel_count glonass r = if glonass then codes "without_channel" ∷ decimal r.without_channel ∷ [] else []

-- each count after its name
abbrev pub counts_named : (glonass : Bool) → Report → List (List ℕ)
counts_named glonass r =
    decimal r.bytes
    ∷ codes "skipped_bytes" ∷ decimal r.skipped_bytes
    ∷ codes "frames" ∷ decimal r.frames
    ∷ codes "faulty" ∷ decimal r.faulty
    ∷ codes "station" ∷ decimal r.station
    ∷ codes "other" ∷ decimal r.other
    ∷ codes "ignored" ∷ decimal r.ignored
    ∷ codes "late" ∷ decimal r.late
    ∷ codes "past" ∷ decimal r.past
    ∷ codes "taken" ∷ decimal r.taken
    ∷ codes "skipped" ∷ decimal r.skipped
    ∷ codes "repeated" ∷ decimal r.repeated
    ∷ codes "crowded" ∷ decimal r.crowded
    ∷ (channel_count glonass r ++ codes "epochs" ∷ decimal r.epochs ∷ [])

unfoldable pub report_line : (glonass : Bool) → Report → List ℕ
report_line glonass r = line (codes "bytes" ∷ counts_named glonass r)
