-- The outcome of each frame, and the counts of the outcomes.
use Rattle.std.specs.Prelude.{Bool, true, false, ℕ, ◌≤◌, ◌-◌, ◌^◌, min, List, [], ◌∷◌, ◌++◌, length, count_by, sum_by}
use Rattle.std.specs.Prelude.{Option, Some, is_none, option_map}
use Rattle.rtcm_scan.specs.Frames.{Framed, frames_of}
use Rattle.rtcm_scan.specs.Decided.{skipped_before}
use Rattle.obs_epoch.specs.Cells.{no_counts}
use Rattle.obs_epoch.specs.declared.taken.CellCounts.{CellCounts}
use Rattle.obs_epoch.specs.declared.taken.Kind.{Kind}
use Rattle.obs_epoch.specs.declared.taken.Kind.TheVariants as kind
use Rattle.obs_epoch.specs.Kinds.{kind_of}
use Rattle.rtcm_convert.specs.Converted.{SetupValue, message_of, messages_of, epochs_in}
use Rattle.rtcm_convert.specs.declared.report.Report.{Report}

-- the outcome of a frame after these: `None` if its message is refused, else that of the message
abbrev pub outcome : SetupValue → List Framed → Framed → Option Kind
outcome s before f = option_map (λ m. kind_of s.gatherer (messages_of s before) m) (message_of s f)

abbrev pub outcomes_after : SetupValue → List Framed → List Framed → List (Option Kind)
outcomes_after s before [] = []
outcomes_after s before (f ∷ fs) = outcome s before f ∷ outcomes_after s (before ++ f ∷ []) fs

-- the outcome of each frame
abbrev pub outcomes : SetupValue → List Framed → List (Option Kind)
outcomes s fs = outcomes_after s [] fs

-- a frame has this outcome, one that is counted, regardless of the numbers of its cells
abbrev pub is_kind : Kind → Option Kind → Bool
is_kind kind.Ignored (Some kind.Ignored) = true
is_kind kind.Station (Some kind.Station) = true
is_kind kind.OtherStation (Some kind.OtherStation) = true
is_kind kind.Late (Some kind.Late) = true
is_kind kind.PastWeeks (Some kind.PastWeeks) = true
is_kind (kind.Kept n) (Some (kind.Kept m)) = true
is_kind k o = false

-- the numbers of cells of a frame with this outcome
abbrev pub cell_counts : Option Kind → CellCounts
cell_counts (Some (kind.Kept n)) = n
cell_counts o = no_counts

-- a count, up to the greatest number that is counted; no stream that a converter accepts reaches it
abbrev pub capped : ℕ → ℕ
capped n = min n (2 ^ 64 - 1)

-- A tally is the `Report` of some frames, with counts of 0 for bytes and epochs. This is that of frames with these
-- outcomes, each count of which is passed through a function.
abbrev pub tally_with : (ℕ → ℕ) → List (Option Kind) → Report
tally_with f os =
    record {
      bytes = 0;
      skipped_bytes = 0;
      frames = f (length os);
      faulty = f (count_by is_none os);
      station = f (count_by (is_kind kind.Station) os);
      other = f (count_by (is_kind kind.OtherStation) os);
      ignored = f (count_by (is_kind kind.Ignored) os);
      late = f (count_by (is_kind kind.Late) os);
      past = f (count_by (is_kind kind.PastWeeks) os);
      taken = f (count_by (is_kind (kind.Kept no_counts)) os);
      skipped = f (sum_by (λ o. (cell_counts o).skipped) os);
      repeated = f (sum_by (λ o. (cell_counts o).repeated) os);
      crowded = f (sum_by (λ o. (cell_counts o).crowded) os);
      without_channel = f (sum_by (λ o. (cell_counts o).without_channel) os);
      epochs = 0;
    }

abbrev pub tally_of : List (Option Kind) → Report
tally_of os = tally_with (λ n. n) os

-- one frame adds at most 128 cells to each count
pub record AreFewCells (n : CellCounts) : Type 0 where
  pub skipped : n.skipped ≤ 128
  pub repeated : n.repeated ≤ 128
  pub crowded : n.crowded ≤ 128
  pub without : n.without_channel ≤ 128

abbrev pub AreFew : List (Option Kind) → Type 0
AreFew [] = Unit {0}
AreFew (o ∷ os) = AreFewCells (cell_counts o) × AreFew os

-- the report with these counts, and those of all bytes, of the bytes in no frame, and of the epochs
abbrev pub report_with : ℕ → ℕ → Report → ℕ → Report
report_with bytes skipped_bytes t epochs = record t { bytes = bytes; skipped_bytes = skipped_bytes; epochs = epochs }

-- the report of a stream
abbrev pub report_of : SetupValue → List ℕ → Report
report_of s b =
    report_with (length b) (skipped_before (length b) (frames_of b)) (tally_of (outcomes s (frames_of b)))
    (epochs_in s (frames_of b))
