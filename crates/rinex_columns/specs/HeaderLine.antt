-- A line of a header, RINEX 3.05, table A2: content in columns 1 to 60, the label from column 61 on.
use Rattle.std.specs.Prelude.{ℕ, Bool, List, [], ◌∷◌, ◌++◌, nat_eq}
use Rattle.std.specs.List.{ends_with}
use Rattle.rinex_columns.specs.Numbers.{joined, left}
use Rattle.rinex_columns.specs.Limits.{content_columns, label_columns}

-- content, label and a line feed
unfoldable pub header_line : List ℕ → List ℕ → List ℕ
header_line content label = joined (left content_columns content ∷ left label_columns label ∷ (10 ∷ []) ∷ [])

-- a line, with its line feed, has this label
abbrev pub has_label : List ℕ → List ℕ → Bool
has_label label line = ends_with nat_eq line (left label_columns label ++ 10 ∷ [])
