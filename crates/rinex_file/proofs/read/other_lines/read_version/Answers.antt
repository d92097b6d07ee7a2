use Rattle.rinex_file.proofs.Names.{exactly, ◌≡◌, ◌∙◌, sym, ap, ⊤, ℕ, List, Option, drop, slice_get, take, unwrap_or, line_with, Version, version_content}
use Rattle.rinex_file.proofs.HeaderRows.Agree.{letter_at}
use Rattle.rinex_file.proofs.read.other_lines.read_version.Goals as goal

pub returns : goal.returns
returns c = exactly (λ byte. ⊤) (λ byte. line_with Version (version_content byte)) _ c.then_some.ensures tt only (c.as_slice.ensures.value ∙ c.version_line.ensures) c.is_same.ensures where
  read : c.unwrap_or-letter.result ≡ unwrap_or (slice_get (take 1 (drop 40 c.args.line.now)) 0) 0
  read = c.unwrap_or-letter.ensures ∙ ap (λ (o : Option ℕ). unwrap_or o 0) (c.copied.ensures ∙ c.first.ensures.value ∙ ap (λ (l : List ℕ). slice_get l 0) c.columns.ensures.value)

  only : (byte : ℕ) → ⊤ → c.args.line.now ≡ line_with Version (version_content byte) → byte ≡ c.unwrap_or-letter.result
  only byte is e = sym (read ∙ ap (λ (l : List ℕ). unwrap_or (slice_get (take 1 (drop 40 l)) 0) 0) e ∙ letter_at byte)
