-- The names that proofs cite, passed on from one place. Declares nothing.
unfoldable pub use Rattle.command_faults.specs.ErrorLines.{error_line}
pub use Rattle.command_faults.specs.ErrorLines.{date_words, error_words}
pub use Rattle.line_texts.proofs.LineLaws.{add_text, end_line, words_in_one}
pub use Rattle.line_texts.specs.Lines.{with_words}
pub use Rattle.std.proofs.Common.{List, [], ap, arith, codes, refl, ℕ, ◌∙◌, ◌∷◌}
pub use Rattle.command_faults.specs.declared.fault.DateOption.{DateOption}
