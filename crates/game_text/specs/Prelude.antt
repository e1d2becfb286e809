-- The names of crates below that this crate cites, passed on from one place.
pub use Rattle.tac_base.specs.Clients.{IsClient, Preferences}
pub use Rattle.tac_base.specs.declared.limits.TheConstants.{AGENTS, FLIGHT_DRAWS, TEXT_BYTES}
pub use Rattle.text_forms.specs.Lines.{AreLinesLeft, Remaining, lines_from, nothing_left, text_of}
pub use Rattle.text_forms.specs.Rows.{AllBetween, IsBetween, all_in, is_in, row_text, within}
unfoldable pub use Rattle.text_forms.specs.Rows.{row}
pub use Rattle.text_forms.specs.Steps.{lines_of_parts, one_line, read_by, ◌>>=◌}
unfoldable pub use Rattle.text_forms.specs.Steps.{repeat}
pub use Rattle.text_forms.specs.Words.{parts_of, words_of}
pub use Rattle.text_forms.specs.declared.lines.BadLine.{BadLine}
pub use Rattle.text_forms.specs.declared.lines.Reason.{Reason}
pub use Rattle.text_forms.specs.declared.lines.Reason.TheVariants.{Keyword, NotDue, OutOfRange, Repeated, Spelling, WordCount}
