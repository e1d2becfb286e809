pub mod Words
pub mod Lines
pub mod Blocks
pub mod Steps
pub mod Rows
pub use Rattle.text_forms.specs.Lines.{AreLinesLeft, GoesOn, NumberedLine, Remaining, at_line, before, block_in, due_in, due_of, is_comment, lines_from, next_of, nothing_in, nothing_left, text_of, with_line}
pub use Rattle.text_forms.specs.Steps.{lines_of_parts, read_by, ◌>>=◌}
unfoldable pub use Rattle.text_forms.specs.Steps.{repeat}
pub use Rattle.text_forms.specs.Words.{parts_of, words_left, words_of}
