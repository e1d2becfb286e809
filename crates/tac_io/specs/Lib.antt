pub mod Counts
pub mod Known
pub mod Looks
pub mod States
pub mod Taken
pub mod Written
pub mod LinkCalls
pub mod Reading
pub mod Calls
pub mod FileList
pub mod MemFiles
pub mod MemSink
pub mod MemLink
pub mod HeldLink
pub mod MemLinks
pub mod MemTicker
pub mod LineText
pub mod HeldBytes
pub mod LineAnswers
pub mod AllAnswers
pub mod AnswersInTurn
pub mod Lines
pub use Rattle.tac_io.specs.Counts.{HasCause, Rose}
pub use Rattle.tac_io.specs.HeldBytes.{Gives, Held, LinkPlace, ReadsMore}
pub use Rattle.tac_io.specs.Known.{GivesNext, IsAtEnd, NotesFailure, Reads, ReadsAtMost, Takes, failed_at, known_then, then_known}
pub use Rattle.tac_io.specs.LineAnswers.{Answers, HasLineCause, IsDecided, IsKind, IsNext}
pub use Rattle.tac_io.specs.LineText.{BeginsWithLine, has_end, line_length}
pub use Rattle.tac_io.specs.LinkCalls.{GaveBytes, LastReadFails, LastWriteFails, NoReadFails, NoWriteFails, OnlySends, ReadsNothing, SendsNothing}
pub use Rattle.tac_io.specs.States.{FilesState, LinkState, LinksState, MaySelect, SinkState, TickerState}
