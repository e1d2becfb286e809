-- The log of a text.
use Rattle.std.specs.Prelude.{ℕ, List, length, Result, Err, false, nat_lt, if◌then◌else◌}
use Rattle.log_reader.specs.Prelude.{TEXT_BYTES, parts_of, lines_from}
use Rattle.log_text.specs.LoggedGames.{LoggedGame}
use Rattle.log_reader.specs.LogReading.{log_in}
use Rattle.log_reader.specs.declared.fault.LogFault.{LogFault}
use Rattle.log_reader.specs.declared.fault.LogFault.TheVariants.{TooLong}
use Rattle.log_reader.specs.Faults.{or_log_fault}

-- the log of a text, or why it is refused
unfoldable pub log_of : List ℕ → Result LoggedGame LogFault
log_of text = if nat_lt TEXT_BYTES (length text) then Err TooLong else or_log_fault (log_in (lines_from false 1 (parts_of 10 text)))
