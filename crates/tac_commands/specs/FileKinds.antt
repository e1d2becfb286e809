-- The kinds of files that commands read: how long such a file may be, what it holds, and what is written if it is refused.
use Rattle.std.specs.Prelude.{ℕ, List, length, nat_lt, if◌then◌else◌, Result, Ok, Err}
use Rattle.tac_commands.specs.Prelude.{GAME_BYTES, LINK_BYTES, TEXT_BYTES, GameFault, GameFile, game_of, AccountFile, account_of, LoggedGame, log_of, HotelLine, GameLine as ScriptLine, BadLine, script_of, game_script}
use Rattle.game_text.specs.declared.fault.GameFault.TheVariants.{Line, TooLong}
use Rattle.log_reader.specs.declared.fault.LogFault.{LogFault}
use Rattle.log_reader.specs.declared.fault.LogFault.TheVariants as logs
use Rattle.tac_commands.specs.declared.refusals.Refusal.{Refusal}
use Rattle.tac_commands.specs.declared.refusals.Refusal.TheVariants.{GameLine, GameTooLong, TextLine, TextTooLong}
use Rattle.tac_commands.specs.declared.file_kinds.FileKind.{FileKind}
use Rattle.tac_commands.specs.declared.file_kinds.FileKind.TheVariants.{Game, HotelScript, GameScript, Account, Log, Bytes}

-- the most bytes that such a file may have
abbrev pub most_bytes : FileKind → ℕ
most_bytes Game = GAME_BYTES
most_bytes Bytes = LINK_BYTES
most_bytes kind = TEXT_BYTES

-- what such a file holds: a game, the lines of a script, the last line first, an account, the log of a game, or bytes
abbrev pub Value : FileKind → Type 0
Value Game = GameFile
Value HotelScript = List HotelLine
Value GameScript = List ScriptLine
Value Account = AccountFile
Value Log = LoggedGame
Value Bytes = List ℕ

-- the lines of a script, or its first bad line with the first reason
abbrev pub lines_or_fault : {A : Type 0} → Result A BadLine → Result A GameFault
lines_or_fault (Ok lines) = Ok lines
lines_or_fault (Err bad) = Err (Line bad.0 bad.1)

-- a script, if it is not too long
abbrev pub script_in : {A : Type 0} → List ℕ → Result A BadLine → Result A GameFault
script_in bytes read = if nat_lt TEXT_BYTES (length bytes) then Err TooLong else lines_or_fault read

-- a log has one reason for a bad line; reading it by its definition needs no memory
abbrev pub log_as_game_fault : LogFault → GameFault
log_as_game_fault (logs.Line line) = Line line 1
log_as_game_fault logs.TooLong = TooLong
log_as_game_fault logs.Memory = TooLong

abbrev pub logged_or_fault : Result LoggedGame LogFault → Result LoggedGame GameFault
logged_or_fault (Ok log) = Ok log
logged_or_fault (Err fault) = Err (log_as_game_fault fault)

-- any bytes, if they are not too many
abbrev pub bytes_in : List ℕ → Result (List ℕ) GameFault
bytes_in bytes = if nat_lt LINK_BYTES (length bytes) then Err TooLong else Ok bytes

-- what the bytes of such a file hold; or that they are too many; or the first bad line with the first reason
abbrev pub read_as : (kind : FileKind) → List ℕ → Result (Value kind) GameFault
read_as Game bytes = game_of bytes
read_as HotelScript bytes = script_in bytes (script_of bytes)
read_as GameScript bytes = script_in bytes (game_script bytes)
read_as Account bytes = account_of bytes
read_as Log bytes = logged_or_fault (log_of bytes)
read_as Bytes bytes = bytes_in bytes

-- what is written if a game file has this fault
abbrev pub game_refusal : GameFault → Refusal
game_refusal (Line line reason) = GameLine line reason
game_refusal TooLong = GameTooLong

-- what is written if any other file has this fault
abbrev pub text_refusal : GameFault → Refusal
text_refusal (Line line reason) = TextLine line reason
text_refusal TooLong = TextTooLong

-- what is written if a file of this kind has this fault
abbrev pub refusal_of : FileKind → GameFault → Refusal
refusal_of Game fault = game_refusal fault
refusal_of kind fault = text_refusal fault

-- the code of that refusal
abbrev pub refused_code : FileKind → ℕ
refused_code Game = 2
refused_code kind = 8
