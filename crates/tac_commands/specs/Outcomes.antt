-- How a run of the program ends, with its code and its text.
use Rattle.std.specs.Prelude.{ℕ, List, ◌++◌, codes}
use Rattle.tac_commands.specs.declared.refusals.Refusal.{Refusal}
use Rattle.tac_commands.specs.declared.refusals.Refusal.TheVariants.{Usage, GameLine, GameTooLong, ReadFault, LinkFault, Memory, TextLine, TextTooLong}
use Rattle.tac_commands.specs.NumberedLines.{numbered}

-- what a command has to write, and why it ends
pub data Outcome : Type 0 where
  -- its text
  Done : (text : List ℕ) → Outcome
  -- the text of a game in which ticks were missed
  Lapsed : (text : List ℕ) → Outcome
  -- a text that reports an unsound log
  Unsound : (text : List ℕ) → Outcome
  -- a first part of a text, and then a refusal
  Stopped : (text : List ℕ) → (refusal : Refusal) → Outcome
  -- a first part of a text, during which a write failed
  Unwritten : (text : List ℕ) → Outcome
  -- the replies to the lines of a script that came before a read failed, and then the refusal for that read
  Unread : (replies : List ℕ) → Outcome
  -- a refusal in place of a text
  Refused : (refusal : Refusal) → Outcome

-- the code of a refusal, and the line that is written
abbrev pub refusal_end : Refusal → ℕ × List ℕ
refusal_end Usage = (1, codes "usage\n")
refusal_end (GameLine line reason) = (2, numbered (codes "game") line reason)
refusal_end GameTooLong = (2, codes "game too long\n")
refusal_end ReadFault = (3, codes "fault read\n")
refusal_end LinkFault = (5, codes "fault links\n")
refusal_end Memory = (7, codes "memory\n")
refusal_end (TextLine line reason) = (8, numbered (codes "text") line reason)
refusal_end TextTooLong = (8, codes "text too long\n")

-- the code of the process, and the text that is due on the sink
abbrev pub exit_of : Outcome → ℕ × List ℕ
exit_of (Done text) = (0, text)
exit_of (Lapsed text) = (6, text)
exit_of (Unsound text) = (9, text)
exit_of (Stopped text refusal) = ((refusal_end refusal).0, text ++ (refusal_end refusal).1)
exit_of (Unwritten text) = (4, text)
exit_of (Unread replies) = ((refusal_end ReadFault).0, replies ++ (refusal_end ReadFault).1)
exit_of (Refused refusal) = refusal_end refusal
