-- Why a session ended, in three parts: why it stopped, whether a read failed, and what was sent. The causes are our own rule.
use Rattle.std.specs.Prelude.{⊤, ◌≡◌, ℕ, ◌<◌, ◌⊎◌, List, [], ◌∷◌, ◌++◌, true, false, length, take}
use Rattle.std.specs.List.{concat}
use Rattle.tac_base.specs.declared.limits.TheConstants.{SESSION_LINES}
use Rattle.line_protocol.specs.declared.saying.Said.{Said}
use Rattle.line_protocol.specs.declared.admission.Cause.{Cause}
use Rattle.tac_io.specs.LinkCalls.{LastReadFails, LastWriteFails, NoReadFails, NoWriteFails}
use Rattle.tac_io.specs.States.{LinkState}
use Rattle.tac_io.specs.Known.{known_then, IsAtEnd}
use Rattle.tac_io.specs.declared.line_got.LineGot.{LineGot}
use Rattle.tac_io.specs.declared.line_got.LineGot.TheVariants as gots
use Rattle.line_protocol.specs.declared.admission.Cause.TheVariants as causes
use Rattle.agent_gate.specs.Turns.{Turn, said_of, has_left}

-- the line of a turn's reply, with its line end
-- Row: each_line_is_asked_and_answered_once (worked_rows/proofs/Sessions.antt)
abbrev pub reply_line : (Said → List ℕ) → Turn → List ℕ
reply_line text turn = text (said_of turn) ++ 10 ∷ []

-- Why the session stopped, by its turns and by `rest`: what the bytes that were taken give after the lines of the turns. `Quit`: the
-- agent quit. `End` and `ReadFault`: it did not quit, it had lines left, and no further line was taken; for `End`, no byte of the link
-- is left. `Budget`: it did not quit, and used up its 65,536 lines or, before that, its link's 67,108,864 bytes. `WriteFault`: nothing,
-- since `SendsBy` says that a write failed.
abbrev pub StopsBy : Cause → List Turn → List (LineGot × List ℕ) → LinkState → Type 0
StopsBy causes.Quit turns rest after = has_left turns ≡ true
StopsBy causes.End turns rest after = (has_left turns ≡ false) × (length turns < SESSION_LINES) × (rest ≡ (gots.End, []) ∷ []) × IsAtEnd after.left
StopsBy causes.ReadFault turns rest after = (has_left turns ≡ false) × (length turns < SESSION_LINES) × (rest ≡ (gots.End, []) ∷ [])
StopsBy causes.WriteFault turns rest after = ⊤
StopsBy causes.Budget turns rest after = (has_left turns ≡ false) × ((length turns ≡ SESSION_LINES) ⊎ ((length turns < SESSION_LINES) × (rest ≡ (gots.Budget, []) ∷ [])))

-- With `ReadFault`, the last read failed, and nothing was taken after it. With any other cause no read failed.
abbrev pub ReadsBy : Cause → LinkState → LinkState → Type 0
ReadsBy causes.ReadFault before after = LastReadFails before after
ReadsBy cause before after = NoReadFails before after

-- With `WriteFault`, the last line was cut off: all lines before it were sent whole, and of the last one a proper prefix, which may be
-- empty; a write failed, and nothing was sent after that. With any other cause all lines were sent, and no write failed.
abbrev pub SendsBy : Cause → List (List ℕ) → LinkState → LinkState → Type 0
SendsBy causes.WriteFault lines before after = (front : List (List ℕ)) × (last : List ℕ) × (count : ℕ) × (lines ≡ front ++ last ∷ []) × (count < length last)
    × (after.sent ≡ known_then before.sent (concat front ++ take count last)) × LastWriteFails before after
SendsBy cause lines before after = (after.sent ≡ known_then before.sent (concat lines)) × NoWriteFails before after
