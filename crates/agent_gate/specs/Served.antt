-- A session beside its link's lines, and why it ends, in the form that the sessions' contracts use and `vouch` checks. Read `StopsBy`,
-- `ReadsBy` and `SendsBy` in `SessionEnds` and `IsSeatedLink` (game_run, `PlayedLinks`) instead: `columns_of` and `of_columns`
-- (proofs/SameEnds) show the causes to be the same.
use Rattle.std.specs.Prelude.{◌≡◌, ℕ, ◌<◌, ◌≤◌, ◌⊎◌, List, [], ◌∷◌, ◌++◌, true, false, length, map}
use Rattle.std.specs.List.{concat}
use Rattle.agent_gate.specs.Prelude.{SESSION_LINES, LastReadFails, LastWriteFails, NoReadFails, NoWriteFails, LinkState, known_then, IsAtEnd, TakesSome, LineGot, Said, Cause}
use Rattle.tac_io.specs.declared.line_got.LineGot.TheVariants as gots
use Rattle.line_protocol.specs.declared.admission.Cause.TheVariants as causes
use Rattle.agent_gate.specs.Dialects.{Dialect}
use Rattle.agent_gate.specs.Items.{AreItems}
use Rattle.agent_gate.specs.Turns.{Turn, item_of, has_left, AreLawful}
use Rattle.agent_gate.specs.SessionEnds.{reply_line}

-- a session: what its link is sent first, its turns, and the link before and after
pub record Session : Type 0 where
  pub welcome : List ℕ
  pub turns : List Turn
  -- what the link's bytes give after the lines of the turns
  pub rest : List (LineGot × List ℕ)
  pub before : LinkState
  pub after : LinkState

-- ---- what is sent

-- what the session has to send, piece by piece: the welcome, and then a line for each turn
abbrev pub pieces_of : (Said → List ℕ) → Session → List (List ℕ)
pieces_of text session = session.welcome ∷ map (reply_line text) session.turns

-- All pieces were sent, and no write failed.
-- Row: quit_after_bye (worked_rows/proofs/Ends.antt)
abbrev pub SendsAll : (Said → List ℕ) → Session → Type 0
SendsAll text session = (session.after.sent ≡ known_then session.before.sent (concat (pieces_of text session))) × NoWriteFails session.before session.after

-- A write failed while the last piece was sent, and nothing was sent after that. The pieces before it were sent whole, and of the last
-- one a proper prefix, which may be empty.
-- Row: no_end_with_a_reply_unsent (worked_rows/proofs/Ends.antt)
-- Row: end_counts_no_fault (worked_rows/proofs/Ends.antt)
pub record IsCutOff (text : Said → List ℕ) (session : Session) : Type 0 where
  pub whole : List (List ℕ)
  pub last : List ℕ
  pub pieces : pieces_of text session ≡ whole ++ last ∷ []
  pub cut : TakesSome (known_then session.before.sent (concat whole)) session.after.sent last
  pub failed : LastWriteFails session.before session.after

-- ---- why it ends

-- The agent has not quit, it has lines left, and in place of its next line the link's bytes give `got`.
-- Row: end_with_all_taken (worked_rows/proofs/Ends.antt)
abbrev pub ComesTo : LineGot → Session → Type 0
ComesTo got session = (has_left session.turns ≡ false) × (length session.turns < SESSION_LINES) × (session.rest ≡ (got, []) ∷ [])

-- The agent has not quit, and it has no lines left.
-- Row: no_budget_after_one_turn (worked_rows/proofs/Ends.antt)
abbrev pub IsUsedUp : Session → Type 0
IsUsedUp session = (has_left session.turns ≡ false) × (length session.turns ≡ SESSION_LINES)

-- The causes of a session's end, an equation each: why it stopped, what was sent, and whether a read failed. The agent quit; the link's
-- bytes ended; a read failed, and nothing was taken after it, whether or not bytes were left; a failed write cut off what was sent; or
-- the session used up its lines, or its link's bytes.
-- Row: quit_after_bye (worked_rows/proofs/Ends.antt)
-- Row: end_with_all_taken (worked_rows/proofs/Ends.antt)
-- Row: no_end_with_a_reply_unsent (worked_rows/proofs/Ends.antt)
-- Row: no_budget_after_one_turn (worked_rows/proofs/Ends.antt)
-- Row: end_counts_no_fault (worked_rows/proofs/Ends.antt)
-- Row: ended_by_its_end (worked_rows/proofs/LoggedLinks.antt)
abbrev pub EndsBy : Cause → (Said → List ℕ) → Session → Type 0
EndsBy causes.Quit text session = (has_left session.turns ≡ true) × SendsAll text session × NoReadFails session.before session.after
EndsBy causes.End text session = ComesTo gots.End session × IsAtEnd session.after.left × SendsAll text session × NoReadFails session.before session.after
EndsBy causes.ReadFault text session = ComesTo gots.End session × SendsAll text session × LastReadFails session.before session.after
EndsBy causes.WriteFault text session = IsCutOff text session × NoReadFails session.before session.after
EndsBy causes.Budget text session = (IsUsedUp session ⊎ ComesTo gots.Budget session) × SendsAll text session × NoReadFails session.before session.after

-- A session has a turn for each line that it read, with what that line asks for. `answers` is what the link's bytes give after the
-- first line: the lines of the turns, and then `rest`.
-- Row: ended_by_quit (worked_rows/proofs/LoggedLinks.antt)
pub record IsServed (dialect : Dialect) (answers : List (LineGot × List ℕ)) (session : Session) (cause : Cause) : Type 0 where
  pub read : List (LineGot × List ℕ)
  pub from : answers ≡ read ++ session.rest
  pub items : AreItems dialect.may_answer read (map item_of session.turns)
  pub few : length session.turns ≤ SESSION_LINES
  pub lawful : AreLawful session.turns
  pub end : EndsBy cause dialect.text session
