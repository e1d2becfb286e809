-- How links are admitted, in the order in which they come. The rule is our own.
use Rattle.std.specs.Prelude.{◌≡◌, ℕ, ◌<◌, ◌⊎◌, List, [], ◌∷◌, Bool, true, false, Option, codes, length, take, replicate, count_by, fold}
use Rattle.tac_base.specs.declared.limits.TheConstants.{AGENTS, LINKS, LINK_BYTES}
use Rattle.line_protocol.specs.declared.admission.Verdict.{Verdict}
use Rattle.line_protocol.specs.declared.admission.Verdict.TheVariants.{Seated, Syntax, WrongWord, Taken, Lost}
use Rattle.game_text.specs.Games.{GameFile}
use Rattle.tac_io.specs.AllAnswers.{all_answers}
use Rattle.tac_io.specs.LinkCalls.{GaveBytes, LastReadFails, LastWriteFails, NoReadFails, NoWriteFails, SendsNothing}
use Rattle.tac_io.specs.States.{LinkState}
use Rattle.tac_io.specs.Known.{known_then, IsAtEnd, TakesSome}
use Rattle.tac_io.specs.declared.line_got.LineGot.{LineGot}
use Rattle.agent_gate.specs.Gates.{Seats, verdict_of, seats_after}
use Rattle.tac_io.specs.declared.line_got.LineGot.TheVariants as gots

-- the seats of a game before any link comes: none is taken
abbrev pub free_seats : GameFile → Seats
free_seats game = record { words = game.words; taken = replicate AGENTS false }

-- the seats after these verdicts
-- Row: seat_is_taken_for_the_next_link (worked_rows/proofs/Links.antt)
-- Row: one_seat_is_given_and_refused_links_are_told (worked_rows/proofs/Links.antt)
abbrev pub seats_given : GameFile → List Verdict → Seats
seats_given game verdicts = fold seats_after (free_seats game) verdicts

-- whether a verdict gives a seat
-- Row: links_are_taken_up_to_8_seats_or_64_links (worked_rows/proofs/Links.antt)
abbrev pub is_seated : Verdict → Bool
is_seated (Seated agent) = true
is_seated verdict = false

-- ---- one link

-- the verdict on the first line of a link. A line that is too long is no greeting, and a link without a first line is lost.
-- Row: one_seat_is_given_and_refused_links_are_told (worked_rows/proofs/Links.antt)
abbrev pub first_verdict : Seats → LineGot → List ℕ → Verdict
first_verdict seats gots.Line line = verdict_of seats line
first_verdict seats gots.TooLong line = Syntax
first_verdict seats got line = Lost

-- what a link without a seat is sent: a line if it was refused, and nothing if it was lost
-- Row: one_seat_is_given_and_refused_links_are_told (worked_rows/proofs/Links.antt)
abbrev pub refusal_line : Verdict → List ℕ
refusal_line Syntax = codes "refused syntax\n"
refusal_line WrongWord = codes "refused wrongword\n"
refusal_line Taken = codes "refused taken\n"
refusal_line verdict = []

-- The line was sent and no write failed; or a write failed, nothing was sent after it, and of the line a proper prefix was sent, which
-- may be empty.
-- Row: refusal_is_sent_or_cut (worked_rows/proofs/Links.antt)
abbrev pub IsSentOrCut : List ℕ → LinkState → LinkState → Type 0
IsSentOrCut line before after =
    ((after.sent ≡ known_then before.sent line) × NoWriteFails before after) ⊎ (TakesSome before.sent after.sent line × LastWriteFails before after)

-- The bytes that a link gave begin with a line of this verdict, and no read failed. A read may have taken bytes after that line; they
-- do not count.
-- Row: second_greeting_is_taken (worked_rows/proofs/Links.antt)
pub record HasFirstLine (seats : Seats) (verdict : Verdict) (before after : LinkState) : Type 0 where
  pub bytes : List ℕ
  pub gave : GaveBytes bytes before after
  pub got : LineGot
  pub line : List ℕ
  pub first : (others : List (LineGot × List ℕ)) × (all_answers [] (LINK_BYTES) bytes ≡ (got, line) ∷ others)
  pub due : verdict ≡ first_verdict seats got line
  pub reads : NoReadFails before after

-- A link is lost if no first line of it was taken: its bytes end before a line end; or its first 67,108,864 bytes have none; or a read
-- failed before one was taken, and nothing was taken after that. A lost link is sent nothing.
-- Row: lost_at_its_end_or_a_failed_read (worked_rows/proofs/Links.antt)
pub record IsLost (before after : LinkState) : Type 0 where
  pub bytes : List ℕ
  pub gave : GaveBytes bytes before after
  pub why :
      ((all_answers [] (LINK_BYTES) bytes ≡ (gots.End, []) ∷ []) × IsAtEnd after.left × NoReadFails before after)
      ⊎ ((all_answers [] (LINK_BYTES) bytes ≡ (gots.Budget, []) ∷ []) × NoReadFails before after)
      ⊎ ((all_answers [] (LINK_BYTES) bytes ≡ (gots.End, []) ∷ []) × LastReadFails before after)
  pub quiet : SendsNothing before after

-- ---- all links

-- Another link may be taken: fewer than 64 were taken, and fewer than eight of them have a seat.
-- Row: links_are_taken_up_to_8_seats_or_64_links (worked_rows/proofs/Links.antt)
abbrev pub MayGoOn : List Verdict → Type 0
MayGoOn verdicts = (length verdicts < LINKS) × (count_by is_seated verdicts < AGENTS)

-- Links were taken until eight had a seat, or 64 were taken, or none was left.
pub record AreAllTaken {A : Type 0} (verdicts : List Verdict) (pending : Option (List A)) : Type 0 where
  pub no_more : (n : ℕ) → n < length verdicts → MayGoOn (take n verdicts)
  pub no_fewer : MayGoOn verdicts → IsAtEnd pending
