-- How a game was played, as its log says.
use Rattle.std.specs.Prelude.{ℕ, List}
use Rattle.line_protocol.specs.declared.admission.Verdict.{Verdict}
use Rattle.line_protocol.specs.declared.admission.Cause.{Cause}
use Rattle.line_protocol.specs.declared.head.LogHead.{LogHead}
use Rattle.line_protocol.specs.declared.head.LogHead.TheVariants as kept

-- how a game was played: from a script; or over links, with the verdict on each link in the order of arrival, the cause of the end of
-- each seated agent's session, and the number of ticks that were missed
pub data Head : Type 0 where
  Play : Head
  Serve : (verdicts : List Verdict) → (ends : List (ℕ × Cause)) → (missed : ℕ) → Head

-- the value of a log's head, with plain lists
abbrev pub head_of : LogHead → Head
head_of kept.Play = Play
head_of (kept.Serve verdicts ends missed) = Serve verdicts.items ends.items missed
