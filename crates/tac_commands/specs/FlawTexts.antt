-- What is written about a log that is not sound.
use Rattle.std.specs.Prelude.{ℕ, List, codes}
use Rattle.log_audit.specs.declared.findings.Flaw.{Flaw}
use Rattle.log_audit.specs.declared.findings.Flaw.TheVariants.{Entry, Clock, Cash, Post, Unposted, Score, Head}
use Rattle.tac_commands.specs.NumberedLines.{counted, numbered}

-- the line of its flaw
abbrev pub flaw_text : Flaw → List ℕ
flaw_text (Entry good position) = numbered (codes "unsound entry") good position
flaw_text (Clock good) = counted (codes "unsound clock") good
flaw_text (Cash position) = counted (codes "unsound cash") position
flaw_text (Post position) = counted (codes "unsound post") position
flaw_text (Unposted good position) = numbered (codes "unsound unposted") good position
flaw_text (Score agent) = counted (codes "unsound score") agent
flaw_text Head = codes "unsound head\n"

-- the line for the log of a pair, which is counted from 0
abbrev pub unsound_text : ℕ → List ℕ
unsound_text pair = counted (codes "unsound") pair
