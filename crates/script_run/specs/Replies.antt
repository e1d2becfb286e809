-- The line of an auction's reply.
use Rattle.std.specs.Prelude.{ℕ, List, ◌++◌, codes}
use Rattle.script_run.specs.Prelude.{Reply, At, said_text}

-- the line of the reply to the call at a position, as an agent is sent it
abbrev pub positioned_reply_line : ℕ → Reply → List ℕ
positioned_reply_line position reply = said_text (At position reply) ++ codes "\n"
