-- A line of a script that is not at its end yet.
use Rattle.std.specs.Prelude.{◌≡◌, ℕ, ◌+◌, ◌<◌, List, length, MatchBool}
use Rattle.tac_base.specs.declared.limits.TheConstants.{LINE_BYTES}
use Rattle.script_run.specs.declared.game.held_line.HeldLine.{HeldLine}

-- the most bytes of a good line
abbrev pub longest_line : ℕ
longest_line = LINE_BYTES + 2

-- these bytes have come of the line, which are held unless they are too many
abbrev pub IsHeld : List ℕ → HeldLine → Type 0
IsHeld rest held = MatchBool held.long (longest_line < length rest) (held.text ≡ rest)
