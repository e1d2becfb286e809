-- What a line of a game script requests.
use Rattle.std.specs.Prelude.{ℕ, ◌==◌, nat_lt, if◌then◌else◌, List, [], ◌∷◌, length, Option, Some, None, Result, Ok, Err, codes, bytes_eq}
use Rattle.tac_base.specs.declared.limits.TheConstants.{LINE_BYTES}
use Rattle.line_protocol.specs.Requests.{request_of}
use Rattle.script_run.specs.HotelLines.{agent_of}
use Rattle.script_run.specs.declared.fault.ScriptReason.{ScriptReason}
use Rattle.script_run.specs.declared.fault.ScriptReason.TheVariants.{Form}
use Rattle.script_run.specs.declared.game.lines.GameLine.{GameLine}
use Rattle.script_run.specs.declared.game.lines.GameLine.TheVariants.{Tick, Asks}

-- what an agent requests, if it is no longer than a request line may be: a request, or one that is refused
abbrev pub asks_of : Option ℕ → List ℕ → Result GameLine ScriptReason
asks_of None request = Err Form
asks_of (Some agent) request = if nat_lt LINE_BYTES (length request) then Err Form else Ok (Asks agent (request_of request))

-- a line of an agent, a space and a request
abbrev pub request_line : List ℕ → Result GameLine ScriptReason
request_line [] = Err Form
request_line (digit ∷ []) = Err Form
request_line (digit ∷ space ∷ request) = if space == 32 then asks_of (agent_of (digit ∷ [])) request else Err Form

-- what a line requests, or that it has no form
unfoldable pub game_line_of : List ℕ → Result GameLine ScriptReason
game_line_of line = if bytes_eq line (codes "tick") then Ok Tick else request_line line
