-- Which words of a command line ask for the service of a game, and how a line of an agent is read and a reply written in each form.
-- Both are our own rules.
use Rattle.std.specs.Prelude.{◌≡◌, ℕ, ◌⊎◌, ◌&&◌, nat_le, List, [], ◌∷◌, Option, Some, None, Err, String, if◌then◌else◌, codes, map, string_bytes, bytes_eq}
use Rattle.std.specs.declared.alloc.Global.{Global}
use Rattle.tac_base.specs.declared.limits.TheConstants.{PACE, PORT}
use Rattle.tac_base.specs.Numerals.{numeral}
use Rattle.line_protocol.specs.Requests.{request_of}
use Rattle.agent_gate.specs.Dialects.{Dialect}
use Rattle.line_protocol.specs.declared.asking.RequestFault.TheVariants.{Memory}
use Rattle.line_protocol.specs.Replies.{said_text}
use Rattle.json_dialect.specs.JsonRequests.{asks_json}
use Rattle.json_dialect.specs.JsonReplies.{json_text}
use Rattle.tac_commands.specs.declared.services.Form.{Form}
use Rattle.tac_commands.specs.declared.services.Form.TheVariants.{Lines, Json}

-- the words of a command line, as bytes
abbrev pub bytes_of_words : List (String Global) → List (List ℕ)
bytes_of_words words = map (λ word. string_bytes word) words

-- the service of a game
pub record Service : Type 0 where
  -- the name of the game's file
  pub game : List ℕ
  -- the port at which it listens, 1 to 65535
  pub port : ℕ
  -- the milliseconds from one tick to the next, 1 to 60000
  pub pace : ℕ
  -- the form of its agents' lines
  pub form : Form

-- a number, if it is at least 1 and at most a limit
abbrev pub positive_to : ℕ → Option ℕ → Option ℕ
positive_to most None = None
positive_to most (Some n) = if nat_le 1 n && nat_le n most then Some n else None

-- a service, if it has a port and a pace
abbrev pub service_with : List ℕ → Option ℕ → Option ℕ → Form → Option Service
service_with game (Some port) (Some pace) form = Some (record { game = game; port = port; pace = pace; form = form })
service_with game port pace form = None

-- `serve GAME PORT PACE` asks for the service of a game for agents that use lines of words, and `serve GAME PORT PACE json` for agents
-- that use JSON. A port is 1 to 65535, and a pace 1 to 60000 milliseconds per tick.
-- Row: services_have_a_port_a_pace_and_a_form (worked_rows/proofs/CommandLines.antt)
abbrev pub service_of : List (List ℕ) → Option Service
service_of (word ∷ game ∷ port ∷ pace ∷ []) =
    if bytes_eq word (codes "serve") then service_with game (positive_to PORT (numeral 10 port)) (positive_to PACE (numeral 10 pace)) Lines else None
service_of (word ∷ game ∷ port ∷ pace ∷ form ∷ []) =
    if bytes_eq word (codes "serve") && bytes_eq form (codes "json") then service_with game (positive_to PORT (numeral 10 port)) (positive_to PACE (numeral 10 pace)) Json else None
service_of words = None

-- ---- the form of lines

-- In words, a line is read as what `request_of` says. In JSON it is read as what `asks_json` says, or as one for which there was no
-- memory, whatever it says; it then requests nothing, and the reply is `{"no":"memory"}`.
abbrev pub dialect_in : Form → Dialect
dialect_in Lines = record { may_answer = λ line answer. answer ≡ request_of line; text = said_text }
dialect_in Json = record { may_answer = λ line answer. (answer ≡ asks_json line) ⊎ (answer ≡ Err Memory); text = json_text }
