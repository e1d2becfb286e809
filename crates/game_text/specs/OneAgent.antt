-- The lines of one agent.
use Rattle.std.specs.Prelude.{ℕ, List, [], ◌∷◌, slice_index_or}
use Rattle.game_text.specs.Endowments.{endow_text}
use Rattle.game_text.specs.AgentLines.{client_lines}
use Rattle.game_text.specs.Games.{GameFile}

-- its endowment, and then its clients
abbrev pub lines_of_agent : GameFile → ℕ → List (List ℕ)
lines_of_agent game agent = endow_text agent (slice_index_or game.endow agent []) ∷ client_lines agent (slice_index_or game.clients agent [])

-- one of these lines, numbered from 0
abbrev pub agent_line : GameFile → ℕ → ℕ → List ℕ
agent_line game agent n = slice_index_or (lines_of_agent game agent) n []
