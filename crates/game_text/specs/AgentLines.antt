-- What a game file defines for the agents: the lines of the endowments and of the clients.
use Rattle.std.specs.Prelude.{◌≡◌, ℕ, List, ◌++◌, Result, Ok, length, All}
use Rattle.tac_base.specs.Clients.{Preferences, IsClient}
use Rattle.tac_base.specs.declared.limits.TheConstants.{AGENTS}
use Rattle.text_forms.specs.declared.lines.BadLine.{BadLine}
use Rattle.text_forms.specs.Lines.{Remaining}
use Rattle.text_forms.specs.Steps.{◌>>=◌, read_by, repeat, lines_of_parts, one_line}
use Rattle.game_text.specs.declared.agents.Agents.{Agents}
use Rattle.game_text.specs.Endowments.{IsEndowment, endow_of, endow_text}
use Rattle.game_text.specs.ClientLines.{client_of, client_text}

-- the eight clients of an agent
pub record AreClients (clients : List Preferences) : Type 0 where
  pub count : length clients ≡ 8
  pub each : All IsClient clients

-- eight agents in their ranges
pub record AreAgents (agents : Agents) : Type 0 where
  pub endow_count : length agents.endow ≡ AGENTS
  pub endow : All IsEndowment agents.endow
  pub client_count : length agents.clients ≡ AGENTS
  pub clients : All AreClients agents.clients

-- the lines of an agent's clients
abbrev pub client_lines : ℕ → List Preferences → List (List ℕ)
client_lines agent clients = lines_of_parts (one_line (client_text agent)) 0 clients

-- the endowments first, and then the clients
abbrev pub agents_lines : Agents → List (List ℕ)
agents_lines agents = lines_of_parts (one_line endow_text) 0 agents.endow ++ lines_of_parts client_lines 0 agents.clients

-- ---- reading them

-- the line of an agent's endowment, read as a part of the file
abbrev pub endow_part : ℕ → Remaining → Result (List ℕ × Remaining) BadLine
endow_part agent left = read_by (endow_of agent) left

-- the line of an agent's client, read as a part of the file
abbrev pub client_part : ℕ → ℕ → Remaining → Result (Preferences × Remaining) BadLine
client_part agent client left = read_by (client_of agent client) left

-- the lines of an agent's eight clients
abbrev pub agent_part : ℕ → Remaining → Result (List Preferences × Remaining) BadLine
agent_part agent left = repeat 8 0 (client_part agent) left

-- the endowments of the eight agents, and then the clients of each
unfoldable pub agents_in : Remaining → Result (Agents × Remaining) BadLine
agents_in left = do
  endow ← repeat AGENTS 0 endow_part left
  clients ← repeat AGENTS 0 agent_part endow.1
  Ok (record { endow = endow.0; clients = clients.0 }, clients.1)
