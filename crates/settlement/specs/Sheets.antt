-- The sheet of a game: the score of each agent with its parts, and an allocation that reaches it. The form of the sheet is our own.
use Rattle.std.specs.Prelude.{◌≡◌, ℕ, List, [], ℤ, pos, Some, length, slice_get, slice_index_or}
use Rattle.tac_base.specs.declared.limits.TheConstants.{AGENTS}
use Rattle.game_text.specs.Accounts.{AccountFile}
use Rattle.game_text.specs.Games.{GameFile}
use Rattle.packages.specs.declared.travel_packages.Package.{Package}
use Rattle.bound_cert.specs.Trees.{Tree}
use Rattle.bound_cert.specs.Solutions.{IsSolution}
use Rattle.settlement.specs.Settlement.{Settlement}
use Rattle.settlement.specs.Score.{short_of, score_of}

-- an agent's line of the sheet
pub record Scored : Type 0 where
  -- the best total of its account, in dollars
  pub best : ℕ
  -- what it gained in trades, in dollars
  pub cash : ℤ
  -- how many tickets it sold but does not have
  pub short : ℕ
  pub score : ℤ
  -- a feasible allocation that reaches the best total
  pub allocation : List Package
  -- the certificate that no allocation is worth more
  pub tree : Tree

-- an agent's account: its clients in the game, and what it holds at the end
-- Row: account_is_the_agents_own (worked_rows/proofs/Logs.antt)
abbrev pub agents_account : GameFile → Settlement → ℕ → AccountFile
agents_account game settlement agent = record { clients = slice_index_or game.clients agent []; holdings = slice_index_or settlement.holdings agent [] }

-- This is the score of an agent with this account that gained this cash. None of its numbers is free: each is fixed by the account and
-- the cash of the same agent.
pub record IsScored (account : AccountFile) (gained : ℤ) (scored : Scored) : Type 0 where
  pub cash : scored.cash ≡ gained
  pub short : scored.short ≡ short_of account.holdings
  pub score : scored.score ≡ score_of scored.best scored.cash scored.short
  pub solution : IsSolution account scored.best scored.allocation scored.tree

-- This is the score of that agent of the game, with its own account and cash.
abbrev pub IsDueScore : GameFile → Settlement → ℕ → Scored → Type 0
IsDueScore game settlement agent scored = IsScored (agents_account game settlement agent) (slice_index_or settlement.cash agent (pos 0)) scored

-- The sheet has the score of each of the eight agents, in order.
pub record IsSheet (game : GameFile) (settlement : Settlement) (sheet : List Scored) : Type 0 where
  pub count : length sheet ≡ AGENTS
  pub due : (agent : ℕ) (scored : Scored) → slice_get sheet agent ≡ Some scored → IsDueScore game settlement agent scored
