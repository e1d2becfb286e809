-- All memory of a game.
use Rattle.std.specs.Prelude.{◌≡◌, [], None, replicate, vec_capacity}
use Rattle.game_run.specs.Prelude.{AGENTS, LINKS, GameFile}
use Rattle.game_run.specs.declared.arrivals.Arrivals.{Arrivals}
use Rattle.game_run.specs.declared.run.Reserved.{Reserved}
use Rattle.game_run.specs.GameSessions.{IsOpenFloor}

-- no link came, and there is memory for all that may be taken
pub record IsReadyForArrivals {L : Type 0} (arrivals : Arrivals L) : Type 0 where
  pub verdicts : (arrivals.verdicts.items ≡ []) × (vec_capacity arrivals.verdicts ≡ LINKS)
  pub holders : (arrivals.holders.items ≡ []) × (vec_capacity arrivals.holders ≡ LINKS)
  pub lines : arrivals.lines.items ≡ replicate AGENTS None

-- the memory of a game before any link came
pub record IsReserved {L : Type 0} (game : GameFile) (room : Reserved L) : Type 0 where
  pub open_floor : IsOpenFloor game room.open_floor
  pub arrivals : IsReadyForArrivals room.arrivals
  pub links : (room.links.items ≡ []) × (vec_capacity room.links ≡ LINKS)
