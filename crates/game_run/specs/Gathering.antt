-- What the sessions left, gathered in the order of the agents.
use Rattle.std.specs.Prelude.{◌≡◌, ℕ, ◌+◌, ◌<◌, ◌≤◌, List, ◌++◌, map, vec_len, vec_capacity, filter_map}
use Rattle.game_run.specs.Prelude.{AGENTS, desk_caller}
use Rattle.game_run.specs.declared.sessions.PlayedSeat.{PlayedSeat}
use Rattle.game_run.specs.declared.session_ends.SessionEnds.{SessionEnds}
use Rattle.game_run.specs.Seatings.{played_link, played_end}

-- there is memory for this many more
pub record HasCapacity {L : Type 0} (session_ends : SessionEnds L) (count : ℕ) : Type 0 where
  pub desks : vec_len session_ends.desks + count ≤ vec_capacity session_ends.desks
  pub ends : vec_len session_ends.ends + count ≤ vec_capacity session_ends.ends
  pub links : vec_len session_ends.links + count ≤ vec_capacity session_ends.links

-- this many were added, in the memory that there was
pub record TakesCapacity {L : Type 0} (before after : SessionEnds L) (count : ℕ) : Type 0 where
  pub desks : vec_len after.desks ≤ vec_len before.desks + count
  pub ends : vec_len after.ends ≤ vec_len before.ends + count
  pub links : vec_len after.links ≤ vec_len before.links + count
  pub desk_room : vec_capacity after.desks ≡ vec_capacity before.desks
  pub end_room : vec_capacity after.ends ≡ vec_capacity before.ends
  pub link_room : vec_capacity after.links ≡ vec_capacity before.links

-- exactly these were added
pub record AddsPlayed {L : Type 0} (before after : SessionEnds L) (played : List (PlayedSeat L)) : Type 0 where
  pub desks : after.desks.items ≡ before.desks.items ++ map (λ p. p.desk) played
  pub ends : after.ends.items ≡ before.ends.items ++ filter_map played_end played
  pub links : after.links.items ≡ before.links.items ++ map played_link played

-- whoever played there is an agent
abbrev pub IsAgents : {L : Type 0} → PlayedSeat L → Type 0
IsAgents played = desk_caller played.desk < AGENTS
