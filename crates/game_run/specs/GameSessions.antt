-- The memory of a game, and what a game leaves at each agent's seat.
use Rattle.std.specs.Prelude.{◌≡◌, ℕ, ◌-◌, ◌+◌, ◌<◌, List, [], ◌++◌, Option, Some, None, Contains, false, length, filter, map, is_some, slice_index_or, vec_capacity}
use mathlib.Core.Option.{some}
use lib.ListN.{get_elem?}
use Rattle.game_run.specs.Prelude.{AGENTS, CALLERS, LINK_BYTES, GameFile, agents, part, ClosedGame, all_goods, setup_of, all_answers, count_of, held_of, link_of, GaveBytes, Lines, Cause, Desk, IsNewDesk, floor_ids, starts_of, AreDesksOf, IsServed, IsTranscript, Turn, welcome_text, LinkState, LineGot, Dialect}
use Rattle.auction_rules.specs.History.{Entry}
use Rattle.floor.specs.declared.floor.Floor.{Floor}
use Rattle.game_run.specs.declared.session_ends.SessionEnds.{SessionEnds}
use Rattle.game_run.specs.declared.play.OpenFloor.{OpenFloor}
use Rattle.game_run.specs.PlayedGame.{IsLegalGame, IsClockTranscript}

-- ---- a caller's part

-- the parts of a caller in all histories
abbrev pub caller_parts : ClosedGame → ℕ → List (List (ℕ × Entry))
caller_parts closed caller = map (λ auction. part (λ e. e.caller) auction.history caller) closed.auctions

-- ---- before the game

-- a floor of a game at which nobody has called, and its nine desks
pub record IsNewFloor (game : GameFile) (floor : Floor) (desks : List Desk) : Type 0 where
  pub starts : starts_of floor ≡ map (λ good. record { setup = setup_of good game; history = [] }) all_goods
  pub own : AreDesksOf floor desks
  pub fresh : (i : ℕ) (d : Desk) → get_elem? desks i ≡ some d → IsNewDesk (floor_ids floor) i d

-- nothing is gathered yet, and there is memory for what nine desks and eight links leave
pub record IsReadyForEnds {L : Type 0} (session_ends : SessionEnds L) : Type 0 where
  pub desks : (session_ends.desks.items ≡ []) × (vec_capacity session_ends.desks ≡ CALLERS)
  pub ends : (session_ends.ends.items ≡ []) × (vec_capacity session_ends.ends ≡ AGENTS)
  pub links : (session_ends.links.items ≡ []) × (vec_capacity session_ends.links ≡ AGENTS)

pub record IsOpenFloor {L : Type 0} (game : GameFile) (open_floor : OpenFloor L) : Type 0 where
  pub floor : IsNewFloor game open_floor.floor open_floor.desks.items
  pub session_ends : IsReadyForEnds open_floor.session_ends

-- ---- after it

module _ {L : Type 0} (state : L → LinkState) (dialect : Dialect) (game : GameFile) (closed : ClosedGame) where
  -- the agent was served by a session from these lines on, and its turns are its part of the histories
  pub record IsServedAs (agent : ℕ) (lines : Lines L) (link : L) (cause : Cause) : Type 0 where
    pub more : List ℕ
    pub gave : GaveBytes more (state (link_of lines)) (state link)
    pub turns : List Turn
    pub rest : List (LineGot × List ℕ)
    pub served : IsServed dialect (all_answers [] (LINK_BYTES - count_of lines + length (held_of lines).unread) ((held_of lines).unread ++ more))
        (record { welcome = welcome_text game agent; turns = turns; rest = rest; before = state (link_of lines); after = state link }) cause
    pub transcript : IsTranscript agent closed turns

  -- what became of an agent: one with lines was served, and has its end; one without took no turn
  abbrev pub IsAgentsPart : List (ℕ × Cause) → ℕ → Option (Lines L) → Option L → Type 0
  IsAgentsPart ends agent None None = IsTranscript agent closed []
  IsAgentsPart ends agent (Some lines) (Some link) = (cause : Cause) × Contains ends (agent, cause) × IsServedAs agent lines link cause
  IsAgentsPart ends agent lines link = ⊥

  -- A game was played with these lines. The links are those of the agents, in order.
  pub record IsPlayedThrough (lines : List (Option (Lines L))) (links : List (Option L)) (ends : List (ℕ × Cause)) : Type 0 where
    pub each_agent : (agent : ℕ) → agent < AGENTS → IsAgentsPart ends agent (slice_index_or lines agent None) (slice_index_or links agent None)
    pub wide : length links ≡ AGENTS
    pub ended : map (λ end. end.0) ends ≡ filter (λ agent. slice_index_or (map (λ ls. is_some ls) lines) agent false) agents
    pub legal_game : IsLegalGame game closed
    pub clock_transcript : IsClockTranscript game closed
