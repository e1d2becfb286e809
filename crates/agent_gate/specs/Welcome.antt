-- The welcome: what a seated link is sent first.
use Rattle.std.specs.Prelude.{◌≡◌, ℕ, ◌++◌, List, ◌∷◌, codes, decimal}
use Rattle.text_forms.specs.Lines.{text_of}
use Rattle.game_text.specs.Games.{GameFile}
use Rattle.game_text.specs.OneAgent.{lines_of_agent}
use Rattle.tac_io.specs.States.{LinkState}
use Rattle.tac_io.specs.Known.{known_then}

-- `welcome A`, and then the agent's endowment and its eight clients
-- Row: ten_lines_are_sent_first (worked_rows/proofs/Links.antt)
abbrev pub welcome_lines : GameFile → ℕ → List (List ℕ)
welcome_lines game agent = (codes "welcome " ++ decimal agent) ∷ lines_of_agent game agent

-- what a seated link is sent before the replies: ten lines
abbrev pub welcome_text : GameFile → ℕ → List ℕ
welcome_text game agent = text_of (welcome_lines game agent)

-- the first bytes of a text were sent, and the second text is the rest of it
pub record MovesOn (before after : LinkState) (text text' : List ℕ) : Type 0 where
  pub first : List ℕ
  pub whole : text ≡ first ++ text'
  pub known : after.sent ≡ known_then before.sent first
