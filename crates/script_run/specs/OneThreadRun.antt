-- A game that one thread plays by the lines of a script, and what is written of it.
use Rattle.std.specs.Prelude.{ℕ, zero, suc, ◌-◌, List, [], ◌∷◌, ◌++◌, length, map, reverse, sum_by, decimal, codes}
use Rattle.std.specs.List.{enumerate_from}
use Rattle.script_run.specs.Prelude.{TICKS, GameFile, Entry, all_trades, setup_of, AuctionHistory, ClosedGame, Said, said_text}
use Rattle.script_run.specs.declared.game.lines.GameLine.{GameLine}
use Rattle.script_run.specs.declared.game.lines.GameLine.TheVariants.{Tick, Asks}
use Rattle.script_run.specs.declared.game.play_count.PlayCount.{PlayCount}
use Rattle.script_run.specs.GameStates.{GameState, opening, turn, ticked}

-- the line that answers an agent
abbrev pub line_to_agent : ℕ → Said → List ℕ
line_to_agent agent said = decimal agent ++ codes " " ++ said_text said ++ codes "\n"

-- the game after a line, and what is written of the line
abbrev pub after_line : GameFile → GameLine → GameState → GameState
after_line game Tick state = ticked game state
after_line game (Asks agent asked) state = (turn game agent asked state).1

abbrev pub line_text : GameFile → GameLine → GameState → List ℕ
line_text game Tick state = []
line_text game (Asks agent asked) state = line_to_agent agent (turn game agent asked state).0

-- the game after lines, the last line first, and what was written of them
abbrev pub played : GameFile → List GameLine → GameState
played game [] = opening
played game (line ∷ lines) = after_line game line (played game lines)

abbrev pub replies : GameFile → List GameLine → List ℕ
replies game [] = []
replies game (line ∷ lines) = replies game lines ++ line_text game line (played game lines)

-- this many more ticks
abbrev pub ticked_often : GameFile → ℕ → GameState → GameState
ticked_often game zero state = state
ticked_often game (suc n) state = ticked game (ticked_often game n state)

-- the game after a script's lines and the remaining ticks
abbrev pub whole_game : GameFile → List GameLine → GameState
whole_game game lines = ticked_often game (TICKS - (played game lines).ticks) (played game lines)

-- the auction of a good with its past
abbrev pub auction_with : GameFile → ℕ × List Entry → AuctionHistory
auction_with game (good, past) = record { setup = setup_of good game; history = reverse past }

-- the histories of a game, the oldest entry first
abbrev pub closed_of : GameFile → GameState → ClosedGame
closed_of game state = record { auctions = map (auction_with game) (enumerate_from 0 state.pasts); cash = state.cash }

-- the number of entries and of trades in the auctions
abbrev pub count_in : GameState → PlayCount
count_in state = record { entries = sum_by length state.pasts; trades = sum_by (λ past. length (all_trades past)) state.pasts }
