-- What a contract sees of a game that is being played, and the invariant of every such game.
use Rattle.std.specs.Prelude.{◌≡◌, ℕ, ◌+◌, ◌<◌, ◌≤◌, List, map, reverse, Option, MatchOption}
use Rattle.script_run.specs.Prelude.{TICKS, GameFile, CashEntry, Setup, Entry, setup_of, AuctionHistory, all_goods}
use Rattle.script_run.specs.GameStates.{GameState}

-- a game, and its progress
pub record SeenGame : Type 0 where
  pub game : GameFile
  pub state : GameState

-- the auctions' pasts, the newest entry first, and their setups
abbrev pub pasts_of : List AuctionHistory → List (List Entry)
pasts_of auctions = map (λ auction. reverse auction.history) auctions

abbrev pub setups_of : List AuctionHistory → List Setup
setups_of auctions = map (λ auction. auction.setup) auctions

-- the setups of all goods in order
abbrev pub all_setups : GameFile → List Setup
all_setups game = map (λ good. setup_of good game) all_goods

-- the state of a game that is kept in auctions and a cash book
abbrev pub state_of : List AuctionHistory → List CashEntry → ℕ → GameState
state_of auctions cash ticks = record { pasts = pasts_of auctions; cash = cash; ticks = ticks }

-- the auctions are those of the game's goods in order, and no more ticks were made than a game has
pub record IsOpen (game : GameFile) (auctions : List AuctionHistory) (ticks : ℕ) : Type 0 where
  pub setups : setups_of auctions ≡ all_setups game
  pub few : ticks ≤ TICKS

-- if a tick is left, it begins, and this is its number; otherwise the number of ticks stays
abbrev pub BeginsTick : ℕ → ℕ → Option ℕ → Type 0
BeginsTick ticks ticks' result =
    MatchOption result ((TICKS ≤ ticks) × (ticks' ≡ ticks)) (λ tick. (ticks < TICKS) × (tick ≡ ticks + 1) × (ticks' ≡ tick))
