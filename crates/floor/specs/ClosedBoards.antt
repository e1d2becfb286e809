-- The boards of a closed game.
use Rattle.std.specs.Prelude.{List, reverse}
use Rattle.tac_base.specs.declared.calls.Board.{Board}
use Rattle.auction_rules.specs.History.{Entry}
use Rattle.auction_core.specs.Auctions.{AuctionHistory}
use Rattle.auction_rules.specs.Board as boards

-- the board of an auction after these entries, oldest first
-- Row: shown_board_is_of_a_prefix (worked_rows/proofs/Sessions.antt)
abbrev pub board_of : AuctionHistory → List Entry → Board
board_of auction history = boards.board auction.setup.rules (reverse history)
