-- What a contract sees of an auction.
use Rattle.std.specs.Prelude.{List}
use Rattle.auction_rules.specs.Setup.{Setup}
use Rattle.auction_rules.specs.History.{Entry}

-- an auction with its history, oldest entry first
pub record AuctionHistory : Type 0 where
  pub setup : Setup
  pub history : List Entry
