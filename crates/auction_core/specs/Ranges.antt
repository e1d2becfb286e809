-- The ranges of an auction's entries in a log.
use Rattle.std.specs.Prelude.{ℕ, ◌≤◌, ⊤, List, length, All}
use Rattle.auction_core.specs.Prelude.{Reply, AUCTION_ENTRIES, BID_PRICE, ENTRY_TRADES, SHOWN_PRICE, clock, IsCall, IsReply, IsTrade, IsHolding}
use Rattle.tac_base.specs.declared.calls.Reply.TheVariants.{Own, Sold, BelowQuote}
use Rattle.auction_rules.specs.History.{Entry}

-- an entry in the auction of a good
pub record IsEntry (good : ℕ) (e : Entry) : Type 0 where
  pub caller : e.caller ≤ clock
  pub call : IsCall e.call
  pub reply : IsReply e.reply
  pub few : length e.trades ≤ ENTRY_TRADES
  pub trades : All (IsTrade good) e.trades

-- the history of a good
pub record IsHistory (good : ℕ) (history : List Entry) : Type 0 where
  pub few : length history ≤ AUCTION_ENTRIES
  pub entries : All (IsEntry good) history

-- the ranges of replies: a holding in -200000..200000, a room price of 0..10000 dollars, and a price to offer of at most 10001 dollars
abbrev pub IsToldInRange : Reply → Type 0
IsToldInRange (Own holding left) = IsHolding holding
IsToldInRange (Sold units price) = price ≤ BID_PRICE
IsToldInRange (BelowQuote need at offered) = at ≤ SHOWN_PRICE
IsToldInRange reply = ⊤
