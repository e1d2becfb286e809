-- The invariant of every auction.
use Rattle.std.specs.Prelude.{◌≡◌, ℕ, ◌+◌, ◌*◌, ◌≤◌, List, ℤ, length, reverse}
use Rattle.tac_base.specs.declared.calls.Entry.{Entry as StoredEntry}
use Rattle.auction_core.specs.Prelude.{Trade, AUCTION_ENTRIES, BID_UNITS, ENTRY_TRADES, Setup, all_trades, Legal, traded}
use Rattle.std.specs.List.{AllByRecursion}
use Rattle.auction_rules.specs.History.{Entry}
use Rattle.auction_core.specs.declared.book.Book.{Book}
use Rattle.auction_core.specs.Books.{Stands, units_left, held_by}
use Rattle.auction_core.specs.Setups.{AreInRange, AreEndowed}
use Rattle.auction_core.specs.Stored.{stored, IsStored}
use Rattle.auction_core.specs.Ranges.{IsEntry, IsToldInRange}

-- The rules are those that a game may have, and each agent has 0..16 units at first. The history is legal, and book and holdings stand for
-- it. Each entry brings at most 16 units to trade, besides 128 that a hotel may sell at its closing. A log can show each entry.
pub record IsAuctionKept (setup : Setup) (book : Book) (holdings : List ℤ) (history : List Entry) : Type 0 where
  pub ranged : AreInRange setup.rules
  pub endowed : AreEndowed setup.endow
  pub legal : Legal setup history
  pub stands : Stands book setup (reverse history)
  pub held : holdings ≡ held_by setup (reverse history)
  pub few : traded (all_trades (reverse history)) + units_left book ≤ BID_UNITS * length history + ENTRY_TRADES
  pub loggable : AllByRecursion (IsEntry setup.good) history
  pub told : AllByRecursion (λ e. IsToldInRange e.reply) history

module _ (setup : Setup) where
  -- a stored history is kept so, with room for all entries that the caps allow, and for all their trades
  pub record IsAuctionSound (book : Book) (holdings : List ℤ) (entries : List StoredEntry) (trades : List Trade) (entry_capacity trade_capacity : ℕ) : Type 0 where
    pub kept : IsAuctionKept setup book holdings (stored entries trades)
    pub stored : IsStored entries trades
    pub entry_room : AUCTION_ENTRIES ≤ entry_capacity
    pub trade_room : BID_UNITS * AUCTION_ENTRIES + ENTRY_TRADES ≤ trade_capacity
