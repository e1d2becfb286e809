-- A history as a log has it.
use Rattle.std.specs.Prelude.{◌≤◌, ◌*◌, List, length}
use Rattle.std.specs.List.{AllByRecursion}
use Rattle.log_reader.specs.Prelude.{AUCTION_ENTRIES, ENTRY_TRADES, Call, Trade, IsFit, IsStored}
use Rattle.tac_base.specs.declared.calls.Entry.{Entry as StoredEntry}

-- at most 8,256 entries with their trades, at most 128 of each, whose calls an auction may be asked
pub record IsHistoryKept (entries : List StoredEntry) (trades : List Trade) : Type 0 where
  pub few : length entries ≤ AUCTION_ENTRIES
  pub few_trades : length trades ≤ ENTRY_TRADES * length entries
  pub stored : IsStored entries trades
  pub fit : AllByRecursion (λ entry. IsFit entry.call) entries

-- a call that an auction may be asked, and trades of a unit or more
pub record IsEntryRead (call : Call) (trades : List Trade) : Type 0 where
  pub fit : IsFit call
  pub some : AllByRecursion (λ trade. 1 ≤ trade.units) trades
