-- A history as it is stored: entries, and the trades of all of them in one list.
use Rattle.std.specs.Prelude.{◌≡◌, ℕ, ◌+◌, ◌≤◌, ⊤, List, [], ◌∷◌, map, take, drop, length, reverse, sum_by, slice_get, Option, Some, None, flat_map}
use Rattle.auction_core.specs.Prelude.{Call, Reply, Trade, all_trades, traded}
use Rattle.tac_base.specs.declared.calls.Entry.{Entry as StoredEntry}
use Rattle.auction_rules.specs.History.{Entry}

-- a stored entry with its trades
abbrev pub entry_with : List Trade → StoredEntry → Entry
entry_with trades e = record { caller = e.caller; call = e.call; reply = e.reply; trades = take e.trades (drop e.first_trade trades) }

-- the history that is stored, the oldest entry first
abbrev pub stored : List StoredEntry → List Trade → List Entry
stored entries trades = map (entry_with trades) entries

-- the trades of each entry begin where those of the entries before it end
abbrev pub AreChained : ℕ → List StoredEntry → Type 0
AreChained from [] = ⊤
AreChained from (e ∷ entries) = (e.first_trade ≡ from) × AreChained (from + e.trades) entries

-- how many trades the entries have
abbrev pub count_trades : List StoredEntry → ℕ
count_trades entries = sum_by (λ e. e.trades) entries

-- the entries' trades are the stored ones, one entry's after the other's, and each has a unit
pub record IsStored (entries : List StoredEntry) (trades : List Trade) : Type 0 where
  pub chained : AreChained 0 entries
  pub whole : length trades ≡ count_trades entries
  pub some : length trades ≤ traded (all_trades (reverse (stored entries trades)))

-- how an entry is stored after the trades of those before it
abbrev pub entry_behind : List Trade → ℕ → Call → Reply → List Trade → StoredEntry
entry_behind before caller call reply trades = record { caller = caller; call = call; reply = reply; first_trade = length before; trades = length trades }

-- a stored entry shows the entry of a history at a position: its trades come after those of the entries before it
pub record Shows (history : List Entry) (position : ℕ) (entry : Entry) (shown : StoredEntry) : Type 0 where
  pub caller : shown.caller ≡ entry.caller
  pub call : shown.call ≡ entry.call
  pub reply : shown.reply ≡ entry.reply
  pub trades : shown.trades ≡ length entry.trades
  pub first_trade : shown.first_trade ≡ length (flat_map (λ e. e.trades) (take position history))

-- what is shown at a position: the entry there, and None exactly past the end
abbrev pub IsShown : List Entry → ℕ → Option StoredEntry → Type 0
IsShown history position None = length history ≤ position
IsShown history position (Some shown) = (entry : Entry) × (slice_get history position ≡ Some entry) × Shows history position entry shown
