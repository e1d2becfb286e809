-- What holds of the trades and the calls that were read from lines.
use Rattle.std.proofs.Common.{◌≡◌, ℕ, ◌≤◌, List, [], ◌∷◌, ◌++◌, Option, Some, None, Ok, sym, ◌∙◌}
use Rattle.std.specs.List.{AllByRecursion}
use Rattle.log_reader.specs.{Call, Reply, Trade, IsCall, at_line, IsFit, formed, trade_of, read_entry}
use Rattle.tac_base.specs.declared.calls.Call.TheVariants as calls
use Rattle.log_reader.proofs.EntryFormLaws.{trade_is, entry_is}

-- a line that has its form
formed_is : {A : Type 0} (number : ℕ) (read : Option A) (x : A) → at_line number (formed read) ≡ Ok x → read ≡ Some x
formed_is number None x h = absurd cc
formed_is number (Some y) x h = cc

-- a trade has a unit
pub trade_some : (good number : ℕ) (line : List ℕ) (read : Option Trade) (trade : Trade) → read ≡ trade_of good line → Ok trade ≡ at_line number (formed read) → 1 ≤ trade.units
trade_some good number line read trade is h = (trade_is good line trade (sym is ∙ formed_is number read trade (sym h))).1.some

-- one more trade that has
pub all_some : (trades : List Trade) (trade : Trade) → AllByRecursion (λ (t : Trade). 1 ≤ t.units) trades → 1 ≤ trade.units → AllByRecursion (λ (t : Trade). 1 ≤ t.units) (trades ++ trade ∷ [])
all_some [] trade all some = (some, tt)
all_some (t ∷ trades) trade all some = (all.0, all_some trades trade all.1 some)

fit : (call : Call) → IsCall call → IsFit call
fit (calls.Bid points) h = tt
fit calls.Withdraw h = tt
fit calls.Own h = tt
fit (calls.Update tick draw) h = h.1
fit calls.Publish h = tt
fit calls.Close h = tt

-- an auction may be asked a call
pub call_fit : (number : ℕ) (line : List ℕ) (read : Option (ℕ × Call × Reply)) (entry : ℕ × Call × Reply) → read ≡ read_entry line → Ok entry ≡ at_line number (formed read) → IsFit entry.1
call_fit number line read entry is h = fit entry.1 (entry_is line entry (sym is ∙ formed_is number read entry (sym h))).call_range
