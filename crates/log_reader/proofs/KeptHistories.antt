-- A history with one entry more, and the calls of its entries.
use Rattle.std.proofs.Common.{◌≡◌, ℕ, zero, suc, ◌≤◌, ◌<◌, List, [], ◌∷◌, ◌++◌, Option, Some, None, Result, Ok, Err, length, subst, arith, length-append, slice_get, IfSome, OnOk, OnErr}
use Rattle.std.specs.List.{AllByRecursion}
use Rattle.std.proofs.lemmas.List.Elements.{All-from_recursion}
use Rattle.tac_base.specs.declared.memory.Memory.{Memory}
use Rattle.tac_base.specs.declared.calls.Entry.{Entry as StoredEntry}
use Rattle.log_reader.specs.Prelude.{Trade, IsFit, entry_behind, stored}
use Rattle.auction_rules.specs.History.{Entry}
use Rattle.auction_core.proofs.Chains.{stored_more, stores_more}
use Rattle.log_reader.specs.Histories.{IsHistoryKept, IsEntryRead}

-- what holds of each entry holds of the one at a position
pub found_is : (P : StoredEntry → Type 0) (entries : List StoredEntry) (position : ℕ) (found : Option StoredEntry) → AllByRecursion P entries → slice_get entries position ≡ found → IfSome found P
found_is P entries position None all at = tt
found_is P [] position (Some e) all at = absurd cc
found_is P (x ∷ entries) zero (Some e) all at = let same : x ≡ e = cc in subst P same all.0
found_is P (x ∷ entries) (suc position) (Some e) all at = found_is P entries position (Some e) all.1 at

all_push : (P : StoredEntry → Type 0) (entries : List StoredEntry) (e : StoredEntry) → AllByRecursion P entries → P e → AllByRecursion P (entries ++ e ∷ [])
all_push P [] e all is = (is, tt)
all_push P (x ∷ entries) e all is = (all.0, all_push P entries e all.1 is)

module _ (entries : List StoredEntry) (trades : List Trade) (e : Entry) where
  abbrev behind : StoredEntry
  behind = entry_behind trades e.caller e.call e.reply e.trades

  kept_more : IsHistoryKept entries trades → IsEntryRead e.call e.trades → length entries < 8256 → length e.trades ≤ 128 → IsHistoryKept (entries ++ behind ∷ []) (trades ++ e.trades)
  kept_more kept read room few = record {
    few = simp length-append (omega arith);
    few_trades = (let short = kept.few_trades in omega (arith, short, few, length-append trades e.trades, length-append entries (behind ∷ [])));
    stored = stores_more entries trades e.trades e.caller e.call e.reply kept.stored (All-from_recursion (λ (t : Trade). 1 ≤ t.units) e.trades read.some);
    fit = all_push (λ (x : StoredEntry). IsFit x.call) entries behind kept.fit read.fit;
  }

  module _ (given : Result (Unit {0}) Memory) (new : List StoredEntry) (all : List Trade) where
    -- it is kept, whether the entry was stored or nothing was
    pub kept_after : OnOk given (new ≡ entries ++ behind ∷ []) → OnOk given (all ≡ trades ++ e.trades) → OnErr given (new ≡ entries) → OnErr given (all ≡ trades) →
        IsHistoryKept entries trades → IsEntryRead e.call e.trades → length entries < 8256 → length e.trades ≤ 128 → IsHistoryKept new all
    kept_after more traded same none kept read room few = after given more traded same none
      where
        after : (r : Result (Unit {0}) Memory) → OnOk r (new ≡ entries ++ behind ∷ []) → OnOk r (all ≡ trades ++ e.trades) → OnErr r (new ≡ entries) → OnErr r (all ≡ trades) → IsHistoryKept new all
        after (Ok u) a b c d = rw (a, b) (kept_more kept read room few)
        after (Err m) a b c d = rw (c, d) kept

    pub pushed_after : OnOk given (new ≡ entries ++ behind ∷ []) → OnOk given (all ≡ trades ++ e.trades) → IsHistoryKept entries trades → OnOk given (stored new all ≡ stored entries trades ++ e ∷ [])
    pushed_after more traded kept = after given more traded
      where
        after : (r : Result (Unit {0}) Memory) → OnOk r (new ≡ entries ++ behind ∷ []) → OnOk r (all ≡ trades ++ e.trades) → OnOk r (stored new all ≡ stored entries trades ++ e ∷ [])
        after (Ok u) a b = rw (a, b) (stored_more entries trades e.trades e.caller e.call e.reply kept.stored)
        after (Err m) a b = tt
