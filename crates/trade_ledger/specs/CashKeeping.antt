-- The invariant of the cash book.
use Rattle.trade_ledger.specs.Prelude.{CASH_ENTRIES, clock, part}
use Rattle.std.specs.Prelude.{◌≡◌, ℕ, ◌*◌, ◌<◌, ◌≤◌, ⊤, List, ℤ, pos, neg_ℤ, ◌≤ℤ◌, length, slice_index_or, All}
use Rattle.std.specs.List.{AllByRecursion}
use Rattle.tac_base.specs.Ranges.{IsNet}
use Rattle.trade_ledger.specs.declared.cash_calls.CashCall.{CashCall}
use Rattle.trade_ledger.specs.declared.cash_calls.CashCall.TheVariants.{Post, Read}
use Rattle.trade_ledger.specs.declared.cash_calls.CashReply.{CashReply}
use Rattle.trade_ledger.specs.declared.cash_calls.CashReply.TheVariants.{Done, Cash}
use Rattle.trade_ledger.specs.declared.cash_calls.CashEntry.{CashEntry}
use Rattle.trade_ledger.specs.CashHistory.{IsLegalCash, cash_total, cash_cap}

-- at most this many dollars, gained or lost
abbrev pub IsWithin : ℕ → ℤ → Type 0
IsWithin most dollars = (neg_ℤ (pos most) ≤ℤ dollars) × (dollars ≤ℤ pos most)

-- an agent reads its cash, or a post names a good and a position of 32 bits, and has a net for each of the nine parties
abbrev pub IsCashCall : CashCall → Type 0
IsCashCall (Read agent) = agent ≤ 7
IsCashCall (Post good position nets) = (good ≤ 27) × (position ≤ 4294967295) × (length nets.dollars ≡ 9) × All IsNet nets.dollars

-- the cash that is answered has at most 15 digits
abbrev pub IsCashReply : CashReply → Type 0
IsCashReply (Cash dollars) = IsWithin 600000000000000 dollars
IsCashReply Done = ⊤

-- an entry of one of the nine callers, in its ranges: all of those of a log, except for the position of a post
pub record IsLoggableCash (e : CashEntry) : Type 0 where
  pub caller : e.caller ≤ clock
  pub call : IsCashCall e.call
  pub reply : IsCashReply e.reply

-- The history is legal, and each of the nine callers has at most its cap of entries. The book has the total of each party, to which
-- each entry adds at most 2 ^ 31 dollars, and room for all entries that the caps allow.
pub record IsCashSound (history : List CashEntry) (kept : List ℤ) (capacity : ℕ) : Type 0 where
  pub legal : IsLegalCash history
  pub called : AllByRecursion (λ e. e.caller ≤ clock) history
  pub loggable : AllByRecursion IsLoggableCash history
  pub capped : (caller : ℕ) → length (part (λ e. e.caller) history caller) ≤ cash_cap caller
  pub totals : (party : ℕ) → party < 9 → slice_index_or kept party (pos 0) ≡ cash_total history party
  pub small : (party : ℕ) → party < 9 → IsWithin (length history * 2147483648) (cash_total history party)
  pub room : CASH_ENTRIES ≤ capacity
