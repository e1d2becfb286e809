-- Histories of the cash book, oldest entry first. The cash book is our own.
use Rattle.std.specs.Prelude.{◌≡◌, ℕ, ◌==◌, if◌then◌else◌, ⊤, false, List, ℤ, pos, ◌+ℤ◌, fold, map, take, length, slice_get, slice_index_or, Option, Some, None, filter_map}
use Rattle.tac_base.specs.declared.calls.Nets.{Nets}
use Rattle.tac_base.specs.Goods.{clock}
use Rattle.tac_base.specs.declared.limits.TheConstants.{CLOCK_CASH_ENTRIES, AGENT_CASH_ENTRIES}
use Rattle.tac_base.specs.declared.calls.Board.{Board}
use Rattle.trade_ledger.specs.declared.cash_calls.CashCall.{CashCall}
use Rattle.trade_ledger.specs.declared.cash_calls.CashCall.TheVariants.{Post, Read}
use Rattle.trade_ledger.specs.declared.cash_calls.CashReply.{CashReply}
use Rattle.trade_ledger.specs.declared.cash_calls.CashReply.TheVariants.{Done, Cash}
use Rattle.trade_ledger.specs.declared.cash_calls.CashEntry.{CashEntry}

-- the net amounts of a post; a reading has none
abbrev pub nets_of : CashCall → Option Nets
nets_of (Post good position nets) = Some nets
nets_of (Read agent) = None

-- the sum of a party's net amounts in the posts of a history, in dollars
-- Row: totals_of_the_book (worked_rows/proofs/Logs.antt)
abbrev pub cash_total : List CashEntry → ℕ → ℤ
cash_total history party = fold ◌+ℤ◌ (pos 0) (map (λ nets. slice_index_or nets.dollars party (pos 0)) (filter_map (λ e. nets_of e.call) history))

-- the amount that a call adds to a party's total
abbrev pub gain_of : CashCall → ℕ → ℤ
gain_of (Post good position nets) party = slice_index_or nets.dollars party (pos 0)
gain_of (Read agent) party = pos 0

-- A caller may post, and may read its own cash. As far as this goes, the clock may read too, and anybody may post anything: that is
-- ruled out by `IsClockTranscript` and by `matched` of `IsLegalGame`.
abbrev pub IsFitCash : ℕ → CashCall → Type 0
IsFitCash caller (Post good position nets) = ⊤
IsFitCash caller (Read agent) = agent ≡ caller

-- A post is acknowledged, and a reading gets the total of the agent that reads.
abbrev pub reply_by : (ℕ → ℤ) → CashCall → CashReply
reply_by totals (Post good position nets) = Done
reply_by totals (Read agent) = Cash (totals agent)

-- When an agent reads its cash, the reply is the sum of its net amounts in the posts before the reading.
-- Row: reading_sums_the_posts_before_it (worked_rows/proofs/Logs.antt)
abbrev pub cash_reply_of : List CashEntry → CashCall → CashReply
cash_reply_of before call = reply_by (cash_total before) call

-- A cash history is legal if each entry's caller may make its call, and the reply is that to the call after the earlier entries.
abbrev pub IsLegalCash : List CashEntry → Type 0
IsLegalCash history = (position : ℕ) (e : CashEntry) → slice_get history position ≡ Some e →
    IsFitCash e.caller e.call × (e.reply ≡ cash_reply_of (take position history) e.call)

-- the most entries that a caller may have
abbrev pub cash_cap : ℕ → ℕ
cash_cap caller = if caller == clock then CLOCK_CASH_ENTRIES else AGENT_CASH_ENTRIES

-- the board of a history: only its length
abbrev pub cash_board : List CashEntry → Board
cash_board history = record { count = length history; bid = 0; ask = 0; closed = false }
