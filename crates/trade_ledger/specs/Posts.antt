-- The posts of a cash history, place by place: those that are due to the entries of the auctions, by our own rule, and no other.
use Rattle.std.specs.Prelude.{◌≡◌, ℕ, ◌==◌, Bool, false, ◌&&◌, List, [], ◌∷◌, filter, slice_get, slice_index_or, Some, None}
use Rattle.tac_base.specs.declared.calls.Trade.{Trade}
use Rattle.auction_rules.specs.History.{Entry}
use Rattle.auction_rules.specs.Effects.{nets}
use Rattle.trade_ledger.specs.declared.cash_calls.CashCall.{CashCall}
use Rattle.trade_ledger.specs.declared.cash_calls.CashCall.TheVariants.{Post, Read}
use Rattle.trade_ledger.specs.declared.cash_calls.CashReply.TheVariants.{Done}
use Rattle.trade_ledger.specs.declared.cash_calls.CashEntry.{CashEntry}

-- An entry without trades has no post.
abbrev pub post_for : List Trade → CashEntry → List CashEntry
post_for [] post = []
post_for (trade ∷ trades) post = post ∷ []

-- A post is made by its entry's caller. It names the good and the position of the entry, and holds a net amount for each of the nine
-- parties: the party's income from the entry's trades less its payments.
-- Row: trades_are_posted_with_their_nets (worked_rows/proofs/Logs.antt)
abbrev pub due_post : ℕ → ℕ → Entry → List CashEntry
due_post good position e =
    post_for e.trades (record { caller = e.caller; call = Post good position (record { dollars = nets e.trades }); reply = Done })

-- whether a call is a post that names a place: a good, and a position in its history
abbrev pub is_post_at : ℕ → ℕ → CashCall → Bool
is_post_at good position (Post g p nets) = (g == good) && (p == position)
is_post_at good position (Read agent) = false

-- For each good and each position, the posts that name this place are the one that is due to the entry there, or none. So each entry
-- with trades has exactly one post, and there is no other post. The posts may be in any order.
abbrev pub IsPosted : List (List Entry) → List CashEntry → Type 0
IsPosted histories cash = (good position : ℕ) →
    filter (λ e. is_post_at good position e.call) cash
    ≡ elim (slice_get (slice_index_or histories good []) position) [ None ↦ [] | Some e ↦ due_post good position e ]
