-- The posts of a cash history against those that the auctions require, by sums over both, in the form that the floor keeps and the audit
-- checks. Read `IsPosted` in `Posts` instead: `posted_from_matched` and `matched_from_posted` (proofs/SamePosts) prove the two
-- equivalent.
use Rattle.std.specs.Prelude.{◌≡◌, ℕ, Bool, true, false, List, map, filter, sum_by, flat_map}
use Rattle.std.specs.List.{enumerate_from}
use Rattle.trade_ledger.specs.Prelude.{Trade, Entry}
use Rattle.trade_ledger.specs.declared.cash_calls.CashCall.{CashCall}
use Rattle.trade_ledger.specs.declared.cash_calls.CashCall.TheVariants.{Post, Read}
use Rattle.trade_ledger.specs.declared.cash_calls.CashEntry.{CashEntry}
use Rattle.trade_ledger.specs.Posts.{due_post}

-- whether a call is a post
abbrev pub is_post : CashCall → Bool
is_post (Post good position nets) = true
is_post (Read agent) = false

-- the posts of a cash history, in order
abbrev pub posts_of : List CashEntry → List CashEntry
posts_of history = filter (λ e. is_post e.call) history

-- the posts that entries of a good require; each entry comes with its position
abbrev pub due_to : ℕ → List (ℕ × Entry) → List CashEntry
due_to good entries = flat_map (λ p. due_post good p.0 p.1) entries

-- the posts that the entries of all goods require, in the order of the goods
abbrev pub due_posts : List (List (ℕ × Entry)) → List CashEntry
due_posts rows = flat_map (λ row. due_to row.0 row.1) (enumerate_from 0 rows)

-- two lists have the same entries, each equally often: for every weight of entries, the sums over both are equal
abbrev pub HoldSame : List CashEntry → List CashEntry → Type 0
HoldSame xs ys = (weight : CashEntry → ℕ) → sum_by weight xs ≡ sum_by weight ys

-- the cash history has exactly one post for each entry with a trade in the goods' histories, and no other post. The entry's caller
-- makes the post, with the good, the position and the nets of the entry's trades; the posts may be in any order
abbrev pub Matched : List (List Entry) → List CashEntry → Type 0
Matched histories cash = HoldSame (posts_of cash) (due_posts (map (enumerate_from 0) histories))

-- the trades of all goods' histories
abbrev pub trades_of_all : List (List Entry) → List Trade
trades_of_all histories = flat_map (λ history. flat_map (λ e. e.trades) history) histories
