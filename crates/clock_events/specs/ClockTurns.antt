-- The clock's turns: each is a call that it made, with the entries of that call in an auction and in the cash history.
use Rattle.std.specs.Prelude.{ℕ, ◌==◌, if◌then◌else◌, List, Some, None, map, filter_map, flat_map}
use Rattle.auction_rules.specs.History.{Entry}
use Rattle.trade_ledger.specs.declared.cash_calls.CashEntry.{CashEntry}
use Rattle.trade_ledger.specs.Posts.{due_post}

-- a call of the clock
pub record ClockTurn : Type 0 where
  -- the good at which it was made
  pub good : ℕ
  -- the position of its entry in the good's history
  pub position : ℕ
  pub entry : Entry
  -- the position in the cash history of the post that is due to the entry; of no meaning if none is due
  pub posted : ℕ

-- the entries that turns made at a good, in order, each with its position
-- Row: clock_posts_what_was_traded (worked_rows/proofs/Sessions.antt)
abbrev pub clock_entries : ℕ → List ClockTurn → List (ℕ × Entry)
clock_entries good turns = filter_map (λ turn. if turn.good == good then Some (turn.position, turn.entry) else None) turns

-- the posts that turns made in the cash history, in order, each with its position: one for each turn whose entry has a trade
-- Row: clock_posts_what_was_traded (worked_rows/proofs/Sessions.antt)
abbrev pub clock_posts : List ClockTurn → List (ℕ × CashEntry)
clock_posts turns = flat_map (λ turn. map (λ post. (turn.posted, post)) (due_post turn.good turn.position turn.entry)) turns
