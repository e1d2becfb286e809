-- Histories of an auction, in our own form: a list with one entry for each call. The rules read a history as a past, newest entry
-- first: in `e ∷ past`, the entry `e` is at the position that equals the length of `past`, since positions are counted from 0.
use Rattle.std.specs.Prelude.{ℕ, ◌==◌, Bool, true, false, not, ◌&&◌, if◌then◌else◌, List, [], ◌∷◌, ◌++◌, length, filter}
use Rattle.std.specs.List.{list_any}
use Rattle.tac_base.specs.declared.calls.Trade.{Trade}
use Rattle.tac_base.specs.declared.calls.Call.{Call}
use Rattle.tac_base.specs.declared.calls.Reply.{Reply}
use Rattle.tac_base.specs.declared.calls.Reply.TheVariants.{Closed, WrongCall, NoBid, Sell, SelfCross, BelowQuote}
use Rattle.tac_base.specs.declared.calls.Call.TheVariants.{Bid, Withdraw, Own as OwnCall, Close}
use Rattle.auction_rules.specs.declared.units.Placed.{Placed}

-- An entry holds the caller, the call, the reply, and the trades that the call made. A refused call also has an entry, but changes
-- nothing else.
pub record Entry : Type 0 where
  pub caller : ℕ
  pub call : Call
  pub reply : Reply
  pub trades : List Trade

-- whether a reply says that the call was admitted: it is not one of the six refusals
abbrev pub is_admission : Reply → Bool
is_admission Closed = false
is_admission WrongCall = false
is_admission NoBid = false
is_admission Sell = false
is_admission SelfCross = false
is_admission (BelowQuote need at offered) = false
is_admission reply = true

-- whether an agent bids
abbrev pub is_bid : Call → Bool
is_bid (Bid points) = true
is_bid call = false

-- whether an agent reads its own state
abbrev pub is_own : Call → Bool
is_own OwnCall = true
is_own call = false

-- whether the clock closes the auction
abbrev pub is_close : Call → Bool
is_close Close = true
is_close call = false

-- An auction is closed once a `Close` has been admitted.
abbrev pub is_closed : List Entry → Bool
is_closed past = list_any (λ e. is_admission e.reply && is_close e.call) past

-- The bids after an admitted call at a position, in the order of their positions; `bids` are those before it. An agent has at most one
-- bid in an auction: a new one replaces the caller's whole earlier one, and comes last. A withdrawal removes the caller's bid.
-- Row: withdrawn_bid_is_gone (worked_rows/proofs/Auctions.antt)
abbrev pub bids_found : List Placed → ℕ → ℕ → Call → List Placed
bids_found bids position caller (Bid points) = filter (λ bid. not (bid.agent == caller)) bids ++ record { agent = caller; position = position; points = points } ∷ []
bids_found bids position caller Withdraw = filter (λ bid. not (bid.agent == caller)) bids
bids_found bids position caller call = bids

-- The agents' bids after a past, in the order of their positions. A refused call changes nothing.
abbrev pub current_bids : List Entry → List Placed
current_bids [] = []
current_bids (e ∷ past) = if is_admission e.reply then bids_found (current_bids past) (length past) e.caller e.call else current_bids past
