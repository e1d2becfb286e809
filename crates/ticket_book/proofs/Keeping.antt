-- The calls of a ticket auction follow the rules.
use Rattle.std.proofs.Common.{◌≡◌, ℕ, ◌<◌, ◌≤◌, Bool, true, false, List, [], ◌∷◌, length, map, set, get_or, refl, sym, ap, ◌∙◌, subst, Option, Some, None, not, ◌||◌, ◌==◌, if◌then◌else◌, ◌&&◌, sum_by}
use Rattle.std.specs.List.{list_any}
use Rattle.ticket_book.specs.{Point, Trade, Bid, Withdraw, Close, Placed, clock, units_of, bought, sold, Setup, Tickets as TicketRules, Entry, is_closed, last_bid, last_bids, is_own, pair_trade, ticket_trades, stand, standing_points_of, left_of, refusal, crosses_itself, has_standing, is_wrong_caller, is_wrong_place, entry_of, admitted_trades, IsLawful, highest_buy, lowest_sell, board, Follows, SortedSides, both, HaveSame, others, after_bid, TicketBook, TicketsStandFor}
use Rattle.tac_base.specs.declared.calls.Board.{Board}
use Rattle.tac_base.specs.declared.calls.Call.{Call}
use Rattle.tac_base.specs.declared.calls.Reply.{Reply}
use Rattle.tac_base.specs.declared.calls.Reply.TheVariants.{Taken, Done, Closed, WrongCall, NoBid, SelfCross}
use Rattle.auction_rules.specs.declared.rules.Rules.{Rules}
use Rattle.auction_rules.proofs.Steps.{refused_entry, entry_refused, entry_admitted, follows}
use Rattle.auction_rules.proofs.Agents.{not_clock, agents_get, agents_set}
use Rattle.auction_rules.proofs.Uncrossed.{stand_apart, quotes_apart}
use Rattle.auction_rules.proofs.Idle.{IsIdle, idle_bids, idle_stand, idle_closed, wrong_follows}
use Rattle.ticket_book.proofs.Weights.{same_filter, same_through, any_alike, left_of_alike, highest_alike, lowest_alike}
use Rattle.ticket_book.proofs.Untied.{stand_untied, pairs_alike, after_alike}
use Rattle.ticket_book.proofs.AfterBid.{after_bid_stands, after_withdrawal_stands}

-- a book by its parts
abbrev pub book_of : ℕ → List (Option Placed) → SortedSides → Bool → TicketBook
book_of good bids sides closed = record { good = good; bids = bids; sides = sides; closed = closed }

abbrev pub board_of : ℕ → ℕ → ℕ → Bool → Board
board_of count bid ask closed = record { count = count; bid = bid; ask = ask; closed = closed }

abbrev pub bid_entry : ℕ → List Point → ℕ → ℕ → List Trade → Entry
bid_entry agent points buys sells trades = record { caller = agent; call = Bid points; reply = Taken buys sells; trades = trades }

abbrev pub withdraw_entry : ℕ → Entry
withdraw_entry agent = record { caller = agent; call = Withdraw; reply = Done; trades = [] }

abbrev pub close_entry : Entry
close_entry = record { caller = clock; call = Close; reply = Done; trades = [] }

-- a book that stands for a past
module _ (setup : Setup) (past : List Entry) (book : TicketBook) (stood : TicketsStandFor book setup past) where
  still_open : book.closed ≡ false → is_closed past ≡ false
  still_open h = sym stood.closed ∙ h

  -- an entry that is refused or of `Own` changes nothing that a ticket auction keeps
  pub idle_keeps : (e : Entry) → IsIdle e → TicketsStandFor book setup (e ∷ past)
  idle_keeps e idle = record {
    rules = stood.rules;
    good = stood.good;
    bids = stood.bids ∙ sym (idle_bids past e idle);
    units = λ weight. rw (idle_stand past e idle TicketRules) (stood.units weight);
    closed = stood.closed ∙ sym (idle_closed past e idle);
  }

  -- a call that ticket auctions do not have, or that its caller may not make
  pub follows_wrong : (caller : ℕ) (call : Call) (reply : Reply) → (is_wrong_caller caller call || is_wrong_place TicketRules call) ≡ true →
      reply ≡ (if not (is_own call) && book.closed then Closed else WrongCall) → Follows setup past caller call reply [] (TicketsStandFor book setup)
  follows_wrong caller call reply wrong replied =
      wrong_follows setup past caller call TicketRules book.closed reply (TicketsStandFor book setup) (rw stood.rules tt) wrong stood.closed replied idle_keeps

  -- ---- a bid

  refusal_of_bid : (agent : ℕ) (points : List Point) → agent ≤ 7 → book.closed ≡ false → refusal setup.rules past agent (Bid points) ≡ (if crosses_itself points then Some SelfCross else None)
  refusal_of_bid agent points le open_now = let h = still_open open_now in let agents_call = not_clock agent le in rw (stood.rules, h, agents_call) refl

  pub follows_crossing : (agent : ℕ) (points : List Point) (trades : List Trade) → agent ≤ 7 → book.closed ≡ false → crosses_itself points ≡ true → trades ≡ [] →
      Follows setup past agent (Bid points) SelfCross trades (TicketsStandFor book setup)
  follows_crossing agent points trades le open_now crossed emptied =
      subst (λ (ts : List Trade). Follows setup past agent (Bid points) SelfCross ts (TicketsStandFor book setup)) (sym emptied)
      (follows setup past agent (Bid points) (refused_entry agent (Bid points) SelfCross) SelfCross [] (TicketsStandFor book setup)
      (entry_refused setup past agent (Bid points) SelfCross (refusal_of_bid agent points le open_now ∙ rw crossed refl)) refl refl
      (idle_keeps (refused_entry agent (Bid points) SelfCross) refl))

  pub follows_taken : (agent : ℕ) (points : List Point) (bids : List (Option Placed)) (sides : SortedSides) (trades : List Trade) (buys sells : ℕ) →
      agent ≤ 7 → book.closed ≡ false → crosses_itself points ≡ false →
      let bid : Placed = record { agent = agent; position = length past; points = points } in
      trades ≡ ticket_trades book.good (both book.sides) (units_of bid) → HaveSame (both sides) (after_bid (both book.sides) agent (units_of bid)) →
      bids ≡ set book.bids agent (Some bid) → buys ≡ bought trades agent → sells ≡ sold trades agent →
      Follows setup past agent (Bid points) (Taken buys sells) trades (TicketsStandFor (record book { bids = bids; sides = sides }) setup)
  follows_taken agent points bids sides trades buys sells le open_now apart traded are placed buys_are sells_are =
      follows setup past agent (Bid points) e (Taken buys sells) trades (TicketsStandFor (record book { bids = bids; sides = sides }) setup)
      entry refl refl
      (record { rules = stood.rules; good = stood.good; bids = bids_now; units = units_now; closed = stood.closed })
    where
      bid : Placed
      bid = record { agent = agent; position = length past; points = points }

      e : Entry
      e = bid_entry agent points buys sells trades

      by_rules : trades ≡ admitted_trades setup past agent (Bid points)
      by_rules =
          traded ∙ ap (map (pair_trade book.good)) (pairs_alike (units_of bid) (both book.sides) (stand TicketRules past) stood.units (stand_untied past (both book.sides) stood.units))
          ∙ rw (stood.good, stood.rules) refl

      entry : entry_of setup past agent (Bid points) ≡ e
      entry =
          entry_admitted setup past agent (Bid points) (refusal_of_bid agent points le open_now ∙ rw apart refl)
          ∙ rw (← by_rules) (rw (buys_are, sells_are) refl)

      bids_now : bids ≡ last_bids (e ∷ past)
      bids_now = placed ∙ ap (λ (bs : List (Option Placed)). set bs agent (Some bid)) stood.bids ∙ sym (agents_set agent (Some bid) (λ (a : ℕ). last_bid a past) le)

      units_now : HaveSame (both sides) (stand TicketRules (e ∷ past))
      units_now =
          same_through (both sides) (after_bid (both book.sides) agent (units_of bid)) (stand TicketRules (e ∷ past)) are
          (same_through (after_bid (both book.sides) agent (units_of bid)) (after_bid (stand TicketRules past) agent (units_of bid)) (stand TicketRules (e ∷ past))
          (after_alike agent (units_of bid) (both book.sides) (stand TicketRules past) stood.units (stand_untied past (both book.sides) stood.units))
          (after_bid_stands past e agent points le (still_open open_now) (still_open open_now) refl refl refl))

  -- ---- a withdrawal

  refusal_of_withdrawal : (agent : ℕ) (has : Bool) → agent ≤ 7 → book.closed ≡ false → has ≡ list_any (λ u. u.agent == agent) (both book.sides) →
      refusal setup.rules past agent Withdraw ≡ (if has then None else Some NoBid)
  refusal_of_withdrawal agent has le open_now is =
      ap (λ (rules : Rules). refusal rules past agent Withdraw) stood.rules
      ∙ by_tests (is_closed past) (agent == clock) (has_standing TicketRules past agent) (still_open open_now) (not_clock agent le)
      ∙ ap (λ (b : Bool). if b then None else Some NoBid) (sym (is ∙ any_alike (λ u. u.agent == agent) (both book.sides) (stand TicketRules past) stood.units))
    where
      by_tests : (closed clocks stands : Bool) → closed ≡ false → clocks ≡ false →
          (if closed then Some Closed else if clocks || false then Some WrongCall else if stands then None else Some NoBid) ≡ (if stands then None else Some NoBid)
      by_tests closed clocks stands h k = rw (h, k) refl

  pub follows_without_bid : (agent : ℕ) (has : Bool) → agent ≤ 7 → book.closed ≡ false → has ≡ list_any (λ u. u.agent == agent) (both book.sides) → has ≡ false →
      Follows setup past agent Withdraw NoBid [] (TicketsStandFor book setup)
  follows_without_bid agent has le open_now is nothing =
      follows setup past agent Withdraw (refused_entry agent Withdraw NoBid) NoBid [] (TicketsStandFor book setup)
      (entry_refused setup past agent Withdraw NoBid (refusal_of_withdrawal agent has le open_now is ∙ rw nothing refl)) refl refl
      (idle_keeps (refused_entry agent Withdraw NoBid) refl)

  pub follows_withdrawn : (agent : ℕ) (has : Bool) (bids : List (Option Placed)) (sides : SortedSides) → agent ≤ 7 → book.closed ≡ false → has ≡ list_any (λ u. u.agent == agent) (both book.sides) →
      has ≡ true → bids ≡ set book.bids agent None → both sides ≡ others agent (both book.sides) →
      Follows setup past agent Withdraw Done [] (TicketsStandFor (record book { bids = bids; sides = sides }) setup)
  follows_withdrawn agent has bids sides le open_now is something cleared left_are =
      follows setup past agent Withdraw (withdraw_entry agent) Done [] (TicketsStandFor (record book { bids = bids; sides = sides }) setup)
      (entry_admitted setup past agent Withdraw (refusal_of_withdrawal agent has le open_now is ∙ rw something refl) ∙ rw stood.rules refl) refl refl
      (record { rules = stood.rules; good = stood.good; bids = bids_now; units = units_now; closed = stood.closed })
    where
      bids_now : bids ≡ last_bids (withdraw_entry agent ∷ past)
      bids_now = cleared ∙ ap (λ (bs : List (Option Placed)). set bs agent None) stood.bids ∙ sym (agents_set agent None (λ (a : ℕ). last_bid a past) le)

      units_now : HaveSame (both sides) (stand TicketRules (withdraw_entry agent ∷ past))
      units_now = λ weight.
          ap (sum_by weight) left_are
          ∙ same_filter (λ u. not (u.agent == agent)) (both book.sides) (stand TicketRules past) stood.units weight
          ∙ after_withdrawal_stands past (withdraw_entry agent) agent le (still_open open_now) (still_open open_now) refl refl refl weight

  -- ---- a closing

  -- ---- what an agent has

  pub owns : (agent : ℕ) (d bid : Option Placed) → agent ≤ 7 → bid ≡ get_or book.bids agent d → left_of (both book.sides) bid ≡ standing_points_of setup.rules past agent
  owns agent d bid le at =
      left_of_alike bid (both book.sides) (stand TicketRules past) stood.units
      ∙ ap (left_of (stand TicketRules past)) (at ∙ ap (λ (bs : List (Option Placed)). get_or bs agent d) stood.bids ∙ agents_get agent (λ (a : ℕ). last_bid a past) d le)
      ∙ ap (λ (rules : Rules). standing_points_of rules past agent) (sym stood.rules)

  -- ---- what is shown

  pub shows : (count bid ask : ℕ) → count ≡ length past → bid ≡ highest_buy (both book.sides) → ask ≡ lowest_sell (both book.sides) →
      board_of count bid ask book.closed ≡ board setup.rules past
  shows count bid ask here highest lowest =
      rw (
        here,
        highest ∙ highest_alike (both book.sides) (stand TicketRules past) stood.units,
        lowest ∙ lowest_alike (both book.sides) (stand TicketRules past) stood.units,
        stood.closed,
        stood.rules,
      ) refl

  pub uncrossed : (bid ask : ℕ) → bid ≡ highest_buy (both book.sides) → ask ≡ lowest_sell (both book.sides) → IsLawful setup past → 0 < bid → 0 < ask → bid < ask
  uncrossed bid ask highest lowest lawful =
      rw (highest ∙ highest_alike (both book.sides) (stand TicketRules past) stood.units, lowest ∙ lowest_alike (both book.sides) (stand TicketRules past) stood.units)
      (quotes_apart (stand TicketRules past) (stand_apart setup past stood.rules lawful))
