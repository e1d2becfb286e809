-- A session of six lines at a hotel in which agent 1 also bids: its turns, what of them stands in the histories, and what a turn may be
-- after those before it. And two turns of the clock.
use Rattle.std.proofs.Common.{◌≡◌, ℕ, ◌<◌, ◌≤◌, true, false, List, [], ◌∷◌, pos, map, refl, arith, codes, replicate, reverse, take}
use Rattle.std.specs.Fmt.{digits}
use Rattle.std.proofs.lemmas.List.Elements.{recursion_from_All}
use Rattle.tac_base.specs.Numerals.{numeral, signed_numeral}
use Rattle.tac_base.specs.declared.bids.Point.{Point}
use Rattle.tac_base.specs.declared.calls.Board.{Board}
use Rattle.tac_base.specs.declared.calls.Call.TheVariants as calls
use Rattle.tac_base.specs.declared.calls.Reply.TheVariants as replies
use Rattle.auction_rules.specs.declared.rules.Rules.TheVariants.{Hotel as HotelRules}
use Rattle.auction_rules.specs.Setup.{Setup}
use Rattle.auction_rules.specs.History.{Entry}
use Rattle.auction_rules.specs.Effects.{nets}
use Rattle.auction_core.specs.Auctions.{AuctionHistory}
use Rattle.floor.specs.ClosedBoards.{board_of}
use Rattle.turn_lock.specs.Part.{part}
use Rattle.trade_ledger.specs.declared.cash_calls.CashCall.TheVariants as cash_calls
use Rattle.trade_ledger.specs.declared.cash_calls.CashReply.TheVariants as cash_replies
use Rattle.bid_strings.specs.BidForm.{points_of, point_of}
use Rattle.line_protocol.specs.declared.asking.Request.TheVariants as requests
use Rattle.line_protocol.specs.declared.asking.RequestFault.TheVariants as faults
use Rattle.line_protocol.specs.Requests.{request_of}
use Rattle.line_protocol.specs.Replies.{said_text}
use Rattle.clock_events.specs.ClockTurns.{ClockTurn, clock_entries, clock_posts}
use Rattle.agent_gate.specs.Items.{Asks}
use Rattle.agent_gate.specs.Turns.{Turn, Called, CallDenied, CashRead, CashDenied, Quoted, Refused, Skipped, Quit, item_of, made_at, cash_made, boards_shown, shown_length, has_left, IsLawfulTurn, AreLawful}
use Rattle.agent_gate.specs.SessionEnds.{reply_line}
use Rattle.agent_gate.proofs.LawfulTurns.{none_lawful, lawful_more}
use Rattle.worked_rows.proofs.Auctions.{played}

abbrev bid : Point
bid = record { units = pos 1; price = 50 }

-- sixteen rooms, quotes by the minute
abbrev hotel : Setup
hotel = record { good = 8; rules = HotelRules 16 false; endow = replicate 8 (pos 0) }

-- the calls of the hotel: agent 1 bids, agent 0 bids, the clock publishes, and agent 0 looks
abbrev auction : AuctionHistory
auction = record {
  setup = hotel;
  history = reverse (played hotel ((1, calls.Bid (record { units = pos 16; price = 40 } ∷ [])) ∷ (0, calls.Bid (bid ∷ [])) ∷ (8, calls.Publish) ∷ (0, calls.Own) ∷ []));
}

-- the entry of agent 0's bid, and that of its look at these points that are left
abbrev bid_entry : Entry
bid_entry = record { caller = 0; call = calls.Bid (bid ∷ []); reply = replies.Taken 0 0; trades = [] }

abbrev own_entry : List Point → Entry
own_entry left = record { caller = 0; call = calls.Own; reply = replies.Own (pos 0) left; trades = [] }

-- what agent 0 is shown of the hotel after so many calls
abbrev board : ℕ → ℕ → Board
board count ask = record { count = count; bid = 0; ask = ask; closed = false }

abbrev turns : List Turn
turns = Called (requests.Bid 8 (bid ∷ [])) 8 1 bid_entry 0 ∷ Quoted 8 (board 3 40) ∷ Called (requests.Own 8) 8 3 (own_entry (bid ∷ [])) 0 ∷ CashRead 0 (pos 0) ∷ Refused faults.Syntax ∷ Quit ∷ []

each_line_is_asked_and_answered_once :
    (map item_of turns ≡ map (λ line. Asks (request_of line)) (codes "bid 8 ((1 50))" ∷ codes "quote 8" ∷ codes "own 8" ∷ codes "cash" ∷ codes "sell 8" ∷ codes "quit" ∷ []))
    × (map (reply_line said_text) turns ≡ codes "@1 taken 0 0\n" ∷ codes "@3 quote 0 40 open\n" ∷ codes "@3 own 0 ((1 50))\n" ∷ codes "@0 cash 0\n" ∷ codes "no syntax\n" ∷ codes "bye\n" ∷ [])
unfolding request_of points_of point_of numeral signed_numeral digits
each_line_is_asked_and_answered_once = (refl, refl)

-- no call had a trade, so there is no post
turns_make_the_agents_part : (part (λ e. e.caller) auction.history 0 ≡ made_at 8 turns)
    × (made_at 9 turns ≡ [])
    × (cash_made 0 turns ≡ (0, record { caller = 0; call = cash_calls.Read 0; reply = cash_replies.Cash (pos 0) }) ∷ [])
turns_make_the_agents_part = (refl, refl, refl)

-- the clock updates flight 0, where agent 0 buys a seat at 300, and then publishes at hotel 8
abbrev update_entry : Entry
update_entry = record { caller = 8; call = calls.Update 1 10; reply = replies.Done; trades = record { buyer = 0; seller = 8; good = 0; units = 1; price = 300 } ∷ [] }

abbrev publish_entry : Entry
publish_entry = record { caller = 8; call = calls.Publish; reply = replies.Done; trades = [] }

abbrev clock_turns : List ClockTurn
clock_turns = record { good = 0; position = 5; entry = update_entry; posted = 3 } ∷ record { good = 8; position = 2; entry = publish_entry; posted = 0 } ∷ []

-- the update alone has a post
clock_posts_what_was_traded : (map (λ turn. turn.entry.call) clock_turns ≡ calls.Update 1 10 ∷ calls.Publish ∷ [])
    × (map (λ good. clock_entries good clock_turns) (0 ∷ 1 ∷ 8 ∷ []) ≡ ((5, update_entry) ∷ []) ∷ [] ∷ ((2, publish_entry) ∷ []) ∷ [])
    × (clock_posts clock_turns ≡ (3, record { caller = 8; call = cash_calls.Post 0 5 (record { dollars = nets update_entry.trades }); reply = cash_replies.Done }) ∷ [])
clock_posts_what_was_traded = (refl, refl, refl)

-- the board that was shown is that of the first three entries
shown_board_is_of_a_prefix : map (λ note. (note.0, board_of auction (take note.0 auction.history))) (boards_shown 8 turns) ≡ boards_shown 8 turns
shown_board_is_of_a_prefix = refl

-- at least so long is the hotel's history, by each answer: a later position is 2 or more, then 3 or more, then 4 or more
answers_tell_lengths_and_quit_is_last : (map (shown_length 8) turns ≡ 2 ∷ 3 ∷ 4 ∷ 0 ∷ 0 ∷ 0 ∷ [])
    × (map (λ n. has_left (take n turns)) (0 ∷ 5 ∷ 6 ∷ []) ≡ false ∷ false ∷ true ∷ [])
answers_tell_lengths_and_quit_is_last = (refl, refl)

-- ---- lawful turns: at the limits of calls and readings, behind what was answered, and after `quit`

-- agent 0 looks at a hotel in which it has nothing
abbrev look_at : ℕ → Turn
look_at position = Called (requests.Own 8) 8 position (own_entry []) 0

nothing_comes_after_quit : AreLawful (Skipped ∷ Quit ∷ []) × (AreLawful (Quit ∷ Skipped ∷ []) → ⊥)
nothing_comes_after_quit = (
  lawful_more (Skipped ∷ []) Quit (lawful_more [] Skipped none_lawful tt refl) tt refl,
  λ lawful. let e : true ≡ false = (lawful 1 Skipped refl).1 in cc,
)

-- calls at good 8
call_is_denied_after_1024 : IsLawfulTurn (replicate 1024 (look_at 3)) (CallDenied (requests.Own 8) 8)
    × (IsLawfulTurn (replicate 1023 (look_at 3)) (CallDenied (requests.Own 8) 8) → ⊥)
    × (IsLawfulTurn (replicate 1024 (look_at 3)) (look_at 4) → ⊥)
call_is_denied_after_1024 = (
  ((calls.Own, refl), omega arith, refl),
  (λ denied. let e : ◌≡◌ {A = ℕ} 1023 1024 = denied.2 in omega (arith, e)),
  λ made. let below : 1024 < 1024 = made.2 in omega (arith, below),
)

reading_is_denied_after_1024 : IsLawfulTurn (replicate 1024 (CashRead 5 (pos 0))) CashDenied
    × (IsLawfulTurn (replicate 1023 (CashRead 5 (pos 0))) CashDenied → ⊥)
    × (IsLawfulTurn (replicate 1024 (CashRead 5 (pos 0))) (CashRead 6 (pos 0)) → ⊥)
reading_is_denied_after_1024 = (
  refl,
  (λ denied. let e : ◌≡◌ {A = ℕ} 1023 1024 = denied in omega (arith, e)),
  λ made. let below : 1024 < 1024 = made in omega (arith, below),
)

board_is_not_shorter : IsLawfulTurn (look_at 3 ∷ []) (Quoted 8 (board 3 0)) → ⊥
board_is_not_shorter shown = let le : 4 ≤ 3 = (recursion_from_All (λ (turn : Turn). shown_length 8 turn ≤ 3) (look_at 3 ∷ []) shown.1).0 in omega (arith, le)

-- a board of five entries was shown
call_is_not_before_a_board : IsLawfulTurn (Quoted 8 (board 5 0) ∷ []) (look_at 4) → ⊥
call_is_not_before_a_board made = let le : 5 ≤ 4 = (recursion_from_All (λ (turn : Turn). shown_length 8 turn ≤ 4) (Quoted 8 (board 5 0) ∷ []) made.3).0 in omega (arith, le)
