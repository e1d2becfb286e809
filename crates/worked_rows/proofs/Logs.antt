-- What a log has: the posts of the cash book, what two auctions leave to three agents, scores, and the lines of all that.
use Rattle.std.proofs.Common.{◌≡◌, ℕ, zero, suc, ◌<◌, ◌==◌, List, [], ◌∷◌, ℤ, pos, Some, slice_get, refl, map, take, arith, ◌++◌, codes, neg_ℤ, replicate, reverse, false}
use Rattle.std.specs.Fmt.{digits}
use Rattle.std.proofs.lemmas.Bool.Decides.{nat_tests}
use Rattle.tac_base.specs.Clients.{Preferences}
use Rattle.tac_base.specs.declared.calls.Call.{Call}
use Rattle.tac_base.specs.declared.calls.Call.TheVariants.{Bid, Publish, Close}
use Rattle.tac_base.specs.declared.calls.Reply.TheVariants.{Taken}
use Rattle.auction_rules.specs.Setup.{Setup}
use Rattle.auction_rules.specs.declared.rules.Rules.TheVariants.{Hotel as HotelRules, Flight as FlightRules, Tickets as TicketRules}
use Rattle.auction_rules.specs.History.{Entry}
use Rattle.game_text.specs.Games.{GameFile}
use Rattle.game_text.specs.QuietGames.{quiet_game}
use Rattle.auction_core.specs.Auctions.{AuctionHistory}
use Rattle.trade_ledger.specs.declared.cash_calls.CashCall.TheVariants.{Post, Read}
use Rattle.trade_ledger.specs.declared.cash_calls.CashReply.TheVariants.{Done, Cash}
use Rattle.trade_ledger.specs.declared.cash_calls.CashEntry.{CashEntry}
use Rattle.trade_ledger.specs.CashHistory.{cash_reply_of, cash_total}
use Rattle.trade_ledger.specs.Posts.{due_post, IsPosted}
use Rattle.packages.specs.declared.travel_packages.Package.TheVariants.{None, Trip}
use Rattle.bound_cert.specs.Trees.{leaf}
use Rattle.settlement.specs.Score.{short_of, score_of}
use Rattle.settlement.specs.Settlement.{Settlement, settlement_of}
use Rattle.settlement.specs.Sheets.{Scored, agents_account, IsSheet}
use Rattle.line_protocol.specs.declared.admission.Verdict.TheVariants.{Seated, WrongWord, Lost}
use Rattle.line_protocol.specs.declared.admission.Cause.TheVariants.{Quit, ReadFault}
use Rattle.line_protocol.specs.Heads.{Play, Serve}
use Rattle.log_text.specs.LogText.{first_lines, auction_text, cash_text}
use Rattle.log_text.specs.SheetText.{score_line, package_line, cert_line}
use Rattle.worked_rows.proofs.Auctions.{played}

abbrev bid : ℤ → ℕ → Call
bid units price = Bid (record { units = units; price = price } ∷ [])

-- ---- the cash book

-- agent 0 buys two seats of flight 0 at 300
abbrev seats : Entry
seats = record { caller = 0; call = bid (pos 2) 300; reply = Taken 2 0; trades = record { buyer = 0; seller = 8; good = 0; units = 2; price = 300 } ∷ [] }

-- agent 1 asks 60 for a ticket, and nobody buys
abbrev offer : Entry
offer = record { caller = 1; call = bid (neg_ℤ (pos 1)) 60; reply = Taken 0 0; trades = [] }

-- agent 0 buys it
abbrev ticket : Entry
ticket = record { caller = 0; call = bid (pos 1) 70; reply = Taken 1 0; trades = record { buyer = 0; seller = 1; good = 1; units = 1; price = 60 } ∷ [] }

-- agent 0's post of the nets of an entry
abbrev post : ℕ → ℕ → List ℤ → CashEntry
post good position nets = record { caller = 0; call = Post good position (record { dollars = nets }); reply = Done }

abbrev post_of_seats : CashEntry
post_of_seats = post 0 0 (neg_ℤ (pos 600) ∷ pos 0 ∷ pos 0 ∷ pos 0 ∷ pos 0 ∷ pos 0 ∷ pos 0 ∷ pos 0 ∷ pos 600 ∷ [])

-- the posts stand in another order than the goods, and agent 0 reads its cash between them
abbrev book : List CashEntry
book = post 1 1 (neg_ℤ (pos 60) ∷ pos 60 ∷ replicate 7 (pos 0)) ∷ record { caller = 0; call = Read 0; reply = Cash (neg_ℤ (pos 60)) } ∷ post_of_seats ∷ []

trades_are_posted_with_their_nets : (due_post 0 0 seats ≡ post_of_seats ∷ []) × (due_post 1 0 offer ≡ [])
trades_are_posted_with_their_nets = (refl, refl)

reading_sums_the_posts_before_it : map (λ n. cash_reply_of (take n book) (Read 0)) (0 ∷ 1 ∷ 2 ∷ 3 ∷ []) ≡ Cash (pos 0) ∷ Cash (neg_ℤ (pos 60)) ∷ Cash (neg_ℤ (pos 60)) ∷ Cash (neg_ℤ (pos 660)) ∷ []
reading_sums_the_posts_before_it = refl

totals_of_the_book : map (cash_total book) (0 ∷ 1 ∷ 8 ∷ []) ≡ neg_ℤ (pos 660) ∷ pos 60 ∷ pos 600 ∷ []
totals_of_the_book = refl

differ : (m n : ℕ) → m < n → (m == n) ≡ false
differ m n less = grind (arith, nat_tests)

posts_match_in_any_order : IsPosted ((seats ∷ []) ∷ (offer ∷ ticket ∷ []) ∷ []) book
posts_match_in_any_order zero zero = refl
posts_match_in_any_order zero (suc position) = rw (differ 0 (suc position) (omega arith)) refl
posts_match_in_any_order (suc zero) zero = refl
posts_match_in_any_order (suc zero) (suc zero) = refl
posts_match_in_any_order (suc zero) (suc (suc position)) = rw (differ 1 (suc (suc position)) (omega arith)) refl
posts_match_in_any_order (suc (suc good)) position = rw (differ 1 (suc (suc good)) (omega arith), differ 0 (suc (suc good)) (omega arith)) refl

-- ---- scores

-- the auction of these calls
abbrev after : Setup → List (ℕ × Call) → AuctionHistory
after setup calls = record { setup = setup; history = reverse (played setup calls) }

-- agent 0 buys two seats at 300
abbrev flight : AuctionHistory
flight = after (record { good = 0; rules = FlightRules 300 (pos 10); endow = replicate 8 (pos 0) }) ((0, bid (pos 2) 310) ∷ [])

-- agent 1, which has one ticket at first, sells three at 60 or more: agent 0 buys one, and agent 2 two
abbrev tickets : AuctionHistory
tickets = after (record { good = 24; rules = TicketRules; endow = pos 0 ∷ pos 1 ∷ replicate 6 (pos 0) })
    ((1, bid (neg_ℤ (pos 3)) 60) ∷ (0, bid (pos 1) 70) ∷ (2, bid (pos 2) 65) ∷ [])

goods_and_cash_that_are_left : (take 3 (settlement_of (flight ∷ tickets ∷ [])).holdings ≡ (pos 2 ∷ pos 1 ∷ []) ∷ (pos 0 ∷ neg_ℤ (pos 2) ∷ []) ∷ (pos 0 ∷ pos 2 ∷ []) ∷ [])
    × (take 3 (settlement_of (flight ∷ tickets ∷ [])).cash ≡ neg_ℤ (pos 660) ∷ pos 180 ∷ neg_ℤ (pos 120) ∷ [])
goods_and_cash_that_are_left = (refl, refl)

-- clients and holdings of two agents, and their cash
abbrev client : ℕ → Preferences
client day = record { arrive = day; depart = 5; premium = 100; values = 0 ∷ 0 ∷ 100 ∷ [] }

abbrev game : GameFile
game = record quiet_game { clients = (client 1 ∷ []) ∷ (client 2 ∷ []) ∷ [] }

abbrev left_over : Settlement
left_over = record { holdings = (pos 3 ∷ []) ∷ (pos 4 ∷ []) ∷ []; cash = pos 10 ∷ pos 20 ∷ [] }

account_is_the_agents_own : agents_account game left_over 1 ≡ record { clients = client 2 ∷ []; holdings = pos 4 ∷ [] }
account_is_the_agents_own = refl

cash_is_the_agents_own : (sheet : List Scored) (scored : Scored) → IsSheet game left_over sheet → slice_get sheet 1 ≡ Some scored → scored.cash ≡ pos 20
cash_is_the_agents_own sheet scored is_sheet at = (is_sheet.due 1 scored at).cash

-- two seats and a room below 0 count nothing; of the tickets two of one night and one of another are missing, and four too many of a third
-- make up for none
three_tickets_short : short_of (neg_ℤ (pos 2) ∷ replicate 7 (pos 0) ++ (neg_ℤ (pos 1) ∷ replicate 7 (pos 0)) ++ (neg_ℤ (pos 2) ∷ pos 4 ∷ replicate 9 (pos 0)) ++ neg_ℤ (pos 1) ∷ []) ≡ 3
three_tickets_short = refl

-- 1150 - 360 - 2 * 200, and 60 - 200
ticket_short_costs_200 : (score_of 1150 (neg_ℤ (pos 360)) 2 ≡ pos 390) × (score_of 0 (pos 60) 1 ≡ neg_ℤ (pos 140))
ticket_short_costs_200 = (refl, refl)

-- ---- lines

abbrev hotel : AuctionHistory
hotel = after (record { good = 8; rules = HotelRules 1 false; endow = replicate 8 (pos 0) }) ((0, bid (pos 1) 50) ∷ (8, Publish) ∷ (1, bid (pos 1) 50) ∷ (8, Close) ∷ [])

history_of_a_hotel : auction_text 8 hotel.history
    ≡ codes "auction 8 4\n0 bid ((1 50)) = taken 0 0\n8 publish = done\n1 bid ((1 50)) = no belowquote 1 51 0\n8 close = sold 1 50\ntrade 0 8 1 50\n"
unfolding digits
history_of_a_hotel = refl

cash_history : cash_text (record { caller = 8; call = Post 8 3 (record { dollars = neg_ℤ (pos 50) ∷ replicate 7 (pos 0) ++ pos 50 ∷ [] }); reply = Done } ∷ record { caller = 0; call = Read 0; reply = Cash (neg_ℤ (pos 50)) } ∷ [])
    ≡ codes "cash 2\n8 post 8 3 -50 0 0 0 0 0 0 0 50\n0 read = -50\n"
unfolding digits
cash_history = refl

heads_of_a_script_and_of_links : (first_lines Play ≡ codes "taclog 1\nplay\n")
    × (first_lines (Serve (Seated 2 ∷ WrongWord ∷ Seated 0 ∷ Lost ∷ []) ((0, Quit) ∷ (2, ReadFault) ∷ []) 1)
    ≡ codes "taclog 1\nserve\nlink 0 seated 2\nlink 1 wrongword\nlink 2 seated 0\nlink 3 lost\nend 0 quit\nend 2 readfault\nmissed 1\n")
unfolding digits
heads_of_a_script_and_of_links = (refl, refl)

lines_of_the_sheet : (score_line 0 (record { best = 1150; cash = neg_ℤ (pos 360); short = 2; score = pos 390; allocation = []; tree = leaf [] }) ≡ codes "score 0 1150 -360 2 390")
    × (package_line 0 3 None ∷ package_line 0 4 (Trip 1 2 3 (0 ∷ 0 ∷ 2 ∷ [])) ∷ cert_line 0 1 ∷ [] ≡ codes "package 0 3 none" ∷ codes "package 0 4 1 2 3 0 0 2" ∷ codes "cert 0 1" ∷ [])
unfolding digits
lines_of_the_sheet = (refl, refl)
