-- The text of the log of a game. Each of its lines ends with the byte 10.
use Rattle.std.specs.Prelude.{ℕ, ℤ, List, [], ◌∷◌, ◌++◌, length, map, decimal, codes, flat_map}
use Rattle.std.specs.Fmt.{signed_decimal}
use Rattle.std.specs.List.{join_with_byte, enumerate_from}
use Rattle.tac_base.specs.declared.calls.Call.{Call}
use Rattle.tac_base.specs.declared.calls.Reply.{Reply}
use Rattle.tac_base.specs.declared.calls.Trade.{Trade}
use Rattle.bid_strings.specs.Spelling.{spelling}
use Rattle.line_protocol.specs.Replies.{reply_text}
use Rattle.line_protocol.specs.declared.admission.Verdict.{Verdict}
use Rattle.line_protocol.specs.declared.admission.Verdict.TheVariants.{Seated, Syntax, WrongWord, Taken, Lost}
use Rattle.line_protocol.specs.declared.admission.Cause.{Cause}
use Rattle.line_protocol.specs.declared.admission.Cause.TheVariants.{Quit, End, ReadFault, WriteFault, Budget}
use Rattle.line_protocol.specs.Heads.{Head, Play, Serve}
use Rattle.auction_rules.specs.History.{Entry}
use Rattle.trade_ledger.specs.declared.cash_calls.CashCall.{CashCall}
use Rattle.trade_ledger.specs.declared.cash_calls.CashCall.TheVariants.{Post, Read}
use Rattle.trade_ledger.specs.declared.cash_calls.CashReply.{CashReply}
use Rattle.trade_ledger.specs.declared.cash_calls.CashReply.TheVariants.{Done, Cash}
use Rattle.trade_ledger.specs.declared.cash_calls.CashEntry.{CashEntry}
use Rattle.auction_core.specs.ClosedGame.{ClosedGame}
use Rattle.tac_base.specs.declared.calls.Call.TheVariants.{Bid, Withdraw, Own, Update, Publish, Close}

-- a space and a number
abbrev pub then_number : ℕ → List ℕ
then_number n = 32 ∷ decimal n

-- a space and a number that may have a sign
abbrev pub then_signed : ℤ → List ℕ
then_signed z = 32 ∷ signed_decimal z

-- ---- histories of auctions

-- the words of a call
abbrev pub call_words : Call → List (List ℕ)
call_words (Bid points) = codes "bid" ∷ spelling points ∷ []
call_words Withdraw = codes "withdraw" ∷ []
call_words Own = codes "own" ∷ []
call_words (Update tick draw) = codes "update" ∷ decimal tick ∷ decimal draw ∷ []
call_words Publish = codes "publish" ∷ []
call_words Close = codes "close" ∷ []

-- the text of a call
abbrev pub call_text : Call → List ℕ
call_text call = join_with_byte 32 (call_words call)

-- the line of an entry: caller, call and reply
abbrev pub entry_line : ℕ → Call → Reply → List ℕ
entry_line caller call reply = decimal caller ++ codes " " ++ call_text call ++ codes " = " ++ reply_text reply ++ codes "\n"

-- the line of a trade: buyer, seller, units and the price of one
abbrev pub trade_line : Trade → List ℕ
trade_line t = codes "trade" ++ then_number t.buyer ++ then_number t.seller ++ then_number t.units ++ then_number t.price ++ codes "\n"

-- an entry and its trades in order
abbrev pub entry_text : Entry → List ℕ
entry_text e = entry_line e.caller e.call e.reply ++ flat_map trade_line e.trades

-- the good, and the number of entries of its history
abbrev pub auction_line : ℕ → ℕ → List ℕ
auction_line good count = codes "auction" ++ then_number good ++ then_number count ++ codes "\n"

-- the auction of a good: its entries in order
abbrev pub auction_text : ℕ → List Entry → List ℕ
auction_text good history = auction_line good (length history) ++ flat_map entry_text history

-- ---- the cash history

-- a post shows the good and position of its auction's entry, and what each party gained; a reading shows the dollars
abbrev pub cash_call_text : CashCall → List ℕ
cash_call_text (Post good position nets) = codes " post" ++ then_number good ++ then_number position ++ flat_map then_signed nets.dollars
cash_call_text (Read agent) = codes " read ="

-- the reply to a reading; a post shows none
abbrev pub cash_reply_text : CashReply → List ℕ
cash_reply_text Done = []
cash_reply_text (Cash dollars) = then_signed dollars

-- the line of an entry of the cash history: caller, call and reply
abbrev pub cash_entry_line : CashEntry → List ℕ
cash_entry_line e = decimal e.caller ++ cash_call_text e.call ++ cash_reply_text e.reply ++ codes "\n"

-- the number of entries of the cash history
abbrev pub cash_line : ℕ → List ℕ
cash_line count = codes "cash" ++ then_number count ++ codes "\n"

-- the cash history: its entries in order
-- Row: cash_history (worked_rows/proofs/Logs.antt)
abbrev pub cash_text : List CashEntry → List ℕ
cash_text history = cash_line (length history) ++ flat_map cash_entry_line history

-- ---- how the game was played

-- the words of a verdict
abbrev pub verdict_text : Verdict → List ℕ
verdict_text (Seated agent) = codes "seated" ++ then_number agent
verdict_text Syntax = codes "syntax"
verdict_text WrongWord = codes "wrongword"
verdict_text Taken = codes "taken"
verdict_text Lost = codes "lost"

-- the word of a cause
abbrev pub cause_text : Cause → List ℕ
cause_text Quit = codes "quit"
cause_text End = codes "end"
cause_text ReadFault = codes "readfault"
cause_text WriteFault = codes "writefault"
cause_text Budget = codes "budget"

-- the verdict on a link, after the link's place in the order of arrival
abbrev pub link_line : ℕ × Verdict → List ℕ
link_line link = codes "link" ++ then_number link.0 ++ codes " " ++ verdict_text link.1 ++ codes "\n"

-- why the session of an agent ended
abbrev pub end_line : ℕ × Cause → List ℕ
end_line end = codes "end" ++ then_number end.0 ++ codes " " ++ cause_text end.1 ++ codes "\n"

-- the number of missed ticks
abbrev pub missed_line : ℕ → List ℕ
missed_line missed = codes "missed" ++ then_number missed ++ codes "\n"

-- the links in order of arrival from place 0, the ends of sessions, and the number of missed ticks
abbrev pub head_text : Head → List ℕ
head_text Play = codes "play\n"
head_text (Serve verdicts ends missed) = codes "serve\n" ++ flat_map link_line (enumerate_from 0 verdicts) ++ flat_map end_line ends ++ missed_line missed

-- ---- the first part of a log

-- the version of the log's form, and how the game was played
-- Row: heads_of_a_script_and_of_links (worked_rows/proofs/Logs.antt)
abbrev pub first_lines : Head → List ℕ
first_lines head = codes "taclog 1\n" ++ head_text head

-- the histories of the auctions of the goods 0, 1, .. in order, and the cash history
abbrev pub histories_text : List (List Entry) → List CashEntry → List ℕ
histories_text histories cash = flat_map (λ auction. auction_text auction.0 auction.1) (enumerate_from 0 histories) ++ cash_text cash

-- the histories of a game, in the order of the goods
abbrev pub histories_of : ClosedGame → List (List Entry)
histories_of closed = map (λ auction. auction.history) closed.auctions

-- the first part of the log of a game
abbrev pub play_part : Head → ClosedGame → List ℕ
play_part head closed = first_lines head ++ histories_text (histories_of closed) closed.cash
