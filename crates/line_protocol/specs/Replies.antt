-- The text of the server's lines to an agent, which is our own form.
use Rattle.std.specs.Prelude.{ℕ, ◌≢◌, List, [], ◌∷◌, if◌then◌else◌, All, decimal, codes}
use Rattle.std.specs.Fmt.{signed_decimal}
use Rattle.std.specs.List.{join_with_byte}
use Rattle.tac_base.specs.declared.bids.BidFault.{BidFault}
use Rattle.tac_base.specs.declared.calls.Reply.{Reply}
use Rattle.tac_base.specs.declared.calls.Reply.TheVariants.{Taken, Own, Sold, Done, Closed, WrongCall, NoBid, Sell, SelfCross, BelowQuote}
use Rattle.bid_strings.specs.Spelling.{spelling}
use Rattle.tac_base.specs.declared.bids.BidFault.TheVariants as bid_faults
use Rattle.line_protocol.specs.declared.asking.RequestFault.{RequestFault}
use Rattle.line_protocol.specs.declared.asking.RequestFault.TheVariants as faults
use Rattle.line_protocol.specs.declared.saying.Said.{Said}
use Rattle.line_protocol.specs.declared.saying.Said.TheVariants.{At, Cash, Quote, Spent, Fault, TooLong, Bye}

-- no byte is a line end
abbrev pub IsOneLine : List ℕ → Type 0
IsOneLine text = All (λ byte. byte ≢ 10) text

-- the words of a reply
abbrev pub reply_words : Reply → List (List ℕ)
reply_words (Taken bought sold) = codes "taken" ∷ decimal bought ∷ decimal sold ∷ []
reply_words (Own holding left) = codes "own" ∷ signed_decimal holding ∷ spelling left ∷ []
reply_words (Sold units price) = codes "sold" ∷ decimal units ∷ decimal price ∷ []
reply_words Done = codes "done" ∷ []
reply_words Closed = codes "no" ∷ codes "closed" ∷ []
reply_words WrongCall = codes "no" ∷ codes "wrongcall" ∷ []
reply_words NoBid = codes "no" ∷ codes "nobid" ∷ []
reply_words Sell = codes "no" ∷ codes "sell" ∷ []
reply_words SelfCross = codes "no" ∷ codes "selfcross" ∷ []
reply_words (BelowQuote need at offered) = codes "no" ∷ codes "belowquote" ∷ decimal need ∷ decimal at ∷ decimal offered ∷ []

-- the text of a reply without its position
abbrev pub reply_text : Reply → List ℕ
reply_text reply = join_with_byte 32 (reply_words reply)

-- the number of a bid's fault
abbrev pub fault_number : BidFault → ℕ
fault_number bid_faults.Syntax = 1
fault_number bid_faults.TooManyPoints = 2
fault_number bid_faults.TooManyUnits = 3
fault_number bid_faults.Price = 4
fault_number bid_faults.ZeroUnits = 5

-- the words of the reply to a line that is not a request
abbrev pub fault_words : RequestFault → List (List ℕ)
fault_words faults.Syntax = codes "no" ∷ codes "syntax" ∷ []
fault_words faults.NoSuchAuction = codes "no" ∷ codes "auction" ∷ []
fault_words (faults.Bid fault) = codes "no" ∷ codes "bid" ∷ decimal (fault_number fault) ∷ []
fault_words faults.Memory = codes "no" ∷ codes "memory" ∷ []

-- `@` and a position
abbrev pub place : ℕ → List ℕ
place position = 64 ∷ decimal position

-- the words of a line. For a call, `@P` has the position P of its entry in the auction, counted from 0; for a reading of cash the
-- position in the cash book; for a quote the number of entries that the board shows.
abbrev pub said_words : Said → List (List ℕ)
said_words (At position reply) = place position ∷ reply_words reply
said_words (Cash position dollars) = place position ∷ codes "cash" ∷ signed_decimal dollars ∷ []
said_words (Quote board) =
    place board.count ∷ codes "quote" ∷ decimal board.bid ∷ decimal board.ask ∷ (if board.closed then codes "closed" else codes "open") ∷ []
said_words Spent = codes "no" ∷ codes "spent" ∷ []
said_words (Fault fault) = fault_words fault
said_words TooLong = codes "no" ∷ codes "toolong" ∷ []
said_words Bye = codes "bye" ∷ []

-- the line without its line end: the words, separated by single spaces
-- Row: replies_to_calls (worked_rows/proofs/Lines.antt)
-- Row: other_replies (worked_rows/proofs/Lines.antt)
-- Row: every_other_reply (worked_rows/proofs/Lines.antt)
abbrev pub said_text : Said → List ℕ
said_text said = join_with_byte 32 (said_words said)
