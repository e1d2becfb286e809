-- How the lines of the histories are read.
use Rattle.std.specs.Prelude.{ℕ, ◌-◌, ◌==◌, ◌&&◌, Bool, true, false, if◌then◌else◌, List, [], ◌∷◌, ℤ, pos, negsuc, Option, Some, None, Result, Ok, Err, codes, length, take, drop, replicate, slice_index, bytes_eq}
use Rattle.std.specs.List.{join_with_byte}
use Rattle.log_reader.specs.Prelude.{AUCTION_ENTRIES, CASH_ENTRIES, BID_UNITS, BID_PRICE, CASH_DIGITS, UPDATE_TICKS, LAST_POSITION, Point, BidFault, Call, Reply, Trade, signed_numeral, clock, house, Column, Ten, parts_of, words_of, within, points_of, judged, Post, Read, Done, Cash, CashEntry}
use Rattle.tac_base.specs.declared.calls.Call.TheVariants as calls
use Rattle.line_protocol.specs.ReplyForms.{◌>>=◌, answer_of}
use Rattle.log_reader.specs.HeadForms.{digit_of, read_numbers, number_at}

-- ---- auctions

abbrev pub auction_columns : List Column
auction_columns = within 0 27 ∷ within 0 AUCTION_ENTRIES ∷ []

-- the number of entries, from the line before the entries of a good
unfoldable pub auction_of : ℕ → List ℕ → Option ℕ
auction_of good line =
    read_numbers (codes "auction") auction_columns line
    >>= λ numbers. if number_at numbers 0 == good then Some (number_at numbers 1) else None

abbrev pub trade_columns : List Column
trade_columns = within 0 house ∷ within 0 house ∷ within 1 BID_UNITS ∷ within 0 BID_PRICE ∷ []

-- the trade of a line, in the auction of a good
unfoldable pub trade_of : ℕ → List ℕ → Option Trade
trade_of good line =
    read_numbers (codes "trade") trade_columns line
    >>= λ numbers. Some (record { buyer = number_at numbers 0; seller = number_at numbers 1; good = good; units = number_at numbers 2; price = number_at numbers 3 })

-- ---- calls

abbrev pub bid_by : Result (List Point) BidFault → Option Call
bid_by (Err fault) = None
bid_by (Ok points) = Some (calls.Bid points)

abbrev pub update_columns : List Column
update_columns = within 1 UPDATE_TICKS ∷ within 0 4294967295 ∷ []

abbrev pub read_update : List ℕ → Option Call
read_update text = read_numbers (codes "update") update_columns text >>= λ numbers. Some (calls.Update (number_at numbers 0) (number_at numbers 1))

abbrev pub word_call : List ℕ → Option Call
word_call word =
    if bytes_eq word (codes "withdraw") then Some calls.Withdraw
    else if bytes_eq word (codes "own") then Some calls.Own
    else if bytes_eq word (codes "publish") then Some calls.Publish
    else if bytes_eq word (codes "close") then Some calls.Close
    else None

-- the call of a text, and of its words
abbrev pub call_of_words : List ℕ → List (List ℕ) → Option Call
call_of_words text [] = None
call_of_words text (keyword ∷ []) = word_call keyword
call_of_words text (keyword ∷ word ∷ words) =
    if bytes_eq keyword (codes "bid") then bid_by (judged (points_of (join_with_byte 32 (word ∷ words)))) else read_update text

unfoldable pub read_call : List ℕ → Option Call
read_call text = call_of_words text (words_of text)

-- ---- entries

-- a digit, a space, and what follows them
abbrev pub read_caller : ℕ → List ℕ → Option (ℕ × List ℕ)
read_caller most [] = None
read_caller most (digit ∷ []) = None
read_caller most (digit ∷ space ∷ text) = if space == 32 then (digit_of most (digit ∷ []) >>= λ caller. Some (caller, text)) else None

-- a text without the space at its end, and without the space at its start
abbrev pub before_space : List ℕ → Option (List ℕ)
before_space text = if slice_index text (length text - 1) == 32 then Some (take (length text - 1) text) else None

abbrev pub after_space : List ℕ → Option (List ℕ)
after_space [] = None
after_space (space ∷ text) = if space == 32 then Some text else None

-- the texts on both sides of the first `=`, which has a space on both sides
abbrev pub sides_of : List (List ℕ) → Option (List ℕ × List ℕ)
sides_of [] = None
sides_of (call ∷ []) = None
sides_of (call ∷ part ∷ parts) = before_space call >>= λ left. after_space (join_with_byte 61 (part ∷ parts)) >>= λ right. Some (left, right)

-- the caller, the call and the reply, from the line of an entry
unfoldable pub read_entry : List ℕ → Option (ℕ × Call × Reply)
read_entry line =
    read_caller clock line >>= λ called.
    sides_of (parts_of 61 called.1) >>= λ sides.
    read_call sides.0 >>= λ call.
    answer_of sides.1 >>= λ reply.
    Some (called.0, call, reply)

-- ---- the cash history

abbrev pub cash_columns : List Column
cash_columns = within 0 CASH_ENTRIES ∷ []

-- the number of entries, from the line before them
unfoldable pub read_cash_line : List ℕ → Option ℕ
read_cash_line line = read_numbers (codes "cash") cash_columns line >>= λ numbers. Some (number_at numbers 0)

-- a number of 32 bits with a sign
abbrev pub net_column : Column
net_column = record { signed = true; digits = Ten; low = negsuc 2147483647; high = pos 2147483647 }

abbrev pub post_columns : List Column
post_columns = within 0 27 ∷ within 0 LAST_POSITION ∷ replicate 9 net_column

abbrev pub made_post : ℕ → List ℤ → CashEntry
made_post caller numbers = record { caller = caller; call = Post (number_at numbers 0) (number_at numbers 1) (record { dollars = drop 2 numbers }); reply = Done }

-- the post by a caller, from a text
abbrev pub post_of : ℕ → List ℕ → Option CashEntry
post_of caller text = read_numbers (codes "post") post_columns text >>= λ numbers. Some (made_post caller numbers)

-- the reading of an agent's own cash
abbrev pub read_of : ℕ → List ℕ → List ℕ → List ℕ → Option CashEntry
read_of agent keyword sign word =
    if bytes_eq keyword (codes "read") && bytes_eq sign (codes "=")
    then (signed_numeral CASH_DIGITS word >>= λ dollars. Some (record { caller = agent; call = Read agent; reply = Cash dollars }))
    else None

abbrev pub read_reading : ℕ → List (List ℕ) → Option CashEntry
read_reading agent [] = None
read_reading agent (keyword ∷ []) = None
read_reading agent (keyword ∷ sign ∷ []) = None
read_reading agent (keyword ∷ sign ∷ word ∷ []) = read_of agent keyword sign word
read_reading agent (keyword ∷ sign ∷ word ∷ other ∷ words) = None

-- whether the first word is this one, and whether it is that of a post
abbrev pub first_is : List ℕ → List (List ℕ) → Bool
first_is keyword [] = false
first_is keyword (first ∷ words) = bytes_eq first keyword

abbrev pub starts_post : List ℕ → Bool
starts_post text = first_is (codes "post") (words_of text)

-- the entry by a caller, from a text: a post of any caller, or an agent's reading
abbrev pub cash_entry_by : ℕ → List ℕ → Option CashEntry
cash_entry_by caller text =
    if starts_post text then post_of caller text
    else if caller == clock then None
    else read_reading caller (words_of text)

unfoldable pub cash_entry_of : List ℕ → Option CashEntry
cash_entry_of line = read_caller clock line >>= λ called. cash_entry_by called.0 called.1
