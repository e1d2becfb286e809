-- What a line requests, in our own form.
use Rattle.std.specs.Prelude.{ℕ, nat_lt, if◌then◌else◌, List, [], ◌∷◌, Option, Some, None, Result, Ok, Err, codes, bytes_eq}
use Rattle.std.specs.List.{join_with_byte}
use Rattle.tac_base.specs.declared.bids.Point.{Point}
use Rattle.tac_base.specs.declared.bids.BidFault.{BidFault}
use Rattle.tac_base.specs.Numerals.{numeral}
use Rattle.text_forms.specs.Steps.{◌>>=◌}
use Rattle.text_forms.specs.Words.{words_of}
use Rattle.bid_strings.specs.BidForm.{points_of, judged}
use Rattle.line_protocol.specs.declared.asking.Request.{Request}
use Rattle.line_protocol.specs.declared.asking.Request.TheVariants as requests
use Rattle.line_protocol.specs.declared.asking.RequestFault.{RequestFault}
use Rattle.line_protocol.specs.declared.asking.RequestFault.TheVariants as faults

-- the fault of a line without any of the forms
abbrev pub syntax : RequestFault
syntax = faults.Syntax

-- the good with the number of a numeral. The fault is `Syntax` if the word is no numeral, and `NoSuchAuction` if the number is greater
-- than 27.
abbrev pub read_good : Option ℕ → Result ℕ RequestFault
read_good None = Err faults.Syntax
read_good (Some number) = if nat_lt 27 number then Err faults.NoSuchAuction else Ok number

-- what a line of one word requests: `cash` or `quit`
abbrev pub plain_of : List ℕ → Result Request RequestFault
plain_of keyword =
    if bytes_eq keyword (codes "cash") then Ok requests.Cash
    else if bytes_eq keyword (codes "quit") then Ok requests.Quit else Err faults.Syntax

-- what a line of a keyword and a number requests: `withdraw G`, `own G` or `quote G`
abbrev pub about_of : List ℕ → Result ℕ RequestFault → Result Request RequestFault
about_of keyword good =
    if bytes_eq keyword (codes "withdraw") then (good >>= λ g. Ok (requests.Withdraw g))
    else if bytes_eq keyword (codes "own") then (good >>= λ g. Ok (requests.Own g))
    else if bytes_eq keyword (codes "quote") then (good >>= λ g. Ok (requests.Quote g)) else Err faults.Syntax

-- a bid with the points that were read, or the fault of the points
abbrev pub with_points : ℕ → Result (List Point) BidFault → Result Request RequestFault
with_points good (Ok points) = Ok (requests.Bid good points)
with_points good (Err fault) = Err (faults.Bid fault)

-- what a line of a keyword, a number and more text requests: `bid G POINTS`, where POINTS is the rest of the line after the second
-- space and may be any bytes
abbrev pub bid_request : List ℕ → Result ℕ RequestFault → List ℕ → Result Request RequestFault
bid_request keyword good points =
    if bytes_eq keyword (codes "bid") then (good >>= λ g. with_points g (judged (points_of points))) else Err faults.Syntax

-- what the words of a line request. G is a numeral of at most 5 digits. The faults are tested in this order: no form of a request, no
-- auction, no bid.
abbrev pub request_of_words : List (List ℕ) → Result Request RequestFault
request_of_words [] = Err faults.Syntax
request_of_words (keyword ∷ []) = plain_of keyword
request_of_words (keyword ∷ number ∷ []) = about_of keyword (read_good (numeral 5 number))
request_of_words (keyword ∷ number ∷ word ∷ words) = bid_request keyword (read_good (numeral 5 number)) (join_with_byte 32 (word ∷ words))

-- what a line requests, or its first fault. The words of a line are separated by single spaces.
-- Row: lines_of_three_two_and_one_words (worked_rows/proofs/Lines.antt)
-- Row: faults_of_lines_goods_and_points (worked_rows/proofs/Lines.antt)
unfoldable pub request_of : List ℕ → Result Request RequestFault
request_of line = request_of_words (words_of line)
