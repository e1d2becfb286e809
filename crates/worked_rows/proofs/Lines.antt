-- What lines ask, the lines of replies, as words and as JSON, and what is heard of a script that is read piece by piece.
use Rattle.std.proofs.Common.{◌≡◌, true, false, List, [], ◌∷◌, pos, negsuc, Ok, Err, map, refl, codes, neg_ℤ, replicate}
use Rattle.std.specs.Fmt.{digits}
use Rattle.tac_base.specs.Numerals.{numeral, signed_numeral}
use Rattle.tac_base.specs.declared.bids.BidFault.TheVariants as bid_faults
use Rattle.tac_base.specs.declared.calls.Reply.TheVariants as replies
use Rattle.bid_strings.specs.BidForm.{points_of, point_of}
use Rattle.line_protocol.specs.declared.asking.Request.TheVariants as requests
use Rattle.line_protocol.specs.declared.asking.RequestFault.TheVariants as faults
use Rattle.line_protocol.specs.declared.saying.Said.{Said}
use Rattle.line_protocol.specs.declared.saying.Said.TheVariants.{At, Cash, Quote, Spent, Fault, TooLong, Bye}
use Rattle.line_protocol.specs.Requests.{request_of}
use Rattle.line_protocol.specs.Replies.{said_text}
use Rattle.json_dialect.specs.JsonReplies.{json_text}
use Rattle.script_run.specs.declared.game.lines.GameLine.TheVariants.{Tick, Asks}
use Rattle.script_run.specs.GameLines.{game_line_of}
use Rattle.script_run.specs.HeardScripts.{heard, script_standing, AtEnd, AtFault, Before, Whole, BadAt, BrokenOff, Open}

-- ---- requests

lines_of_three_two_and_one_words :
    (request_of (codes "bid 24 ((2 70) (-1 65))") ≡ Ok (requests.Bid 24 (record { units = pos 2; price = 70 } ∷ record { units = negsuc 0; price = 65 } ∷ [])))
    × (map request_of (codes "withdraw 24" ∷ codes "own 0" ∷ codes "quote 27" ∷ []) ≡ Ok (requests.Withdraw 24) ∷ Ok (requests.Own 0) ∷ Ok (requests.Quote 27) ∷ [])
    × (map request_of (codes "cash" ∷ codes "quit" ∷ []) ≡ Ok requests.Cash ∷ Ok requests.Quit ∷ [])
unfolding request_of points_of point_of numeral signed_numeral
lines_of_three_two_and_one_words = (refl, refl, refl)

-- without a form: another word, an empty line, a space at the end, two spaces, a leading zero, six digits, and a bid without a second
-- space; then goods that are none, before the points are read; then points
faults_of_lines_goods_and_points :
    (map request_of (codes "hold" ∷ [] ∷ codes "cash " ∷ codes "own  1" ∷ codes "own 01" ∷ codes "own 100000" ∷ codes "bid 24" ∷ []) ≡ replicate 7 (Err faults.Syntax))
    × (map request_of (codes "own 28" ∷ codes "quote 99999" ∷ codes "bid 28 x" ∷ []) ≡ replicate 3 (Err faults.NoSuchAuction))
    × (map request_of (codes "bid 5 " ∷ codes "bid 5 ((1 1)) " ∷ []) ≡ replicate 2 (Err (faults.Bid bid_faults.Syntax)))
    × (map request_of (codes "bid 5 ((1 10001))" ∷ codes "bid 5 ((16 1) (1 1))" ∷ []) ≡ Err (faults.Bid bid_faults.Price) ∷ Err (faults.Bid bid_faults.TooManyUnits) ∷ [])
unfolding request_of points_of point_of numeral signed_numeral
faults_of_lines_goods_and_points = (refl, refl, refl, refl)

-- ---- replies

abbrev of_calls : List Said
of_calls = At 7 (replies.Taken 1 0) ∷ At 8 (replies.Own (negsuc 0) (record { units = negsuc 0; price = 60 } ∷ [])) ∷ At 0 (replies.Own (pos 1) []) ∷ At 9 replies.Done ∷ At 3 (replies.BelowQuote 3 101 2) ∷ At 5 replies.SelfCross ∷ []

abbrev of_lines : List Said
of_lines = Cash 31 (neg_ℤ (pos 660)) ∷ Quote (record { count = 9; bid = 70; ask = 0; closed = false }) ∷ Spent ∷ Fault faults.NoSuchAuction ∷ Fault (faults.Bid bid_faults.ZeroUnits) ∷ TooLong ∷ Bye ∷ []

replies_to_calls : map said_text of_calls
    ≡ codes "@7 taken 1 0" ∷ codes "@8 own -1 ((-1 60))" ∷ codes "@0 own 1 ()" ∷ codes "@9 done" ∷ codes "@3 no belowquote 3 101 2" ∷ codes "@5 no selfcross" ∷ []
unfolding digits
replies_to_calls = refl

other_replies : map said_text of_lines
    ≡ codes "@31 cash -660" ∷ codes "@9 quote 70 0 open" ∷ codes "no spent" ∷ codes "no auction" ∷ codes "no bid 5" ∷ codes "no toolong" ∷ codes "bye" ∷ []
unfolding digits
other_replies = refl

every_other_reply : (map (λ reply. said_text (At 3 reply)) (replies.Closed ∷ replies.WrongCall ∷ replies.NoBid ∷ replies.Sell ∷ [])
    ≡ codes "@3 no closed" ∷ codes "@3 no wrongcall" ∷ codes "@3 no nobid" ∷ codes "@3 no sell" ∷ [])
    × (map (λ fault. said_text (Fault (faults.Bid fault))) (bid_faults.Syntax ∷ bid_faults.TooManyPoints ∷ bid_faults.TooManyUnits ∷ bid_faults.Price ∷ [])
    ≡ codes "no bid 1" ∷ codes "no bid 2" ∷ codes "no bid 3" ∷ codes "no bid 4" ∷ [])
    × (map said_text (Quote (record { count = 9; bid = 0; ask = 70; closed = true }) ∷ Fault faults.Syntax ∷ []) ≡ codes "@9 quote 0 70 closed" ∷ codes "no syntax" ∷ [])
unfolding digits
every_other_reply = (refl, refl, refl)

replies_in_json : (map json_text of_calls
    ≡ codes "{\"at\":7,\"taken\":[1,0]}" ∷ codes "{\"at\":8,\"own\":-1,\"points\":[[-1,60]]}" ∷ codes "{\"at\":0,\"own\":1,\"points\":[]}" ∷ codes "{\"at\":9,\"done\":true}"
    ∷ codes "{\"at\":3,\"no\":\"belowquote\",\"need\":3,\"price\":101,\"offered\":2}" ∷ codes "{\"at\":5,\"no\":\"selfcross\"}" ∷ [])
    × (map json_text of_lines
    ≡ codes "{\"at\":31,\"cash\":-660}" ∷ codes "{\"at\":9,\"quote\":[70,0],\"open\":true}" ∷ codes "{\"no\":\"spent\"}" ∷ codes "{\"no\":\"auction\"}" ∷ codes "{\"no\":\"bid\",\"fault\":5}"
    ∷ codes "{\"no\":\"toolong\"}" ∷ codes "{\"bye\":true}" ∷ [])
unfolding digits
replies_in_json = (refl, refl)

-- ---- scripts

-- the good lines, the last one first, and what stands behind the last line end; a request that is none is a good line
good_lines_and_a_rest_or_a_bad_line : (heard (codes "tick\n3 own\n0 ca") ≡ (Asks 3 (Err faults.Syntax) ∷ Tick ∷ [], Ok (codes "0 ca")))
    × (heard (codes "0 cash\ntock\ntick\n") ≡ (Asks 0 (Ok requests.Cash) ∷ [], Err (2, 1)))
unfolding game_line_of request_of
good_lines_and_a_rest_or_a_bad_line = (refl, refl)

-- the same bytes, where more may come, where no more do, and where a read failed; a bad line comes before a read that failed
script_is_open_bad_broken_off_or_whole : (script_standing (codes "tick\n0 ca") Before ≡ Open)
    × (script_standing (codes "tick\n0 ca") AtEnd ≡ BadAt 2 3)
    × (script_standing (codes "tick\n0 ca") AtFault ≡ BrokenOff)
    × (script_standing (codes "tick\n0 cash\n") AtEnd ≡ Whole)
    × (script_standing (codes "tock\ntick\n") AtFault ≡ BadAt 1 1)
unfolding game_line_of request_of
script_is_open_bad_broken_off_or_whole = (refl, refl, refl, refl, refl)
