-- The game script that a seed and a number of requests give.
use Rattle.std.specs.Prelude.{ℕ, ◌+◌, ◌*◌, ◌-◌, ◌/◌, ◌%◌, ◌==◌, if◌then◌else◌, List, [], ◌∷◌, ◌++◌, ℤ, pos, negsuc, decimal, codes, replicate, slice_index, flat_map}
use Rattle.std.specs.List.{range_with_len}
use Rattle.draw_maker.specs.Prelude.{Point, Kind, Flight, Hotel, Ticket, AGENTS, GOODS, TICKS, point_at, kind_of, text_of}
use Rattle.bid_strings.specs.Spelling.{spelling}
use Rattle.draw_maker.specs.Words.{generator, next_words, after}

-- the units of a bid for a ticket: it buys or sells one
abbrev pub ticket_units : ℕ → ℤ
ticket_units side = if side % 2 == 0 then pos 1 else negsuc 0

-- 3 words: the point of a bid for a good of this kind; bids for flights and hotel nights buy, whatever the first word
abbrev pub made_point : Kind → ℕ → ℕ → ℕ → Point
made_point Flight side units price = point_at (pos (1 + units % 2)) (150 + price % 651)
made_point Hotel side units price = point_at (pos (1 + units % 4)) (1 + price % 400)
made_point Ticket side units price = point_at (ticket_units side) (1 + price % 200)

-- an agent's bid of one point for a good
abbrev pub bid_line : ℕ → ℕ → Point → List ℕ
bid_line agent good point = decimal agent ++ (codes " bid " ++ (decimal good ++ 32 ∷ spelling (point ∷ [])))

-- 5 words: one for the agent, one for the good, and three for the point
abbrev pub made_request : List ℕ → List ℕ
made_request words =
    let good = slice_index words 1 % GOODS in
    bid_line (slice_index words 0 % AGENTS) good (made_point (kind_of good) (slice_index words 2) (slice_index words 3) (slice_index words 4))

-- how many ticks precede the request with this number, counted from 0: 54 ticks, evenly spaced
abbrev pub ticks_before : ℕ → ℕ → ℕ
ticks_before count i = TICKS * i / count

-- the lines of a request: the ticks since the request before it, and the request
abbrev pub made_lines : ℕ → ℕ → List ℕ → List (List ℕ)
made_lines count i words = replicate (ticks_before count i - ticks_before count (i - 1)) (codes "tick") ++ made_request words ∷ []

-- the words for the request with this number, on stream 55: five for each request
abbrev pub request_draws : ℕ → ℕ → List ℕ
request_draws seed i = next_words 5 (after (5 * i) (generator seed 55))

-- the text of a script with this many requests
unfoldable pub made_script : ℕ → ℕ → List ℕ
made_script seed count = text_of (flat_map (λ i. made_lines count i (request_draws seed i)) (range_with_len 0 count))
