-- The welcome and the replies of both forms are lines: no line end stands in them.
use Rattle.std.proofs.Common.{◌≡◌, ℕ, zero, suc, ◌+◌, ◌/◌, ◌%◌, List, [], ◌∷◌, ◌++◌, Bool, true, false, map, refl, ap, ◌∙◌, arith, eq-eqb, ne_eqb, ℤ, pos, negsuc, decimal, ◌≢◌, ◌==◌, ◌||◌, codes, nat_lt, if◌then◌else◌, slice_index_or, flat_map}
use Rattle.std.specs.Fmt.{digits, digits_onto, digit_glyph, signed_decimal}
use Rattle.std.specs.List.{AllByRecursion, concat, join_with_byte}
use Rattle.std.proofs.lemmas.List.Elements.{All-cons, All-head, All-nil, All-tail}
use Rattle.std.proofs.lemmas.Bool.{or_parts}
use Rattle.tac_base.specs.Clients.{Preferences}
use Rattle.tac_base.specs.declared.bids.Point.{Point}
use Rattle.link_audit.specs.Prelude.{Reply, GameFile, has_end, RequestFault, Said, IsOneLine, fault_number, fault_words, reply_words, said_text, said_words, fault_text, json_place, json_point_text, json_text, openness, pair_text, points_text, quote_members, reply_members, welcome_lines}
use Rattle.tac_base.specs.declared.calls.Reply.TheVariants as replies
use Rattle.text_forms.specs.Rows.{row_text}
use Rattle.text_forms.specs.Steps.{lines_of_parts, one_line}
use Rattle.bid_strings.specs.Spelling.{point_words}
use Rattle.game_text.specs.ClientLines.{client_numbers, client_text}
use Rattle.tac_io.proofs.LineEnds.{no_end-append}
use Rattle.line_protocol.specs.declared.asking.RequestFault.TheVariants as faults
use Rattle.line_protocol.specs.declared.saying.Said.TheVariants as said

abbrev pub HasNoEnd : List ℕ → Type 0
HasNoEnd text = has_end text ≡ false

-- the two ways of saying that no line end stands in a text
pub no_end : (text : List ℕ) → IsOneLine text → HasNoEnd text
no_end [] one = refl
no_end (byte ∷ text) one =
    ap (λ (b : Bool). b || has_end text) (ne_eqb byte 10 (All-head (λ (b : ℕ). b ≢ 10) byte text one)) ∙ no_end text (All-tail (λ (b : ℕ). b ≢ 10) byte text one)

pub one_line_of : (text : List ℕ) → HasNoEnd text → IsOneLine text
one_line_of [] none = All-nil (λ (b : ℕ). b ≢ 10)
one_line_of (byte ∷ text) none =
    let both = or_parts (byte == 10) (has_end text) none in
    All-cons (λ (b : ℕ). b ≢ 10) byte text (λ is. absurd (let ten : (byte == 10) ≡ true = eq-eqb byte 10 is in cc)) (one_line_of text both.1)

-- ---- pieces and words

joined : (pieces : List (List ℕ)) → AllByRecursion HasNoEnd pieces → HasNoEnd (concat pieces)
joined [] all = refl
joined (piece ∷ pieces) all = no_end-append piece (concat pieces) all.0 (joined pieces all.1)

spaced : (byte : ℕ) (words : List (List ℕ)) → (byte == 10) ≡ false → AllByRecursion HasNoEnd words → HasNoEnd (join_with_byte byte words)
spaced byte [] other all = refl
spaced byte (word ∷ []) other all = all.0
spaced byte (word ∷ next ∷ words) other all =
    no_end-append word (byte ∷ join_with_byte byte (next ∷ words)) all.0
    (ap (λ (b : Bool). b || has_end (join_with_byte byte (next ∷ words))) other ∙ spaced byte (next ∷ words) other all.1)

-- ---- numbers

glyph : (d : ℕ) → (digit_glyph false d == 10) ≡ false
glyph d = by_test (nat_lt d 10)
  where
    by_test : (b : Bool) → ((if b then 48 + d else 87 + d) == 10) ≡ false
    by_test true = ne_eqb (48 + d) 10 (λ is. omega (arith, is))
    by_test false = ne_eqb (87 + d) 10 (λ is. omega (arith, is))

spelled : (k n : ℕ) (rest : List ℕ) → HasNoEnd rest → HasNoEnd (digits_onto k 10 false n rest)
spelled zero n rest none = none
spelled (suc k) n rest none =
    let more : HasNoEnd (digit_glyph false (n % 10) ∷ rest) = ap (λ (b : Bool). b || has_end rest) (glyph (n % 10)) ∙ none in
    by_test (n / 10 == 0) more (spelled k (n / 10) (digit_glyph false (n % 10) ∷ rest) more)
  where
    by_test : (b : Bool) → HasNoEnd (digit_glyph false (n % 10) ∷ rest) → HasNoEnd (digits_onto k 10 false (n / 10) (digit_glyph false (n % 10) ∷ rest))
        → HasNoEnd (if b then digit_glyph false (n % 10) ∷ rest else digits_onto k 10 false (n / 10) (digit_glyph false (n % 10) ∷ rest))
    by_test true last more = last
    by_test false last more = more

pub number : (n : ℕ) → HasNoEnd (decimal n)
unfolding digits
number n = spelled 64 n [] refl

signed : (z : ℤ) → HasNoEnd (signed_decimal z)
signed (pos n) = number n
signed (negsuc n) = number (suc n)

-- ---- the welcome

numbers : (zs : List ℤ) → AllByRecursion HasNoEnd (map signed_decimal zs)
numbers [] = tt
numbers (z ∷ zs) = (signed z, numbers zs)

row : (keyword : List ℕ) (zs : List ℤ) → HasNoEnd keyword → HasNoEnd (row_text keyword zs)
row keyword zs none = spaced 32 (keyword ∷ map signed_decimal zs) refl (none, numbers zs)

clients : (agent from : ℕ) (wants : List Preferences) → AllByRecursion HasNoEnd (lines_of_parts (one_line (client_text agent)) from wants)
clients agent from [] = tt
clients agent from (want ∷ wants) = (row (codes "client") (client_numbers agent from want) refl, clients agent (from + 1) wants)

pub welcome_line : (game : GameFile) (agent : ℕ) → AllByRecursion HasNoEnd (welcome_lines game agent)
welcome_line game agent = (
  no_end-append (codes "welcome ") (decimal agent) refl (number agent),
  (row (codes "endow") (pos agent ∷ map pos (slice_index_or game.endow agent [])) refl, clients agent 0 (slice_index_or game.clients agent [])),
)

-- ---- replies in words

points : (left : List Point) → AllByRecursion HasNoEnd (flat_map point_words left)
points [] = tt
points (point ∷ left) = (signed point.units, (no_end-append (decimal point.price) (41 ∷ []) (number point.price) refl, points left))

standing : (left : List Point) → HasNoEnd (join_with_byte 32 (flat_map point_words left) ++ 41 ∷ [])
standing left = no_end-append (join_with_byte 32 (flat_map point_words left)) (41 ∷ []) (spaced 32 (flat_map point_words left) refl (points left)) refl

reply : (answer : Reply) → AllByRecursion HasNoEnd (reply_words answer)
reply (replies.Taken bought sold) = (refl, (number bought, (number sold, tt)))
reply (replies.Own holding left) = (refl, (signed holding, (standing left, tt)))
reply (replies.Sold units price) = (refl, (number units, (number price, tt)))
reply replies.Done = (refl, tt)
reply replies.Closed = (refl, (refl, tt))
reply replies.WrongCall = (refl, (refl, tt))
reply replies.NoBid = (refl, (refl, tt))
reply replies.Sell = (refl, (refl, tt))
reply replies.SelfCross = (refl, (refl, tt))
reply (replies.BelowQuote need at offered) = (refl, (refl, (number need, (number at, (number offered, tt)))))

fault : (why : RequestFault) → AllByRecursion HasNoEnd (fault_words why)
fault faults.Syntax = (refl, (refl, tt))
fault faults.NoSuchAuction = (refl, (refl, tt))
fault (faults.Bid why) = (refl, (refl, (number (fault_number why), tt)))
fault faults.Memory = (refl, (refl, tt))

state : (closed : Bool) → HasNoEnd (if closed then codes "closed" else codes "open")
state true = refl
state false = refl

words : (answer : Said) → AllByRecursion HasNoEnd (said_words answer)
words (said.At position answer) = (number position, reply answer)
words (said.Cash position dollars) = (number position, (refl, (signed dollars, tt)))
words (said.Quote board) = (number board.count, (refl, (number board.bid, (number board.ask, (state board.closed, tt)))))
words said.Spent = (refl, (refl, tt))
words (said.Fault why) = fault why
words said.TooLong = (refl, (refl, tt))
words said.Bye = (refl, tt)

pub said_line : (answer : Said) → HasNoEnd (said_text answer)
said_line answer = spaced 32 (said_words answer) refl (words answer)

-- ---- replies in JSON

pair : (first second : List ℕ) → HasNoEnd first → HasNoEnd second → HasNoEnd (pair_text first second)
pair first second f s = joined (codes "[" ∷ first ∷ codes "," ∷ second ∷ codes "]" ∷ []) (refl, (f, (refl, (s, (refl, tt)))))

json_points : (left : List Point) → AllByRecursion HasNoEnd (map json_point_text left)
json_points [] = tt
json_points (point ∷ left) = (pair (signed_decimal point.units) (decimal point.price) (signed point.units) (number point.price), json_points left)

left_text : (left : List Point) → HasNoEnd (points_text left)
left_text left = joined (codes "[" ∷ join_with_byte 44 (map json_point_text left) ∷ codes "]" ∷ []) (refl, (spaced 44 (map json_point_text left) refl (json_points left), (refl, tt)))

members : (answer : Reply) → HasNoEnd (reply_members answer)
members (replies.Taken bought sold) = no_end-append (codes "\"taken\":") (pair_text (decimal bought) (decimal sold)) refl (pair (decimal bought) (decimal sold) (number bought) (number sold))
members (replies.Own holding left) =
    joined (codes "\"own\":" ∷ signed_decimal holding ∷ codes ",\"points\":" ∷ points_text left ∷ []) (refl, (signed holding, (refl, (left_text left, tt))))
members (replies.Sold units price) = no_end-append (codes "\"sold\":") (pair_text (decimal units) (decimal price)) refl (pair (decimal units) (decimal price) (number units) (number price))
members replies.Done = refl
members replies.Closed = refl
members replies.WrongCall = refl
members replies.NoBid = refl
members replies.Sell = refl
members replies.SelfCross = refl
members (replies.BelowQuote need at offered) =
    joined (codes "\"no\":\"belowquote\",\"need\":" ∷ decimal need ∷ codes ",\"price\":" ∷ decimal at ∷ codes ",\"offered\":" ∷ decimal offered ∷ [])
    (refl, (number need, (refl, (number at, (refl, (number offered, tt))))))

placed : (position : ℕ) (text : List ℕ) → HasNoEnd text → HasNoEnd (concat (json_place position ∷ text ∷ codes "}" ∷ []))
placed position text none =
    joined (json_place position ∷ text ∷ codes "}" ∷ []) (joined (codes "{\"at\":" ∷ decimal position ∷ codes "," ∷ []) (refl, (number position, (refl, tt))), (none, (refl, tt)))

open_word : (closed : Bool) → HasNoEnd (openness closed)
open_word true = refl
open_word false = refl

why_text : (why : RequestFault) → HasNoEnd (fault_text why)
why_text faults.Syntax = refl
why_text faults.NoSuchAuction = refl
why_text (faults.Bid why) = joined (codes "{\"no\":\"bid\",\"fault\":" ∷ decimal (fault_number why) ∷ codes "}" ∷ []) (refl, (number (fault_number why), (refl, tt)))
why_text faults.Memory = refl

pub json_line : (answer : Said) → HasNoEnd (json_text answer)
json_line (said.At position answer) = placed position (reply_members answer) (members answer)
json_line (said.Cash position dollars) = placed position (codes "\"cash\":" ++ signed_decimal dollars) (no_end-append (codes "\"cash\":") (signed_decimal dollars) refl (signed dollars))
json_line (said.Quote board) =
    placed board.count (quote_members board)
    (joined (codes "\"quote\":" ∷ pair_text (decimal board.bid) (decimal board.ask) ∷ codes ",\"open\":" ∷ openness board.closed ∷ [])
    (refl, (pair (decimal board.bid) (decimal board.ask) (number board.bid) (number board.ask), (refl, (open_word board.closed, tt)))))
json_line said.Spent = refl
json_line (said.Fault why) = why_text why
json_line said.TooLong = refl
json_line said.Bye = refl
