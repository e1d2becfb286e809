-- What is read of a reply line is in range, and the line is its text.
use Rattle.std.proofs.Common.{◌≡◌, ℕ, ◌≤◌, Bool, true, false, eqb, List, [], ◌∷◌, ◌++◌, Option, Some, None, refl, sym, ap, subst, ◌∙◌, decimal, lit<, lit≤, inl, inr, codes, IfSome, bytes_eq, eqb-true}
use Rattle.std.specs.Fmt.{signed_decimal}
use Rattle.std.specs.List.{join_with_byte}
use Rattle.std.proofs.lemmas.Option.{same_Some}
use Rattle.std.proofs.lemmas.List.Splits.{join_with_byte-slice_split}
use Rattle.line_protocol.specs.Prelude.{words_of, BidFault, Board, Reply, Taken, Own, Sold, Done, Closed, WrongCall, NoBid, Sell, SelfCross, BelowQuote, signed_numeral}
use Rattle.tac_base.specs.declared.bids.BidFault.TheVariants as bid_faults
use Rattle.tac_base.proofs.Signed.{signed_is, signed_limit}
use Rattle.line_protocol.specs.declared.asking.RequestFault.TheVariants as faults
use Rattle.line_protocol.specs.declared.saying.Said.{Said}
use Rattle.line_protocol.specs.declared.saying.Said.TheVariants.{At, Cash, Quote, Spent, Fault, TooLong, Bye}
use Rattle.line_protocol.specs.Replies.{reply_text, fault_number, place}
use Rattle.line_protocol.specs.Ranges.{IsReplyText, IsSaidText}
use Rattle.line_protocol.specs.ReplyForms.{◌>>=◌, ended, next_within, holding_of, read_place, read_left, taken_of, sold_of, below_of, own_of, refused_of, read_reply_words, read_cash, read_state, next_state, quote_of, placed_of, fault_at, bid_fault_of, unplaced_of, said_of_words, read_said, answer_of_words, answer_of}
use Rattle.line_protocol.proofs.JoinedWords.{state_word, has_words}
use Rattle.line_protocol.proofs.Numbers.{bound, ended_is, either_way, is_word, next_is, place_is, holding_is}
use Rattle.line_protocol.proofs.OneLine.{placed}
use Rattle.line_protocol.proofs.StandingPoints.{left_is}

-- the line of a keyword and the words after it
abbrev pub line : List ℕ → List (List ℕ) → List ℕ
line keyword words = join_with_byte 32 (keyword ∷ words)

-- a word and those that follow it
followed : {words rest others : List (List ℕ)} (word : List ℕ) → words ≡ word ∷ rest → rest ≡ others → words ≡ word ∷ others
followed word first more = first ∙ ap (λ (ws : List (List ℕ)). word ∷ ws) more

-- ---- replies of numbers

taken_is : (words : List (List ℕ)) (reply : Reply) → taken_of words ≡ Some reply → IsReplyText (line (codes "taken") words) reply
taken_is words reply h =
    let b = bound (next_within 255 words) (λ bought. next_within 255 bought.1 >>= λ sold. ended (Taken bought.0 sold.0) sold.1) reply h in
    let first = next_is 255 words b.0 (lit< tt) b.1 in
    let s = bound (next_within 255 b.0.1) (λ sold. ended (Taken b.0.0 sold.0) sold.1) reply b.2 in
    let second = next_is 255 b.0.1 s.0 (lit< tt) s.1 in
    let e = ended_is (Taken b.0.0 s.0.0) reply s.0.1 s.2 in
    let words_are : words ≡ decimal b.0.0 ∷ decimal s.0.0 ∷ [] =
    followed (decimal b.0.0) first.0 (followed (decimal s.0.0) second.0 e.1) in
    subst (λ (r : Reply). IsReplyText (line (codes "taken") words) r) e.0 (record { range = (first.1, second.1); text = ap (line (codes "taken")) words_are })

sold_is : (words : List (List ℕ)) (reply : Reply) → sold_of words ≡ Some reply → IsReplyText (line (codes "sold") words) reply
sold_is words reply h =
    let u = bound (next_within 255 words) (λ units. next_within 10001 units.1 >>= λ price. ended (Sold units.0 price.0) price.1) reply h in
    let first = next_is 255 words u.0 (lit< tt) u.1 in
    let p = bound (next_within 10001 u.0.1) (λ price. ended (Sold u.0.0 price.0) price.1) reply u.2 in
    let second = next_is 10001 u.0.1 p.0 (lit< tt) p.1 in
    let e = ended_is (Sold u.0.0 p.0.0) reply p.0.1 p.2 in
    let words_are : words ≡ decimal u.0.0 ∷ decimal p.0.0 ∷ [] =
    followed (decimal u.0.0) first.0 (followed (decimal p.0.0) second.0 e.1) in
    subst (λ (r : Reply). IsReplyText (line (codes "sold") words) r) e.0 (record { range = (first.1, second.1); text = ap (line (codes "sold")) words_are })

below_is : (words : List (List ℕ)) (reply : Reply) → below_of words ≡ Some reply → IsReplyText (join_with_byte 32 (codes "no" ∷ codes "belowquote" ∷ words)) reply
below_is words reply h =
    let n = bound (next_within 255 words) (λ need. next_within 10001 need.1 >>= λ at. next_within 255 at.1 >>= λ offered. ended (BelowQuote need.0 at.0 offered.0) offered.1) reply h in
    let first = next_is 255 words n.0 (lit< tt) n.1 in
    let a = bound (next_within 10001 n.0.1) (λ at. next_within 255 at.1 >>= λ offered. ended (BelowQuote n.0.0 at.0 offered.0) offered.1) reply n.2 in
    let second = next_is 10001 n.0.1 a.0 (lit< tt) a.1 in
    let o = bound (next_within 255 a.0.1) (λ offered. ended (BelowQuote n.0.0 a.0.0 offered.0) offered.1) reply a.2 in
    let third = next_is 255 a.0.1 o.0 (lit< tt) o.1 in
    let e = ended_is (BelowQuote n.0.0 a.0.0 o.0.0) reply o.0.1 o.2 in
    let words_are : words ≡ decimal n.0.0 ∷ decimal a.0.0 ∷ decimal o.0.0 ∷ [] =
    followed (decimal n.0.0) first.0 (followed (decimal a.0.0) second.0 (followed (decimal o.0.0) third.0 e.1)) in
    subst (λ (r : Reply). IsReplyText (join_with_byte 32 (codes "no" ∷ codes "belowquote" ∷ words)) r) e.0
    (record { range = (first.1, second.1, third.1); text = ap (λ (ws : List (List ℕ)). join_with_byte 32 (codes "no" ∷ codes "belowquote" ∷ ws)) words_are })

own_is : (words : List (List ℕ)) (reply : Reply) → own_of words ≡ Some reply → IsReplyText (line (codes "own") words) reply
own_is [] reply h = absurd cc
own_is (holding ∷ []) reply h = absurd cc
own_is (holding ∷ word ∷ words) reply h =
    let points = join_with_byte 32 (word ∷ words) in
    let z = bound (holding_of holding) (λ held. read_left points >>= λ left. Some (Own held left)) reply h in
    let number = holding_is holding z.0 z.1 in
    let l = bound (read_left points) (λ left. Some (Own z.0 left)) reply z.2 in
    let left = left_is points l.0 l.1 in
    let text : line (codes "own") (holding ∷ word ∷ words) ≡ reply_text (Own z.0 l.0) =
    ap (λ (w : List ℕ). join_with_byte 32 (codes "own" ∷ w ∷ points ∷ [])) number.0 ∙ ap (λ (t : List ℕ). join_with_byte 32 (codes "own" ∷ signed_decimal z.0 ∷ t ∷ [])) left.text in
    subst (λ (r : Reply). IsReplyText (line (codes "own") (holding ∷ word ∷ words)) r) (same_Some (Own z.0 l.0) reply l.2)
    (record { range = (number.1, left.limits); text = text })

-- ---- replies of keywords

-- a keyword after which nothing stands
lone : (keyword known : List ℕ) (words : List (List ℕ)) (made reply : Reply) → bytes_eq keyword known ≡ true → ended made words ≡ Some reply → IsReplyText (join_with_byte 32 (codes "no" ∷ known ∷ [])) made
    → IsReplyText (join_with_byte 32 (codes "no" ∷ keyword ∷ words)) reply
lone keyword known words made reply same h is =
    let e = ended_is made reply words h in
    let text : join_with_byte 32 (codes "no" ∷ keyword ∷ words) ≡ join_with_byte 32 (codes "no" ∷ known ∷ []) =
    ap (λ (w : List ℕ). join_with_byte 32 (codes "no" ∷ w ∷ words)) (is_word keyword known same) ∙ ap (λ (ws : List (List ℕ)). join_with_byte 32 (codes "no" ∷ known ∷ ws)) e.1 in
    subst (λ (r : Reply). IsReplyText (join_with_byte 32 (codes "no" ∷ keyword ∷ words)) r) e.0 (record { range = is.range; text = text ∙ is.text })

refusal_is : (words : List (List ℕ)) (reply : Reply) → refused_of words ≡ Some reply → IsReplyText (line (codes "no") words) reply
refusal_is [] reply h = absurd cc
refusal_is (keyword ∷ words) reply h =
    elim (either_way (bytes_eq keyword (codes "closed")) (ended Closed words) _ reply h) [
      | inl is ↦ lone keyword (codes "closed") words Closed reply is.0 is.1 (record { range = tt; text = refl })
      | inr h ↦ elim (either_way (bytes_eq keyword (codes "wrongcall")) (ended WrongCall words) _ reply h) [
        | inl is ↦ lone keyword (codes "wrongcall") words WrongCall reply is.0 is.1 (record { range = tt; text = refl })
        | inr h ↦ elim (either_way (bytes_eq keyword (codes "nobid")) (ended NoBid words) _ reply h) [
          | inl is ↦ lone keyword (codes "nobid") words NoBid reply is.0 is.1 (record { range = tt; text = refl })
          | inr h ↦ elim (either_way (bytes_eq keyword (codes "sell")) (ended Sell words) _ reply h) [
            | inl is ↦ lone keyword (codes "sell") words Sell reply is.0 is.1 (record { range = tt; text = refl })
            | inr h ↦ elim (either_way (bytes_eq keyword (codes "selfcross")) (ended SelfCross words) _ reply h) [
              | inl is ↦ lone keyword (codes "selfcross") words SelfCross reply is.0 is.1 (record { range = tt; text = refl })
              | inr h ↦ elim (either_way (bytes_eq keyword (codes "belowquote")) (below_of words) None reply h) [
                | inl is ↦ subst (λ (w : List ℕ). IsReplyText (join_with_byte 32 (codes "no" ∷ w ∷ words)) reply) (sym (is_word keyword (codes "belowquote") is.0)) (below_is words reply is.1)
                | inr e ↦ absurd cc
              ]
            ]
          ]
        ]
      ]
    ]

-- a reply that was read after a known keyword
after : (keyword known : List ℕ) (words : List (List ℕ)) (reply : Reply) → bytes_eq keyword known ≡ true → IsReplyText (line known words) reply → IsReplyText (line keyword words) reply
after keyword known words reply same is = subst (λ (w : List ℕ). IsReplyText (line w words) reply) (sym (is_word keyword known same)) is

done_is : (words : List (List ℕ)) (reply : Reply) → ended Done words ≡ Some reply → IsReplyText (line (codes "done") words) reply
done_is words reply h =
    let e = ended_is Done reply words h in
    subst (λ (r : Reply). IsReplyText (line (codes "done") words) r) e.0 (record { range = tt; text = ap (line (codes "done")) e.1 })

reply_is : (keyword : List ℕ) (words : List (List ℕ)) (reply : Reply) → read_reply_words keyword words ≡ Some reply → IsReplyText (line keyword words) reply
reply_is keyword words reply h =
    elim (either_way (bytes_eq keyword (codes "taken")) (taken_of words) _ reply h) [
      | inl is ↦ after keyword (codes "taken") words reply is.0 (taken_is words reply is.1)
      | inr h ↦ elim (either_way (bytes_eq keyword (codes "own")) (own_of words) _ reply h) [
        | inl is ↦ after keyword (codes "own") words reply is.0 (own_is words reply is.1)
        | inr h ↦ elim (either_way (bytes_eq keyword (codes "sold")) (sold_of words) _ reply h) [
          | inl is ↦ after keyword (codes "sold") words reply is.0 (sold_is words reply is.1)
          | inr h ↦ elim (either_way (bytes_eq keyword (codes "done")) (ended Done words) _ reply h) [
            | inl is ↦ after keyword (codes "done") words reply is.0 (done_is words reply is.1)
            | inr h ↦ elim (either_way (bytes_eq keyword (codes "no")) (refused_of words) None reply h) [
              | inl is ↦ after keyword (codes "no") words reply is.0 (refusal_is words reply is.1)
              | inr e ↦ absurd cc
            ]
          ]
        ]
      ]
    ]

-- ---- the other lines after a position

abbrev placed_line : ℕ → List ℕ → List (List ℕ) → List ℕ
placed_line position keyword words = join_with_byte 32 (place position ∷ keyword ∷ words)

cash_is : (position : ℕ) (words : List (List ℕ)) (said : Said) → position ≤ 16777215 → read_cash position words ≡ Some said → IsSaidText (placed_line position (codes "cash") words) said
cash_is position [] said le h = absurd cc
cash_is position (word ∷ words) said le h =
    let d = bound (signed_numeral 18 word) (λ dollars. ended (Cash position dollars) words) said h in
    let e = ended_is (Cash position d.0) said words d.2 in
    let words_are : word ∷ words ≡ signed_decimal d.0 ∷ [] = ap (λ (w : List ℕ). w ∷ words) (signed_is 18 word d.0 (lit≤ tt) d.1) ∙ ap (λ (ws : List (List ℕ)). signed_decimal d.0 ∷ ws) e.1 in
    subst (λ (s : Said). IsSaidText (placed_line position (codes "cash") (word ∷ words)) s) e.0
    (record { range = (le, signed_limit 18 18 word d.0 (lit≤ tt) d.1); text = ap (placed_line position (codes "cash")) words_are })

state_is : (word : List ℕ) (closed : Bool) → read_state word ≡ Some closed → word ≡ state_word closed
state_is word closed h =
    elim (either_way (bytes_eq word (codes "open")) (Some false) _ closed h) [
      | inl is ↦ is_word word (codes "open") is.0 ∙ ap state_word (same_Some false closed is.1)
      | inr h ↦ elim (either_way (bytes_eq word (codes "closed")) (Some true) None closed h) [
        | inl is ↦ is_word word (codes "closed") is.0 ∙ ap state_word (same_Some true closed is.1)
        | inr e ↦ absurd cc
      ]
    ]

next_state_is : (words : List (List ℕ)) (next : Bool × List (List ℕ)) → next_state words ≡ Some next → words ≡ state_word next.0 ∷ next.1
next_state_is [] next h = absurd cc
next_state_is (word ∷ words) next h =
    let c = bound (read_state word) (λ closed. Some (closed, words)) next h in
    subst (λ (x : Bool × List (List ℕ)). word ∷ words ≡ state_word x.0 ∷ x.1) (same_Some (c.0, words) next c.2) (ap (λ (w : List ℕ). w ∷ words) (state_is word c.0 c.1))

board_of : ℕ → ℕ → ℕ → Bool → Board
board_of count bid ask closed = record { count = count; bid = bid; ask = ask; closed = closed }

quote_is : (count : ℕ) (words : List (List ℕ)) (said : Said) → count ≤ 16777215 → quote_of count words ≡ Some said → IsSaidText (placed_line count (codes "quote") words) said
unfolding board_of
quote_is count words said le h =
    let b = bound (next_within 10001 words) (λ bid. next_within 10001 bid.1 >>= λ ask. next_state ask.1 >>= λ closed. ended (Quote (board_of count bid.0 ask.0 closed.0)) closed.1) said h in
    let first = next_is 10001 words b.0 (lit< tt) b.1 in
    let a = bound (next_within 10001 b.0.1) (λ ask. next_state ask.1 >>= λ closed. ended (Quote (board_of count b.0.0 ask.0 closed.0)) closed.1) said b.2 in
    let second = next_is 10001 b.0.1 a.0 (lit< tt) a.1 in
    let c = bound (next_state a.0.1) (λ closed. ended (Quote (board_of count b.0.0 a.0.0 closed.0)) closed.1) said a.2 in
    let third = next_state_is a.0.1 c.0 c.1 in
    let e = ended_is (Quote (board_of count b.0.0 a.0.0 c.0.0)) said c.0.1 c.2 in
    let words_are : words ≡ decimal b.0.0 ∷ decimal a.0.0 ∷ state_word c.0.0 ∷ [] =
    followed (decimal b.0.0) first.0 (followed (decimal a.0.0) second.0 (followed (state_word c.0.0) third e.1)) in
    subst (λ (s : Said). IsSaidText (placed_line count (codes "quote") words) s) e.0
    (record { range = (le, first.1, second.1); text = ap (placed_line count (codes "quote")) words_are })

at_is : (position : ℕ) (keyword : List ℕ) (words : List (List ℕ)) (said : Said) → position ≤ 16777215 → (read_reply_words keyword words >>= λ reply. Some (At position reply)) ≡ Some said → IsSaidText (placed_line position keyword words) said
at_is position keyword words said le h =
    let r = bound (read_reply_words keyword words) (λ reply. Some (At position reply)) said h in
    let is = reply_is keyword words r.0 r.1 in
    subst (λ (s : Said). IsSaidText (placed_line position keyword words) s) (same_Some (At position r.0) said r.2)
    (record { range = (le, is.range); text = ap (λ (t : List ℕ). place position ++ 32 ∷ t) is.text ∙ sym (placed position r.0) })

said_after : (position : ℕ) (keyword known : List ℕ) (words : List (List ℕ)) (said : Said) → bytes_eq keyword known ≡ true → IsSaidText (placed_line position known words) said → IsSaidText (placed_line position keyword words) said
said_after position keyword known words said same is = subst (λ (w : List ℕ). IsSaidText (placed_line position w words) said) (sym (is_word keyword known same)) is

placed_is : (position : ℕ) (words : List (List ℕ)) (said : Said) → position ≤ 16777215 → placed_of position words ≡ Some said → IsSaidText (line (place position) words) said
placed_is position [] said le h = absurd cc
placed_is position (keyword ∷ words) said le h =
    elim (either_way (bytes_eq keyword (codes "cash")) (read_cash position words) _ said h) [
      | inl is ↦ said_after position keyword (codes "cash") words said is.0 (cash_is position words said le is.1)
      | inr h ↦ elim (either_way (bytes_eq keyword (codes "quote")) (quote_of position words) _ said h) [
        | inl is ↦ said_after position keyword (codes "quote") words said is.0 (quote_is position words said le is.1)
        | inr h ↦ at_is position keyword words said le h
      ]
    ]

-- ---- lines without a position

fault_is : (number : ℕ) (fault : BidFault) → fault_at number ≡ Some fault → number ≡ fault_number fault
fault_is number fault h =
    elim (either_way (eqb number 1) (Some bid_faults.Syntax) _ fault h) [
      | inl is ↦ eqb-true number 1 is.0 ∙ ap fault_number (same_Some bid_faults.Syntax fault is.1)
      | inr h ↦ elim (either_way (eqb number 2) (Some bid_faults.TooManyPoints) _ fault h) [
        | inl is ↦ eqb-true number 2 is.0 ∙ ap fault_number (same_Some bid_faults.TooManyPoints fault is.1)
        | inr h ↦ elim (either_way (eqb number 3) (Some bid_faults.TooManyUnits) _ fault h) [
          | inl is ↦ eqb-true number 3 is.0 ∙ ap fault_number (same_Some bid_faults.TooManyUnits fault is.1)
          | inr h ↦ elim (either_way (eqb number 4) (Some bid_faults.Price) _ fault h) [
            | inl is ↦ eqb-true number 4 is.0 ∙ ap fault_number (same_Some bid_faults.Price fault is.1)
            | inr h ↦ elim (either_way (eqb number 5) (Some bid_faults.ZeroUnits) None fault h) [
              | inl is ↦ eqb-true number 5 is.0 ∙ ap fault_number (same_Some bid_faults.ZeroUnits fault is.1)
              | inr e ↦ absurd cc
            ]
          ]
        ]
      ]
    ]

bid_fault_is : (words : List (List ℕ)) (said : Said) → bid_fault_of words ≡ Some said → IsSaidText (join_with_byte 32 (codes "no" ∷ codes "bid" ∷ words)) said
bid_fault_is words said h =
    let n = bound (next_within 5 words) (λ number. fault_at number.0 >>= λ fault. ended (Fault (faults.Bid fault)) number.1) said h in
    let number = next_is 5 words n.0 (lit< tt) n.1 in
    let f = bound (fault_at n.0.0) (λ fault. ended (Fault (faults.Bid fault)) n.0.1) said n.2 in
    let e = ended_is (Fault (faults.Bid f.0)) said n.0.1 f.2 in
    let words_are : words ≡ decimal (fault_number f.0) ∷ [] = followed (decimal n.0.0) number.0 e.1 ∙ ap (λ (k : ℕ). decimal k ∷ []) (fault_is n.0.0 f.0 f.1) in
    subst (λ (s : Said). IsSaidText (join_with_byte 32 (codes "no" ∷ codes "bid" ∷ words)) s) e.0
    (record { range = tt; text = ap (λ (ws : List (List ℕ)). join_with_byte 32 (codes "no" ∷ codes "bid" ∷ ws)) words_are })

-- a line of two words
two_words : (first keyword known : List ℕ) (words : List (List ℕ)) (made said : Said) → bytes_eq keyword known ≡ true → ended made words ≡ Some said → IsSaidText (join_with_byte 32 (first ∷ known ∷ [])) made
    → IsSaidText (join_with_byte 32 (first ∷ keyword ∷ words)) said
two_words first keyword known words made said same h is =
    let e = ended_is made said words h in
    let text : join_with_byte 32 (first ∷ keyword ∷ words) ≡ join_with_byte 32 (first ∷ known ∷ []) =
    ap (λ (w : List ℕ). join_with_byte 32 (first ∷ w ∷ words)) (is_word keyword known same) ∙ ap (λ (ws : List (List ℕ)). join_with_byte 32 (first ∷ known ∷ ws)) e.1 in
    subst (λ (s : Said). IsSaidText (join_with_byte 32 (first ∷ keyword ∷ words)) s) e.0 (record { range = is.range; text = text ∙ is.text })

unplaced_is : (words : List (List ℕ)) (said : Said) → unplaced_of words ≡ Some said → IsSaidText (line (codes "no") words) said
unplaced_is [] said h = absurd cc
unplaced_is (keyword ∷ words) said h =
    elim (either_way (bytes_eq keyword (codes "spent")) (ended Spent words) _ said h) [
      | inl is ↦ two_words (codes "no") keyword (codes "spent") words Spent said is.0 is.1 (record { range = tt; text = refl })
      | inr h ↦ elim (either_way (bytes_eq keyword (codes "syntax")) (ended (Fault faults.Syntax) words) _ said h) [
        | inl is ↦ two_words (codes "no") keyword (codes "syntax") words (Fault faults.Syntax) said is.0 is.1 (record { range = tt; text = refl })
        | inr h ↦ elim (either_way (bytes_eq keyword (codes "auction")) (ended (Fault faults.NoSuchAuction) words) _ said h) [
          | inl is ↦ two_words (codes "no") keyword (codes "auction") words (Fault faults.NoSuchAuction) said is.0 is.1 (record { range = tt; text = refl })
          | inr h ↦ elim (either_way (bytes_eq keyword (codes "toolong")) (ended TooLong words) _ said h) [
            | inl is ↦ two_words (codes "no") keyword (codes "toolong") words TooLong said is.0 is.1 (record { range = tt; text = refl })
            | inr h ↦ elim (either_way (bytes_eq keyword (codes "memory")) (ended (Fault faults.Memory) words) _ said h) [
              | inl is ↦ two_words (codes "no") keyword (codes "memory") words (Fault faults.Memory) said is.0 is.1 (record { range = tt; text = refl })
              | inr h ↦ elim (either_way (bytes_eq keyword (codes "bid")) (bid_fault_of words) None said h) [
                | inl is ↦ subst (λ (w : List ℕ). IsSaidText (join_with_byte 32 (codes "no" ∷ w ∷ words)) said) (sym (is_word keyword (codes "bid") is.0)) (bid_fault_is words said is.1)
                | inr e ↦ absurd cc
              ]
            ]
          ]
        ]
      ]
    ]

bye_is : (first : List ℕ) (words : List (List ℕ)) (said : Said) → bytes_eq first (codes "bye") ≡ true → ended Bye words ≡ Some said → IsSaidText (line first words) said
bye_is first words said same h =
    let e = ended_is Bye said words h in
    subst (λ (s : Said). IsSaidText (line first words) s) e.0
    (record { range = tt; text = ap (λ (w : List ℕ). line w words) (is_word first (codes "bye") same) ∙ ap (line (codes "bye")) e.1 })

words_are_said : (first : List ℕ) (words : List (List ℕ)) (said : Said) → said_of_words (first ∷ words) ≡ Some said → IsSaidText (line first words) said
words_are_said first words said h =
    elim (either_way (bytes_eq first (codes "bye")) (ended Bye words) _ said h) [
      | inl is ↦ bye_is first words said is.0 is.1
      | inr h ↦ elim (either_way (bytes_eq first (codes "no")) (unplaced_of words) _ said h) [
        | inl is ↦ subst (λ (w : List ℕ). IsSaidText (line w words) said) (sym (is_word first (codes "no") is.0)) (unplaced_is words said is.1)
        | inr h ↦
            let p = bound (read_place first) (λ position. placed_of position words) said h in
            let at = place_is first p.0 p.1 in
            subst (λ (w : List ℕ). IsSaidText (line w words) said) (sym at.0) (placed_is p.0 words said at.1 p.2)
      ]
    ]

pub said_is : (text : List ℕ) (said : Said) → read_said text ≡ Some said → IsSaidText text said
unfolding read_said
said_is text said h =
    let w = has_words text in
    subst (λ (t : List ℕ). IsSaidText t said) w.2.joined (words_are_said w.0 w.1 said (sym (ap said_of_words w.2.words) ∙ h))

pub said_if : (text : List ℕ) (read : Option Said) → read ≡ read_said text → IfSome read (λ said. IsSaidText text said)
said_if text None e = tt
said_if text (Some said) e = said_is text said (sym e)

-- ---- a reply alone

answer_words : (words : List (List ℕ)) (reply : Reply) → answer_of_words words ≡ Some reply → IsReplyText (join_with_byte 32 words) reply
answer_words [] reply h = absurd cc
answer_words (keyword ∷ words) reply h = reply_is keyword words reply h

pub answer_if : (text : List ℕ) (r : Option Reply) → r ≡ answer_of text → IfSome r (λ reply. IsReplyText text reply)
unfolding answer_of
answer_if text None is = tt
answer_if text (Some reply) is = subst (λ (bytes : List ℕ). IsReplyText bytes reply) (join_with_byte-slice_split 32 text) (answer_words (words_of text) reply (sym is))
