-- A line of a form is answered, a line of no form is not, and what is read is the text of the request.
use Rattle.std.proofs.Common.{◌≡◌, ℕ, ◌^◌, ◌<◌, ◌≤◌, Bool, true, false, cond, ltb, List, [], ◌∷◌, Option, Some, None, Result, Ok, Err, refl, sym, ap, subst, ◌∙◌, arith, decimal, lit<, lit≤, inl, inr, ◌⊎◌, codes, IfOk, bytes_eq, ltb-false}
use Rattle.std.specs.List.{join_with_byte}
use Rattle.std.proofs.lemmas.Bool.Decides.{nat_tests}
use Rattle.std.proofs.lemmas.Fmt.{length-decimal-le}
use Rattle.line_protocol.specs.Prelude.{Point, BidFault, fault_of, numeral, words_of, points_of, judged, verdict, ◌>>=◌}
use Rattle.tac_base.proofs.NumeralLaws.{numeral_is, numeral_again, numeral_limit}
use Rattle.tac_base.proofs.Signed.{Lacks, decimal_lacks}
use Rattle.text_forms.proofs.Joins.{joined_parts}
use Rattle.bid_strings.proofs.Laws.{bid_is, bid_again}
use Rattle.line_protocol.specs.declared.asking.Request.{Request}
use Rattle.line_protocol.specs.declared.asking.Request.TheVariants as requests
use Rattle.line_protocol.specs.declared.asking.RequestFault.{RequestFault}
use Rattle.line_protocol.specs.declared.asking.RequestFault.TheVariants as faults
use Rattle.line_protocol.specs.Requests.{syntax, read_good, plain_of, about_of, with_points, bid_request, request_of_words, request_of}
use Rattle.line_protocol.specs.RequestForms.{Form, BidForm, WithdrawForm, OwnForm, QuoteForm, CashForm, QuitForm, IsForm, form_text, HasForm, answer_to, form_of, IsRequest, IsRequestText}
use Rattle.line_protocol.proofs.JoinedWords.{lacks, words_before, has_words, same_or_not}

-- ---- numbers of at most five digits

number_again : (number : ℕ) → number ≤ 99999 → numeral 5 (decimal number) ≡ Some number
number_again number le = numeral_again 5 number (omega (arith, le)) (length-decimal-le 5 number (lit< tt) (omega (arith, le)) (omega (arith, le)))

number_lacks : (number : ℕ) → number ≤ 99999 → Lacks 32 (decimal number)
number_lacks number le = decimal_lacks 32 number (lit< tt) (omega (arith, le))

number_is : (word : List ℕ) (number : ℕ) → numeral 5 word ≡ Some number → (word ≡ decimal number) × (number ≤ 99999)
number_is word number h =
    let small : number < 10 ^ 5 = numeral_limit 5 5 word number (lit≤ tt) h in
    ((numeral_is 5 word number h (omega (arith, small))).0, omega (arith, small))

-- ---- a line of a form

-- what is asked of the auction of a number
abbrev asked_of : (ℕ → Result Request RequestFault) → Option ℕ → Result Request RequestFault
asked_of ask number = read_good number >>= ask

-- a keyword and a number
pair_words : (keyword : List ℕ) (number : ℕ) → Lacks 32 keyword → number ≤ 99999 → words_of (join_with_byte 32 (keyword ∷ decimal number ∷ [])) ≡ keyword ∷ decimal number ∷ []
pair_words keyword number lacking le = joined_parts 32 keyword (decimal number ∷ []) lacking (number_lacks number le, tt)

bid_words : (keyword number points : List ℕ) → request_of_words (keyword ∷ number ∷ words_of points) ≡ bid_request keyword (read_good (numeral 5 number)) points
bid_words keyword number points =
    let h = has_words points in
    ap (λ (ws : List (List ℕ)). request_of_words (keyword ∷ number ∷ ws)) h.2.words ∙ ap (bid_request keyword (read_good (numeral 5 number))) h.2.joined

pub formed : (form : Form) → IsForm form → request_of (form_text form) ≡ answer_to form
unfolding request_of
formed (BidForm number points) le =
    ap request_of_words (words_before (codes "bid" ∷ decimal number ∷ []) points (lacks 32 (codes "bid") refl, (number_lacks number le, tt)))
    ∙ bid_words (codes "bid") (decimal number) points ∙ ap (asked_of (λ good. with_points good (judged (points_of points)))) (number_again number le)
formed (WithdrawForm number) le =
    ap request_of_words (pair_words (codes "withdraw") number (lacks 32 (codes "withdraw") refl) le) ∙ ap (asked_of (λ good. Ok (requests.Withdraw good))) (number_again number le)
formed (OwnForm number) le =
    ap request_of_words (pair_words (codes "own") number (lacks 32 (codes "own") refl) le) ∙ ap (asked_of (λ good. Ok (requests.Own good))) (number_again number le)
formed (QuoteForm number) le =
    ap request_of_words (pair_words (codes "quote") number (lacks 32 (codes "quote") refl) le) ∙ ap (asked_of (λ good. Ok (requests.Quote good))) (number_again number le)
formed CashForm le = refl
formed QuitForm le = refl

-- ---- a line of no form

-- a line that is no request by its form, or has one
abbrev Formed : Result Request RequestFault → List ℕ → Type 0
Formed answer line = (answer ≡ Err syntax) ⊎ HasForm line

all_same : {A : Type 0} (a b c : Bool) (x : A) → cond a x (cond b x (cond c x x)) ≡ x
all_same true b c x = refl
all_same false true c x = refl
all_same false false true x = refl
all_same false false false x = refl

plain_formed : (keyword : List ℕ) → Formed (plain_of keyword) keyword
plain_formed keyword =
    elim (same_or_not keyword (codes "cash")) [
      | inl e ↦ inr (CashForm, tt, e)
      | inr not_cash ↦ elim (same_or_not keyword (codes "quit")) [
        | inl e ↦ inr (QuitForm, tt, e)
        | inr not_quit ↦ inl (rw (not_cash, not_quit) refl)
      ]
    ]

about_form : (keyword : List ℕ) (number : ℕ) → number ≤ 99999 → Formed (about_of keyword (read_good (Some number))) (join_with_byte 32 (keyword ∷ decimal number ∷ []))
about_form keyword number le =
    let joined = λ (word : List ℕ). join_with_byte 32 (word ∷ decimal number ∷ []) in
    elim (same_or_not keyword (codes "withdraw")) [
      | inl e ↦ inr (WithdrawForm number, le, ap joined e)
      | inr not_withdraw ↦ elim (same_or_not keyword (codes "own")) [
        | inl e ↦ inr (OwnForm number, le, ap joined e)
        | inr not_own ↦ elim (same_or_not keyword (codes "quote")) [
          | inl e ↦ inr (QuoteForm number, le, ap joined e)
          | inr not_quote ↦ inl (rw (not_withdraw, not_own, not_quote) refl)
        ]
      ]
    ]

about_formed : (keyword number : List ℕ) (value : Option ℕ) → numeral 5 number ≡ value → Formed (about_of keyword (read_good value)) (join_with_byte 32 (keyword ∷ number ∷ []))
about_formed keyword number None e = inl (all_same (bytes_eq keyword (codes "withdraw")) (bytes_eq keyword (codes "own")) (bytes_eq keyword (codes "quote")) (Err syntax))
about_formed keyword number (Some n) e =
    let is = number_is number n e in
    rw is.0 (about_form keyword n is.1)

bid_form : (keyword points : List ℕ) (number : ℕ) → number ≤ 99999 → Formed (bid_request keyword (read_good (Some number)) points) (join_with_byte 32 (keyword ∷ decimal number ∷ points ∷ []))
bid_form keyword points number le =
    elim (same_or_not keyword (codes "bid")) [
      | inl e ↦ inr (BidForm number points, le, ap (λ (word : List ℕ). join_with_byte 32 (word ∷ decimal number ∷ points ∷ [])) e)
      | inr not_bid ↦ inl (rw not_bid refl)
    ]

bid_formed : (keyword number points : List ℕ) (value : Option ℕ) → numeral 5 number ≡ value → Formed (bid_request keyword (read_good value) points) (join_with_byte 32 (keyword ∷ number ∷ points ∷ []))
bid_formed keyword number points None e = inl (all_same (bytes_eq keyword (codes "bid")) true true (Err syntax))
bid_formed keyword number points (Some n) e =
    let is = number_is number n e in
    rw is.0 (bid_form keyword points n is.1)

words_formed : (words : List (List ℕ)) → Formed (request_of_words words) (join_with_byte 32 words)
words_formed [] = inl refl
words_formed (keyword ∷ []) = plain_formed keyword
words_formed (keyword ∷ number ∷ []) = about_formed keyword number (numeral 5 number) refl
words_formed (keyword ∷ number ∷ word ∷ words) = bid_formed keyword number (join_with_byte 32 (word ∷ words)) (numeral 5 number) refl

pub no_form : (line : List ℕ) → Formed (request_of line) line
unfolding request_of
no_form line =
    let h = has_words line in
    let read : request_of_words (words_of line) ≡ request_of_words (h.0 ∷ h.1) = ap request_of_words h.2.words in
    subst (λ (l : List ℕ). Formed (request_of_words (words_of line)) l) h.2.joined (subst (λ (r : Result Request RequestFault). Formed r (join_with_byte 32 (h.0 ∷ h.1))) (sym read) (words_formed (h.0 ∷ h.1)))

-- ---- what is read is the text of the request

good_by : (number : ℕ) (b : Bool) (ask : ℕ → Result Request RequestFault) (request : Request) → ltb 27 number ≡ b → (cond b (Err faults.NoSuchAuction) (Ok number) >>= ask) ≡ Ok request → (number ≤ 27) × (ask number ≡ Ok request)
good_by number true ask request e h = absurd cc
good_by number false ask request e h = (ltb-false 27 number e, h)

good_is : (number : ℕ) (ask : ℕ → Result Request RequestFault) (request : Request) → asked_of ask (Some number) ≡ Ok request → (number ≤ 27) × (ask number ≡ Ok request)
good_is number ask request h = good_by number (ltb 27 number) ask request refl h

-- a form of which a request was read
abbrev Found : Form → Request → Type 0
Found form request = IsRequest request × (form ≡ form_of request)

abbrev read_as : Request → Result Request RequestFault
read_as request = Ok request

found_as : (form : Form) (made request : Request) → Found form made → read_as made ≡ read_as request → Found form request
found_as form made request h e = let same : made ≡ request = cc in subst (λ (r : Request). Found form r) same h

verdict_good : (points ps : List Point) (fault : Option BidFault) → fault_of points ≡ fault → verdict points fault ≡ Ok ps → fault_of ps ≡ None
verdict_good points ps None e h = let same : points ≡ ps = cc in ap fault_of (sym same) ∙ e
verdict_good points ps (Some fault) e h = absurd cc

pub judged_good : (read : Option (List Point)) (ps : List Point) → judged read ≡ Ok ps → fault_of ps ≡ None
judged_good None ps h = absurd cc
judged_good (Some points) ps h = verdict_good points ps (fault_of points) refl h

points_found : (number : ℕ) (points : List ℕ) (read : Result (List Point) BidFault) (request : Request) → judged (points_of points) ≡ read → number ≤ 27 → with_points number read ≡ Ok request → Found (BidForm number points) request
points_found number points (Err fault) request e le h = absurd cc
points_found number points (Ok ps) request e le h =
    found_as (BidForm number points) (requests.Bid number ps) request ((le, judged_good (points_of points) ps e), ap (BidForm number) (bid_is points ps e)) h

form_found : (form : Form) (request : Request) → answer_to form ≡ Ok request → Found form request
form_found (BidForm number points) request h =
    let g = good_is number (λ good. with_points good (judged (points_of points))) request h in
    points_found number points (judged (points_of points)) request refl g.0 g.1
form_found (WithdrawForm number) request h =
    let g = good_is number (λ good. Ok (requests.Withdraw good)) request h in
    found_as (WithdrawForm number) (requests.Withdraw number) request (g.0, refl) g.1
form_found (OwnForm number) request h =
    let g = good_is number (λ good. Ok (requests.Own good)) request h in
    found_as (OwnForm number) (requests.Own number) request (g.0, refl) g.1
form_found (QuoteForm number) request h =
    let g = good_is number (λ good. Ok (requests.Quote good)) request h in
    found_as (QuoteForm number) (requests.Quote number) request (g.0, refl) g.1
form_found CashForm request h = found_as CashForm requests.Cash request (tt, refl) h
form_found QuitForm request h = found_as QuitForm requests.Quit request (tt, refl) h

pub request_is : (line : List ℕ) (request : Request) → request_of line ≡ Ok request → IsRequestText line request
request_is line request h =
    elim (no_form line) [
      | inl e ↦ absurd (let bad : Err syntax ≡ Ok request = sym e ∙ h in cc)
      | inr f ↦
          let found = form_found f.0 request (sym (formed f.0 f.1) ∙ ap request_of (sym f.2) ∙ h) in
          record { range = found.0; text = f.2 ∙ ap form_text found.1 }
    ]

pub request_if : (line : List ℕ) (read : Result Request RequestFault) → read ≡ request_of line → IfOk read (λ request. IsRequestText line request)
request_if line (Ok request) e = request_is line request (sym e)
request_if line (Err fault) e = tt

-- ---- each text of a request is read as it

good_again : (number : ℕ) → number ≤ 27 → read_good (Some number) ≡ Ok number
good_again number le = grind (arith, nat_tests)

form_range : (request : Request) → IsRequest request → IsForm (form_of request)
form_range (requests.Bid good points) h = omega (arith, h.0)
form_range (requests.Withdraw good) h = omega (arith, h)
form_range (requests.Own good) h = omega (arith, h)
form_range (requests.Quote good) h = omega (arith, h)
form_range requests.Cash h = tt
form_range requests.Quit h = tt

form_again : (request : Request) → IsRequest request → answer_to (form_of request) ≡ Ok request
form_again (requests.Bid good points) h = rw (good_again good h.0, bid_again points h.1) refl
form_again (requests.Withdraw good) h = rw (good_again good h) refl
form_again (requests.Own good) h = rw (good_again good h) refl
form_again (requests.Quote good) h = rw (good_again good h) refl
form_again requests.Cash h = refl
form_again requests.Quit h = refl

pub request_again : (line : List ℕ) (request : Request) → IsRequestText line request → request_of line ≡ Ok request
request_again line request is = ap request_of is.text ∙ formed (form_of request) (form_range request is.range) ∙ form_again request is.range
