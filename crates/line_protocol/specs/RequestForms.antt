-- The forms of a request line, and what a line of a form is answered.
use Rattle.std.specs.Prelude.{◌≡◌, ℕ, ◌≤◌, ⊤, List, [], ◌∷◌, Some, None, Result, Ok, decimal, codes}
use Rattle.std.specs.List.{join_with_byte}
use Rattle.line_protocol.specs.Prelude.{fault_of, points_of, judged, spelling, ◌>>=◌}
use Rattle.line_protocol.specs.declared.asking.Request.{Request}
use Rattle.line_protocol.specs.declared.asking.Request.TheVariants as requests
use Rattle.line_protocol.specs.declared.asking.RequestFault.{RequestFault}
use Rattle.line_protocol.specs.Requests.{read_good, with_points}

-- a line of a form, with its number and the bytes in place of points
pub data Form : Type 0 where
  BidForm : (number : ℕ) → (points : List ℕ) → Form
  WithdrawForm : (number : ℕ) → Form
  OwnForm : (number : ℕ) → Form
  QuoteForm : (number : ℕ) → Form
  CashForm : Form
  QuitForm : Form

-- a number has at most five digits
abbrev pub IsForm : Form → Type 0
IsForm (BidForm number points) = number ≤ 99999
IsForm (WithdrawForm number) = number ≤ 99999
IsForm (OwnForm number) = number ≤ 99999
IsForm (QuoteForm number) = number ≤ 99999
IsForm CashForm = ⊤
IsForm QuitForm = ⊤

abbrev pub form_words : Form → List (List ℕ)
form_words (BidForm number points) = codes "bid" ∷ decimal number ∷ points ∷ []
form_words (WithdrawForm number) = codes "withdraw" ∷ decimal number ∷ []
form_words (OwnForm number) = codes "own" ∷ decimal number ∷ []
form_words (QuoteForm number) = codes "quote" ∷ decimal number ∷ []
form_words CashForm = codes "cash" ∷ []
form_words QuitForm = codes "quit" ∷ []

-- the words, separated by single spaces
abbrev pub form_text : Form → List ℕ
form_text form = join_with_byte 32 (form_words form)

-- a line has one of the forms
abbrev pub HasForm : List ℕ → Type 0
HasForm line = (form : Form) × IsForm form × (line ≡ form_text form)

-- the request of a form, if there is such an auction and the points are good
abbrev pub answer_to : Form → Result Request RequestFault
answer_to (BidForm number points) = read_good (Some number) >>= λ good. with_points good (judged (points_of points))
answer_to (WithdrawForm number) = read_good (Some number) >>= λ good. Ok (requests.Withdraw good)
answer_to (OwnForm number) = read_good (Some number) >>= λ good. Ok (requests.Own good)
answer_to (QuoteForm number) = read_good (Some number) >>= λ good. Ok (requests.Quote good)
answer_to CashForm = Ok requests.Cash
answer_to QuitForm = Ok requests.Quit

-- the form of a request
abbrev pub form_of : Request → Form
form_of (requests.Bid good points) = BidForm good (spelling points)
form_of (requests.Withdraw good) = WithdrawForm good
form_of (requests.Own good) = OwnForm good
form_of (requests.Quote good) = QuoteForm good
form_of requests.Cash = CashForm
form_of requests.Quit = QuitForm

-- a request in range: a good is one of the 28, and points are a bid
abbrev pub IsRequest : Request → Type 0
IsRequest (requests.Bid good points) = (good ≤ 27) × (fault_of points ≡ None)
IsRequest (requests.Withdraw good) = good ≤ 27
IsRequest (requests.Own good) = good ≤ 27
IsRequest (requests.Quote good) = good ≤ 27
IsRequest requests.Cash = ⊤
IsRequest requests.Quit = ⊤

-- a line is the text of a request
pub record IsRequestText (line : List ℕ) (request : Request) : Type 0 where
  pub range : IsRequest request
  pub text : line ≡ form_text (form_of request)
