-- Which games have different logs, and what a log shows of them.
use Rattle.std.specs.Prelude.{◌≡◌, ◌++◌, ℕ, ◌^◌, ◌<◌, ⊤, List, ℤ, None, unsigned_abs, length, map}
use Rattle.std.specs.List.{AllByRecursion}
use Rattle.log_text.specs.Prelude.{Call, Reply, Trade, fault_of, left_fault, Entry, CashCall, Post, Read, CashReply, Done, Cash, CashEntry, Verdict, Cause, AuctionHistory, ClosedGame, all_goods, Head, Play, Serve}
use Rattle.tac_base.specs.declared.calls.Call.TheVariants as calls
use Rattle.tac_base.specs.declared.calls.Reply.TheVariants as replies
use Rattle.line_protocol.specs.declared.admission.Verdict.TheVariants as verdicts
use Rattle.log_text.specs.LogText.{play_part}

-- numbers of 64 bits, which all shown numbers are
abbrev pub IsNumber : ℕ → Type 0
IsNumber n = n < 2 ^ 64

abbrev pub IsSigned : ℤ → Type 0
IsSigned z = unsigned_abs z < 2 ^ 64

abbrev pub IsShownCall : Call → Type 0
IsShownCall (calls.Bid points) = fault_of points ≡ None
IsShownCall calls.Withdraw = ⊤
IsShownCall calls.Own = ⊤
IsShownCall (calls.Update tick draw) = IsNumber tick × IsNumber draw
IsShownCall calls.Publish = ⊤
IsShownCall calls.Close = ⊤

abbrev pub IsShownReply : Reply → Type 0
IsShownReply (replies.Taken bought sold) = IsNumber bought × IsNumber sold
IsShownReply (replies.Own holding left) = IsSigned holding × (left_fault left ≡ None)
IsShownReply (replies.Sold units price) = IsNumber units × IsNumber price
IsShownReply replies.Done = ⊤
IsShownReply replies.Closed = ⊤
IsShownReply replies.WrongCall = ⊤
IsShownReply replies.NoBid = ⊤
IsShownReply replies.Sell = ⊤
IsShownReply replies.SelfCross = ⊤
IsShownReply (replies.BelowQuote need at offered) = IsNumber need × IsNumber at × IsNumber offered

pub record AreTradeNumbers (t : Trade) : Type 0 where
  pub buyer : IsNumber t.buyer
  pub seller : IsNumber t.seller
  pub units : IsNumber t.units
  pub price : IsNumber t.price

pub record AreNumbers (e : Entry) : Type 0 where
  pub caller : IsNumber e.caller
  pub call : IsShownCall e.call
  pub reply : IsShownReply e.reply
  pub trades : AllByRecursion AreTradeNumbers e.trades

-- the trades of an entry are of the auction's good, which their lines do not show
abbrev pub AreOf : ℕ → Entry → Type 0
AreOf good e = AllByRecursion (λ t. t.good ≡ good) e.trades

pub record IsShownEntry (good : ℕ) (e : Entry) : Type 0 where
  pub numbers : AreNumbers e
  pub goods : AreOf good e

pub record IsAuction (auction : AuctionHistory) : Type 0 where
  pub good : IsNumber auction.setup.good
  pub count : IsNumber (length auction.history)
  pub entries : AllByRecursion (IsShownEntry auction.setup.good) auction.history

abbrev pub AreCashNumbers : CashCall → Type 0
AreCashNumbers (Post good position nets) = IsNumber good × IsNumber position × AllByRecursion IsSigned nets.dollars
AreCashNumbers (Read agent) = ⊤

abbrev pub IsShownCashReply : CashReply → Type 0
IsShownCashReply Done = ⊤
IsShownCashReply (Cash dollars) = IsSigned dollars

pub record AreEntryNumbers (e : CashEntry) : Type 0 where
  pub caller : IsNumber e.caller
  pub call : AreCashNumbers e.call
  pub reply : IsShownCashReply e.reply

-- a post is done, and a reading is of its caller's own cash
abbrev pub FitsCall : ℕ → CashCall → CashReply → Type 0
FitsCall caller (Post good position nets) Done = ⊤
FitsCall caller (Post good position nets) (Cash dollars) = ⊥
FitsCall caller (Read agent) Done = ⊥
FitsCall caller (Read agent) (Cash dollars) = agent ≡ caller

pub record IsCashEntry (e : CashEntry) : Type 0 where
  pub numbers : AreEntryNumbers e
  pub fits : FitsCall e.caller e.call e.reply

pub record IsCash (cash : List CashEntry) : Type 0 where
  pub count : IsNumber (length cash)
  pub entries : AllByRecursion IsCashEntry cash

-- a game as the types of its parts keep it: the 28 goods in order, each trade in the auction of its good
pub record IsPlayed (game : ClosedGame) : Type 0 where
  pub goods : map (λ auction. auction.setup.good) game.auctions ≡ all_goods
  pub auctions : AllByRecursion IsAuction game.auctions
  pub cash : IsCash game.cash

abbrev pub IsVerdict : Verdict → Type 0
IsVerdict (verdicts.Seated agent) = IsNumber agent
IsVerdict verdicts.Syntax = ⊤
IsVerdict verdicts.WrongWord = ⊤
IsVerdict verdicts.Taken = ⊤
IsVerdict verdicts.Lost = ⊤

abbrev pub IsEnd : ℕ × Cause → Type 0
IsEnd end = IsNumber end.0

-- a head as the types of its parts keep it
abbrev pub IsHead : Head → Type 0
IsHead Play = ⊤
IsHead (Serve links ends missed) = AllByRecursion IsVerdict links × AllByRecursion IsEnd ends × IsNumber missed

-- two games have the same goods and histories, and the same cash history
pub record HaveOneHistory (game other : ClosedGame) : Type 0 where
  pub goods : map (λ auction. auction.setup.good) game.auctions ≡ map (λ auction. auction.setup.good) other.auctions
  pub histories : map (λ auction. auction.history) game.auctions ≡ map (λ auction. auction.history) other.auctions
  pub cash : game.cash ≡ other.cash

-- If the heads and the games have only what a log can show, and one text begins with the first parts of both their logs, then the heads,
-- the histories and the rests are the same.
abbrev pub HaveOwnPlayParts : Head → Head → ClosedGame → ClosedGame → List ℕ → List ℕ → Type 0
HaveOwnPlayParts head other_head game other rest other_rest = IsHead head → IsHead other_head → IsPlayed game → IsPlayed other
    → play_part head game ++ rest ≡ play_part other_head other ++ other_rest → (head ≡ other_head) × HaveOneHistory game other × (rest ≡ other_rest)
