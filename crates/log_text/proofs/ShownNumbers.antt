-- Histories and entries of the cash book in their ranges show numbers of 64 bits.
use Rattle.std.proofs.Common.{◌≡◌, ℕ, ◌≤◌, length, arith, ℤ}
use Rattle.std.proofs.lemmas.Int.{ints}
use Rattle.std.proofs.lemmas.List.Elements.{recursion_from_All, All-weaker}
use Rattle.log_text.specs.{Call, Reply, Trade, IsCall, IsNet, IsReply, IsTrade, Entry, CashCall, Post, Read, CashReply, Done, Cash, CashEntry, AuctionHistory, IsEntry, IsHistory, IsNumber, IsSigned, IsShownCall, IsShownReply, AreTradeNumbers, IsShownEntry, IsAuction, AreCashNumbers, IsShownCashReply, FitsCall, IsCashEntry}
use Rattle.tac_base.specs.declared.calls.Call.TheVariants as calls
use Rattle.tac_base.specs.declared.calls.Reply.TheVariants as replies
use Rattle.trade_ledger.specs.CashKeeping.{IsCashCall, IsCashReply, IsLoggableCash}

pub number_is : (n : ℕ) → n ≤ 4294967295 → IsNumber n
number_is n low = omega (arith, low)

-- ---- histories

pub logged_call : (call : Call) → IsCall call → IsShownCall call
logged_call (calls.Bid points) h = h
logged_call calls.Withdraw h = tt
logged_call calls.Own h = tt
logged_call (calls.Update tick draw) h = let le = h.1 in let few = h.2 in (omega (arith, le), omega (arith, few))
logged_call calls.Publish h = tt
logged_call calls.Close h = tt

pub logged_reply : (reply : Reply) → IsReply reply → IsShownReply reply
logged_reply (replies.Taken bought sold) h = let a = h.0 in let b = h.1 in (omega (arith, a), omega (arith, b))
logged_reply (replies.Own holding left) h = let a = h.0 in (omega (arith, a), h.1)
logged_reply (replies.Sold units price) h = let a = h.0 in let b = h.1 in (omega (arith, a), omega (arith, b))
logged_reply replies.Done h = tt
logged_reply replies.Closed h = tt
logged_reply replies.WrongCall h = tt
logged_reply replies.NoBid h = tt
logged_reply replies.Sell h = tt
logged_reply replies.SelfCross h = tt
logged_reply (replies.BelowQuote need at offered) h = let a = h.0 in let b = h.1 in let c = h.2 in (omega (arith, a), omega (arith, b), omega (arith, c))

pub trade_is : (good : ℕ) (t : Trade) → IsTrade good t → AreTradeNumbers t
trade_is good t is = record {
  buyer = number_is t.buyer (let low = is.buyer in omega (arith, low));
  seller = number_is t.seller (let low = is.seller in omega (arith, low));
  units = number_is t.units (let few = is.few in omega (arith, few));
  price = number_is t.price (let low = is.price in omega (arith, low));
}

entry_is : (good : ℕ) (e : Entry) → IsEntry good e → IsShownEntry good e
entry_is good e is = record {
  numbers = record {
    caller = number_is e.caller (let low = is.caller in omega (arith, low));
    call = logged_call e.call is.call;
    reply = logged_reply e.reply is.reply;
    trades = recursion_from_All AreTradeNumbers e.trades (All-weaker (IsTrade good) AreTradeNumbers (trade_is good) e.trades is.trades);
  };
  goods = recursion_from_All (λ (t : Trade). t.good ≡ good) e.trades (All-weaker (IsTrade good) (λ (t : Trade). t.good ≡ good) (λ t is'. is'.good_is) e.trades is.trades);
}

pub auction_is : (auction : AuctionHistory) → auction.setup.good ≤ 27 → IsHistory auction.setup.good auction.history → IsAuction auction
auction_is auction low is =
    let good = auction.setup.good in
    record {
      good = number_is good (omega (arith, low));
      count = number_is (length auction.history) (let few = is.few in omega (arith, few));
      entries = recursion_from_All (IsShownEntry good) auction.history (All-weaker (IsEntry good) (IsShownEntry good) (entry_is good) auction.history is.entries);
    }

-- ---- the cash history

pub net_is : (dollars : ℤ) → IsNet dollars → IsSigned dollars
net_is dollars is = let low = is.low in let high = is.high in omega (arith, ints, low, high)

call_numbers : (call : CashCall) → IsCashCall call → AreCashNumbers call
call_numbers (Post good position nets) is = (number_is good (omega (arith, is.0)), number_is position is.1, recursion_from_All IsSigned nets.dollars (All-weaker IsNet IsSigned net_is nets.dollars is.3))
call_numbers (Read agent) is = tt

reply_numbers : (reply : CashReply) → IsCashReply reply → IsShownCashReply reply
reply_numbers Done is = tt
reply_numbers (Cash dollars) is = omega (arith, ints, is.0, is.1)

pub cash_entry_is : (e : CashEntry) → IsLoggableCash e → FitsCall e.caller e.call e.reply → IsCashEntry e
cash_entry_is e is fits = record {
  numbers = record { caller = number_is e.caller (let low = is.caller in omega (arith, low)); call = call_numbers e.call is.call; reply = reply_numbers e.reply is.reply };
  fits = fits;
}
