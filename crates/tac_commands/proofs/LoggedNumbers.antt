-- Games in the ranges of logs meet the premises of the law of logs.
use Rattle.std.proofs.Common.{◌≡◌, ℕ, ◌+◌, ◌≤◌, List, [], ◌∷◌, length, map, refl, ap, ◌∙◌, arith}
use Rattle.std.specs.List.{AllByRecursion, enumerate_from, range_with_len}
use Rattle.std.proofs.lemmas.List.Elements.{recursion_from_All, All-weaker}
use Rattle.tac_base.specs.Ranges.{IsNet}
use Rattle.tac_commands.specs.Prelude.{GameFile, CashCall, CashReply, CashEntry, AuctionHistory, ClosedGame, setup_of, Verdict, Cause, histories_of, IsNumber, IsSigned, IsAuction, AreCashNumbers, IsShownCashReply, FitsCall, IsCashEntry, IsVerdict, IsHead, LoggedGame, IsLoggedVerdict, IsLoggedEnd, IsLoggedHead, IsLoggedCash, IsLoggedCashEntry, AreHistories, auctions_in, IsRanged}
use Rattle.auction_rules.specs.History.{Entry}
use Rattle.trade_ledger.specs.declared.cash_calls.CashCall.TheVariants.{Post, Read}
use Rattle.trade_ledger.specs.declared.cash_calls.CashReply.TheVariants.{Done, Cash}
use Rattle.line_protocol.specs.declared.admission.Verdict.TheVariants as verdicts
use Rattle.line_protocol.specs.Heads.{Head, Play, Serve}
use Rattle.log_text.specs.Logged as logged
use Rattle.log_text.proofs.ShownNumbers.{number_is, auction_is, net_is}

-- ---- the head

verdict_is : (verdict : Verdict) → IsLoggedVerdict verdict → IsVerdict verdict
verdict_is (verdicts.Seated agent) low = number_is agent (omega (arith, low))
verdict_is verdicts.Syntax low = tt
verdict_is verdicts.WrongWord low = tt
verdict_is verdicts.Taken low = tt
verdict_is verdicts.Lost low = tt

pub head_is : (head : Head) → IsLoggedHead head → IsHead head
head_is Play is = tt
head_is (Serve links ends missed) is = (
  recursion_from_All IsVerdict links (All-weaker IsLoggedVerdict IsVerdict verdict_is links is.links_are),
  recursion_from_All logged.IsEnd ends (All-weaker IsLoggedEnd logged.IsEnd (λ (end : ℕ × Cause) (low : end.0 ≤ 7). number_is end.0 (omega (arith, low))) ends is.ends_are),
  number_is missed (let few = is.few_missed in omega (arith, few)),
)

-- ---- the histories

auctions_are : (game : GameFile) (good : ℕ) (histories : List (List Entry)) → good + length histories ≤ 28 → AreHistories good histories →
    AllByRecursion IsAuction (map (λ (p : ℕ × List Entry). record { setup = setup_of p.0 game; history = p.1 }) (enumerate_from good histories))
auctions_are game good [] few are = tt
auctions_are game good (history ∷ histories) few are = (auction_is (record { setup = setup_of good game; history = history }) (omega (arith, few)) are.0, auctions_are game (good + 1) histories (omega (arith, few)) are.1)

goods_are : (game : GameFile) (good : ℕ) (histories : List (List Entry)) →
    map (λ (a : AuctionHistory). a.setup.good) (map (λ (p : ℕ × List Entry). record { setup = setup_of p.0 game; history = p.1 }) (enumerate_from good histories)) ≡ range_with_len good (length histories)
goods_are game good [] = refl
goods_are game good (history ∷ histories) = ap (λ (l : List ℕ). good ∷ l) (goods_are game (good + 1) histories)

histories_are : (game : GameFile) (good : ℕ) (histories : List (List Entry)) →
    map (λ (a : AuctionHistory). a.history) (map (λ (p : ℕ × List Entry). record { setup = setup_of p.0 game; history = p.1 }) (enumerate_from good histories)) ≡ histories
histories_are game good [] = refl
histories_are game good (history ∷ histories) = ap (λ (l : List (List Entry)). history ∷ l) (histories_are game (good + 1) histories)

-- ---- the cash history

cash_is : (caller : ℕ) (call : CashCall) (reply : CashReply) → IsLoggedCash caller call reply → AreCashNumbers call × IsShownCashReply reply × FitsCall caller call reply × IsNumber caller
cash_is caller (Post good position nets) Done is = (
  (number_is good (omega (arith, is.1)), number_is position (omega (arith, is.2)), recursion_from_All IsSigned nets.dollars (All-weaker IsNet IsSigned net_is nets.dollars is.4)),
  tt,
  tt,
  number_is caller (omega (arith, is.0)),
)
cash_is caller (Post good position nets) (Cash dollars) is = absurd is
cash_is caller (Read agent) Done is = absurd is
cash_is caller (Read agent) (Cash dollars) is = (tt, (let few = is.2 in omega (arith, few)), is.1, number_is caller (omega (arith, is.0)))

cash_entry_is : (e : CashEntry) → IsLoggedCashEntry e → IsCashEntry e
cash_entry_is e is = let parts = cash_is e.caller e.call e.reply is in record { numbers = record { caller = parts.3; call = parts.0; reply = parts.1 }; fits = parts.2 }

-- ---- the game of a log

abbrev pub game_in : GameFile → LoggedGame → ClosedGame
game_in game log = record { auctions = auctions_in game log; cash = log.cash }

pub same_histories : (game : GameFile) (log : LoggedGame) → histories_of (game_in game log) ≡ log.histories
same_histories game log = histories_are game 0 log.histories

pub game_is : (game : GameFile) (log : LoggedGame) → IsRanged log → logged.IsPlayed (game_in game log)
game_is game log is = record {
  goods = goods_are game 0 log.histories ∙ ap (range_with_len 0) is.goods;
  auctions = auctions_are game 0 log.histories (let goods = is.goods in omega (arith, goods)) is.histories;
  cash = record { count = number_is (length log.cash) (let few = is.few_cash in omega (arith, few)); entries = recursion_from_All IsCashEntry log.cash (All-weaker IsLoggedCashEntry IsCashEntry cash_entry_is log.cash is.cash) };
}
