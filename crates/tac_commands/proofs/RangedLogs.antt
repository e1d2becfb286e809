-- The log of a legal game is in the ranges of logs, except for the lines of its certificates.
use Rattle.std.proofs.Common.{◌≡◌, ℕ, ◌+◌, ◌<◌, ◌≤◌, ◌^◌, Bool, List, [], ◌∷◌, length, map, get_or, drop, sym, ap, ◌∙◌, subst, arith, ℤ, unsigned_abs, Some, slice_get, nat_lt}
use Rattle.std.specs.List.{AllByRecursion, range_with_len}
use Rattle.std.proofs.lemmas.Int.{ints}
use Rattle.std.proofs.lemmas.List.{length-map}
use Rattle.std.proofs.lemmas.List.Elements.{All-from_recursion, All-filter, recursion_from_All}
use Rattle.std.proofs.lemmas.List.Sums.{length-filter, count_by-le-length}
use Rattle.std.proofs.lemmas.Option.{slice_get-get_or}
use Rattle.tac_commands.specs.{agents, GameFile, Setup, CashCall, CashReply, CashEntry, IsFitCash, reply_by, AuctionHistory, ClosedGame, setup_of, Scored, Verdict, Cause, histories_of, LoggedGame, IsLoggedEnd, IsLoggedHead, AreHistories, IsLoggedCash, IsLoggedCashEntry, logged_seats, seatings, IsSoundHead, IsRanged, HasSeats, IsShowable, IsSheetOf, IsLawfulGame, log_of_game}
use Rattle.auction_core.specs.Ranges.{IsHistory}
use Rattle.trade_ledger.specs.declared.cash_calls.CashCall.TheVariants.{Post, Read}
use Rattle.trade_ledger.specs.declared.cash_calls.CashReply.TheVariants.{Done, Cash}
use Rattle.trade_ledger.specs.CashKeeping.{IsWithin, IsLoggableCash}
use Rattle.line_protocol.specs.Heads.{Head, Play, Serve}
use Rattle.tac_commands.proofs.PostRanges.{IsLow, post_low}

-- ---- the head

ends_low : (ends : List (ℕ × Cause)) → AllByRecursion (λ (agent : ℕ). agent ≤ 7) (map (λ (end : ℕ × Cause). end.0) ends) → AllByRecursion IsLoggedEnd ends
ends_low [] all = tt
ends_low (end ∷ ends) all = (all.0, ends_low ends all.1)

agents_low : AllByRecursion (λ (agent : ℕ). agent ≤ 7) agents
agents_low = (omega arith, (omega arith, (omega arith, (omega arith, (omega arith, (omega arith, (omega arith, (omega arith, tt))))))))

-- whether an agent has a seat
abbrev has_seat : List Verdict → ℕ → Bool
has_seat verdicts agent = nat_lt 0 (seatings verdicts agent)

seated_low : (verdicts : List Verdict) → AllByRecursion (λ (agent : ℕ). agent ≤ 7) (logged_seats verdicts)
seated_low verdicts = recursion_from_All (λ (agent : ℕ). agent ≤ 7) (logged_seats verdicts) (All-filter (has_seat verdicts) (λ (agent : ℕ). agent ≤ 7) agents (All-from_recursion (λ (agent : ℕ). agent ≤ 7) agents agents_low))

few_seated : (verdicts : List Verdict) → length (logged_seats verdicts) ≤ 8
few_seated verdicts = let count = length-filter (has_seat verdicts) agents in let few = count_by-le-length (has_seat verdicts) agents in omega (arith, count, few)

head_ranged : (log : LoggedGame) (head : Head) → HasSeats head → IsSoundHead log head → IsLoggedHead head
head_ranged log Play seats sound = tt
head_ranged log (Serve links ends missed) seats sound = record {
  few_links = let few = sound.few_links in omega (arith, few);
  links_are = seats;
  few_ends = let count : length ends ≡ length (logged_seats links) = sym (length-map ends (λ (end : ℕ × Cause). end.0)) ∙ ap length sound.each_end in let few = few_seated links in omega (arith, count, few);
  ends_are = All-from_recursion IsLoggedEnd ends (ends_low ends (subst (AllByRecursion (λ (agent : ℕ). agent ≤ 7)) (sym sound.each_end) (seated_low links)));
  few_missed = let few = sound.few_missed in omega (arith, few);
}

-- ---- the histories

histories_from : (game : GameFile) (n : ℕ) (auctions : List AuctionHistory) → map (λ (a : AuctionHistory). a.setup) auctions ≡ map (λ (good : ℕ). setup_of good game) (range_with_len n (length auctions)) →
    AllByRecursion (λ (a : AuctionHistory). IsHistory a.setup.good a.history) auctions → AreHistories n (map (λ (a : AuctionHistory). a.history) auctions)
histories_from game n [] is all = tt
histories_from game n (a ∷ auctions) is all =
    let first : a.setup ≡ setup_of n game = ap (λ (l : List Setup). get_or l 0 a.setup) is in
    (subst (λ (s : Setup). IsHistory s.good a.history) first all.0, histories_from game (n + 1) auctions (ap (drop 1) is) all.1)

-- ---- the cash history

dollars_small : (dollars : ℤ) → IsWithin 600000000000000 dollars → unsigned_abs dollars < 10 ^ 18
dollars_small dollars is = omega (arith, ints, is.0, is.1)

entry_ranged : (e : CashEntry) (totals : ℕ → ℤ) → IsLoggableCash e → IsFitCash e.caller e.call → e.reply ≡ reply_by totals e.call → IsLow e.call → IsLoggedCashEntry e
entry_ranged e totals is fit replied low = by_call e.caller e.call e.reply is fit replied low
  where
    by_call : (caller : ℕ) (call : CashCall) (reply : CashReply) → IsLoggableCash (record { caller = caller; call = call; reply = reply }) → IsFitCash caller call → reply ≡ reply_by totals call → IsLow call → IsLoggedCash caller call reply
    by_call caller (Post good position nets) Done is' fit' replied' low' = (is'.caller, is'.call.0, low', is'.call.2, is'.call.3)
    by_call caller (Post good position nets) (Cash dollars) is' fit' replied' low' = absurd cc
    by_call caller (Read agent) Done is' fit' replied' low' = absurd cc
    by_call caller (Read agent) (Cash dollars) is' fit' replied' low' = let few : agent ≤ 7 = is'.call in (subst (λ (n : ℕ). n ≤ 7) fit' few, fit', dollars_small dollars is'.reply)

-- ---- the log

pub ranged_log : (game : GameFile) (head : Head) (closed : ClosedGame) (sheet : List Scored) → IsShowable game head closed → IsLawfulGame game closed → IsSheetOf game closed sheet → IsSoundHead (log_of_game head closed sheet) head →
    IsRanged (log_of_game head closed sheet)
ranged_log game head closed sheet shown lawful scores sound = record {
  head = head_ranged (log_of_game head closed sheet) head shown.seats sound;
  goods = goods;
  histories = histories;
  few_cash = shown.few_cash;
  cash = λ k d inside.
      let at : slice_get closed.cash k ≡ Some (get_or closed.cash k d) = slice_get-get_or closed.cash k d inside in
      let legal = lawful.cash k (get_or closed.cash k d) at in
      entry_ranged (get_or closed.cash k d) _ (shown.cash k d inside) legal.0 legal.1 (post_low (histories_of closed) closed.cash histories lawful.matched k d inside);
  agents = scores.count;
  scores = shown.scores sheet scores;
}
  where
    many : length closed.auctions ≡ 28
    many = sym (length-map closed.auctions (λ (a : AuctionHistory). a.setup)) ∙ ap length lawful.setups

    goods : length (histories_of closed) ≡ 28
    goods = length-map closed.auctions (λ (a : AuctionHistory). a.history) ∙ many

    histories : AreHistories 0 (histories_of closed)
    histories = histories_from game 0 closed.auctions (lawful.setups ∙ ap (λ (n : ℕ). map (λ (good : ℕ). setup_of good game) (range_with_len 0 n)) (sym many))
        (recursion_from_All (λ (a : AuctionHistory). IsHistory a.setup.good a.history) closed.auctions shown.histories)
