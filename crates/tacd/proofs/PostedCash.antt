-- The cash in a sheet is what the posts add up to, in each game that was played over links.
use Rattle.std.proofs.Common.{◌≡◌, ℕ, ◌≤◌, List, [], ◌∷◌, ◌++◌, map, fold, refl, sym, ap, ◌∙◌, subst, inl, inr, arith, ℤ, pos, ◌+ℤ◌, Option, Some, None, reverse, IfSome}
use Rattle.std.specs.Global.{Vec}
use Rattle.std.proofs.lemmas.Int.{ints}
use Rattle.std.proofs.lemmas.List.{reverse-append}
use Rattle.std.proofs.lemmas.List.Concat.{flat_map-append}
use Rattle.tac_base.specs.declared.calls.Trade.{Trade}
use Rattle.tacd.specs.Prelude.{GameFile, Entry, AuctionHistory, LinkState, HostedGame, IsLegalGame, Outcome, Outside, Service, IsCashOfPosts}
use Rattle.auction_rules.specs.Effects.{all_trades, dollars}
use Rattle.trade_ledger.specs.CashHistory.{cash_total}
use Rattle.trade_ledger.specs.BookPosts.{trades_of_all}
use Rattle.trade_ledger.proofs.Matching.{dollars-append, matched_totals}
use Rattle.trade_ledger.proofs.SamePosts.{matched_from_posted}
use Rattle.auction_core.specs.ClosedGame.{ClosedGame}
use Rattle.score_sheet.specs.Settlement.{cash_gained}
use Rattle.tacd.specs.declared.answer.Answer.{Answer}
use Rattle.tacd.specs.declared.answer.Played.{Played}
use Rattle.tacd.specs.{ServeAllows, at_pace, hosted_by}
use Rattle.tacd.proofs.ServiceCauses.{IsServedOr}

-- the order of the entries does not matter
reversed : (history : List Entry) (party : ℕ) → dollars (all_trades (reverse history)) party ≡ dollars (all_trades history) party
reversed [] party = refl
reversed (e ∷ history) party =
    let apart : all_trades (reverse (e ∷ history)) ≡ all_trades (reverse history) ++ all_trades (e ∷ []) = ap all_trades (reverse-append (e ∷ []) history) ∙ flat_map-append (λ (x : Entry). x.trades) (reverse history) (e ∷ []) in
    let joined : all_trades (e ∷ history) ≡ all_trades (e ∷ []) ++ all_trades history = flat_map-append (λ (x : Entry). x.trades) (e ∷ []) history in
    omega (
      arith,
      ints,
      ap (λ (ts : List Trade). dollars ts party) apart ∙ dollars-append (all_trades (reverse history)) (all_trades (e ∷ [])) party,
      reversed history party,
      ap (λ (ts : List Trade). dollars ts party) joined ∙ dollars-append (all_trades (e ∷ [])) (all_trades history) party,
    )

-- what a party gains in the trades of an auction
abbrev gain_in : ℕ → AuctionHistory → ℤ
gain_in party auction = dollars (all_trades (reverse auction.history)) party

-- a sum of gains is the gain of all trades
summed : (gained : ℤ) (auctions : List AuctionHistory) (party : ℕ) →
    fold ◌+ℤ◌ gained (map (gain_in party) auctions) ≡ gained +ℤ dollars (trades_of_all (map (λ (a : AuctionHistory). a.history) auctions)) party
summed gained [] party = omega (arith, ints)
summed gained (auction ∷ auctions) party =
    omega (
      arith,
      ints,
      summed (gained +ℤ gain_in party auction) auctions party,
      reversed auction.history party,
      dollars-append (all_trades auction.history) (trades_of_all (map (λ (a : AuctionHistory). a.history) auctions)) party,
    )

-- the cash of a party is the gain of all trades
cash_is : (auctions : List AuctionHistory) (party : ℕ) → cash_gained auctions party ≡ dollars (trades_of_all (map (λ (a : AuctionHistory). a.history) auctions)) party
cash_is auctions party = omega (arith, ints, summed (pos 0) auctions party)

-- in a legal game the cash of each agent is the sum of its nets over all posts
pub cash_of_posts : (game : GameFile) (closed : ClosedGame) → IsLegalGame game closed → IsCashOfPosts closed
cash_of_posts game closed legal =
    let each : (party : ℕ) → party ≤ 8 → cash_gained closed.auctions party ≡ cash_total closed.cash party = λ party low. cash_is closed.auctions party ∙ sym (matched_totals (map (λ (a : AuctionHistory). a.history) closed.auctions) closed.cash party low (matched_from_posted (map (λ (a : AuctionHistory). a.history) closed.auctions) closed.cash legal.matched)) in
    λ i. each 0 (omega arith) i ∷ each 1 (omega arith) i ∷ each 2 (omega arith) i ∷ each 3 (omega arith) i ∷ each 4 (omega arith) i ∷ each 5 (omega arith) i ∷ each 6 (omega arith) i ∷ each 7 (omega arith) i ∷ []

-- ---- the game of a service

-- it was played legally, so its cash is that of the posts
abbrev HasCash : Option Played → Type 0
HasCash played = IfSome played (λ p. IsCashOfPosts p.closed)

no_game : (played : Option Played) → played ≡ None → HasCash played
no_game played none = subst HasCash (sym none) tt

module _ {L : Type 0} (state : L → LinkState) where
  in_game : (hosted : HostedGame) (before after : Outside L) (ended : Vec L) (played : Option Played) (outcome : Outcome) → IsServedOr state hosted before after played ended outcome → HasCash played
  in_game hosted before after ended None outcome plays = tt
  in_game hosted before after ended (Some played) outcome plays = cash_of_posts hosted.game played.closed plays.0.played.lawful.legal_game

  pub in_service : (service : Service) (before after : Outside L) (answer : Answer L) (outcome : Outcome) → ServeAllows state service before after answer outcome → HasCash answer.played
  in_service service before after answer outcome (inl serves) =
      in_game (hosted_by service serves.0) (at_pace service.pace before) after answer.ended answer.played outcome serves.2
  in_service service before after answer outcome (inr refuses) = no_game answer.played refuses.6
