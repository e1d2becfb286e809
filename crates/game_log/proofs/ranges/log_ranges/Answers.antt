use Rattle.std.proofs.Common.{◌≤◌, List, length, ap, subst, ◌∙◌, All}
use Rattle.std.specs.List.{AllByRecursion}
use Rattle.std.proofs.lemmas.List.Elements.{All-from_recursion}
use Rattle.game_log.specs.Prelude.{IsGame, CashEntry, IsLoggableCash, AuctionHistory, ClosedGame, IsHistory}
use Rattle.game_log.proofs.RangedSheets.{sheet_is_ranged}
use Rattle.game_log.proofs.ranges.log_ranges.Goals as goal

pub returns : goal.returns
returns c =
    let auctions = c.as_slice.ensures.value ∙ ap (λ (game : ClosedGame). game.auctions) c.closed.view_is in
    let cash = ap (λ (game : ClosedGame). game.cash) c.closed.view_is in
    record {
      seats = c.head_known.ensures.seats;
      histories = All-from_recursion (λ (a : AuctionHistory). IsHistory a.setup.good a.history) c.args.closed.now.auctions
          (subst (AllByRecursion (λ (a : AuctionHistory). IsHistory a.setup.good a.history)) auctions c.auctions_known.ensures.histories);
      few_cash = subst (λ (l : List CashEntry). length l ≤ 238048) cash c.cash_known.ensures.few;
      cash = subst (All IsLoggableCash) cash c.cash_known.ensures.entries;
      scores = sheet_is_ranged c.args.game.now c.args.closed.now (subst IsGame c.game.view_is c.game.invariant) c.settlement_known.ensures.ranged;
    }
