use Rattle.std.proofs.Common.{◌∙◌, ap, sym, subst}
use Rattle.std.specs.List.{AllByRecursion}
use Rattle.game_log.specs.Prelude.{ClosedGame, IsAuction, IsCash}
use Rattle.log_text.proofs.Trades.{goods_of}
use Rattle.game_log.proofs.play_part.game_known.Goals as goal

pub returns : goal.returns
returns c = record {
  goods = sym (ap (λ (game : ClosedGame). goods_of game.auctions) c.closed.view_is) ∙ c.closed.invariant;
  auctions = subst (AllByRecursion IsAuction) (c.as_slice.ensures.value ∙ ap (λ (game : ClosedGame). game.auctions) c.closed.view_is) c.auctions_known.ensures.shown;
  cash = subst IsCash (ap (λ (game : ClosedGame). game.cash) c.closed.view_is) c.cash_known.ensures.shown;
}
