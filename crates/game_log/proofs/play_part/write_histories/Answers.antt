use Rattle.std.proofs.Common.{◌∙◌, ℕ, List, Err, ap, sym, subst, flat_map}
use Rattle.game_log.specs.Prelude.{ClosedGame, cash_text}
use Rattle.log_text.proofs.InOrder.{kept_text, in_order}
use Rattle.game_log.specs.Gathering.{Gathers}
use Rattle.game_log.proofs.Writing.{gathers_both, gathers_part}
use Rattle.log_text.proofs.Trades.{goods_of}
use Rattle.game_log.proofs.play_part.write_histories.Goals as goal

pub returns-in-Ok : goal.returns-in-Ok
returns-in-Ok g c =
    let game = c.args.closed.now in
    let goods = sym (ap (λ (game : ClosedGame). goods_of game.auctions) c.closed.view_is) ∙ c.closed.invariant in
    let auctions = ap (flat_map kept_text) (c.as_slice.ensures.value ∙ ap (λ (game : ClosedGame). game.auctions) c.closed.view_is) in
    let sink = g.K.Sink.state in
    subst (λ (t : List ℕ). Gathers t c.args.gathered.now c.write_cash.new.gathered (sink c.args.sink.now) (sink c.write_cash.new.sink) c.write_cash.result) (in_order game goods) (
    gathers_both _ _ (flat_map kept_text game.auctions) (cash_text game.cash) _ _ _ _ _ _ c.write_cash.result
    auctions (ap (λ (game : ClosedGame). cash_text game.cash) c.closed.view_is) c.in-Ok.ensures c.write_cash.ensures
    )

pub returns-in-Err : goal.returns-in-Err
returns-in-Err g c =
    let game = c.args.closed.now in
    let goods = sym (ap (λ (game : ClosedGame). goods_of game.auctions) c.closed.view_is) ∙ c.closed.invariant in
    let auctions = ap (flat_map kept_text) (c.as_slice.ensures.value ∙ ap (λ (game : ClosedGame). game.auctions) c.closed.view_is) in
    let sink = g.K.Sink.state in
    subst (λ (t : List ℕ). Gathers t c.args.gathered.now c.write_auctions.new.gathered (sink c.args.sink.now) (sink c.write_auctions.new.sink) (Err c.in-Err.failed)) (in_order game goods) (
    gathers_part _ (flat_map kept_text game.auctions) (cash_text game.cash) _ _ _ auctions c.in-Err.ensures
    )
