use Rattle.std.proofs.Common.{sym, subst}
use Rattle.game_text.specs.Games.{IsGame}
use Rattle.draw_maker.specs.Words.{generator}
use Rattle.draw_maker.proofs.DrawnGames.{game_in_turn, made_game_range}
use Rattle.draw_maker.proofs.games.make_game.Goals as goal

pub returns-clause-exact : goal.returns-clause-exact
returns-clause-exact c =
    game_in_turn (generator c.args.seed 54) c.new-generator.result c.draw_each.new.generator c.draw_order-order.new.generator c.draw_each-2.new.generator
    c.numbered.result c.draw_each.new.values c.draw_order-order.result c.draw_each-2.new.values c.draw_each-3.new.values
    c.new-generator.ensures c.draw_each.ensures.left c.draw_order-order.ensures.left c.draw_each-2.ensures.left
    c.numbered.ensures c.draw_each.ensures.value c.draw_order-order.ensures.value c.draw_each-2.ensures.value c.draw_each-3.ensures.value

pub invariant_of-result : goal.invariant_of-result
invariant_of-result c = subst IsGame (sym (returns-clause-exact c)) (made_game_range c.args.seed)

pub returns-clause-range : goal.returns-clause-range
returns-clause-range c = invariant_of-result c
