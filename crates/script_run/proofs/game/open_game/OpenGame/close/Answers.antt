use Rattle.std.proofs.Common.{sym, ap, ◌∙◌}
use Rattle.script_run.specs.{closed_of, SeenGame}
use Rattle.script_run.proofs.OpenGames.{closed_is, goods_are}
use Rattle.script_run.proofs.game.open_game.OpenGame.close.Goals as goal

pub invariant_of-result : goal.invariant_of-result
invariant_of-result c = goods_are c.self.inside.game.now c.self.inside.auctions.items c.self.invariant.setups

pub returns : goal.returns
returns c =
    sym (closed_is c.self.inside.game.now c.self.inside.auctions.items c.self.inside.cash c.self.inside.ticks c.self.invariant.setups)
    ∙ ap (λ (v : SeenGame). closed_of v.game v.state) c.self.view_is
