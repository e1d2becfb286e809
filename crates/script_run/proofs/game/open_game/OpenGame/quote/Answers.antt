use Rattle.std.proofs.Common.{ap, ◌∙◌}
use Rattle.script_run.specs.{board, setup_of, past_at, SeenGame}
use Rattle.script_run.proofs.OpenGames.{found, board_is}
use Rattle.script_run.proofs.game.open_game.OpenGame.quote.Goals as goal

pub returns : goal.returns
returns c =
    let is = found c.self.inside.game.now c.self.inside.auctions.items c.from.result c.get.result c.args.good c.index.result.now
    c.self.invariant.setups c.from.ensures c.get.ensures.value c.get.ensures.range c.index.ensures in
    c.board.ensures.board
    ∙ (board_is c.self.inside.game.now c.self.inside.auctions.items c.args.good c.index.result.now c.self.invariant.setups is
    ∙ ap (λ (v : SeenGame). board (setup_of c.args.good v.game).rules (past_at v.state.pasts c.args.good)) c.self.view_is)
