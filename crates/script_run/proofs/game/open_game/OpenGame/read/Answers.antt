use Rattle.std.proofs.Common.{[], ◌∷◌, ◌++◌, ap, ◌∙◌}
use Rattle.trade_ledger.specs.declared.cash_calls.CashCall.TheVariants.{Read}
use Rattle.script_run.specs.{reading_of, SeenGame}
use Rattle.script_run.proofs.CashMore.{cash_more}
use Rattle.script_run.proofs.game.open_game.OpenGame.read.Goals as goal

pub returns-clause-cash : goal.returns-clause-cash
returns-clause-cash c =
    let e = c.act.ensures.entry in
    cash_more c.self.inside.cash c.act.new.self c.args.agent (Read c.args.agent) e.0 c.act.ensures.legal e.1 (e.2 ∙ c.caller.ensures) e.3
    ∙ ap (λ (v : SeenGame). v.state.cash ++ reading_of v.state.cash c.args.agent ∷ []) c.self.view_is
