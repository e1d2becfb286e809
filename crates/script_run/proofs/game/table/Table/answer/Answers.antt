use Rattle.std.proofs.Common.{rules, ◌≡◌, List, sym, ap, ◌∙◌, Result, Ok}
use Rattle.script_run.specs.{Point, Request, RequestFault, call_turn, turn}
use Rattle.tac_base.specs.declared.calls.Call.TheVariants as calls
use Rattle.line_protocol.specs.declared.asking.Request.TheVariants as requests
use Rattle.script_run.proofs.game.table.Table.answer.Goals as goal

pub returns-in-Ok-Bid-clause-answered : goal.returns-in-Ok-Bid-clause-answered
returns-in-Ok-Bid-clause-answered c =
    let game = c.args.self.now.game in
    let state = c.args.self.now.state in
    let whole : c.args.asked.now ≡ Ok (requests.Bid c.in-Ok-Bid.good c.in-Ok-Bid.points) = search rules in
    c.call.ensures.answered
    ∙ (ap (λ (points : List Point). call_turn game c.args.agent c.in-Ok-Bid.good (calls.Bid points) state) c.copy.ensures.value
    ∙ ap (λ (asked : Result Request RequestFault). turn game c.args.agent asked state) (sym whole))
