use Rattle.std.proofs.Common.{arith}
use Rattle.score_sheet.proofs.AllDue.{sheet_of}
use Rattle.score_sheet.proofs.joining.sheet.Goals as goal

pub returns : goal.returns
returns g c =
    let found = c.in_ok-found in
    sheet_of c.args.game.now c.args.accounts.now found.found.items c.in_ok-agents.agents.items c.in_ok-agents.ensures (omega (arith, found.ensures.count, found.found.ok.0)) found.ensures.due
