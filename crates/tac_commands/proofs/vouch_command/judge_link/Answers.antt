use Rattle.tac_commands.proofs.VouchedLogs.{vouching_ends}
use Rattle.tac_commands.proofs.vouch_command.judge_link.Goals as goal

pub returns-in-Ok : goal.returns-in-Ok
returns-in-Ok g c = λ files.
    vouching_ends c.args.game.now c.args.log.now (g.D.Dialect.form c.args.dialect.now) c.args.asked.now c.args.said.now files c.in-Ok.vouching _ _ c.write_vouching.result
    (record { yes = c.in-Ok.ensures.yes; whole = c.in-Ok.ensures.whole; numbers = c.in-Ok.ensures.numbers; difference = c.in-Ok.ensures.difference }) c.write_vouching.ensures
