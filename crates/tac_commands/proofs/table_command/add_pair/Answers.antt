use Rattle.tac_commands.proofs.TableRuns.{fault_of, no_log}
use Rattle.tac_commands.proofs.table_command.add_pair.Goals as goal

pub returns-in-Err-read_value-clause-fault : goal.returns-in-Err-read_value-clause-fault
returns-in-Err-read_value-clause-fault g c =
    let files = g.F.Files.state in
    no_log (files c.args.files.now) (files c.read_value.new.files) (files c.read_value-2.new.files) _ _ _ c.in-Ok.game c.in-Ok.ensures.value c.in-Ok.ensures.content c.in-Ok.ensures.names
    c.in-Ok.ensures.quiet c.in-Err-read_value.ensures.names c.in-Err-read_value.refusal c.in-Err-read_value.ensures.unread

pub returns-clause-fault : goal.returns-clause-fault
returns-clause-fault g c =
    let files = g.F.Files.state in
    fault_of (files c.args.files.now) (files c.read_value.new.files) (files c.read_value-2.new.files) _ _ c.args.pair c.in-Ok.game c.in-Ok.ensures.value c.in-Ok.ensures.content
    c.in-Ok.ensures.names c.in-Ok.ensures.quiet c.in-Ok-read_value.ensures.names
    c.in-Ok-read_value.log c.add_sound.result c.in-Ok-read_value.ensures.value c.in-Ok-read_value.ensures.quiet c.add_sound.ensures.fault
