use Rattle.tac_commands.proofs.MadeScripts.{not_bad, not_long}
use Rattle.tac_commands.proofs.trial_command.play_made.Goals as goal

pub unreachable-requires : goal.unreachable-requires
unreachable-requires g c =
    not_bad c.args.count c.args.script.now c.in-Err-Line.field-0-0 c.in-Err-Line.field-0-1 c.requires.few c.requires.made (rw c.in-Err-Line.field-0-is at c.in-Err-Line.ensures)

pub unreachable-requires-in-Err-TooLong : goal.unreachable-requires-in-Err-TooLong
unreachable-requires-in-Err-TooLong g c = not_long c.args.count c.args.script.now c.requires.few c.requires.made (rw c.in-Err-TooLong.field-0-is at c.in-Err-TooLong.ensures)
