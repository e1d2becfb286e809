use Rattle.std.proofs.Common.{refl, inr}
use Rattle.game_text.specs.declared.fault.GameFault.TheVariants.{Line}
use Rattle.tac_commands.proofs.LongFiles.{bad_log}
use Rattle.tac_commands.proofs.reading.LogFileValue.read.Goals as goal

pub returns-in-Err-Line-clause-refused : goal.returns-in-Err-Line-clause-refused
returns-in-Err-Line-clause-refused c =
    inr (Line c.in-Err-Line.line 1, refl, bad_log c.args.bytes.now c.in-Err-Line.line (rw c.in-Err-Line.field-0-is at c.in-Err-Line.ensures.exact))
