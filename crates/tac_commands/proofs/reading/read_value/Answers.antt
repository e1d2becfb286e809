use Rattle.tac_commands.proofs.reading.read_value.Goals as goal

pub returns-in-Err-clause-unread : goal.returns-in-Err-clause-unread
returns-in-Err-clause-unread g c = rw c.kind.ensures at c.in-Err.ensures.unread
