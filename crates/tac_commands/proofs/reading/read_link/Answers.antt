use Rattle.tac_commands.proofs.LongFiles.{good_bytes}
use Rattle.tac_commands.proofs.reading.read_link.Goals as goal

pub returns-in-Ok-clause-value : goal.returns-in-Ok-clause-value
returns-in-Ok-clause-value g c = (c.in-Ok.bytes.items, c.in-Ok.ensures.whole, good_bytes c.in-Ok.bytes.items c.in-Ok.ensures.within)
