use Rattle.std.proofs.Common.{rules}
use Rattle.floor.proofs.BornOut.{takes_lawful_bid}
use Rattle.floor.proofs.desk.Desk.bid.Goals as goal

pub returns-clause-taken : goal.returns-clause-taken
returns-clause-taken g c = takes_lawful_bid _ _ _ _ _ (search rules)
