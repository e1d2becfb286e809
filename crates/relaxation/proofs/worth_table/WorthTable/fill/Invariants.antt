use Rattle.relaxation.proofs.TableLaws.{IsWorthSoFar}
use Rattle.relaxation.proofs.worth_table.WorthTable.fill.Given as goal

abbrev pub invariant-loop-number : goal.invariant-loop-number
invariant-loop-number l = IsWorthSoFar l.account.clients l.number l.self.dollars
