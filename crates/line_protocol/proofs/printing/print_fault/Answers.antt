use Rattle.line_protocol.proofs.OneLine.{fault_line}
use Rattle.line_protocol.proofs.printing.print_fault.Goals as goal

pub returns-in-Bid-clause-one_line : goal.returns-in-Bid-clause-one_line
returns-in-Bid-clause-one_line c = rw c.in-Bid.is (fault_line c.in-Bid.fault)
