use Rattle.json_dialect.proofs.printing.print_fault.Goals as goal

pub returns-in-Bid-clause-one_line : goal.returns-in-Bid-clause-one_line
returns-in-Bid-clause-one_line c = rw c.in-Bid.is c.print_bid_fault.ensures.one_line
