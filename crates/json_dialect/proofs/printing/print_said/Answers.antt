use Rattle.std.proofs.Common.{◌^◌, ◌<◌, rules, arith, SFits, w64, unsigned_abs}
use Rattle.std.proofs.lemmas.Int.{ints}
use Rattle.json_dialect.proofs.OneObject.{cash_line}
use Rattle.json_dialect.proofs.printing.print_said.Goals as goal

pub returns-in-At-clause-one_line : goal.returns-in-At-clause-one_line
returns-in-At-clause-one_line c = rw c.in-At.is c.print_answer.ensures.one_line

pub returns-in-Cash-clause-one_line : goal.returns-in-Cash-clause-one_line
returns-in-Cash-clause-one_line c =
    let position : c.in-Cash.position < 2 ^ 32 = search rules in
    let fits : SFits w64 c.in-Cash.dollars = search rules in
    let dollars : unsigned_abs c.in-Cash.dollars < 2 ^ 64 = search (arith, ints) in
    rw c.in-Cash.is (cash_line c.in-Cash.position c.in-Cash.dollars position dollars)

pub returns-in-Quote-clause-one_line : goal.returns-in-Quote-clause-one_line
returns-in-Quote-clause-one_line c = rw c.in-Quote.is c.print_board.ensures.one_line

pub returns-in-Fault-clause-one_line : goal.returns-in-Fault-clause-one_line
returns-in-Fault-clause-one_line c = rw c.in-Fault.is c.print_fault.ensures.one_line
