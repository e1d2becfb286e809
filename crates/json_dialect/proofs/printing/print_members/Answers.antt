use Rattle.std.proofs.Common.{◌^◌, ◌<◌, refl, rules, decimal, arith, SFits, w32, codes, unsigned_abs}
use Rattle.std.proofs.lemmas.Int.{ints}
use Rattle.line_protocol.proofs.OneLine.{known_line}
use Rattle.json_dialect.specs.JsonReplies.{pair_text}
use Rattle.json_dialect.proofs.OneObject.{two_line, numbers_line, own_line}
use Rattle.json_dialect.proofs.printing.print_members.Goals as goal

pub returns-in-Taken-clause-one_line : goal.returns-in-Taken-clause-one_line
returns-in-Taken-clause-one_line c =
    let bought : c.in-Taken.bought < 2 ^ 32 = search rules in
    let sold : c.in-Taken.sold < 2 ^ 32 = search rules in
    rw c.in-Taken.is (two_line (codes "\"taken\":") (pair_text (decimal c.in-Taken.bought) (decimal c.in-Taken.sold)) (known_line (codes "\"taken\":") refl) (numbers_line c.in-Taken.bought c.in-Taken.sold bought sold))

pub returns-in-Own-clause-one_line : goal.returns-in-Own-clause-one_line
returns-in-Own-clause-one_line c =
    let fits : SFits w32 c.in-Own.holding = search rules in
    let holding : unsigned_abs c.in-Own.holding < 2 ^ 64 = search (arith, ints) in
    rw c.in-Own.is (own_line c.in-Own.holding c.in-Own.left holding c.print_own.ensures.one_line)

pub returns-in-Sold-clause-one_line : goal.returns-in-Sold-clause-one_line
returns-in-Sold-clause-one_line c =
    let units : c.in-Sold.units < 2 ^ 32 = search rules in
    let price : c.in-Sold.price < 2 ^ 32 = search rules in
    rw c.in-Sold.is (two_line (codes "\"sold\":") (pair_text (decimal c.in-Sold.units) (decimal c.in-Sold.price)) (known_line (codes "\"sold\":") refl) (numbers_line c.in-Sold.units c.in-Sold.price units price))

pub returns-in-BelowQuote-clause-one_line : goal.returns-in-BelowQuote-clause-one_line
returns-in-BelowQuote-clause-one_line c = rw c.in-BelowQuote.is c.print_below.ensures.one_line

pub returns-in-Closed-clause-value : goal.returns-in-Closed-clause-value
returns-in-Closed-clause-value c = rw c.in-Closed.is c.push_bytes-in-Closed.ensures

pub returns-in-WrongCall-clause-value : goal.returns-in-WrongCall-clause-value
returns-in-WrongCall-clause-value c = rw c.in-WrongCall.is c.push_bytes-in-WrongCall.ensures

pub returns-in-NoBid-clause-value : goal.returns-in-NoBid-clause-value
returns-in-NoBid-clause-value c = rw c.in-NoBid.is c.push_bytes-in-NoBid.ensures

pub returns-in-SelfCross-clause-value : goal.returns-in-SelfCross-clause-value
returns-in-SelfCross-clause-value c = rw c.in-SelfCross.is c.push_bytes-in-SelfCross.ensures
