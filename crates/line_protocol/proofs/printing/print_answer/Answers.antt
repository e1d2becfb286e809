use Rattle.std.proofs.Common.{◌∷◌, [], ◌^◌, ◌<◌, refl, append_assoc, arith, rules, decimal, SFits, w32, codes, unsigned_abs}
use Rattle.std.specs.Fmt.{signed_decimal}
use Rattle.std.proofs.lemmas.Int.{ints}
use Rattle.bid_strings.specs.Spelling.{spelling}
use Rattle.line_protocol.proofs.OneLine.{known_line, number_line, signed_line, joined_line}
use Rattle.line_protocol.proofs.printing.print_answer.Goals as goal

pub returns-in-Taken-clause-one_line : goal.returns-in-Taken-clause-one_line
returns-in-Taken-clause-one_line c =
    let bought : c.in-Taken.bought < 2 ^ 32 = search rules in
    let sold : c.in-Taken.sold < 2 ^ 32 = search rules in
    rw c.in-Taken.is (joined_line (codes "taken" ∷ decimal c.in-Taken.bought ∷ decimal c.in-Taken.sold ∷ []) (known_line (codes "taken") refl, (number_line c.in-Taken.bought bought, (number_line c.in-Taken.sold sold, tt))))

pub returns-in-Own-clause-one_line : goal.returns-in-Own-clause-one_line
returns-in-Own-clause-one_line c =
    let fits : SFits w32 c.in-Own.holding = search rules in
    let holding : unsigned_abs c.in-Own.holding < 2 ^ 64 = search (arith, ints) in
    rw c.in-Own.is (joined_line (codes "own" ∷ signed_decimal c.in-Own.holding ∷ spelling c.in-Own.left ∷ []) (known_line (codes "own") refl, (signed_line c.in-Own.holding holding, (c.print_left.ensures.one_line, tt))))

pub returns-in-Sold-clause-one_line : goal.returns-in-Sold-clause-one_line
returns-in-Sold-clause-one_line c =
    let units : c.in-Sold.units < 2 ^ 32 = search rules in
    let price : c.in-Sold.price < 2 ^ 32 = search rules in
    rw c.in-Sold.is (joined_line (codes "sold" ∷ decimal c.in-Sold.units ∷ decimal c.in-Sold.price ∷ []) (known_line (codes "sold") refl, (number_line c.in-Sold.units units, (number_line c.in-Sold.price price, tt))))

pub returns-in-BelowQuote-clause-one_line : goal.returns-in-BelowQuote-clause-one_line
returns-in-BelowQuote-clause-one_line c =
    let need : c.in-BelowQuote.need < 2 ^ 32 = search rules in
    let at : c.in-BelowQuote.at < 2 ^ 32 = search rules in
    let offered : c.in-BelowQuote.offered < 2 ^ 32 = search rules in
    rw c.in-BelowQuote.is (joined_line (codes "no belowquote" ∷ decimal c.in-BelowQuote.need ∷ decimal c.in-BelowQuote.at ∷ decimal c.in-BelowQuote.offered ∷ [])
    (known_line (codes "no belowquote") refl, (number_line c.in-BelowQuote.need need, (number_line c.in-BelowQuote.at at, (number_line c.in-BelowQuote.offered offered, tt)))))

pub returns-in-BelowQuote-clause-value : goal.returns-in-BelowQuote-clause-value
returns-in-BelowQuote-clause-value c =
    rw (c.in-BelowQuote.is, c.print_number-in-BelowQuote-3.ensures.value, c.print_number-in-BelowQuote-2.ensures.value, c.print_number-in-BelowQuote.ensures.value, c.push_bytes-in-BelowQuote.ensures, c.from-in-BelowQuote.ensures, c.from-in-BelowQuote-2.ensures, c.from-in-BelowQuote-3.ensures)
    (simp append_assoc)
