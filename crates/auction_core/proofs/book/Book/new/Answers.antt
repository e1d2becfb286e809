use Rattle.std.proofs.Common.{◌∙◌}
use Rattle.auction_core.proofs.book.Book.new.Goals as goal

pub returns-in-Hotel : goal.returns-in-Hotel
returns-in-Hotel c = λ setup good rules. c.new-in-Hotel.ensures setup good (rules ∙ c.in-Hotel.is)

pub returns-in-Tickets : goal.returns-in-Tickets
returns-in-Tickets c = λ setup good rules. c.new-in-Tickets.ensures setup good (rules ∙ c.in-Tickets.is)
