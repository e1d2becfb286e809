use Rattle.std.proofs.Common.{ℕ, ◌≡◌, ◌≤◌, Some, sym, ap, ◌∙◌, arith, get_or}
use Rattle.ticket_book.specs.{TicketBook, TicketsStandFor, Own as OwnCall, entry_of}
use Rattle.auction_rules.proofs.Idle.{own_idle}
use Rattle.ticket_book.proofs.Keeping.{book_of, idle_keeps, owns}
use Rattle.ticket_book.proofs.book.Tickets.own.Goals as goal

pub returns-in-Some-clause-left : goal.returns-in-Some-clause-left
returns-in-Some-clause-left c = λ setup past stood.
    let t = c.self.inside in
    let book : TicketBook = book_of t.good t.bids t.sides t.closed in
    let kept : TicketsStandFor book setup past = rw c.self.view_is stood in
    let le : c.args.agent ≤ 7 = omega (arith, c.get.ensures.range, c.get.ensures.value) in
    let at : get_or t.bids c.args.agent c.index-self-get.result ≡ Some c.in-Some.bid = ap (λ (n : ℕ). get_or t.bids n c.index-self-get.result) (sym c.get.ensures.value) ∙ c.in-Some.is in
    c.left_of.ensures ∙ owns setup past book kept c.args.agent c.index-self-get.result (Some c.in-Some.bid) le (sym at)

pub returns-in-Some-clause-stands : goal.returns-in-Some-clause-stands
returns-in-Some-clause-stands c = λ setup past stood. idle_keeps setup past c.args.self.now stood (entry_of setup past c.args.agent OwnCall) (own_idle setup past c.args.agent (omega (arith, c.get.ensures.range, c.get.ensures.value)))

pub returns-in-None-clause-stands : goal.returns-in-None-clause-stands
returns-in-None-clause-stands c = λ setup past stood. idle_keeps setup past c.args.self.now stood (entry_of setup past c.args.agent OwnCall) (own_idle setup past c.args.agent (omega (arith, c.get.ensures.range, c.get.ensures.value)))
