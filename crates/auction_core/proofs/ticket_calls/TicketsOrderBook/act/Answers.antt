use Rattle.std.proofs.Common.{rules, ◌≤◌}
use Rattle.auction_core.proofs.Answering.{is_agent, owned_follows}
use Rattle.auction_core.proofs.ticket_calls.TicketsOrderBook.act.Goals as goal

pub returns-in-Some-Own-clause-follows : goal.returns-in-Some-Own-clause-follows
returns-in-Some-Own-clause-follows c = λ setup past stands holds at.
    let here = c.in-Some-Own in
    let le : here.agent ≤ 7 = search rules in
    rw (here.is-1, is_agent c.args.caller here.agent here.ensures)
    (owned_follows setup past here.agent c.args.held.now c.own.result c.owned.result c.args.fills.now _ le holds (c.own.ensures.left setup past stands) c.owned.ensures c.requires.empty (c.own.ensures.stands setup past stands))
