use Rattle.std.proofs.Common.{rules, ◌≤◌, sym, ◌∙◌}
use Rattle.auction_core.proofs.Answering.{is_clock, is_agent, owned_follows}
use Rattle.auction_core.proofs.flight_calls.FlightOrderBook.act.Goals as goal

pub returns-in-None-Update-clause-follows : goal.returns-in-None-Update-clause-follows
returns-in-None-Update-clause-follows c = λ setup past stands holds at.
    let here = c.in-None-Update in rw (here.is-1, is_clock c.args.caller (sym here.is-0 ∙ c.agent_of.ensures)) (c.update.ensures.follows setup past stands at)

pub returns-in-None-Close-clause-follows : goal.returns-in-None-Close-clause-follows
returns-in-None-Close-clause-follows c = λ setup past stands holds at.
    let here = c.in-None-Close in rw (here.is-1, is_clock c.args.caller (sym here.is-0 ∙ c.agent_of.ensures)) (c.close.ensures.follows setup past stands at)

pub returns-in-Some-Own-clause-follows : goal.returns-in-Some-Own-clause-follows
returns-in-Some-Own-clause-follows c = λ setup past stands holds at.
    let here = c.in-Some-Own in
    let le : here.agent ≤ 7 = search rules in
    rw (here.is-1, is_agent c.args.caller here.agent here.ensures)
    (owned_follows setup past here.agent c.args.held.now c.own.result c.owned.result c.args.fills.now _ le holds (c.own.ensures.left setup past stands) c.owned.ensures c.requires.empty (c.own.ensures.stands setup past stands))
