use Rattle.std.proofs.Common.{rules, ◌≤◌, sym, ◌∙◌}
use Rattle.auction_core.proofs.Answering.{is_clock, is_agent, owned_follows}
use Rattle.auction_core.proofs.hotel_calls.HotelOrderBook.act.Goals as goal

pub returns-in-Some-Bid-clause-follows : goal.returns-in-Some-Bid-clause-follows
returns-in-Some-Bid-clause-follows c = λ setup past stands holds at.
    let here = c.in-Some-Bid in rw (here.is-1, is_agent c.args.caller here.agent here.ensures) (c.bid.ensures.follows setup past stands at)

pub returns-in-Some-Own-clause-follows : goal.returns-in-Some-Own-clause-follows
returns-in-Some-Own-clause-follows c = λ setup past stands holds at.
    let here = c.in-Some-Own in
    let le : here.agent ≤ 7 = search rules in
    rw (here.is-1, is_agent c.args.caller here.agent here.ensures)
    (owned_follows setup past here.agent c.args.held.now c.own.result c.owned.result c.args.fills.now _ le holds (c.own.ensures.left setup past stands) c.owned.ensures c.requires.empty (c.own.ensures.stands setup past stands))

pub returns-in-None-Publish-clause-follows : goal.returns-in-None-Publish-clause-follows
returns-in-None-Publish-clause-follows c = λ setup past stands holds at.
    let here = c.in-None-Publish in rw (here.is-1, is_clock c.args.caller (sym here.is-0 ∙ c.agent_of.ensures), c.requires.empty) (c.publish.ensures.follows setup past stands at)

pub returns-in-None-Close-clause-follows : goal.returns-in-None-Close-clause-follows
returns-in-None-Close-clause-follows c = λ setup past stands holds at.
    let here = c.in-None-Close in rw (here.is-1, is_clock c.args.caller (sym here.is-0 ∙ c.agent_of.ensures)) (c.close.ensures.follows setup past stands at)
