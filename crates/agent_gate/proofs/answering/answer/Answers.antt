use Rattle.std.proofs.Common.{◌<◌, ◌≤◌, ◌≡◌, Ok, refl, arith, rules, subst, sym}
use Rattle.agent_gate.specs.{Request, Said, Desk, Asks, TakesTurn}
use Rattle.line_protocol.specs.declared.asking.Request.TheVariants as requests
use Rattle.tac_base.specs.declared.calls.Call.TheVariants as calls
use Rattle.agent_gate.proofs.Making.{call_made, cash_read, board_seen, agent_left}
use Rattle.agent_gate.proofs.answering.answer.Goals as goal

-- what was answered to a request that is this one, in these words
as_asked : (request asked : Request) (said spoken : Said) (before after : Desk) → asked ≡ request → spoken ≡ said → TakesTurn (λ item. item ≡ Asks (Ok request)) before after said
    → TakesTurn (λ item. item ≡ Asks (Ok asked)) before after spoken
as_asked request asked said spoken before after is tells turn =
    subst (λ (w : Request × Said). TakesTurn (λ item. item ≡ Asks (Ok w.0)) before after w.1) (λ i. (sym is i, sym tells i)) turn

pub returns-in-Bid-clause-turn : goal.returns-in-Bid-clause-turn
returns-in-Bid-clause-turn g c =
    let small : c.in-Bid.good ≤ 27 = search rules in
    let lt : c.in-Bid.good < 28 = omega (arith, small) in
    as_asked _ _ _ _ _ _ c.in-Bid.is c.said_of.ensures (call_made (requests.Bid c.in-Bid.good c.in-Bid.points) c.in-Bid.good (calls.Bid c.in-Bid.points) _ _ _ refl lt c.bid.ensures.outcome)

pub returns-in-Withdraw-clause-turn : goal.returns-in-Withdraw-clause-turn
returns-in-Withdraw-clause-turn g c =
    let small : c.in-Withdraw.good ≤ 27 = search rules in
    let lt : c.in-Withdraw.good < 28 = omega (arith, small) in
    as_asked _ _ _ _ _ _ c.in-Withdraw.is c.said_of-in-Withdraw.ensures (call_made (requests.Withdraw c.in-Withdraw.good) c.in-Withdraw.good calls.Withdraw _ _ _ refl lt c.withdraw.ensures.outcome)

pub returns-in-Own-clause-turn : goal.returns-in-Own-clause-turn
returns-in-Own-clause-turn g c =
    let small : c.in-Own.good ≤ 27 = search rules in
    let lt : c.in-Own.good < 28 = omega (arith, small) in
    as_asked _ _ _ _ _ _ c.in-Own.is c.said_of-in-Own.ensures (call_made (requests.Own c.in-Own.good) c.in-Own.good calls.Own _ _ _ refl lt c.own.ensures.outcome)

pub returns-in-Quote-clause-turn : goal.returns-in-Quote-clause-turn
returns-in-Quote-clause-turn g c =
    let small : c.in-Quote.good ≤ 27 = search rules in
    let lt : c.in-Quote.good < 28 = omega (arith, small) in
    as_asked _ _ _ _ _ _ c.in-Quote.is refl (board_seen c.in-Quote.good c.quote.result _ _ lt c.quote.ensures.seen)

pub returns-in-Cash-clause-turn : goal.returns-in-Cash-clause-turn
returns-in-Cash-clause-turn g c = as_asked _ _ _ _ _ _ c.in-Cash.is c.said_of_cash.ensures (cash_read _ _ _ c.cash.ensures.outcome)

pub returns-in-Quit-clause-turn : goal.returns-in-Quit-clause-turn
returns-in-Quit-clause-turn g c = as_asked _ _ _ _ _ _ c.in-Quit.is refl (agent_left _)
