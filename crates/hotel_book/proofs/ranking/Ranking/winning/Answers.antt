use Rattle.std.proofs.Common.{◌≡◌, ◌≤◌, ℕ, List, get_or, ap, ◌∙◌, arith}
use Rattle.hotel_book.specs.Ranked.{won}
use Rattle.auction_rules.proofs.Agents.{agents_get}
use Rattle.hotel_book.proofs.ranking.Ranking.winning.Goals as goal

pub returns-clause-value : goal.returns-clause-value
returns-clause-value c =
    let le : c.args.agent ≤ 7 = omega (arith, c.get.ensures.value, c.get.ensures.range) in
    let place : c.from.result ≡ c.args.agent = omega (arith, c.get.ensures.value, c.from.ensures) in
    rw (← c.self.view_is)
    (ap (λ (n : ℕ). get_or c.self.inside.winning n 0) place ∙ ap (λ (ns : List ℕ). get_or ns c.args.agent 0) c.self.invariant.wins
    ∙ agents_get c.args.agent (won c.self.inside.rooms c.self.inside.units.items) 0 le)
