use Rattle.std.proofs.Common.{◌≡◌, [], sym, ap, ◌∙◌, arith, drop}
use Rattle.std.proofs.lemmas.List.{drop_all}
use Rattle.std.proofs.lemmas.List.Elements.{recursion_from_All}
use Rattle.ticket_book.specs.Sides.{both, others}
use Rattle.ticket_book.proofs.Matched.{untaken, untaken_others}
use Rattle.ticket_book.proofs.sides.Sides.match_units.Goals as goal

pub returns-clause-standing : goal.returns-clause-standing
returns-clause-standing c = λ agent owned.
    let none_more : drop c.loop-unit.unit-index c.args.arriving.now ≡ [] = drop_all c.loop-unit.unit-index c.args.arriving.now (omega arith) in
    ap (others agent) (sym (ap (untaken (both c.loop-unit.self)) none_more) ∙ c.loop-unit.invariant.standing)
    ∙ untaken_others agent (both c.args.self.now) c.args.arriving.now (recursion_from_All (λ u. u.agent ≡ agent) c.args.arriving.now owned)
