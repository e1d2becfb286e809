use Rattle.std.proofs.Common.{not, Some, sym, ap, ◌∙◌}
use Rattle.ticket_book.proofs.Sided.{maybe_on, front_by}
use Rattle.ticket_book.proofs.sides.Sides.front.Goals as goal

pub returns-in-Some : goal.returns-in-Some
returns-in-Some c =
    ap Some c.with_side.ensures ∙ ap (maybe_on (not c.args.arriving.now.buys)) (sym c.in-Some.is)
    ∙ front_by c.args.arriving.now c.args.self.now c.side.result.now c.get.result c.first_of_others.result c.side.ensures.value c.get.ensures.value c.side.ensures.sorted c.first_of_others.ensures

pub returns-in-None : goal.returns-in-None
returns-in-None c =
    ap (maybe_on (not c.args.arriving.now.buys)) (sym c.in-None.is)
    ∙ front_by c.args.arriving.now c.args.self.now c.side.result.now c.get.result c.first_of_others.result c.side.ensures.value c.get.ensures.value c.side.ensures.sorted c.first_of_others.ensures
