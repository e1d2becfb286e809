use Rattle.std.proofs.Common.{refl, List, ap, ◌∙◌}
use Rattle.std.specs.List.{list_any}
use Rattle.tac_base.specs.declared.units.Unit.{Unit as ShownUnit}
use Rattle.ticket_book.specs.Sides.{is_same, of_side}
use Rattle.ticket_book.proofs.Sided.{contains_is}
use Rattle.ticket_book.proofs.sides.Sides.contains.Goals as goal

pub returns : goal.returns
returns c =
    c.is_on.ensures ∙ ap (λ (us : List ShownUnit). list_any (is_same c.shown.result) us) c.side.ensures.value
    ∙ ap (λ (u : ShownUnit). list_any (is_same u) (of_side c.args.self.now c.args.unit.now.buys)) c.shown.ensures
    ∙ contains_is c.args.unit.now.buys c.args.unit.now c.args.self.now refl
