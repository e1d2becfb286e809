use Rattle.std.proofs.Common.{ℕ, ◌<◌, ◌++◌, [], ◌∷◌, sym, ap, ◌∙◌, subst, ◌==◌, count_by, sum_by}
use Rattle.ticket_book.specs.Sides.{SortedSides, both}
use Rattle.ticket_book.proofs.Placing.{room, buy_placed, sell_placed, buy_kept, sell_kept}
use Rattle.ticket_book.proofs.sides.Sides.put.Goals as goal

abbrev IsFew : ℕ → SortedSides → Type 0
IsFew agent sides = count_by (λ u. u.agent == agent) (both sides) < 16

pub put-requires : goal.put-requires
put-requires c =
    let s = c.self.inside in
    (room c.args.unit.now.agent s.buys.items s.sells.items c.requires.owned c.self.invariant (subst (IsFew c.args.unit.now.agent) (sym c.self.view_is) c.requires.few)).0

pub put-requires-else-unit : goal.put-requires-else-unit
put-requires-else-unit c =
    let s = c.self.inside in
    (room c.args.unit.now.agent s.buys.items s.sells.items c.requires.owned c.self.invariant (subst (IsFew c.args.unit.now.agent) (sym c.self.view_is) c.requires.few)).1

pub invariant_of-self : goal.invariant_of-self
invariant_of-self c =
    let s = c.self.inside in
    buy_kept s.buys.items s.sells.items c.args.unit.now c.shown-shown.result c.shown-shown.ensures c.self.invariant c.requires.owned c.requires.priced
    (subst (IsFew c.args.unit.now.agent) (sym c.self.view_is) c.requires.few) c.put.new.units.items c.if-unit.true c.put.ensures

pub invariant_of-self-else-unit : goal.invariant_of-self-else-unit
invariant_of-self-else-unit c =
    let s = c.self.inside in
    sell_kept s.buys.items s.sells.items c.args.unit.now c.shown-shown.result c.shown-shown.ensures c.self.invariant c.requires.owned c.requires.priced
    (subst (IsFew c.args.unit.now.agent) (sym c.self.view_is) c.requires.few) c.put-else-unit.new.units.items c.if-unit.false c.put-else-unit.ensures

pub returns-then-unit : goal.returns-then-unit
returns-then-unit c = λ weight.
    let s = c.self.inside in
    buy_placed s.buys.items s.sells.items c.args.unit.now c.shown-shown.result c.shown-shown.ensures c.put.new.units.items c.if-unit.true c.put.ensures weight
    ∙ ap (λ (sides : SortedSides). sum_by weight (both sides ++ c.args.unit.now ∷ [])) c.self.view_is

pub returns-else-unit : goal.returns-else-unit
returns-else-unit c = λ weight.
    let s = c.self.inside in
    sell_placed s.buys.items s.sells.items c.args.unit.now c.shown-shown.result c.shown-shown.ensures c.put-else-unit.new.units.items c.if-unit.false c.put-else-unit.ensures weight
    ∙ ap (λ (sides : SortedSides). sum_by weight (both sides ++ c.args.unit.now ∷ [])) c.self.view_is
