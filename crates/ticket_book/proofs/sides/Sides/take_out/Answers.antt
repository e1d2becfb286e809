use Rattle.std.proofs.Common.{◌≡◌, List, Some, sym, ap, ◌∙◌, subst, true, false, not, filter}
use Rattle.ticket_book.specs.{Unit as ShownUnit, same_unit, not_taken, SortedSides, IsSideSorted, is_same, both}
use Rattle.ticket_book.proofs.Sorting.{sorted_filter}
use Rattle.ticket_book.proofs.Sided.{sides_of, buy_taken, sell_taken}
use Rattle.ticket_book.proofs.Placing.{sides_less}
use Rattle.ticket_book.proofs.sides.Sides.take_out.Goals as goal

abbrev but : ShownUnit → List ShownUnit → List ShownUnit
but taken units = filter (λ u. not (is_same u taken)) units

buys_are : (c : goal.After-take_out) → both (sides_of c.take_out.new.units.items c.self.inside.sells.items) ≡ not_taken (Some c.args.taken.now) (both (sides_of c.self.inside.buys.items c.self.inside.sells.items))
buys_are c =
    let s = c.self.inside in
    ap (λ (us : List ShownUnit). both (sides_of us s.sells.items)) (c.take_out.ensures ∙ ap (λ (v : ShownUnit). but v s.buys.items) c.shown-shown.ensures)
    ∙ buy_taken c.args.taken.now s.buys.items s.sells.items c.if-taken.true

sells_are : (c : goal.After-take_out-else-taken) → both (sides_of c.self.inside.buys.items c.take_out-else-taken.new.units.items) ≡ not_taken (Some c.args.taken.now) (both (sides_of c.self.inside.buys.items c.self.inside.sells.items))
sells_are c =
    let s = c.self.inside in
    ap (λ (us : List ShownUnit). both (sides_of s.buys.items us)) (c.take_out-else-taken.ensures ∙ ap (λ (v : ShownUnit). but v s.sells.items) c.shown-shown.ensures)
    ∙ sell_taken c.args.taken.now s.buys.items s.sells.items c.if-taken.false

pub invariant_of-self : goal.invariant_of-self
invariant_of-self c =
    let s = c.self.inside in
    sides_less (λ v. not (same_unit v c.args.taken.now)) (sides_of s.buys.items s.sells.items) (sides_of c.take_out.new.units.items s.sells.items) c.self.invariant (buys_are c)
    (subst (IsSideSorted true) (sym c.take_out.ensures) (sorted_filter true (λ u. not (is_same u c.shown-shown.result)) s.buys.items c.self.invariant.buys_sorted)) c.self.invariant.sells_sorted

pub invariant_of-self-else-taken : goal.invariant_of-self-else-taken
invariant_of-self-else-taken c =
    let s = c.self.inside in
    sides_less (λ v. not (same_unit v c.args.taken.now)) (sides_of s.buys.items s.sells.items) (sides_of s.buys.items c.take_out-else-taken.new.units.items) c.self.invariant (sells_are c)
    c.self.invariant.buys_sorted (subst (IsSideSorted false) (sym c.take_out-else-taken.ensures) (sorted_filter false (λ u. not (is_same u c.shown-shown.result)) s.sells.items c.self.invariant.sells_sorted))

pub returns-then-taken : goal.returns-then-taken
returns-then-taken c = buys_are c ∙ ap (λ (s : SortedSides). not_taken (Some c.args.taken.now) (both s)) c.self.view_is

pub returns-else-taken : goal.returns-else-taken
returns-else-taken c = sells_are c ∙ ap (λ (s : SortedSides). not_taken (Some c.args.taken.now) (both s)) c.self.view_is
