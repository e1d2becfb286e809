use Rattle.std.proofs.Common.{◌≡◌, ℕ, List, sym, ap, ◌∙◌, subst, true, false, not, ◌==◌, filter}
use Rattle.tac_base.specs.declared.units.Unit.{Unit as ShownUnit}
use Rattle.ticket_book.specs.Sides.{SortedSides, IsSideSorted, both, others}
use Rattle.ticket_book.proofs.Sorting.{sorted_filter}
use Rattle.ticket_book.proofs.Sided.{sides_of, others_taken}
use Rattle.ticket_book.proofs.Placing.{sides_less}
use Rattle.ticket_book.proofs.sides.Sides.take_out_of.Goals as goal

abbrev but : ℕ → List ShownUnit → List ShownUnit
but agent units = filter (λ u. not (u.agent == agent)) units

sides_are : (c : goal.After-take_out_of-2) → both (sides_of c.take_out_of.new.units.items c.take_out_of-2.new.units.items) ≡ others c.args.agent (both (sides_of c.self.inside.buys.items c.self.inside.sells.items))
sides_are c =
    let s = c.self.inside in
    let buys : c.take_out_of.new.units.items ≡ but c.args.agent s.buys.items = c.take_out_of.ensures ∙ ap (λ (n : ℕ). but n s.buys.items) c.get-number.ensures.value in
    let sells : c.take_out_of-2.new.units.items ≡ but c.args.agent s.sells.items = c.take_out_of-2.ensures ∙ ap (λ (n : ℕ). but n s.sells.items) c.get-number.ensures.value in
    (λ i. both (sides_of (buys i) (sells i))) ∙ others_taken c.args.agent s.buys.items s.sells.items

pub invariant_of-self : goal.invariant_of-self
invariant_of-self c =
    let s = c.self.inside in
    sides_less (λ u. not (u.agent == c.args.agent)) (sides_of s.buys.items s.sells.items) (sides_of c.take_out_of.new.units.items c.take_out_of-2.new.units.items) c.self.invariant (sides_are c)
    (subst (IsSideSorted true) (sym c.take_out_of.ensures) (sorted_filter true (λ u. not (u.agent == c.get-number.result)) s.buys.items c.self.invariant.buys_sorted))
    (subst (IsSideSorted false) (sym c.take_out_of-2.ensures) (sorted_filter false (λ u. not (u.agent == c.get-number.result)) s.sells.items c.self.invariant.sells_sorted))

pub returns : goal.returns
returns c = sides_are c ∙ ap (λ (s : SortedSides). others c.args.agent (both s)) c.self.view_is
