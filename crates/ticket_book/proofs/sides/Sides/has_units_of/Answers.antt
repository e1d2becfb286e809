use Rattle.std.proofs.Common.{◌≡◌, ℕ, Bool, List, sym, ap, ◌∙◌, ◌||◌, ◌==◌}
use Rattle.std.specs.List.{list_any}
use Rattle.tac_base.specs.declared.units.Unit.{Unit as ShownUnit}
use Rattle.ticket_book.specs.Sides.{SortedSides, both}
use Rattle.ticket_book.proofs.Sided.{has_units_is}
use Rattle.ticket_book.proofs.sides.Sides.has_units_of.Goals as goal

abbrev has : ℕ → List ShownUnit → Bool
has agent units = list_any (λ u. u.agent == agent) units

pub returns-then-has_units_of-clause-value : goal.returns-then-has_units_of-clause-value
returns-then-has_units_of-clause-value c =
    let buys = c.self.inside.buys.items in
    let sells = c.self.inside.sells.items in
    let first : c.has_units_of.result ≡ has c.args.agent buys = c.has_units_of.ensures ∙ ap (has c.get-number.result) c.deref.ensures.0 ∙ ap (λ (n : ℕ). has n buys) c.get-number.ensures.value in
    c.if-has_units_of.true
    ∙ sym (ap (λ (b : Bool). b || has c.args.agent sells) (sym first ∙ c.if-has_units_of.true))
    ∙ has_units_is c.args.agent buys sells ∙ ap (λ (s : SortedSides). list_any (λ u. u.agent == c.args.agent) (both s)) c.self.view_is

pub returns-else-has_units_of-clause-value : goal.returns-else-has_units_of-clause-value
returns-else-has_units_of-clause-value c =
    let buys = c.self.inside.buys.items in
    let sells = c.self.inside.sells.items in
    let first : c.has_units_of.result ≡ has c.args.agent buys = c.has_units_of.ensures ∙ ap (has c.get-number.result) c.deref.ensures.0 ∙ ap (λ (n : ℕ). has n buys) c.get-number.ensures.value in
    c.has_units_of-else-has_units_of.ensures ∙ ap (has c.get-number.result) c.deref-else-has_units_of.ensures.0 ∙ ap (λ (n : ℕ). has n sells) c.get-number.ensures.value
    ∙ sym (ap (λ (b : Bool). b || has c.args.agent sells) (sym first ∙ c.if-has_units_of.false))
    ∙ has_units_is c.args.agent buys sells ∙ ap (λ (s : SortedSides). list_any (λ u. u.agent == c.args.agent) (both s)) c.self.view_is
