use Rattle.std.proofs.Common.{◌≡◌, ◌≤◌, List, ◌++◌, length, sym, ap, ◌∙◌, subst, arith, ◌==◌, not, count_by, sum_by, All}
use Rattle.std.proofs.lemmas.List.Elements.{All-from_recursion, recursion_from_All}
use Rattle.std.proofs.lemmas.List.Sums.{length-filter, count_by-le-length}
use Rattle.ticket_book.specs.{BID_PRICE, BidUnit, units_of, among, without, ticket_gone, both, others}
use Rattle.auction_rules.proofs.Standing.{each-filter, bid_owned}
use Rattle.ticket_book.proofs.Matched.{none_among_others}
use Rattle.ticket_book.proofs.sides.Sides.trade.Goals as goal

-- what is left of the new units
left_is : (c : goal.After-deref-3) → c.deref-3.result.now ≡ without (units_of c.args.bid.now) (ticket_gone (both c.args.self.now) (units_of c.args.bid.now))
left_is c =
    let given : c.deref.result.now ≡ units_of c.args.bid.now = c.deref.ensures.0 ∙ c.units_of-left.ensures.units in
    let gone : c.deref-2.result.now ≡ ticket_gone (both c.args.self.now) (units_of c.args.bid.now) = c.deref-2.ensures.0 ∙ c.match_units-gone.ensures.gone ∙ ap (ticket_gone (both c.args.self.now)) given in
    c.deref-3.ensures.0 ∙ c.take_away.ensures ∙ (λ i. without (c.units_of-left.ensures.units i) (gone i))

pub put_all-requires-clause-owned : goal.put_all-requires-clause-owned
put_all-requires-clause-owned c =
    let bid = c.args.bid.now in
    let gone = ticket_gone (both c.args.self.now) (units_of bid) in
    subst (All (λ u. u.agent ≡ bid.agent)) (sym (left_is c))
    (All-from_recursion (λ u. u.agent ≡ bid.agent) (without (units_of bid) gone) (each-filter (λ u. u.agent ≡ bid.agent) (λ u. not (among u gone)) (units_of bid) (bid_owned bid)))

pub put_all-requires-clause-priced : goal.put_all-requires-clause-priced
put_all-requires-clause-priced c =
    let bid = c.args.bid.now in
    let gone = ticket_gone (both c.args.self.now) (units_of bid) in
    let priced : All (λ u. u.price ≤ BID_PRICE) (units_of bid) = subst (All (λ u. u.price ≤ BID_PRICE)) c.units_of-left.ensures.units c.units_of-left.ensures.priced in
    subst (All (λ u. u.price ≤ BID_PRICE)) (sym (left_is c))
    (All-from_recursion (λ u. u.price ≤ BID_PRICE) (without (units_of bid) gone)
    (each-filter (λ u. u.price ≤ BID_PRICE) (λ u. not (among u gone)) (units_of bid) (recursion_from_All (λ u. u.price ≤ BID_PRICE) (units_of bid) priced)))

pub put_all-requires-clause-few : goal.put_all-requires-clause-few
put_all-requires-clause-few c =
    let bid = c.args.bid.now in
    let gone = ticket_gone (both c.args.self.now) (units_of bid) in
    omega (
      arith,
      ap (λ (us : List BidUnit). count_by (λ u. u.agent == bid.agent) us) c.take_out_of.ensures,
      none_among_others bid.agent (both c.match_units-gone.new.self),
      ap (λ (us : List BidUnit). length us) (left_is c),
      length-filter (λ u. not (among u gone)) (units_of bid),
      count_by-le-length (λ (u : BidUnit). not (among u gone)) (units_of bid),
      ap (λ (us : List BidUnit). length us) c.units_of-left.ensures.units,
      c.units_of-left.ensures.few,
    )

pub returns-clause-units : goal.returns-clause-units
returns-clause-units c = λ weight.
    let bid = c.args.bid.now in
    let given : c.deref.result.now ≡ units_of bid = c.deref.ensures.0 ∙ c.units_of-left.ensures.units in
    let gone = ticket_gone (both c.args.self.now) (units_of bid) in
    let owned : All (λ u. u.agent ≡ bid.agent) c.deref.result.now = subst (All (λ u. u.agent ≡ bid.agent)) (sym given) (All-from_recursion (λ u. u.agent ≡ bid.agent) (units_of bid) (bid_owned bid)) in
    let others_are : both c.take_out_of.new.self ≡ others bid.agent (without (both c.args.self.now) gone) =
    c.take_out_of.ensures ∙ c.match_units-gone.ensures.standing bid.agent owned ∙ ap (λ (us : List BidUnit). others bid.agent (without (both c.args.self.now) (ticket_gone (both c.args.self.now) us))) given in
    let away : c.deref-2.result.now ≡ gone = c.deref-2.ensures.0 ∙ c.match_units-gone.ensures.gone ∙ ap (ticket_gone (both c.args.self.now)) given in
    let left : c.deref-3.result.now ≡ without (units_of bid) gone = c.deref-3.ensures.0 ∙ c.take_away.ensures ∙ (λ i. without (c.units_of-left.ensures.units i) (away i)) in
    c.put_all.ensures weight ∙ ap (sum_by weight) (λ i. others_are i ++ left i)
