use Rattle.std.proofs.Common.{◌≡◌, ℕ, ◌+◌, ◌≤◌, not, List, length, sym, ap, ◌∙◌, subst, arith, ◌==◌, filter, count_by, sum_by}
use Rattle.std.proofs.lemmas.List.Sums.{length-filter}
use Rattle.hotel_book.specs.Prelude.{Unit as ShownUnit, BID_PRICE, units_of, shown_unit}
use Rattle.auction_rules.proofs.Sorting.{sorted-filter}
use Rattle.hotel_book.specs.Ranked.{Ranked, ranks_first}
use Rattle.hotel_book.proofs.Sorting.{priced-filter}
use Rattle.hotel_book.proofs.ranking.Ranking.replace.Goals as goal

-- the units of others than an agent
abbrev but_of : ℕ → List ShownUnit → List ShownUnit
but_of agent units = filter (λ u. not (u.agent == agent)) units

pub put_all-requires-clause-room : goal.put_all-requires-clause-room
put_all-requires-clause-room c =
    let agent = c.args.bid.now.agent in
    let room : count_by (λ u. not (u.agent == agent)) c.self.inside.units.items + 16 ≤ 128 =
    subst (λ (r : Ranked). count_by (λ u. not (u.agent == agent)) r.units + 16 ≤ 128) (sym c.self.view_is) c.requires in
    let rest : c.take_out.new.units.items ≡ but_of agent c.self.inside.units.items = c.take_out.ensures ∙ ap (λ n. but_of n c.self.inside.units.items) c.get.ensures.value in
    omega (arith, room, ap length rest, length-filter (λ u. not (u.agent == agent)) c.self.inside.units.items)

pub put_all-requires-clause-order : goal.put_all-requires-clause-order
put_all-requires-clause-order c = rw c.take_out.ensures (sorted-filter ranks_first (λ u. not (u.agent == c.get.result)) c.self.inside.units.items c.self.invariant.sorted)

pub put_all-requires-clause-prices : goal.put_all-requires-clause-prices
put_all-requires-clause-prices c = rw c.take_out.ensures (priced-filter BID_PRICE (λ u. not (u.agent == c.get.result)) c.self.inside.units.items c.self.invariant.priced)

pub returns-clause-units : goal.returns-clause-units
returns-clause-units c = λ weight.
    let rest : c.take_out.new.units.items ≡ but_of c.args.bid.now.agent c.args.self.now.units =
    c.take_out.ensures ∙ ap (λ n. but_of n c.self.inside.units.items) c.get.ensures.value ∙ ap (λ (r : Ranked). but_of c.args.bid.now.agent r.units) c.self.view_is in
    c.put_all.ensures.units weight ∙ ap (λ us. sum_by weight us + sum_by (λ u. weight (shown_unit u)) (units_of c.args.bid.now)) rest
