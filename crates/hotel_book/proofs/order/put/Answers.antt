use Rattle.std.proofs.Common.{ap, ◌∙◌}
use Rattle.std.specs.List.{position_or_len}
use Rattle.tac_base.specs.declared.limits.TheConstants.{BID_PRICE}
use Rattle.hotel_book.specs.Ranked.{ranks_first}
use Rattle.hotel_book.proofs.Sorting.{sorted_with, priced-put}
use Rattle.hotel_book.proofs.order.put.Goals as goal

pub returns-clause-order : goal.returns-clause-order
returns-clause-order c =
    sorted_with c.args.unit.now c.args.units.now.items _ c.place_of-place.result c.requires.order
    (c.place_of-place.ensures.place ∙ ap (position_or_len (ranks_first c.args.unit.now)) c.deref.ensures.0) c.insert.ensures.items

pub returns-clause-prices : goal.returns-clause-prices
returns-clause-prices c = rw c.insert.ensures.items (priced-put BID_PRICE c.place_of-place.result c.args.unit.now c.args.units.now.items c.requires.price c.requires.prices)
