-- Inserting a unit in its place keeps a side in order, and so does a filter.
use Rattle.std.proofs.Common.{◌≡◌, Bool, true, false, not, List, arith, insert, filter}
use Rattle.std.specs.List.{position_or_len}
use Rattle.std.proofs.lemmas.Bool.Decides.{nat_tests}
use Rattle.tac_base.specs.declared.units.Unit.{Unit as ShownUnit}
use Rattle.auction_rules.proofs.Sorting.{sorted-put, sorted-filter}
use Rattle.ticket_book.specs.Sides.{goes_first, IsSideSorted}

-- ---- which of two units goes before the other

pub not_self : (buys : Bool) (u : ShownUnit) → goes_first buys u u ≡ false
not_self true u = grind (arith, nat_tests)
not_self false u = grind (arith, nat_tests)

pub not_back : (buys : Bool) (u v : ShownUnit) → goes_first buys u v ≡ true → goes_first buys v u ≡ false
not_back true u v h = grind (arith, nat_tests)
not_back false u v h = grind (arith, nat_tests)

-- if u goes before v, what does not go before v does not go before u
before_both : (buys : Bool) (u v w : ShownUnit) → goes_first buys u v ≡ true → goes_first buys w v ≡ false → goes_first buys w u ≡ false
before_both true u v w h k = grind (arith, nat_tests)
before_both false u v w h k = grind (arith, nat_tests)

-- ---- a unit in its place, and a part of a side

pub sorted_put : (buys : Bool) (u : ShownUnit) (units : List ShownUnit) → IsSideSorted buys units → IsSideSorted buys (insert units (position_or_len (goes_first buys u) units) u)
sorted_put buys = sorted-put (goes_first buys) (not_back buys) (before_both buys)

pub sorted_filter : (buys : Bool) (test : ShownUnit → Bool) (units : List ShownUnit) → IsSideSorted buys units → IsSideSorted buys (filter test units)
sorted_filter buys = sorted-filter (goes_first buys)
