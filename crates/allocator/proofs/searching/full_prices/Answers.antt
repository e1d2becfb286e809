use Rattle.std.proofs.Common.{ℕ, ◌<◌, subst, arith, replicate}
use Rattle.allocator.specs.{IsAccount, chosen, IsOut}
use Rattle.allocator.proofs.FullLeaves.{full_leaf, full_same, out_leaf}
use Rattle.packages.proofs.PriceLists.{equal_prices}
use Rattle.allocator.proofs.searching.full_prices.Goals as goal

pub returns-in_default-clause-holds : goal.returns-in_default-clause-holds
returns-in_default-clause-holds c =
    let ranges = subst IsAccount c.account.view_is c.account.invariant in
    let out : (client : ℕ) × (client < 8) × IsOut (chosen c.args.choice.now) client = rw c.in_default.is at c.first_choice.ensures.out in
    out_leaf c.args.account.now ranges (chosen c.args.choice.now) (replicate 28 0) c.args.best.now.total out.0 out.1 out.2

pub returns-clause-holds : goal.returns-clause-holds
returns-clause-holds c =
    let ranges = subst IsAccount c.account.view_is c.account.invariant in
    full_leaf c.args.account.now ranges (chosen c.args.choice.now) c.scarcity_prices.result c.in-Some.first c.offer.new.best.total
    c.in-Some.ensures.eight c.in-Some.ensures.left (full_same c.args.choice.now c.requires.full) c.scarcity_prices.ensures.each c.offer.ensures.few c.offer.ensures.settled

pub invariant_of-result : goal.invariant_of-result
invariant_of-result c = equal_prices 0 (omega arith)

pub returns-in_default-clause-range : goal.returns-in_default-clause-range
returns-in_default-clause-range c = equal_prices 0 (omega arith)
