use Rattle.std.proofs.Common.{subst}
use Rattle.allocator.specs.Prelude.{IsAccount, tree_of}
use Rattle.bound_cert.proofs.Law.{bounds_all}
use Rattle.dual_bound.proofs.CeilingLaws.{ceiling_of_worths}
use Rattle.allocator.proofs.AtHome.{reached_none}
use Rattle.allocator.proofs.solving.solve.Goals as goal

pub offer_near-requires : goal.offer_near-requires
offer_near-requires c = record { reached = reached_none c.args.account.now }

pub explore_all-requires-clause-ceiling : goal.explore_all-requires-clause-ceiling
explore_all-requires-clause-ceiling c = ceiling_of_worths c.args.account.now c.new-relaxation.result.worths.dollars c.new-relaxation.ensures

pub returns-clause-best : goal.returns-clause-best
returns-clause-best c =
    let reached = c.in_ok-root.ensures.reached in
    let ranges = subst IsAccount c.account.view_is c.account.invariant in
    record {
      reached = (c.explore_all.new.best.allocation, reached.feasible, reached.worth);
      greatest = bounds_all c.args.account.now ranges c.explore_all.new.best.total (tree_of c.in_ok-root.root) c.in_ok-root.ensures.holds;
    }
