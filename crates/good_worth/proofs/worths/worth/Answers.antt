use Rattle.std.proofs.Common.{subst}
use Rattle.game_text.specs.Accounts.{IsAccount}
use Rattle.good_worth.specs.{solution_of, worths_of, AreWorths, Solves}
use Rattle.good_worth.proofs.Gains.{ranged, up_is, down_is, not_held_is, owed_is}
use Rattle.good_worth.proofs.worths.worth.Goals as goal

are_worths : (c : goal.After-result-1) → AreWorths c.args.account.now (worths_of c.in_ok-base.base c.in_ok-more.more.items c.in_ok-less.less.items)
are_worths c = record {
  base = record { feasible = c.in_ok-base.ensures.feasible; worth = c.in_ok-base.ensures.worth; best = c.in_ok-base.ensures.best; certificate = c.in_ok-base.base.cert.fits; holds = c.in_ok-base.ensures.holds };
  more = c.in_ok-more.ensures;
  less = c.in_ok-less.ensures;
}

pub invariant_of-result : goal.invariant_of-result
invariant_of-result c =
    let base : Solves c.args.account.now (solution_of c.in_ok-base.base) = record { feasible = c.in_ok-base.ensures.feasible; worth = c.in_ok-base.ensures.worth; best = c.in_ok-base.ensures.best; certificate = c.in_ok-base.base.cert.fits; holds = c.in_ok-base.ensures.holds } in
    record { fits = ranged c.args.account.now _ (subst IsAccount c.account.view_is c.account.invariant) (record { base = base; more = c.in_ok-more.ensures; less = c.in_ok-less.ensures }) }

pub returns-clause-solved : goal.returns-clause-solved
returns-clause-solved c = are_worths c

pub returns-clause-up : goal.returns-clause-up
returns-clause-up c = up_is c.args.account.now _ (subst IsAccount c.account.view_is c.account.invariant) (are_worths c)

pub returns-clause-down : goal.returns-clause-down
returns-clause-down c = down_is c.args.account.now _ (subst IsAccount c.account.view_is c.account.invariant) (are_worths c)

pub returns-clause-not_held : goal.returns-clause-not_held
returns-clause-not_held c = not_held_is c.args.account.now _ (subst IsAccount c.account.view_is c.account.invariant) (are_worths c)

pub returns-clause-owed : goal.returns-clause-owed
returns-clause-owed c = owed_is c.args.account.now _ (subst IsAccount c.account.view_is c.account.invariant) (are_worths c)
