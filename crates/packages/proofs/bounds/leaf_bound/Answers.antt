use Rattle.std.proofs.Common.{sym, subst, ◌∙◌, arith}
use Rattle.game_text.specs.Accounts.{IsAccount}
use Rattle.packages.proofs.Margins.{plus_done}
use Rattle.packages.proofs.bounds.leaf_bound.Goals as goal

pub returns : goal.returns
returns g c =
    let l = c.loop-number in
    let ranges = subst IsAccount c.account.view_is c.account.invariant in
    let eight = ranges.clients.count in
    sym (plus_done l.bound (g.N.Narrowing.left c.args.narrowing.now) c.args.prices.now c.args.account.now.clients l.number (omega (arith, eight))) ∙ l.invariant.rest
