use Rattle.std.proofs.Common.{sym, subst, ◌∙◌}
use Rattle.game_text.specs.Accounts.{IsAccount}
use Rattle.bound_cert.specs.Views.{tree_of}
use Rattle.bound_cert.proofs.Law.{bounds_all}
use Rattle.bound_cert.proofs.checking.check.Goals as goal

pub returns-clause-bounds : goal.returns-clause-bounds
returns-clause-bounds c =
    let ranges = subst IsAccount c.account.view_is c.account.invariant in
    λ h. bounds_all c.args.account.now ranges c.args.claim (tree_of c.args.cert.now.root) (sym c.node_holds.ensures ∙ h)
