use Rattle.std.proofs.Common.{sym}
use Rattle.bound_cert.specs.{cert_fault, tree_in, root_in}
use Rattle.bound_cert.proofs.NodeCases.{refusal_is, handed_on, refused_through}
use Rattle.bound_cert.proofs.RootCases.{no_root, more_lines, whole_root}
use Rattle.bound_cert.proofs.reading.root_in.Goals as goal

pub returns-in_err-root : goal.returns-in_err-root
returns-in_err-root c =
    let fault = c.in_err-root.field-0.0 in
    handed_on _ c.from_residual.result fault (root_in c.args.lines) c.from_residual.ensures.1
    (refused_through fault (tree_in 32 c.args.lines) (root_in c.args.lines) (λ f h. no_root c.args.lines f h) c.in_err-root.ensures)

pub returns-in_err-finish : goal.returns-in_err-finish
returns-in_err-finish c =
    let bad = c.in_err-finish.field-0.0 in
    let r = c.in_ok-root in
    handed_on _ c.from_residual-in_err-finish.result (cert_fault bad) (root_in c.args.lines) c.from_residual-in_err-finish.ensures.1
    (refusal_is (cert_fault bad) (root_in c.args.lines) (more_lines c.args.lines r.left _ bad r.ensures (sym c.in_err-finish.ensures)))

pub returns : goal.returns
returns c =
    let r = c.in_ok-root in
    whole_root c.args.lines r.left _ _ r.ensures (sym c.in_ok-finish.ensures)
