use Rattle.bound_cert.specs.Views.{tree_of}
use Rattle.bound_cert.proofs.TreeTexts.{cert_printed}
use Rattle.bound_cert.proofs.TreesAgain.{text_again}
use Rattle.bound_cert.proofs.reading.read_cert.Goals as goal

pub returns-in_err-root-clause-only : goal.returns-in_err-root-clause-only
returns-in_err-root-clause-only c = λ tree is short same. text_again c.args.text.now tree is short same

pub returns-clause-only : goal.returns-clause-only
returns-clause-only c = λ tree is short same. text_again c.args.text.now tree is short same

pub invariant_of-result : goal.invariant_of-result
invariant_of-result c = record { fits = (cert_printed c.args.text.now (tree_of c.in_ok-root.root) c.in_ok-root.ensures.exact).fits }

pub returns-clause-same : goal.returns-clause-same
returns-clause-same c = (cert_printed c.args.text.now (tree_of c.in_ok-root.root) c.in_ok-root.ensures.exact).same
