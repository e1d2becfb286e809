use Rattle.std.proofs.Common.{◌≡◌, List, ℕ, ◌++◌, ◌∙◌, ap, length}
use Rattle.text_forms.specs.Words.{parts_of}
use Rattle.bound_cert.specs.{cert_text, tree_of}
use Rattle.bound_cert.proofs.TreesAgain.{spelling_parts, text_again}
use Rattle.bound_cert.proofs.printing.print_cert.Goals as goal

pub returns-clause-lines : goal.returns-clause-lines
returns-clause-lines c =
    let tree = tree_of c.args.cert.now.root in
    let text : c.print_node.new.out.items ≡ cert_text tree = c.in_ok-print_node.ensures ∙ ap (λ (t : List ℕ). t ++ cert_text tree) c.new-out.ensures.items in
    ap (λ (t : List ℕ). length (parts_of 10 t)) text ∙ spelling_parts tree c.args.cert.now.fits

pub returns-clause-again : goal.returns-clause-again
returns-clause-again c =
    let tree = tree_of c.args.cert.now.root in
    let text : c.print_node.new.out.items ≡ cert_text tree = c.in_ok-print_node.ensures ∙ ap (λ (t : List ℕ). t ++ cert_text tree) c.new-out.ensures.items in
    λ short. text_again c.print_node.new.out.items tree c.args.cert.now.fits short text
