use Rattle.std.proofs.Common.{◌≡◌, ◌+◌, ◌-◌, [], ◌∷◌, ◌++◌, cond, not, Ok, Err, sym, ap, ◌∙◌, arith}
use Rattle.text_forms.specs.Steps.{◌>>=◌}
use Rattle.bound_cert.specs.{forest_by, tree_in, forest_of}
use Rattle.bound_cert.proofs.Views.{tree_of-Leaf, tree_of-Split}
use Rattle.bound_cert.proofs.NodeCases.{join, refusal_is, handed_on, refused_through, no_node, leaf_node, deep_node, split_node, forest_step, forest_bad, forest_done}
use Rattle.bound_cert.proofs.reading.+reading.Goals as goal

pub read_node-returns-in_err-number : goal.read_node-returns-in_err-number
read_node-returns-in_err-number t c =
    let fault = c.in_err-number.field-0.0 in
    let read = tree_in c.args.level c.args.lines in
    handed_on _ c.from_residual.result fault read c.from_residual.ensures.1 (refusal_is fault read (no_node c.args.level c.args.lines fault (sym c.in_err-number.ensures)))

pub read_node-returns-then-level-eq0 : goal.read_node-returns-then-level-eq0
read_node-returns-then-level-eq0 t c =
    let r = c.in_ok-number in
    let line = rw c.in-Split.is at r.ensures in
    rw c.if-level-eq0.true (deep_node r.number c.in-Split.client c.in-Split.feature c.args.lines r.left (sym line))

pub read_node-returns-in-Leaf : goal.read_node-returns-in-Leaf
read_node-returns-in-Leaf t c =
    let r = c.in_ok-number in
    let line = rw c.in-Leaf.is at r.ensures in
    leaf_node c.args.level r.number c.args.lines r.left c.in-Leaf.prices (sym line) ∙ ap (λ tree. Ok (tree, r.left)) (sym (tree_of-Leaf c.in-Leaf.prices))

pub read_node-returns-in_err-children-in-Split : goal.read_node-returns-in_err-children-in-Split
read_node-returns-in_err-children-in-Split t c =
    let r = c.in_ok-number in
    let w = c.in-Split in
    let line = rw w.is at r.ensures in
    let fault = c.in_err-children-in-Split.field-0.0 in
    let below = tree_in (c.args.level - 1) in
    let read = tree_in c.args.level c.args.lines in
    handed_on _ c.from_residual-in_err-children-in-Split.result fault read c.from_residual-in_err-children-in-Split.ensures.1
    (refused_through fault (forest_by below c.value_count.result r.left) read
    (λ f h. split_node c.args.level r.number w.client w.feature c.args.lines r.left (Err f) (omega arith) (sym line) (ap (λ n. forest_by below n r.left) (sym c.value_count.ensures) ∙ h))
    c.in_err-children-in-Split.ensures)

pub read_node-returns-in_ok-children-in-Split : goal.read_node-returns-in_ok-children-in-Split
read_node-returns-in_ok-children-in-Split t c =
    let r = c.in_ok-number in
    let w = c.in-Split in
    let line = rw w.is at r.ensures in
    let trees = c.in_ok-children-in-Split in
    let below = tree_in (c.args.level - 1) in
    split_node c.args.level r.number w.client w.feature c.args.lines r.left (Ok (forest_of trees.children.items, trees.left)) (omega arith) (sym line)
    (ap (λ n. forest_by below n r.left) (sym c.value_count.ensures) ∙ trees.ensures)
    ∙ ap (λ tree. Ok (tree, trees.left)) (sym (tree_of-Split w.client w.feature trees.children))

pub read_children-returns-in_err-child : goal.read_children-returns-in_err-child
read_children-returns-in_err-child t c =
    let tree_at = tree_in c.args.level in
    let l = c.loop-i in
    let fault = c.in_err-child.field-0.0 in
    let read = forest_by tree_at c.args.count c.args.lines in
    handed_on _ c.from_residual.result fault read c.from_residual.ensures.1
    (refused_through fault (tree_at l.left) read (λ f h. sym l.invariant ∙ forest_bad tree_at (c.args.count - l._i) l.left l.children.items f (omega arith) h) c.in_err-child.ensures)

pub read_children-returns : goal.read_children-returns
read_children-returns t c =
    let l = c.loop-i in
    sym l.invariant ∙ forest_done (tree_in c.args.level) (c.args.count - l._i) l.left l.children.items (omega arith)

pub read_children-loop-i-preserved : goal.read_children-loop-i-preserved
read_children-loop-i-preserved t c =
    let tree_at = tree_in c.args.level in
    let l = c.loop-i in
    let w = c.in_ok-child in
    let more = l.children.items ++ (w.child ∷ []) in
    let pushed : c.push.new.self.items ≡ more = c.push.ensures.items ∙ ap (λ b. cond b more l.children.items) (c.is_err.ensures.negation ∙ ap not c.if-is_err.false) in
    ap (λ nodes. forest_by tree_at (c.args.count - (l._i + 1)) w.after >>= join nodes) pushed
    ∙ forest_step tree_at (c.args.count - l._i) (c.args.count - (l._i + 1)) l.left w.after l.children.items w.child (omega arith) w.ensures ∙ l.invariant
