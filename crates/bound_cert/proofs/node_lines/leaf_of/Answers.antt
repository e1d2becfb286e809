use Rattle.std.proofs.Common.{sym, ◌∙◌, arith, codes}
use Rattle.text_forms.proofs.RowLaws.{row_is}
use Rattle.bound_cert.specs.NodeLines.{leaf_columns}
use Rattle.bound_cert.proofs.LeafLines.{each_price, leaf_is}
use Rattle.bound_cert.proofs.node_lines.leaf_of.Goals as goal

pub prices_of-requires : goal.prices_of-requires
prices_of-requires c =
    let numbers = c.in_ok-numbers.numbers in
    let range = rw c.leaf_columns.ensures at c.in_ok-numbers.ensures.range in
    let read = rw c.leaf_columns.ensures at c.in_ok-numbers.ensures.value in
    let row = row_is (codes "leaf") leaf_columns c.args.line.now numbers (sym read) in
    sym (each_price numbers (omega (arith, row.count))) ∙ range

pub returns : goal.returns
returns c =
    let read = rw c.leaf_columns.ensures at c.in_ok-numbers.ensures.value in
    leaf_is c.args.line.now c.in_ok-numbers.numbers c.prices_of.result read c.prices_of.ensures
