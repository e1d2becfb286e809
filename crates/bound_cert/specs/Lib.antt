pub mod Prelude
pub mod Trees
pub mod Views
pub mod Certificate
pub mod Ways
pub mod Faults
pub mod NodeLines
pub mod Texts
pub mod Reading
pub mod Solutions
pub mod TreeCodes
pub use Rattle.bound_cert.specs.Trees.{IsCertificate, Tree, leaf, more, split, tree_count, are_prices, are_trees, is_tree, no_trees}
pub use Rattle.bound_cert.specs.Views.{forest_of, tree_of}
pub use Rattle.bound_cert.specs.Certificate.{BoundsAll, all_hold, all_left, holds, is_within, IsLeft}
pub use Rattle.bound_cert.specs.Ways.{left_by}
pub use Rattle.bound_cert.specs.Faults.{IsCertReading, IsCertRefusal, cert_fault, or_cert_fault}
pub use Rattle.bound_cert.specs.NodeLines.{is_leaf, leaf_columns, leaf_of, leaf_text, node_line_of, split_columns, split_of, split_text}
pub use Rattle.bound_cert.specs.Texts.{cert_text, forest_lines, tree_lines}
pub use Rattle.bound_cert.specs.Reading.{forest_by, Reader, last_node, node_by, node_line_in}
unfoldable pub use Rattle.bound_cert.specs.Reading.{cert_of, root_in, tree_in}
pub use Rattle.bound_cert.specs.Prelude.{AccountFile, AllBetween, AreLinesLeft, BadLine, Column, IsAccount, IsBetween, IsFeasible, Narrowing, NumberedLine, Package, Remaining, TEXT_BYTES, all_in, at_line, best_margin, cost_of, due_of, feature_of, greater, greatest, is_in, is_package, leaf_bound, lines_from, margin_of, margins, narrowed, nothing_left, parts_of, plus, rank_of, read_by, row_text, stock_value, text_of, total_of, use_of, used_by, utility_of, values_of, within, words_of, ◌>>=◌}
unfoldable pub use Rattle.bound_cert.specs.Prelude.{row, sum_below}
