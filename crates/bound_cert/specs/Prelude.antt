-- The names of crates below that this crate cites, passed on from one place.
pub use Rattle.tac_base.specs.declared.limits.TheConstants.{CERTIFICATE_DEPTH, TEXT_BYTES}
pub use Rattle.text_forms.specs.Lines.{AreLinesLeft, NumberedLine, Remaining, at_line, due_of, lines_from, nothing_left, reason_number, text_of}
pub use Rattle.text_forms.specs.Rows.{AllBetween, IsBetween, all_in, is_in, row_text, within}
unfoldable pub use Rattle.text_forms.specs.Rows.{row}
pub use Rattle.text_forms.specs.Steps.{read_by, ◌>>=◌}
pub use Rattle.text_forms.specs.Words.{parts_of, words_of}
pub use Rattle.text_forms.specs.declared.lines.BadLine.{BadLine}
pub use Rattle.text_forms.specs.declared.rows.Column.{Column}
pub use Rattle.game_text.specs.Accounts.{AccountFile, IsAccount}
pub use Rattle.packages.specs.BestTotal.{IsFeasible, total_of, used_by}
pub use Rattle.packages.specs.Bounds.{Narrowing, best_margin, cost_of, greater, greatest, leaf_bound, margin_of, margins, plus, stock_value}
unfoldable pub use Rattle.packages.specs.Bounds.{sum_below}
pub use Rattle.packages.specs.Features.{feature_of, narrowed, rank_of, values_of}
pub use Rattle.packages.specs.Packages.{is_package, use_of, utility_of}
pub use Rattle.packages.specs.declared.travel_packages.Package.{Package}
