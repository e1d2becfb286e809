pub mod Worth
pub mod Worths
pub mod Views
pub mod WorthTexts
pub use Rattle.good_worth.specs.Views.{solution_of, solutions_of, worths_of}
pub use Rattle.good_worth.specs.WorthTexts.{base_lines, changed_lines, good_lines, head_lines, worth_text}
unfoldable pub use Rattle.good_worth.specs.WorthTexts.{lines_below}
pub use Rattle.good_worth.specs.Worths.{AreChanged, AreLess, AreMore, AreRanged, AreWorths, IsGrown, Solution, Solves, Valuation, down_at, no_solution, total_at, up_at}
