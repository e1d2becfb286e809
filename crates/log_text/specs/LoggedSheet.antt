-- Which sheets a log can show, and that such sheets have different texts, and so the logs.
use Rattle.std.specs.Prelude.{◌≡◌, ℕ, ⊤, List, length, slice_index}
use Rattle.std.specs.List.{AllByRecursion}
use Rattle.log_text.specs.Prelude.{AGENTS, Package, None, Trip, tree_lines, IsCertificate, Scored, ClosedGame, Head}
use Rattle.log_text.specs.Logged.{IsNumber, IsSigned, IsHead, IsPlayed, HaveOneHistory}
use Rattle.log_text.specs.SheetText.{log_text}

-- a night for each of the three ticket types
pub record AreTicketNights (nights : List ℕ) : Type 0 where
  pub count : length nights ≡ 3
  pub first : IsNumber (slice_index nights 0)
  pub second : IsNumber (slice_index nights 1)
  pub third : IsNumber (slice_index nights 2)

abbrev pub IsShownPackage : Package → Type 0
IsShownPackage None = ⊤
IsShownPackage (Trip hotel arrive depart nights) = IsNumber hotel × IsNumber arrive × IsNumber depart × AreTicketNights nights

-- the numbers of a score, a package for each of eight clients, and a certificate
pub record IsKnownScore (scored : Scored) : Type 0 where
  pub best : IsNumber scored.best
  pub cash : IsSigned scored.cash
  pub short : IsNumber scored.short
  pub score : IsSigned scored.score
  pub eight : length scored.allocation ≡ 8
  pub packages : AllByRecursion IsShownPackage scored.allocation
  pub certificate : IsCertificate scored.tree

-- the same, if the certificate has no more lines than can be counted
pub record IsShownScore (scored : Scored) : Type 0 where
  pub known : IsKnownScore scored
  pub lines : IsNumber (length (tree_lines scored.tree))

-- the scores of eight agents
pub record IsShownSheet (sheet : List Scored) : Type 0 where
  pub count : length sheet ≡ AGENTS
  pub scores : AllByRecursion IsShownScore sheet

-- if the heads, games and sheets have only what a log can show, and the logs are the same, then so are the heads, histories and sheets
abbrev pub HaveOwnLogs : Head → Head → ClosedGame → ClosedGame → List Scored → List Scored → Type 0
HaveOwnLogs head other_head game other sheet other_sheet = IsHead head → IsHead other_head → IsPlayed game → IsPlayed other → IsShownSheet sheet → IsShownSheet other_sheet
    → log_text head game sheet ≡ log_text other_head other other_sheet → (head ≡ other_head) × HaveOneHistory game other × (sheet ≡ other_sheet)
