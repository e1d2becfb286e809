-- The contents of a log, their ranges, and the text of a log.
use Rattle.std.specs.Prelude.{◌≡◌, ℕ, ◌+◌, ◌<◌, ◌≤◌, ◌^◌, ⊤, List, [], ◌∷◌, ◌++◌, length, unsigned_abs, All}
use Rattle.log_text.specs.Prelude.{AGENTS, BEST_TOTAL, CASH_DIGITS, CASH_ENTRIES, GOODS, LOG_LINKS, TEXT_BYTES, IsPost, IsCashReading, Entry, IsHistory, CashCall, Post, Read, CashReply, Done, Cash, CashEntry, IsCertificate, tree_lines, Scored, Verdict, Cause, Head, Play, Serve}
use Rattle.packages.specs.Packages.{IsPackage}
use Rattle.line_protocol.specs.declared.admission.Verdict.TheVariants as verdicts
use Rattle.log_text.specs.LogText.{first_lines, histories_text}
use Rattle.log_text.specs.SheetText.{sheet_part}

-- how a game was played, the histories of the goods in order, the cash history, and the scores of the agents in order
pub record LoggedGame : Type 0 where
  pub head : Head
  pub histories : List (List Entry)
  pub cash : List CashEntry
  pub scores : List Scored

-- the text of a log
abbrev pub logged_text : LoggedGame → List ℕ
logged_text log = first_lines log.head ++ (histories_text log.histories log.cash ++ sheet_part log.scores)

-- ---- ranges

abbrev pub IsLoggedVerdict : Verdict → Type 0
IsLoggedVerdict (verdicts.Seated agent) = agent ≤ 7
IsLoggedVerdict verdicts.Syntax = ⊤
IsLoggedVerdict verdicts.WrongWord = ⊤
IsLoggedVerdict verdicts.Taken = ⊤
IsLoggedVerdict verdicts.Lost = ⊤

abbrev pub IsLoggedEnd : ℕ × Cause → Type 0
IsLoggedEnd end = end.0 ≤ 7

-- at most 255 links and 255 missed ticks; no text that is read has room for more ends
pub record IsServedHead (links : List Verdict) (ends : List (ℕ × Cause)) (missed : ℕ) : Type 0 where
  pub few_links : length links ≤ LOG_LINKS
  pub links_are : All IsLoggedVerdict links
  pub few_ends : length ends ≤ TEXT_BYTES
  pub ends_are : All IsLoggedEnd ends
  pub few_missed : missed ≤ 255

abbrev pub IsLoggedHead : Head → Type 0
IsLoggedHead Play = ⊤
IsLoggedHead (Serve links ends missed) = IsServedHead links ends missed

-- a post of any caller, or an agent's reading of its own cash
abbrev pub IsLoggedCash : ℕ → CashCall → CashReply → Type 0
IsLoggedCash caller (Post good position nets) Done = IsPost caller good position nets.dollars
IsLoggedCash caller (Post good position nets) (Cash dollars) = ⊥
IsLoggedCash caller (Read agent) Done = ⊥
IsLoggedCash caller (Read agent) (Cash dollars) = IsCashReading caller agent dollars

abbrev pub IsLoggedCashEntry : CashEntry → Type 0
IsLoggedCashEntry e = IsLoggedCash e.caller e.call e.reply

-- a score in its ranges
pub record IsLoggedScore (scored : Scored) : Type 0 where
  pub best : scored.best ≤ BEST_TOTAL
  pub cash : unsigned_abs scored.cash < 10 ^ CASH_DIGITS
  pub short : scored.short ≤ 4294967295
  pub score : unsigned_abs scored.score < 10 ^ CASH_DIGITS
  pub eight : length scored.allocation ≡ 8
  pub packages : All IsPackage scored.allocation
  pub certificate : IsCertificate scored.tree
  pub lines : length (tree_lines scored.tree) ≤ 4294967295

-- histories in their ranges, of goods that are numbered from this number
abbrev pub AreHistories : ℕ → List (List Entry) → Type 0
AreHistories good [] = ⊤
AreHistories good (history ∷ histories) = IsHistory good history × AreHistories (good + 1) histories

-- a log in its ranges
pub record IsLogged (log : LoggedGame) : Type 0 where
  pub head : IsLoggedHead log.head
  pub goods : length log.histories ≡ GOODS
  pub histories : AreHistories 0 log.histories
  pub few_cash : length log.cash ≤ CASH_ENTRIES
  pub cash : All IsLoggedCashEntry log.cash
  pub agents : length log.scores ≡ AGENTS
  pub scores : All IsLoggedScore log.scores
