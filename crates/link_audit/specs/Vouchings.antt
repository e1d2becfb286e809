-- The result of auditing a link.
use Rattle.std.specs.Prelude.{⊤, ◌≡◌, ℕ, ◌↔◌, ◌⊎◌, List, [], ◌∷◌, ◌++◌, Contains, Err, true, length, map, count_by}
use Rattle.std.specs.Str.{bytes_eq}
use Rattle.std.specs.List.{list_any}
use Rattle.link_audit.specs.Prelude.{Board, LINK_BYTES, GameFile, all_answers, Cause, LineGot, Seated, Said, IsLogged, LoggedGame, gives_seat, Dialect, json_text, said_text, verdict_of, Turn, said_of, welcome_lines, free_seats}
use Rattle.tac_io.specs.declared.line_got.LineGot.TheVariants as gots
use Rattle.line_protocol.specs.Requests.{request_of}
use Rattle.line_protocol.specs.declared.asking.RequestFault.TheVariants.{Memory}
use Rattle.line_protocol.specs.declared.saying.Said.TheVariants as said
use Rattle.json_dialect.specs.JsonRequests.{asks_json}
use Rattle.link_audit.specs.declared.vouching.Difference.{Difference}
use Rattle.link_audit.specs.declared.vouching.Difference.TheVariants as differences
use Rattle.link_audit.specs.declared.vouching.Vouching.{Vouching}
use Rattle.link_audit.specs.declared.vouching.Vouching.TheVariants.{Whole, Cut, Not}
use Rattle.link_audit.specs.Ahead.{AreBoards}
use Rattle.link_audit.specs.Courses.{IsDifferent, has_entry}
use Rattle.link_audit.specs.Links.{AccountsFor, AllowsCause, IsVouched, LeavesNothing, logged_ends, logged_verdicts, whole_lines}

-- the link is vouched for as this agent's
abbrev pub IsYes : ℕ → Vouching → Type 0
IsYes agent (Whole seat lines memory) = seat ≡ agent
IsYes agent (Cut seat lines after memory) = seat ≡ agent
IsYes agent (Not difference) = ⊥

-- the link is vouched for as this agent's exactly if something holds, and as no other agent's
abbrev pub IsYesExactlyIf : ℕ → Type 0 → Vouching → Type 0
IsYesExactlyIf agent Holds vouching = (other : ℕ) → IsYes other vouching ↔ ((agent ≡ other) × Holds)

-- ---- whole or cut

-- the result is whole, as this agent's
abbrev pub IsWhole : ℕ → Vouching → Type 0
IsWhole agent (Whole seat lines memory) = seat ≡ agent
IsWhole agent vouching = ⊥

-- a sound log is right about a link, and nothing is left over
pub record IsWholeLink (game : GameFile) (dialect : Dialect) (log : LoggedGame) (agent : ℕ) (asked said : List ℕ) : Type 0 where
  pub vouched : IsVouched game dialect log agent asked said
  pub whole : LeavesNothing vouched.account

-- how many replies say that the server had no memory to read the line
abbrev pub memory_replies : (Said → List ℕ) → List (List ℕ) → ℕ
memory_replies text replies = count_by (bytes_eq (text (said.Fault Memory))) replies

abbrev pub replies_to : (Said → List ℕ) → List Turn → List (List ℕ)
replies_to text turns = map (λ turn. text (said_of turn)) turns

-- the numbers of a result, by the turns whose replies arrived and those whose replies did not: how many replies arrived; how many of the other
-- turns left an entry, a call or a reading; and how many replies say that there was no memory
abbrev pub HasNumbers : (Said → List ℕ) → Vouching → List Turn → List Turn → Type 0
HasNumbers text (Whole agent lines memory) heard unheard = (length heard ≡ lines) × (memory_replies text (replies_to text heard) ≡ memory)
HasNumbers text (Cut agent lines after memory) heard unheard =
    (length heard ≡ lines) × (count_by has_entry unheard ≡ after) × (memory_replies text (replies_to text heard) ≡ memory)
HasNumbers text (Not difference) heard unheard = ⊤

-- ---- the first difference

-- the first line takes the seat of an agent, which the head of the log gives to a link; these lines follow it
pub record HasSeatAndLines (game : GameFile) (log : LoggedGame) (asked : List ℕ) (agent : ℕ) (lines : List (LineGot × List ℕ)) : Type 0 where
  pub line : List ℕ
  pub first : all_answers [] LINK_BYTES asked ≡ (gots.Line, line) ∷ lines
  pub seat : verdict_of (free_seats game) line ≡ Seated agent
  pub listed : list_any (gives_seat agent) (logged_verdicts log.head) ≡ true

-- the agent's ten lines did not arrive whole
pub record LacksWelcome (game : GameFile) (log : LoggedGame) (asked said : List ℕ) : Type 0 where
  pub agent : ℕ
  pub lines : List (LineGot × List ℕ)
  pub greeted : HasSeatAndLines game log asked agent lines
  pub none : (replies : List (List ℕ)) → whole_lines said ≡ welcome_lines game agent ++ replies → ⊥

-- they arrived, and what follows differs here first
pub record DiffersBehind (game : GameFile) (dialect : Dialect) (log : LoggedGame) (asked said : List ℕ) (difference : Difference) : Type 0 where
  pub agent : ℕ
  pub lines : List (LineGot × List ℕ)
  pub greeted : HasSeatAndLines game log asked agent lines
  pub replies : List (List ℕ)
  pub welcomed : whole_lines said ≡ welcome_lines game agent ++ replies
  pub boards : List (List Board)
  pub boards_are : AreBoards game log boards
  pub differs : IsDifferent dialect (record { log = log; boards = boards; agent = agent }) lines replies difference

-- the lines of the link account for the agent's part of the log, but its record allows no cause that the log's head has for the agent
pub record RefutesCause (game : GameFile) (dialect : Dialect) (log : LoggedGame) (asked said : List ℕ) : Type 0 where
  pub agent : ℕ
  pub account : AccountsFor game dialect log agent asked said
  pub none : (cause : Cause) → Contains (logged_ends log.head) (agent, cause) → AllowsCause account cause → ⊥

-- the first place at which a sound log is not right about a link
abbrev pub IsFirstDifference : GameFile → Dialect → LoggedGame → List ℕ → List ℕ → Difference → Type 0
IsFirstDifference game dialect log asked said differences.Seat = (agent : ℕ) (lines : List (LineGot × List ℕ)) → HasSeatAndLines game log asked agent lines → ⊥
IsFirstDifference game dialect log asked said differences.Welcome = LacksWelcome game log asked said
IsFirstDifference game dialect log asked said differences.Cause = RefutesCause game dialect log asked said
IsFirstDifference game dialect log asked said difference = DiffersBehind game dialect log asked said difference

-- the two forms of lines
abbrev pub words : Dialect
words = record { may_answer = λ line answer. answer ≡ request_of line; text = said_text }

abbrev pub json : Dialect
json = record { may_answer = λ line answer. (answer ≡ asks_json line) ⊎ (answer ≡ Err Memory); text = json_text }

-- in this form of lines, a log differs from a link at one place first
abbrev pub HasOneDifference : Dialect → Type 0
HasOneDifference dialect = (game : GameFile) (log : LoggedGame) (asked said : List ℕ) (one other : Difference) → IsLogged log
    → IsFirstDifference game dialect log asked said one → IsFirstDifference game dialect log asked said other → one ≡ other

-- the result is a difference only if it is the first one
abbrev pub IsDifferenceOf : GameFile → Dialect → LoggedGame → List ℕ → List ℕ → Vouching → Type 0
IsDifferenceOf game dialect log asked said (Not difference) = IsFirstDifference game dialect log asked said difference
IsDifferenceOf game dialect log asked said vouching = ⊤

-- ---- all of it

-- all that is stated about a result
pub record IsJudged (game : GameFile) (dialect : Dialect) (log : LoggedGame) (asked said : List ℕ) (vouching : Vouching) : Type 0 where
  pub yes : (agent : ℕ) → IsYes agent vouching ↔ IsVouched game dialect log agent asked said
  pub whole : (agent : ℕ) → IsWhole agent vouching ↔ IsWholeLink game dialect log agent asked said
  pub numbers : (agent : ℕ) (v : IsVouched game dialect log agent asked said) → HasNumbers dialect.text vouching v.account.heard v.account.unheard
  pub difference : IsDifferenceOf game dialect log asked said vouching
