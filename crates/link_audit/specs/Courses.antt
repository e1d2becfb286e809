-- The turns of a link's lines, one after another from given places on, and where they lead.
use Rattle.std.specs.Prelude.{⊤, ◌≡◌, ℕ, ◌+◌, ◌<◌, ◌≤◌, List, [], ◌∷◌, Bool, true, false, drop, length, slice_index, count_by}
use Rattle.link_audit.specs.Prelude.{GOODS, SESSION_LINES, CashEntry, LineGot, logged_history, Dialect, IsItem, Turn, Called, CashRead, has_left, item_of, said_of}
use Rattle.auction_rules.specs.History.{Entry}
use Rattle.link_audit.specs.declared.places.Places.{Places}
use Rattle.link_audit.specs.declared.vouching.Difference.{Difference}
use Rattle.link_audit.specs.declared.vouching.Difference.TheVariants as differences
use Rattle.link_audit.specs.Ahead.{Subject, AreAllowed, HasNext, IsEasier, IsNextInLog, IsOver, behind_turn, calls_left, cash_caller, entry_caller, start}
use Rattle.link_audit.specs.Links.{MayAsk}

-- ---- turns

-- whether a turn left an entry of its own in the log: a call, or a reading
abbrev pub has_entry : Turn → Bool
has_entry (Called request good position entry posted) = true
has_entry (CashRead position dollars) = true
has_entry turn = false

-- Each turn is what the next line requests, and is answered by the next reply while one is left. The reply to any other turn did not arrive.
abbrev pub AreAnswered : Dialect → List Turn → List (LineGot × List ℕ) → List (List ℕ) → Type 0
AreAnswered dialect [] lines replies = ⊤
AreAnswered dialect (turn ∷ turns) [] replies = ⊥
AreAnswered dialect (turn ∷ turns) (line ∷ lines) [] = IsItem (MayAsk dialect.may_answer) line (item_of turn) × AreAnswered dialect turns lines []
AreAnswered dialect (turn ∷ turns) (line ∷ lines) (reply ∷ replies) =
    IsItem dialect.may_answer line (item_of turn) × (dialect.text (said_of turn) ≡ reply) × AreAnswered dialect turns lines replies

-- each turn is what the log has next of the agent
abbrev pub AreNext : Subject → Places → List Turn → Type 0
AreNext s from [] = ⊤
AreNext s from (turn ∷ turns) = IsNextInLog s from turn × AreNext s (behind_turn from turn) turns

-- the places after turns
abbrev pub walked : Places → List Turn → Places
walked from [] = from
walked from (turn ∷ turns) = walked (behind_turn from turn) turns

-- no call and no reading was made between these places
abbrev pub IsKept : Places → Places → Type 0
IsKept from to = (to.made ≡ from.made) × (to.readings ≡ from.readings)

-- the result of turns: how many they are, whether the agent left by them, and places that are not easier than those after them
pub record Course : Type 0 where
  pub turns : ℕ
  pub left : Bool
  pub to : Places

-- the same result, with this many turns before it
abbrev pub behind_course : ℕ → Course → Course
behind_course turns course = record { turns = turns + course.turns; left = course.left; to = course.to }

-- from these places on, the first lines have turns that are what the log has next of the agent, and that have this result
pub record HasCourse (dialect : Dialect) (s : Subject) (from : Places) (lines : List (LineGot × List ℕ)) (replies : List (List ℕ)) (course : Course) : Type 0 where
  pub turns : List Turn
  pub answered : AreAnswered dialect turns lines replies
  pub allowed : AreAllowed from turns
  pub next : AreNext s from turns
  pub count : length turns ≡ course.turns
  pub left : has_left turns ≡ course.left
  pub to : IsEasier (walked from turns) course.to

-- the first lines, this many, have turns that are the first that the log has of the agent, and are no more than a session may have
pub record HaveTurns (dialect : Dialect) (s : Subject) (lines : List (LineGot × List ℕ)) (replies : List (List ℕ)) (count : ℕ) : Type 0 where
  pub course : Course
  pub has : HasCourse dialect s start lines replies course
  pub count_is : course.turns ≡ count
  pub few : count ≤ SESSION_LINES

-- ---- the first difference

-- this is the agent's lowest entry in the log from these places on, the cash history last
abbrev pub IsLowestLeft : Subject → Places → Difference → Type 0
IsLowestLeft s from (differences.Entry good position) =
    (good < GOODS) × ((g : ℕ) → g < good → calls_left s from g ≡ [])
    × ((e : Entry) × HasNext entry_caller s.agent (slice_index from.next good) (logged_history s.log good) position e)
IsLowestLeft s from (differences.Cash position) =
    ((g : ℕ) → g < GOODS → calls_left s from g ≡ []) × ((e : CashEntry) × HasNext cash_caller s.agent from.cash s.log.cash position e)
IsLowestLeft s from difference = ⊥

-- this line, which has a reply, has no turn, while those before it have turns
pub record IsFirstLine (dialect : Dialect) (s : Subject) (lines : List (LineGot × List ℕ)) (replies : List (List ℕ)) (line : ℕ) : Type 0 where
  pub before : ℕ
  pub line_is : line ≡ before + 1
  pub replied : line ≤ length replies
  pub others : HaveTurns dialect s lines replies before
  pub none : HaveTurns dialect s lines replies line → ⊥

-- all lines with replies have turns, and so have those after them up to one that has none, but this entry is left
pub record IsFirstLeft (dialect : Dialect) (s : Subject) (lines : List (LineGot × List ℕ)) (replies : List (List ℕ)) (left : Difference) : Type 0 where
  pub count : ℕ
  pub replied : length replies ≤ count
  pub turns : HaveTurns dialect s lines replies count
  pub none : HaveTurns dialect s lines replies (count + 1) → ⊥
  pub lowest : IsLowestLeft s turns.course.to left

-- the first place at which the log is not right about the lines after a greeting and the replies after a welcome
abbrev pub IsDifferent : Dialect → Subject → List (LineGot × List ℕ) → List (List ℕ) → Difference → Type 0
IsDifferent dialect s lines replies (differences.Line line) = IsFirstLine dialect s lines replies line
IsDifferent dialect s lines replies left = IsFirstLeft dialect s lines replies left

-- ---- the end

-- from these places on, the first lines, among them all that have replies, have turns after which the log has nothing more of the agent; this many
-- turns without a reply left an entry
pub record FinishesLog (dialect : Dialect) (s : Subject) (from : Places) (lines : List (LineGot × List ℕ)) (replies : List (List ℕ)) (entries : ℕ) : Type 0 where
  pub turns : List Turn
  pub answered : AreAnswered dialect turns lines replies
  pub replied : length replies ≤ length turns
  pub allowed : AreAllowed from turns
  pub next : AreNext s from turns
  pub over : IsOver s (walked from turns)
  pub entries_are : count_by has_entry (drop (length replies) turns) ≡ entries

-- From these places on, which `used` lines reached, the first of the lines have turns, no further line of the session has one, and
-- this entry is left.
pub record IsStop (dialect : Dialect) (s : Subject) (from : Places) (lines : List (LineGot × List ℕ)) (used : ℕ) (left : Difference) : Type 0 where
  pub course : Course
  pub has : HasCourse dialect s from lines [] course
  pub few : used + course.turns ≤ SESSION_LINES
  pub none : (more : Course) → more.turns ≡ course.turns + 1 → used + more.turns ≤ SESSION_LINES → HasCourse dialect s from lines [] more → ⊥
  pub lowest : IsLowestLeft s course.to left
