-- What a log still has of an agent from given places on, and the turns that this leaves possible.
use Rattle.std.specs.Prelude.{⊤, ◌≡◌, ℕ, ◌+◌, ◌<◌, ◌≤◌, List, [], ◌∷◌, ◌++◌, All, Bool, Option, MatchOption, Result, Ok, Err, Some, true, false, drop, length, map, replicate, slice_get, slice_index, slice_index_or, slice_set, take}
use Rattle.std.specs.Global.{Vec}
use Rattle.link_audit.specs.Prelude.{AGENT_CALLS, CASH_READINGS, GOODS, Board, Call, GameFile, Legal, setup_of, board_of, CashEntry, due_post, part_from, LineGot, Request, RequestFault, Said, LoggedGame, IsLogged, logged_history, HasDuePost, Dialect, Item, IsItem, AreItems, Turn, Called, CallDenied, CashRead, CashDenied, Quoted, Refused, Skipped, Quit, asked_call, boards_shown, cash_made, is_leaving, item_of, made_at, reading, said_of}
use Rattle.auction_rules.specs.History.{Entry}
use Rattle.line_protocol.specs.declared.saying.Said.TheVariants as said
use Rattle.link_audit.specs.declared.places.Places.{Places}
use Rattle.link_audit.specs.declared.stepping.Step.{Step}
use Rattle.link_audit.specs.declared.stepping.Step.TheVariants.{Stays, Leaves, Stuck}
use Rattle.link_audit.specs.Links.{MayAsk}

-- ---- what is left of a log

-- whose part of a log is walked over: the log, the boards of all prefixes of its histories by good and count, and the agent
pub record Subject : Type 0 where
  pub log : LoggedGame
  pub boards : List (List Board)
  pub agent : ℕ

abbrev pub subject_of : LoggedGame → List (Vec Board) → ℕ → Subject
subject_of log boards agent = record { log = log; boards = map (λ row. row.items) boards; agent = agent }

abbrev pub entry_caller : Entry → ℕ
entry_caller e = e.caller

abbrev pub cash_caller : CashEntry → ℕ
cash_caller e = e.caller

-- a caller's part of a history, from a position on, each entry with its position
abbrev pub rest_of : {E : Type 0} → (E → ℕ) → ℕ → ℕ → List E → List (ℕ × E)
rest_of caller_of caller from history = part_from caller_of caller from (drop from history)

-- from a position on, the caller's next entry is this one, at this position, and the rest of its part follows
abbrev pub HasNext : {E : Type 0} → (E → ℕ) → ℕ → ℕ → List E → ℕ → E → Type 0
HasNext caller_of caller from history position e = rest_of caller_of caller from history ≡ (position, e) ∷ rest_of caller_of caller (position + 1) history

-- the result is the position of the caller's next entry from a position on, or none if it has no entry there
abbrev pub FindsNext : {E : Type 0} → (E → ℕ) → ℕ → ℕ → List E → Option ℕ → Type 0
FindsNext {E} caller_of caller from history result = MatchOption result (rest_of caller_of caller from history ≡ [])
    (λ p. (e : E) × (slice_get history p ≡ Some e) × (caller_of e ≡ caller) × HasNext caller_of caller from history p e)

-- the agent's part of a good's history, from given places on
abbrev pub calls_left : Subject → Places → ℕ → List (ℕ × Entry)
calls_left s from good = rest_of entry_caller s.agent (slice_index from.next good) (logged_history s.log good)

abbrev pub cash_left : Subject → ℕ → List (ℕ × CashEntry)
cash_left s from = rest_of cash_caller s.agent from s.log.cash

-- from these places on, the log has nothing more of the agent
pub record IsOver (s : Subject) (from : Places) : Type 0 where
  pub calls : (good : ℕ) → good < GOODS → calls_left s from good ≡ []
  pub cash : cash_left s from.cash ≡ []

-- a count and a board are those of a prefix
abbrev pub IsNote : Subject → ℕ → ℕ × Board → Type 0
IsNote s good note = slice_get (slice_index_or s.boards good []) note.0 ≡ Some note.1

-- ---- turns one after the other

-- the places before the walk
abbrev pub start : Places
start = record { next = replicate 28 0; made = replicate 28 0; seen = replicate 28 0; cash = 0; readings = 0 }

-- each of the lists has one item for each good
pub record IsWide (from : Places) : Type 0 where
  pub next : length from.next ≡ 28
  pub made : length from.made ≡ 28
  pub seen : length from.seen ≡ 28

-- the place in the cash history after the posts that are due
abbrev pub behind : ℕ → List CashEntry → ℕ → ℕ
behind from [] posted = from
behind from (post ∷ posts) posted = posted + 1

abbrev pub behind_call : Places → ℕ → ℕ → ℕ → Places
behind_call from good position cash = record {
  next = slice_set from.next good (position + 1);
  made = slice_set from.made good (slice_index from.made good + 1);
  seen = slice_set from.seen good (position + 1);
  cash = cash;
  readings = from.readings;
}

-- the places after a turn
abbrev pub behind_turn : Places → Turn → Places
behind_turn from (Called request good position entry posted) = behind_call from good position (behind from.cash (due_post good position entry) posted)
behind_turn from (CallDenied request good) = from
behind_turn from (CashRead position dollars) = record from { cash = position + 1; readings = from.readings + 1 }
behind_turn from CashDenied = from
behind_turn from (Quoted good board) = record from { seen = slice_set from.seen good board.count }
behind_turn from (Refused fault) = from
behind_turn from Skipped = from
behind_turn from Quit = from

-- the turn is allowed at these places
abbrev pub IsAllowed : Places → Turn → Type 0
IsAllowed from (Called request good position entry posted) =
    (asked_call request ≡ Some (good, entry.call)) × (good < GOODS) × (slice_index from.made good < AGENT_CALLS) × (slice_index from.seen good ≤ position)
IsAllowed from (CallDenied request good) = ((call : Call) × (asked_call request ≡ Some (good, call))) × (good < GOODS) × (slice_index from.made good ≡ AGENT_CALLS)
IsAllowed from (CashRead position dollars) = from.readings < CASH_READINGS
IsAllowed from CashDenied = from.readings ≡ CASH_READINGS
IsAllowed from (Quoted good board) = (good < GOODS) × (slice_index from.seen good ≤ board.count)
IsAllowed from (Refused fault) = ⊤
IsAllowed from Skipped = ⊤
IsAllowed from Quit = ⊤

-- each turn is allowed after those before it, and the agent leaves by none but the last
abbrev pub AreAllowed : Places → List Turn → Type 0
AreAllowed from [] = ⊤
AreAllowed from (turn ∷ turns) = IsAllowed from turn × (is_leaving turn ≡ true → turns ≡ []) × AreAllowed (behind_turn from turn) turns

-- the turns are allowed, and are all that the log has of the agent from these places on
pub record Remains (s : Subject) (from : Places) (turns : List Turn) : Type 0 where
  pub calls : (good : ℕ) → good < GOODS → calls_left s from good ≡ made_at good turns
  pub cash : cash_left s from.cash ≡ cash_made s.agent turns
  pub boards : (good : ℕ) → good < GOODS → All (IsNote s good) (boards_shown good turns)
  pub allowed : AreAllowed from turns

-- ---- one turn

-- the posts that are due are the agent's next entries in the cash history
abbrev pub ArePostedAt : ℕ → List CashEntry → ℕ → List CashEntry → ℕ → Type 0
ArePostedAt agent cash from [] posted = ⊤
ArePostedAt agent cash from (post ∷ posts) posted = HasNext cash_caller agent from cash posted post

-- the due posts are there, and `to` is the place after them
pub record ArePosted (agent : ℕ) (cash : List CashEntry) (from : ℕ) (posts : List CashEntry) (to : ℕ) : Type 0 where
  pub posted : ℕ
  pub at : ArePostedAt agent cash from posts posted
  pub to_is : to ≡ behind from posts posted

-- the result is the place after the due posts, or none if they are not there
abbrev pub FindsPosts : ℕ → List CashEntry → ℕ → List CashEntry → Option ℕ → Type 0
FindsPosts agent cash from posts result = MatchOption result ((to : ℕ) → ArePosted agent cash from posts to → ⊥) (ArePosted agent cash from posts)

-- the entries and boards of a turn are what the log has next
abbrev pub IsNextInLog : Subject → Places → Turn → Type 0
IsNextInLog s from (Called request good position entry posted) =
    HasNext entry_caller s.agent (slice_index from.next good) (logged_history s.log good) position entry × ArePostedAt s.agent s.log.cash from.cash (due_post good position entry) posted
IsNextInLog s from (CallDenied request good) = ⊤
IsNextInLog s from (CashRead position dollars) = HasNext cash_caller s.agent from.cash s.log.cash position (reading s.agent dollars)
IsNextInLog s from CashDenied = ⊤
IsNextInLog s from (Quoted good board) = IsNote s good (board.count, board)
IsNextInLog s from (Refused fault) = ⊤
IsNextInLog s from Skipped = ⊤
IsNextInLog s from Quit = ⊤

-- what a line may be read as; if its reply did not arrive, not as a failed memory allocation
abbrev pub MayBeReadAs : (List ℕ → Result Request RequestFault → Type 0) → Bool → List ℕ → Result Request RequestFault → Type 0
MayBeReadAs may_answer true = may_answer
MayBeReadAs may_answer false = MayAsk may_answer

-- the item of a line whose reply arrived, or did not
abbrev pub IsAsked : Dialect → Bool → LineGot × List ℕ → Item → Type 0
IsAsked dialect heard line item = IsItem (MayBeReadAs dialect.may_answer heard) line item

-- if the reply arrived, it is the text of this answer in this form of lines
abbrev pub FitsReply : Dialect → Bool → List ℕ → Said → Type 0
FitsReply dialect heard reply said = heard ≡ true → dialect.text said ≡ reply

-- the result is the first count, from a count on, of a board whose quote fits, or none if there is no such board
abbrev pub FindsShown : (Said → Type 0) → List Board → ℕ → Option ℕ → Type 0
FindsShown Fits boards from result = MatchOption result
    ((n : ℕ) (board : Board) → from ≤ n → slice_get boards n ≡ Some board → Fits (said.Quote board) → ⊥)
    (λ n. (from ≤ n) × ((board : Board) × (slice_get boards n ≡ Some board) × Fits (said.Quote board))
    × ((k : ℕ) (board : Board) → from ≤ k → k < n → slice_get boards k ≡ Some board → Fits (said.Quote board) → ⊥))

-- a turn with such an item and such a reply is possible at these places
pub record IsPossible (Asked : Item → Type 0) (Fits : Said → Type 0) (s : Subject) (from : Places) (turn : Turn) : Type 0 where
  pub asked : Asked (item_of turn)
  pub fits : Fits (said_of turn)
  pub allowed : IsAllowed from turn
  pub next : IsNextInLog s from turn

-- the same places, but maybe less was seen
pub record IsEasier (from hard : Places) : Type 0 where
  pub next : from.next ≡ hard.next
  pub made : from.made ≡ hard.made
  pub cash : from.cash ≡ hard.cash
  pub readings : from.readings ≡ hard.readings
  pub seen : (good : ℕ) → good < GOODS → slice_index from.seen good ≤ slice_index hard.seen good

-- a turn leads from places to places; after any turn that is possible the agent stays, and the places are not easier
pub record IsTaken (Asked : Item → Type 0) (Fits : Said → Type 0) (s : Subject) (from to : Places) : Type 0 where
  pub turn : Turn
  pub possible : IsPossible Asked Fits s from turn
  pub stays : is_leaving turn ≡ false
  pub to_is : to ≡ behind_turn from turn
  pub easiest : (other : Turn) → IsPossible Asked Fits s from other → IsEasier to (behind_turn from other)
  pub stay : (other : Turn) → IsPossible Asked Fits s from other → is_leaving other ≡ false

-- no turn is possible
abbrev pub IsStuck : (Item → Type 0) → (Said → Type 0) → Subject → Places → Type 0
IsStuck Asked Fits s from = (turn : Turn) → IsPossible Asked Fits s from turn → ⊥

-- the agent may leave, and nothing else is possible
pub record IsLeaving (Asked : Item → Type 0) (Fits : Said → Type 0) (s : Subject) (from : Places) : Type 0 where
  pub possible : IsPossible Asked Fits s from Quit
  pub only : (other : Turn) → IsPossible Asked Fits s from other → other ≡ Quit

-- the step of a line
abbrev pub IsStep : (Item → Type 0) → (Said → Type 0) → Subject → Places → Places → Step → Type 0
IsStep Asked Fits s from to Stays = IsTaken Asked Fits s from to
IsStep Asked Fits s from to Leaves = IsLeaving Asked Fits s from × (to ≡ from)
IsStep Asked Fits s from to Stuck = IsStuck Asked Fits s from

-- a reply that may answer this request, or this fault
abbrev pub IsAnswerTo : Result Request RequestFault → Said → Type 0
IsAnswerTo (Ok request) (said.Fault fault) = ⊥
IsAnswerTo (Ok request) answer = ⊤
IsAnswerTo (Err fault) answer = answer ≡ said.Fault fault

-- the line asks only this: nothing else that it may be read as has an answer that fits the reply, if that arrived
abbrev pub AsksOnly : Dialect → Bool → List ℕ → List ℕ → Result Request RequestFault → Type 0
AsksOnly dialect heard line reply asked = (other : Result Request RequestFault) (answer : Said) → MayBeReadAs dialect.may_answer heard line other
    → IsAnswerTo other answer → FitsReply dialect heard reply answer → other ≡ asked

-- ---- what is left of a link

-- From these places on, the first lines, at most `room`, have turns that are all that the log has of the agent; the replies are those to the
-- first of these turns.
pub record IsAhead (dialect : Dialect) (s : Subject) (from : Places) (lines : List (LineGot × List ℕ)) (replies : List (List ℕ)) (room : ℕ) : Type 0 where
  pub answered : List (LineGot × List ℕ)
  pub unanswered : List (LineGot × List ℕ)
  pub later : List (LineGot × List ℕ)
  pub lines_are : lines ≡ answered ++ (unanswered ++ later)
  pub heard : List Turn
  pub unheard : List Turn
  pub heard_items : AreItems dialect.may_answer answered (map item_of heard)
  pub unheard_items : AreItems (MayAsk dialect.may_answer) unanswered (map item_of unheard)
  pub few : length (heard ++ unheard) ≤ room
  pub replies_are : replies ≡ map (λ turn. dialect.text (said_of turn)) heard
  pub remains : Remains s from (heard ++ unheard)

-- ---- what a walk is given

-- a table of boards: a row for each good, of at most 8,257 boards, each with its place as its count
pub record IsTable (boards : List (Vec Board)) : Type 0 where
  pub goods : length boards ≡ 28
  pub few : (good : ℕ) → good < GOODS → length (slice_index_or (map (λ row. row.items) boards) good []) ≤ 8257
  pub counts : (good count : ℕ) (board : Board) → good < GOODS → slice_get (slice_index_or (map (λ row. row.items) boards) good []) count ≡ Some board → board.count ≡ count

-- a log in its ranges, whose posts are all due
pub record HasTruePosts (log : LoggedGame) : Type 0 where
  pub logged : IsLogged log
  pub due : (position : ℕ) → HasDuePost log position

-- the boards of all prefixes of the histories of a log, by the rules of the game
pub record AreBoards (game : GameFile) (log : LoggedGame) (boards : List (List Board)) : Type 0 where
  pub long : (good : ℕ) → good < GOODS → length (slice_index_or boards good []) ≡ length (logged_history log good) + 1
  pub each : (good count : ℕ) → good < GOODS → count ≤ length (logged_history log good)
      → slice_get (slice_index_or boards good []) count ≡ Some (board_of (record { setup = setup_of good game; history = logged_history log good }) (take count (logged_history log good)))

-- the boards of a history's prefixes of at most this many entries
pub record AreRow (game : GameFile) (good : ℕ) (history : List Entry) (most : ℕ) (row : List Board) : Type 0 where
  pub long : length row ≡ most + 1
  pub each : (count : ℕ) → count ≤ most → slice_get row count ≡ Some (board_of (record { setup = setup_of good game; history = history }) (take count history))

-- the histories of a log are legal by the game
abbrev pub AreLegal : GameFile → LoggedGame → Type 0
AreLegal game log = (good : ℕ) → good < GOODS → Legal (setup_of good game) (logged_history log good)
