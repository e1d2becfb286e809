-- The walk over a link's lines; for private clauses.
use Rattle.std.specs.Prelude.{⊤, ◌≡◌, ℕ, ◌+◌, ◌-◌, ◌<◌, ◌≤◌, ◌↔◌, List, [], ◌++◌, Contains, Bool, true, false, Option, MatchOption, Result, Ok, Err, drop, length, slice_range, take}
use Rattle.std.specs.List.{list_any}
use Rattle.link_audit.specs.Prelude.{LINK_BYTES, SESSION_LINES, GameFile, all_answers, ended_line, BeginsWithLine, has_end, LineGot, Cause, Seated, LoggedGame, gives_seat, Dialect, verdict_of, has_left, free_seats}
use Rattle.tac_io.specs.declared.line_got.LineGot.TheVariants as gots
use Rattle.line_protocol.specs.declared.admission.Cause.TheVariants as causes
use Rattle.link_audit.specs.declared.causes.Ending.{Ending}
use Rattle.link_audit.specs.declared.causes.Ending.TheVariants as endings
use Rattle.link_audit.specs.declared.hearing.Heard.{Heard}
use Rattle.link_audit.specs.declared.hearing.Heard.TheVariants.{Through, Gone, Not}
use Rattle.link_audit.specs.declared.places.Places.{Places}
use Rattle.link_audit.specs.declared.vouching.Difference.{Difference}
use Rattle.link_audit.specs.declared.vouching.Difference.TheVariants as differences
use Rattle.link_audit.specs.declared.vouching.Vouching.{Vouching}
use Rattle.link_audit.specs.declared.vouching.Vouching.TheVariants.{Whole, Cut}
use Rattle.link_audit.specs.declared.vouching.Vouching.TheVariants as vouchings
use Rattle.link_audit.specs.Ahead.{Subject, IsAhead, IsOver, IsWide, start}
use Rattle.link_audit.specs.Courses.{Course, FinishesLog, HasCourse, IsDifferent, IsLowestLeft, IsStop, behind_course}
use Rattle.link_audit.specs.Links.{AccountsFor, AsksToLeave, HasNoLine, LeavesNothing, MayUseUp, logged_ends, logged_verdicts, whole_lines}
use Rattle.link_audit.specs.Vouchings.{HasNumbers, IsDifferenceOf, IsWhole, IsYes}

-- the lines of bytes from a place on
abbrev pub lines_at : List ℕ → ℕ → List (LineGot × List ℕ)
lines_at asked at = all_answers [] (LINK_BYTES - at) (drop at asked)

-- the whole lines of bytes from a place on
abbrev pub replies_at : List ℕ → ℕ → List (List ℕ)
replies_at said told = whole_lines (drop told said)

-- the result is where the line that begins at a place ends, or none if it has no end
abbrev pub FindsEnd : List ℕ → ℕ → Option ℕ → Type 0
FindsEnd bytes from result = MatchOption result (has_end (drop from bytes) ≡ false)
    (λ end. (from ≤ end) × (end < length bytes) × BeginsWithLine (drop from bytes) (slice_range bytes from end) (drop (end + 1) bytes))

-- the result is a place from which the whole lines are those behind these lines, if these are the next ones from a place on, and otherwise none
abbrev pub FindsBehind : List (List ℕ) → List ℕ → ℕ → Option ℕ → Type 0
FindsBehind lines said from result = MatchOption result ((others : List (List ℕ)) → replies_at said from ≡ lines ++ others → ⊥)
    (λ to. (to ≤ length said) × (replies_at said from ≡ lines ++ replies_at said to))

-- what is ahead of a link's lines from these places on
abbrev pub IsAheadAt : Dialect → Subject → List ℕ → ℕ → List (List ℕ) → ℕ → Type 0
IsAheadAt dialect s asked at replies room = IsAhead dialect s start (lines_at asked at) replies room

-- one statement holds exactly if the other does: that on what is ahead of the link, and that on what is ahead behind some lines
pub record IsBehind (Before After : Type 0) : Type 0 where
  pub there : Before → After
  pub back : After → Before

-- all replies were walked over: what is ahead of the link is what is ahead there; or the agent left; or a line was not answered so
abbrev pub IsHeard : Dialect → Subject → List ℕ → ℕ → List (List ℕ) → Heard → Type 0
IsHeard dialect s asked from replies (Through places at lines) =
    IsBehind (IsAheadAt dialect s asked from replies SESSION_LINES) (IsAhead dialect s places (lines_at asked at) [] (SESSION_LINES - lines))
    × IsWide places × (at ≤ length asked) × (lines ≤ SESSION_LINES)
IsHeard dialect s asked from replies (Gone lines) = IsAheadAt dialect s asked from replies SESSION_LINES
IsHeard dialect s asked from replies (Not difference) = IsAheadAt dialect s asked from replies SESSION_LINES → ⊥

-- the agent left by a line: nothing may come behind it, in the link or in the log
abbrev pub EndsByLeaving : Type 0 → Bool → Heard → Type 0
EndsByLeaving Over more (Gone lines) = (more ≡ false) × Over
EndsByLeaving Over more (Not difference) = more ≡ false → Over → ⊥
EndsByLeaving Over more (Through places at lines) = ⊥

-- what was heard, by turns from the start on: behind all replies, where other lines stand; until the agent left; or up to a difference
abbrev pub HasHeard : Dialect → Subject → List ℕ → ℕ → List (List ℕ) → Heard → Type 0
HasHeard dialect s asked from replies (Through places at lines) =
    ((course : Course) → IsBehind (HasCourse dialect s start (lines_at asked from) replies (behind_course lines course)) (HasCourse dialect s places (lines_at asked at) [] course))
    × ((entries : ℕ) → FinishesLog dialect s start (lines_at asked from) replies entries → FinishesLog dialect s places (lines_at asked at) [] entries)
    × (drop lines (lines_at asked from) ≡ lines_at asked at) × (length replies ≡ lines)
HasHeard dialect s asked from replies (Gone lines) =
    ((to : Places) × HasCourse dialect s start (lines_at asked from) replies (record { turns = lines; left = true; to = to }) × IsOver s to)
    × ((entries : ℕ) → FinishesLog dialect s start (lines_at asked from) replies entries → entries ≡ 0) × (length replies ≡ lines)
    × ((course : Course) → course.turns ≡ lines → HasCourse dialect s start (lines_at asked from) replies course → course.left ≡ true)
HasHeard dialect s asked from replies (Not difference) = IsDifferent dialect s (lines_at asked from) replies difference

-- the agent left by a line, after so many: the next line is different if there is another reply, and otherwise the lowest entry that is left
abbrev pub DiffersAfter : Subject → Places → ℕ → Difference → Bool → Type 0
DiffersAfter s from lines difference true = difference ≡ differences.Line (lines + 2)
DiffersAfter s from lines difference false = IsLowestLeft s from difference

-- it left: nothing more came and the log has nothing more, or the next line or the lowest entry is different
abbrev pub HasLeft : Subject → Places → ℕ → Bool → Heard → Type 0
HasLeft s from lines more (Gone count) = (count ≡ lines + 1) × (more ≡ false) × IsOver s from
HasLeft s from lines more (Not difference) = DiffersAfter s from lines difference more
HasLeft s from lines more (Through places at count) = ⊥

-- The end of a walk over lines without replies, after `used` others: `Ok` if the first of them, as many as the session has room for, have
-- turns that are all that the log has of the agent, and `Err` if they have not.
abbrev pub IsPassed : Dialect → Subject → Places → List (LineGot × List ℕ) → ℕ → Result ℕ Difference → Type 0
IsPassed dialect s from lines used (Ok count) = IsAhead dialect s from lines [] (SESSION_LINES - used)
IsPassed dialect s from lines used (Err left) = IsAhead dialect s from lines [] (SESSION_LINES - used) → ⊥

-- the result of such a walk: how many of these turns left an entry, or the lowest entry that is left
abbrev pub HasPassed : Dialect → Subject → Places → List (LineGot × List ℕ) → ℕ → Result ℕ Difference → Type 0
HasPassed dialect s from lines used (Ok count) = (entries : ℕ) → FinishesLog dialect s from lines [] entries → entries ≡ count
HasPassed dialect s from lines used (Err left) = IsStop dialect s from lines used left

-- what is answered where the replies end, by whether the last byte that was said is a line end
abbrev pub IsFinished : Dialect → Subject → List ℕ → Bool → Heard → Vouching → Type 0
IsFinished dialect s asked ended (Through places at lines) (Whole agent count memory) = (count ≡ lines) × HasNoLine (lines_at asked at) × (ended ≡ true)
IsFinished dialect s asked ended (Through places at lines) (Cut agent count after memory) =
    (count ≡ lines) × (HasNoLine (lines_at asked at) → ended ≡ true → ⊥) × ((entries : ℕ) → FinishesLog dialect s places (lines_at asked at) [] entries → entries ≡ after)
IsFinished dialect s asked ended (Through places at lines) (vouchings.Not left) = IsStop dialect s places (lines_at asked at) lines left
IsFinished dialect s asked ended heard vouching = ⊤

-- a yes tells of this many replies for want of memory
abbrev pub TellsMemory : ℕ → Vouching → Type 0
TellsMemory memory (Whole agent lines told) = told ≡ memory
TellsMemory memory (Cut agent lines after told) = told ≡ memory
TellsMemory memory (vouchings.Not difference) = ⊤

-- all that is stated about a result by the lines alone
pub record IsAccounted (game : GameFile) (dialect : Dialect) (log : LoggedGame) (asked said : List ℕ) (vouching : Vouching) : Type 0 where
  pub yes : (agent : ℕ) → IsYes agent vouching ↔ AccountsFor game dialect log agent asked said
  pub whole : (agent : ℕ) (account : AccountsFor game dialect log agent asked said) → IsWhole agent vouching ↔ LeavesNothing account
  pub numbers : (agent : ℕ) (account : AccountsFor game dialect log agent asked said) → HasNumbers dialect.text vouching account.heard account.unheard
  pub difference : IsDifferenceOf game dialect log asked said vouching

-- ---- the end of the session

-- the agent did not leave by one of so many lines that were answered, behind which these lines stand
abbrev pub HasStayed : Dialect → ℕ → List (LineGot × List ℕ) → Ending → Type 0
HasStayed dialect answered lines endings.Quit = ⊥
HasStayed dialect answered lines (endings.Open full over quits) =
    ((full ≡ true) ↔ (answered ≡ SESSION_LINES)) × ((over ≡ true) ↔ HasNoLine lines) × ((quits ≡ true) ↔ AsksToLeave dialect (take (SESSION_LINES - answered) lines))

-- what an account shows of the end of its session
abbrev pub IsEnding : (dialect : Dialect) {game : GameFile} {log : LoggedGame} {agent : ℕ} {asked said : List ℕ} → AccountsFor game dialect log agent asked said → Ending → Type 0
IsEnding dialect account endings.Quit = has_left account.heard ≡ true
IsEnding dialect account (endings.Open full over quits) =
    (has_left account.heard ≡ false) × HasStayed dialect (length account.heard) (account.unanswered ++ account.later) (endings.Open full over quits)

-- each account of a link shows this of the end of its session
abbrev pub EndsSo : GameFile → Dialect → LoggedGame → List ℕ → List ℕ → Ending → Type 0
EndsSo game dialect log asked said ending = (agent : ℕ) (account : AccountsFor game dialect log agent asked said) → IsEnding dialect account ending

-- a record that shows this allows this cause
abbrev pub MayEndBy : Cause → Ending → List ℕ → Type 0
MayEndBy causes.Quit endings.Quit asked = ⊤
MayEndBy causes.Quit (endings.Open full over quits) asked = quits ≡ true
MayEndBy causes.End (endings.Open full over quits) asked = full ≡ false
MayEndBy causes.ReadFault (endings.Open full over quits) asked = full ≡ false
MayEndBy causes.WriteFault (endings.Open full over quits) asked = (full ≡ false) × (over ≡ false)
MayEndBy causes.Budget (endings.Open full over quits) asked = MayUseUp asked
MayEndBy cause endings.Quit asked = ⊥

-- the head of a log has a cause for this agent by which its session may have ended
abbrev pub HasCauseOf : LoggedGame → List ℕ → Ending → ℕ → Type 0
HasCauseOf log asked ending agent = (cause : Cause) × Contains (logged_ends log.head) (agent, cause) × MayEndBy cause ending asked

-- the same for the agent of a yes
abbrev pub HasCauseFor : LoggedGame → List ℕ → Ending → Vouching → Type 0
HasCauseFor log asked ending (Whole agent lines memory) = HasCauseOf log asked ending agent
HasCauseFor log asked ending (Cut agent lines after memory) = HasCauseOf log asked ending agent
HasCauseFor log asked ending (vouchings.Not difference) = ⊤

-- a first line takes the seat of an agent, which the head of the log gives to a link
pub record TakesSeat (game : GameFile) (log : LoggedGame) (line : List ℕ) (agent : ℕ) : Type 0 where
  pub ended : ended_line line ≡ (gots.Line, line)
  pub seat : verdict_of (free_seats game) line ≡ Seated agent
  pub listed : list_any (gives_seat agent) (logged_verdicts log.head) ≡ true
