-- Links after their first line, as admission keeps them.
use Rattle.std.specs.Prelude.{⊤, ◌≡◌, ℕ, ◌<◌, ◌≤◌, List, [], ◌∷◌, ◌++◌, Bool, true, false, Option, Some, None, length, map, take, is_some, slice_get, slice_set}
use Rattle.game_run.specs.Prelude.{AGENTS, LINE_BYTES, LINK_BYTES, GameFile, all_answers, goes_on, BeginsWithLine, count_of, held_of, last_of, link_of, GaveBytes, NoReadFails, ReadsNothing, SendsNothing, LinkState, then_known, LineGot, Lines, Verdict, Seated, Lost, Seats, verdict_of, seats_after}
use Rattle.game_run.specs.declared.arrivals.Arrivals.{Arrivals}
use Rattle.game_run.specs.declared.arrivals.Greeting.{Greeting}
use Rattle.game_run.specs.declared.arrivals.Greeting.TheVariants as greetings
use Rattle.game_run.specs.declared.arrivals.Holder.{Holder}
use Rattle.game_run.specs.declared.arrivals.Holder.TheVariants.{Seat, Unseated}
use Rattle.game_run.specs.Admission.{free_seats, seats_given, HasFirstLine, IsSentOrCut, refusal_line, IsLost, MayGoOn}
use Rattle.game_run.specs.LinkRuns.{CameTo}

-- What holds of each link with its verdict, in turn: by the seats that were free when it came.
abbrev pub HoldsInTurn : {A B : Type 0} → (Seats → Verdict → A → B → Type 0) → Seats → List A → List Verdict → List B → Type 0
HoldsInTurn Holds seats [] [] [] = ⊤
HoldsInTurn Holds seats (before ∷ befores) (verdict ∷ verdicts) (after ∷ afters) =
    Holds seats verdict before after × HoldsInTurn Holds (seats_after seats verdict) befores verdicts afters
HoldsInTurn Holds seats befores verdicts afters = ⊥

-- the first line of a link: the bytes that were taken begin with it
abbrev pub BeginsWith : List ℕ → LineGot → List ℕ → Type 0
BeginsWith bytes got line = (others : List (LineGot × List ℕ)) × (all_answers [] (LINK_BYTES) bytes ≡ (got, line) ∷ others)

-- a link was refused by its first line
abbrev pub IsRefused : Seats → Verdict → LinkState → LinkState → Type 0
IsRefused seats verdict before after = HasFirstLine seats verdict before after × IsSentOrCut (refusal_line verdict) before after

-- the agent that a verdict seats
abbrev pub seat_of : Verdict → Option ℕ
seat_of (Seated agent) = Some agent
seat_of verdict = None

-- a first line was read that gives the link no seat, and nothing was sent yet
abbrev pub IsUnseated : Seats → Verdict → LinkState → LinkState → Type 0
IsUnseated seats verdict before after = HasFirstLine seats verdict before after × SendsNothing before after

-- a line was sent, or its first bytes were, and nothing was read
pub record IsOnlySent (line : List ℕ) (before after : LinkState) : Type 0 where
  pub read : ReadsNothing before after
  pub sent : IsSentOrCut line before after

-- what holds of a link without a seat
abbrev pub IsTurnedAway : Seats → Verdict → LinkState → LinkState → Type 0
IsTurnedAway = CameTo (λ seats agent before after. ⊥)

module _ {L : Type 0} (state : L → LinkState) where
  -- A link was seated by its first line. Its lines hold what was taken after that line, and it was sent nothing.
  pub record IsGreeted (seats : Seats) (agent : ℕ) (before : LinkState) (lines : Lines L) : Type 0 where
    pub bytes : List ℕ
    pub gave : GaveBytes bytes before (state (link_of lines))
    pub line : List ℕ
    pub first : BeginsWithLine bytes line (held_of lines).unread
    pub short : length line ≤ LINE_BYTES
    pub counted : count_of lines ≡ length bytes
    pub few : count_of lines ≤ LINK_BYTES
    pub seat : verdict_of seats line ≡ Seated agent
    pub quiet : SendsNothing before (state (link_of lines))
    pub reads : NoReadFails before (state (link_of lines))
    pub more : goes_on (last_of lines) ≡ true

  -- what holds of the lines of a link after its first line, before anything is sent
  abbrev pub IsFirstRead : Seats → Verdict → LinkState → Lines L → Type 0
  IsFirstRead seats (Seated agent) before lines = IsGreeted seats agent before lines
  IsFirstRead seats Lost before lines = IsLost before (state (link_of lines))
  IsFirstRead seats verdict before lines = IsUnseated seats verdict before (state (link_of lines))

  -- what became of a link, and of the gate
  abbrev pub IsGreeting : Seats → Seats → LinkState → Greeting L → Type 0
  IsGreeting seats seats' before (greetings.Seated agent lines) = (seats' ≡ seats_after seats (Seated agent)) × IsGreeted seats agent before lines
  IsGreeting seats seats' before (greetings.Unseated verdict link) = (seats' ≡ seats) × IsTurnedAway seats verdict before (state link)

-- the arrivals with one more
abbrev pub AddsArrival : {L : Type 0} → Greeting L → Arrivals L → Arrivals L → Bool → Type 0
AddsArrival (greetings.Seated agent lines) before after seated =
    (after.verdicts.items ≡ before.verdicts.items ++ Seated agent ∷ []) × (after.holders.items ≡ before.holders.items ++ Seat agent ∷ [])
    × (after.lines.items ≡ slice_set before.lines.items agent (Some lines)) × (agent ≤ 7) × (seated ≡ true)
AddsArrival (greetings.Unseated verdict link) before after seated =
    (after.verdicts.items ≡ before.verdicts.items ++ verdict ∷ []) × (after.holders.items ≡ before.holders.items ++ Unseated link ∷ [])
    × (after.lines.items ≡ before.lines.items) × (seated ≡ false)

module _ {L : Type 0} (state : L → LinkState) where
  -- a link was taken in
  pub record IsTakenIn (seats seats' : Seats) (before : LinkState) (arrivals arrivals' : Arrivals L) (seated : Bool) : Type 0 where
    pub greeting : Greeting L
    pub greets : IsGreeting state seats seats' before greeting
    pub adds : AddsArrival greeting arrivals arrivals' seated

  -- What is kept of a link: its seat, in which its lines are, or the link itself.
  abbrev pub Keeps : {X : Type 0} → (Seats → ℕ → LinkState → X → Type 0) → List (Option X) → Seats → Verdict → LinkState → Holder L → Type 0
  Keeps {X} Sits agent_seats seats verdict before (Seat agent) = (x : X) × (verdict ≡ Seated agent) × (slice_get agent_seats agent ≡ Some (Some x)) × Sits seats agent before x
  Keeps Sits agent_seats seats verdict before (Unseated link) = IsTurnedAway seats verdict before (state link)

  -- Links were taken and read as long as another could be: each has its holder, and a seat is taken if it has lines.
  pub record AreKept (game : GameFile) (given : List LinkState) (arrivals : Arrivals L) : Type 0 where
    pub links : HoldsInTurn (Keeps (IsGreeted state) arrivals.lines.items) (free_seats game) given arrivals.verdicts.items arrivals.holders.items
    pub seats : map (λ lines. is_some lines) arrivals.lines.items ≡ (seats_given game arrivals.verdicts.items).taken
    pub readable : (agent : ℕ) (lines : Lines L) → slice_get arrivals.lines.items agent ≡ Some (Some lines) → goes_on (last_of lines) ≡ true
    pub wide : length arrivals.lines.items ≡ AGENTS
    pub no_more : (n : ℕ) → n < length arrivals.verdicts.items → MayGoOn (take n arrivals.verdicts.items)

  -- the first of the links that were still to be given were taken and read so
  pub record AreTaken (game : GameFile) (pending pending' : Option (List L)) (arrivals : Arrivals L) : Type 0 where
    pub given : List L
    pub from : pending ≡ then_known given pending'
    pub kept : AreKept game (map state given) arrivals
