-- Where links are kept while a game is played, and in what order they come back.
use Rattle.std.specs.Prelude.{⊤, ◌≡◌, List, [], ◌∷◌, Option, Some, None, slice_get, slice_set}
use Rattle.std.specs.List.{AllZip}
use Rattle.game_run.specs.declared.arrivals.Holder.{Holder}
use Rattle.game_run.specs.declared.arrivals.Holder.TheVariants.{Seat, Unseated}

-- a holder has a link to give back
abbrev pub IsFilled : {X L : Type 0} → List (Option X) → Holder L → Type 0
IsFilled agent_seats (Unseated link) = ⊤
IsFilled {X} agent_seats (Seat agent) = (x : X) × (slice_get agent_seats agent ≡ Some (Some x))

-- the seats after a holder gave its link back
abbrev pub agent_seats_after : {X L : Type 0} → List (Option X) → Holder L → List (Option X)
agent_seats_after agent_seats (Unseated link) = agent_seats
agent_seats_after agent_seats (Seat agent) = slice_set agent_seats agent None

-- each holder has a link to give back in turn
abbrev pub AreFilled : {X L : Type 0} → List (Option X) → List (Holder L) → Type 0
AreFilled agent_seats [] = ⊤
AreFilled agent_seats (holder ∷ holders) = IsFilled agent_seats holder × AreFilled (agent_seats_after agent_seats holder) holders

-- the link of a holder
abbrev pub IsLinkOf : {L : Type 0} → List (Option L) → Holder L → L → Type 0
IsLinkOf agent_seats (Unseated kept) link = link ≡ kept
IsLinkOf agent_seats (Seat agent) link = slice_get agent_seats agent ≡ Some (Some link)

-- the links of all holders, in order
abbrev pub AreLinksOf : {L : Type 0} → List (Option L) → List (Holder L) → List L → Type 0
AreLinksOf agent_seats holders links = AllZip (IsLinkOf agent_seats) holders links
