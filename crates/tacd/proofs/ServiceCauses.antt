-- What the service of a game says of the codes.
use Rattle.std.proofs.Common.{◌≡◌, ◌≢◌, ℕ, ◌<◌, [], ◌∷◌, refl, sym, ap, ◌∙◌, inl, inr, arith, Option, Some, None, ◌⊎◌, MatchOption}
use Rattle.std.specs.Global.{Vec}
use Rattle.tacd.specs.Prelude.{Rose, known_then, LinkState, SinkState, LinksState, TickerState, Game, LinkFault, Memory, Outcome, Done, Lapsed, Stopped, Refused, code_of, Service, Allows, IsServiceEnd, LinkFaultExactly, ClockFaultExactly, Outside, WaitsForAll, HostedGame, IsGameEnd}
use Rattle.tacd.specs.declared.answer.Answer.{Answer}
use Rattle.tacd.specs.declared.answer.Played.{Played}
use Rattle.tac_commands.specs.Commands.{Serve}
use Rattle.tacd.specs.{HasNoGame, PlayedAllows, Serves, ServeAllows, at_pace, hosted_by}
use Rattle.tac_commands.proofs.CodedOutcomes.{IsCoded, coded, explained_only}
use Rattle.tac_commands.proofs.FileCauses.{no_link_refusal}

-- ---- what the codes say of the counts

-- the code is that of a fault that was counted, or the count is as before
abbrev IsExplained : ℕ → ℕ → ℕ → ℕ → Type 0
IsExplained due before now code = ((code ≡ due) × Rose before now) ⊎ ((code ≢ due) × (now ≡ before))

-- 6 is the code of an outcome where a tick lapsed and memory sufficed
abbrev IsTimed : ℕ → ℕ → ℕ → Type 0
IsTimed before now code = ((code ≡ 6) × Rose before now) ⊎ ((code ≢ 6) × (now ≡ before)) ⊎ (code ≡ 7)

link_exactly : {L : Type 0} (links links' : LinksState L) (sink sink' : SinkState) (code : ℕ) (outcome : Outcome) → IsExplained 5 links.faults links'.faults (code_of outcome) →
    IsCoded sink sink' code outcome → LinkFaultExactly links links' code
link_exactly links links' sink sink' code outcome told either = record {
  only = explained_only sink sink' code outcome 5 (Rose links.faults links'.faults) (λ e. absurd (omega (arith, e))) (λ is. only_five told is) either;
  always = λ rose. five_or_four told either rose;
}
  where
    only_five : IsExplained 5 links.faults links'.faults (code_of outcome) → code_of outcome ≡ 5 → Rose links.faults links'.faults
    only_five (inl fault) is = fault.1
    only_five (inr same) is = absurd (same.0 is)

    five_or_four : IsExplained 5 links.faults links'.faults (code_of outcome) → IsCoded sink sink' code outcome → links.faults < links'.faults → (code ≡ 5) ⊎ (code ≡ 4)
    five_or_four cause (inl four) rose = inr four.0
    five_or_four (inl fault) (inr same) rose = inl (same ∙ fault.0)
    five_or_four (inr quiet) (inr same) rose = absurd (omega (arith, quiet.1, rose))

clock_exactly : (ticker ticker' : TickerState) (sink sink' : SinkState) (code : ℕ) (outcome : Outcome) → IsTimed ticker.faults ticker'.faults (code_of outcome) → IsCoded sink sink' code outcome →
    ClockFaultExactly ticker ticker' code
clock_exactly ticker ticker' sink sink' code outcome told either = record {
  only = explained_only sink sink' code outcome 6 (Rose ticker.faults ticker'.faults) (λ e. absurd (omega (arith, e))) (λ is. only_six told is) either;
  always = λ rose. some_code told either rose;
}
  where
    only_six : IsTimed ticker.faults ticker'.faults (code_of outcome) → code_of outcome ≡ 6 → Rose ticker.faults ticker'.faults
    only_six (inl fault) is = fault.1
    only_six (inr (inl same)) is = absurd (same.0 is)
    only_six (inr (inr seven)) is = absurd (omega (arith, seven, is))

    some_code : IsTimed ticker.faults ticker'.faults (code_of outcome) → IsCoded sink sink' code outcome → ticker.faults < ticker'.faults → (code ≡ 6) ⊎ (code ≡ 4) ⊎ (code ≡ 7)
    some_code cause (inl four) rose = inr (inl four.0)
    some_code (inl fault) (inr same) rose = inl (same ∙ fault.0)
    some_code (inr (inl quiet)) (inr same) rose = absurd (omega (arith, quiet.1, rose))
    some_code (inr (inr seven)) (inr same) rose = inr (inr (same ∙ seven))

-- ---- the game of a service

module _ {L : Type 0} (state : L → LinkState) (hosted : HostedGame) (before after : Outside L) where
  -- a game that was played
  module _ (ended : Vec L) (played : Played) where
    abbrev pub IsServed : Outcome → Type 0
    IsServed outcome = (end : IsGameEnd state hosted before.links after.links (record { closed = played.closed; head = played.head; links = ended }))
        × WaitsForAll before.ticker after.ticker end.missed
        × PlayedAllows hosted.game played end.missed outcome

    ended_played : (outcome : Outcome) → IsServed outcome → IsServiceEnd outcome
    ended_played (Done text) plays = tt
    ended_played (Lapsed text) plays = tt
    ended_played (Stopped text Memory) plays = tt
    ended_played outcome plays = absurd plays.2

    links_played : (outcome : Outcome) → IsServed outcome → IsExplained 5 before.links.faults after.links.faults (code_of outcome)
    links_played (Done text) plays = inr (omega arith, plays.0.no_fault)
    links_played (Lapsed text) plays = inr (omega arith, plays.0.no_fault)
    links_played (Stopped text Memory) plays = inr (omega arith, plays.0.no_fault)
    links_played outcome plays = absurd plays.2

    clock_played : (outcome : Outcome) → IsServed outcome → IsTimed before.ticker.faults after.ticker.faults (code_of outcome)
    clock_played (Done text) plays = inr (inl (omega arith, plays.1.same plays.2.1))
    clock_played (Lapsed text) plays = inl (refl, plays.1.rose plays.2.1)
    clock_played (Stopped text Memory) plays = inr (inr refl)
    clock_played outcome plays = absurd plays.2

  -- no game was played
  module _ (ended : Vec L) where
    ended_unplayed : (outcome : Outcome) → HasNoGame state hosted before after ended outcome → IsServiceEnd outcome
    ended_unplayed (Refused LinkFault) plays = tt
    ended_unplayed (Refused Memory) plays = tt
    ended_unplayed outcome plays = absurd plays

    links_unplayed : (outcome : Outcome) → HasNoGame state hosted before after ended outcome → IsExplained 5 before.links.faults after.links.faults (code_of outcome)
    links_unplayed (Refused LinkFault) plays = inl (refl, plays.0.fault)
    links_unplayed (Refused Memory) plays = inr (omega arith, ap (λ l. l.faults) plays.0)
    links_unplayed outcome plays = absurd plays

    clock_unplayed : (outcome : Outcome) → HasNoGame state hosted before after ended outcome → IsTimed before.ticker.faults after.ticker.faults (code_of outcome)
    clock_unplayed (Refused LinkFault) plays = inr (inl (omega arith, ap (λ t. t.faults) plays.1))
    clock_unplayed (Refused Memory) plays = inr (inr refl)
    clock_unplayed outcome plays = absurd plays

  -- whichever it was
  abbrev pub IsServedOr : Option Played → Vec L → Outcome → Type 0
  IsServedOr played ended outcome = MatchOption played (HasNoGame state hosted before after ended outcome) (λ p. IsServed ended p outcome)

  ended_so : (played : Option Played) (ended : Vec L) (outcome : Outcome) → IsServedOr played ended outcome → IsServiceEnd outcome
  ended_so None ended outcome plays = ended_unplayed ended outcome plays
  ended_so (Some played) ended outcome plays = ended_played ended played outcome plays

  link_game : (played : Option Played) (ended : Vec L) (outcome : Outcome) → IsServedOr played ended outcome → IsExplained 5 before.links.faults after.links.faults (code_of outcome)
  link_game None ended outcome plays = links_unplayed ended outcome plays
  link_game (Some played) ended outcome plays = links_played ended played outcome plays

  clock_game : (played : Option Played) (ended : Vec L) (outcome : Outcome) → IsServedOr played ended outcome → IsTimed before.ticker.faults after.ticker.faults (code_of outcome)
  clock_game None ended outcome plays = clock_unplayed ended outcome plays
  clock_game (Some played) ended outcome plays = clock_played ended played outcome plays

-- a command that leaves the links and the ticker as they were has no code of theirs
pub no_link_fault : {L : Type 0} (links : LinksState L) (sink sink' : SinkState) (code : ℕ) (outcome : Outcome) → code_of outcome ≢ 5 → IsCoded sink sink' code outcome → LinkFaultExactly links links code
no_link_fault links sink sink' code outcome not either = link_exactly links links sink sink' code outcome (inr (not, refl)) either

pub no_clock_fault : (ticker : TickerState) (sink sink' : SinkState) (code : ℕ) (outcome : Outcome) → code_of outcome ≢ 6 → IsCoded sink sink' code outcome → ClockFaultExactly ticker ticker code
no_clock_fault ticker sink sink' code outcome not either = clock_exactly ticker ticker sink sink' code outcome (inr (inl (not, refl))) either

module _ {L : Type 0} (state : L → LinkState) (service : Service) (before after : Outside L) (answer : Answer L) where
  -- the outside once the pace is set
  abbrev paced : Outside L
  paced = at_pace service.pace before

  -- what the service leaves is among what the words and the files allow
  pub allowed : (outcome : Outcome) → after.files.names ≡ known_then before.files.names (service.game ∷ []) → ServeAllows state service before after answer outcome →
      Allows (Some (Serve service)) before.files after.files outcome
  allowed outcome selected (inl serves) = inl (serves.0, serves.1, (ended_so state (hosted_by service serves.0) paced after answer.played answer.ended outcome serves.2, (selected, serves.3)))
  allowed outcome selected (inr refuses) = inr (refuses.0, refuses.1, refuses.2, selected)

  -- ---- the faults of the links and of the ticker

  link_explained : (outcome : Outcome) → ServeAllows state service before after answer outcome → IsExplained 5 before.links.faults after.links.faults (code_of outcome)
  link_explained outcome (inl serves) = link_game state (hosted_by service serves.0) paced after answer.played answer.ended outcome serves.2
  link_explained outcome (inr refuses) = inr (
    (λ five. (no_link_refusal before.files after.files Game service.game refuses.0 refuses.2).0 (ap code_of (sym refuses.1) ∙ five)),
    ap (λ l. l.faults) refuses.3,
  )

  clock_explained : (outcome : Outcome) → ServeAllows state service before after answer outcome → IsTimed before.ticker.faults after.ticker.faults (code_of outcome)
  clock_explained outcome (inl serves) = clock_game state (hosted_by service serves.0) paced after answer.played answer.ended outcome serves.2
  clock_explained outcome (inr refuses) = inr (inl (
    (λ six. (no_link_refusal before.files after.files Game service.game refuses.0 refuses.2).1 (ap code_of (sym refuses.1) ∙ six)),
    ap (λ t. t.faults) refuses.4,
  ))

  -- ---- the codes

  pub link_fault : Serves state service before after answer → LinkFaultExactly before.links after.links answer.code
  link_fault (outcome, allows, reports) = link_exactly before.links after.links before.out after.out answer.code outcome (link_explained outcome allows) (coded outcome before.out after.out answer.code reports)

  pub clock_fault : Serves state service before after answer → ClockFaultExactly before.ticker after.ticker answer.code
  clock_fault (outcome, allows, reports) = clock_exactly before.ticker after.ticker before.out after.out answer.code outcome (clock_explained outcome allows) (coded outcome before.out after.out answer.code reports)
