-- What `run_game` did with the links, and how many ticks its clock missed.
use Rattle.std.specs.Prelude.{◌≡◌, ℕ, List}
use Rattle.game_run.specs.Prelude.{Rose, LinkState, LinksState, Cause, Verdict, Head, Play, Serve, head_of}
use Rattle.game_run.specs.declared.run.GameEnd.{GameEnd}
use Rattle.game_run.specs.declared.run.RunFault.{RunFault}
use Rattle.game_run.specs.declared.run.RunFault.TheVariants.{Links, Memory}
use Rattle.game_run.specs.Admission.{AreAllTaken, MayGoOn}
use Rattle.game_run.specs.Hosted.{HostedGame}
use Rattle.game_run.specs.LinkRuns.{IsLeftUnplayed, IsSeated, TakesLinks}
use Rattle.game_run.specs.PlayedGame.{PlayedGame, IsPlayedBy}

-- the number of ticks that lapsed in a game
abbrev pub missed_of : Head → ℕ
missed_of Play = 0
missed_of (Serve verdicts ends missed) = missed

module _ {L : Type 0} (state : L → LinkState) where
  -- A game was played over all the links that could be taken.
  pub record IsPlayedOver (hosted : HostedGame) (links links' : LinksState L) (played : PlayedGame) (ended : List L) : Type 0 where
    pub taken : TakesLinks state hosted (IsSeated hosted played) played.verdicts links links' ended
    pub all : AreAllTaken played.verdicts links'.pending
    pub lawful : IsPlayedBy hosted.game played

  -- The links failed, and no game was played, while another link could still be taken.
  pub record IsNotPlayed (hosted : HostedGame) (links links' : LinksState L) (ended : List L) : Type 0 where
    pub verdicts : List Verdict
    pub taken : TakesLinks state hosted IsLeftUnplayed verdicts links links' ended
    pub more : MayGoOn verdicts
    pub fault : Rose links.faults links'.faults

  -- How a game ended: its head says what was played, and the links did not fail.
  pub record IsGameEnd (hosted : HostedGame) (links links' : LinksState L) (end : GameEnd L) : Type 0 where
    pub verdicts : List Verdict
    pub ends : List (ℕ × Cause)
    pub missed : ℕ
    pub head : head_of end.head ≡ Serve verdicts ends missed
    pub played : IsPlayedOver hosted links links' (record { verdicts = verdicts; ends = ends; closed = end.closed }) end.links.items
    pub no_fault : links'.faults ≡ links.faults

  -- why no game was played: the links failed; or an allocation failed, and the links are unchanged
  abbrev pub IsRunFault : HostedGame → LinksState L → LinksState L → RunFault L → Type 0
  IsRunFault hosted links links' (Links ended) = IsNotPlayed hosted links links' ended.items
  IsRunFault hosted links links' Memory = links' ≡ links
