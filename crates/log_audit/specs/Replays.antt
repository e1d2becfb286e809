-- The result of playing the histories of a log again; for private clauses.
use Rattle.std.specs.Prelude.{◌≡◌, ℕ, ◌<◌, List, map}
use Rattle.std.specs.Global.{Vec}
use Rattle.log_audit.specs.Prelude.{Nets, GOODS, Setup, GameFile, AuctionHistory, setup_of, LoggedGame, logged_history, auctions_in}
use Rattle.auction_rules.specs.History.{Entry}
use Rattle.log_audit.specs.declared.replaying.Replay.{Replay}
use Rattle.log_audit.specs.declared.replaying.Replay.TheVariants as one
use Rattle.log_audit.specs.declared.replaying.Replays.{Replays}
use Rattle.log_audit.specs.declared.replaying.Replays.TheVariants as all
use Rattle.log_audit.specs.Flaws.{HasFairEntry, IsLower}
use Rattle.log_audit.specs.Auditing.{nets_by}

-- every entry of a history is fair: the auction has them all, and these are their nets
pub record IsReplayed (setup : Setup) (history : List Entry) (auction : AuctionHistory) (nets : List Nets) : Type 0 where
  pub auction_is : auction ≡ record { setup = setup; history = history }
  pub nets_are : nets ≡ map nets_by history
  pub fair : (position : ℕ) → HasFairEntry setup history position

-- an entry is not fair, and each before it is
pub record IsUnfair (setup : Setup) (history : List Entry) (position : ℕ) : Type 0 where
  pub unfair : HasFairEntry setup history position → ⊥
  pub first : (k : ℕ) → k < position → HasFairEntry setup history k

abbrev pub IsReplay : Setup → List Entry → Replay → Type 0
IsReplay setup history (one.Fair auction nets) = IsReplayed setup history auction nets.items
IsReplay setup history (one.Unfair position) = IsUnfair setup history position

-- by good, the nets of the entries
abbrev pub AreNets : LoggedGame → List (Vec Nets) → Type 0
AreNets log nets = map (λ row. row.items) nets ≡ map (map nets_by) log.histories

-- the histories of all goods were replayed, and each entry is fair
pub record AreReplayed (game : GameFile) (log : LoggedGame) (auctions : List AuctionHistory) (nets : List (Vec Nets)) : Type 0 where
  pub auctions_are : auctions ≡ auctions_in game log
  pub nets_are : AreNets log nets
  pub fair : (good position : ℕ) → good < GOODS → HasFairEntry (setup_of good game) (logged_history log good) position

pub record AreUnfair (game : GameFile) (log : LoggedGame) (good position : ℕ) : Type 0 where
  pub low : good < GOODS
  pub unfair : HasFairEntry (setup_of good game) (logged_history log good) position → ⊥
  pub first : (other place : ℕ) → other < GOODS → IsLower (other, place) (good, position) → HasFairEntry (setup_of other game) (logged_history log other) place

abbrev pub AreReplays : GameFile → LoggedGame → Replays → Type 0
AreReplays game log (all.Fair auctions nets) = AreReplayed game log auctions.items nets.items
AreReplays game log (all.Unfair good position) = AreUnfair game log good position
