-- Who calls, and the answer to an agent's reading.
use Rattle.std.proofs.Common.{◌≡◌, ℕ, ◌≤◌, ◌==◌, Bool, true, false, cond, List, [], ◌∷◌, ap, ◌∙◌, arith, ℤ, pos, get_or, Some, None}
use Rattle.std.proofs.lemmas.Bool.Decides.{nat_tests}
use Rattle.auction_core.specs.{Point, Reply, Trade, Setup, holding, standing_points_of, entry_of, Follows, held_by}
use Rattle.tac_base.specs.declared.calls.Reply.TheVariants.{Own}
use Rattle.tac_base.specs.declared.calls.Call.TheVariants.{Own as OwnCall}
use Rattle.auction_rules.specs.History.{Entry}
use Rattle.auction_rules.proofs.Idle.{own_follows}
use Rattle.trade_ledger.proofs.Trading.{get_or-nine}

-- a caller that is no agent is the clock
pub is_clock : (caller : ℕ) → None ≡ cond (caller == 8) None (Some caller) → caller ≡ 8
is_clock caller is = grind (arith, nat_tests)

-- and one that is an agent is that agent
pub is_agent : (caller agent : ℕ) → Some agent ≡ cond (caller == 8) None (Some caller) → caller ≡ agent
is_agent caller agent is = by_test (caller == 8) is
  where
    by_test : (b : Bool) → Some agent ≡ cond b None (Some caller) → caller ≡ agent
    by_test true is = absurd cc
    by_test false is = cc

-- what a book of holdings shows of an agent is the agent's holding
pub held_is : (setup : Setup) (past : List Entry) (held : List ℤ) (party : ℕ) → party ≤ 8 → held ≡ held_by setup past → get_or held party (pos 0) ≡ holding setup past party
held_is setup past held party le holds = ap (λ (h : List ℤ). get_or h party (pos 0)) holds ∙ get_or-nine (holding setup past) party le

-- an answer of what an agent owns
pub owned_follows : (setup : Setup) (past : List Entry) (agent : ℕ) (held : List ℤ) (points : List Point) (reply : Reply) (trades : List Trade) (Stands : List Entry → Type 0) → agent ≤ 7 →
    held ≡ held_by setup past → points ≡ standing_points_of setup.rules past agent → reply ≡ Own (get_or held agent (pos 0)) points → trades ≡ [] →
    Stands (entry_of setup past agent OwnCall ∷ past) → Follows setup past agent OwnCall reply trades Stands
owned_follows setup past agent held points reply trades Stands le holds leaves told none stands =
    rw (told, none) (own_follows setup past agent (get_or held agent (pos 0)) points Stands le (held_is setup past held agent (omega arith) holds) leaves stands)
